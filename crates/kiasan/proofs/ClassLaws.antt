-- Classes, from their bytes to their world.
use Rattle.std.proofs.Common.{◌≡◌, ℕ, ◌+◌, ◌<◌, ◌≤◌, List, [], ◌∷◌, ◌++◌, length, take, drop, get_or, Option, Some, None, Err, refl, sym, ◌∙◌, ap, subst, arith, suc, drop-cons, inl, inr}
use Rattle.std.proofs.lemmas.List.{take_all, take-append-drop, length-take}
use Rattle.std.proofs.Math.Seq.{take-suc}
use Rattle.std.specs.List.{AllByRecursion}
use Rattle.kb_names.specs.Bytes.{AreBytes}
use Rattle.kb_classfile.specs.declared.file.ClassFile.{ClassFile}
use Rattle.kb_classfile.specs.declared.file.Code.{Code}
use Rattle.kb_classfile.specs.declared.file.Method.{Method as ClassMethod}
use Rattle.kb_classfile.specs.declared.refusal.ClassRefusal.{ClassRefusal}
use Rattle.kb_classfile.specs.declared.refusal.ClassRefusal.TheVariants as classes
use Rattle.kb_classfile.specs.Answers.{Refuses}
use Rattle.kb_classfile.specs.Spelling.{IsClassFile}
use Rattle.kb_code.specs.declared.listing.Listing.{Listing}
use Rattle.kb_code.specs.declared.refusal.CodeRefusal.{CodeRefusal}
use Rattle.kb_code.specs.declared.refusal.CodeRefusal.TheVariants as codes_of
use Rattle.kb_code.specs.Answers.{Refuses as RefusesCode, fault_in, first_fault}
use Rattle.kb_code.proofs.ListingLaws.{listed_decodes}
use Rattle.kb_class.specs.declared.given.GivenClass.{GivenClass}
use Rattle.kb_class.specs.Given.{AreListings, IsGivenBy, AreGivenBy, handlers_of}
use Rattle.kb_class.proofs.GivenLaws.{given_pushed}
use Rattle.kb_class.proofs.Listings.{listings_pushed}
use Rattle.kb_classes.specs.declared.refusal.LinkRefusal.{LinkRefusal}
use Rattle.kb_classes.specs.declared.refusal.LinkRefusal.TheVariants as links
use Rattle.kb_link.specs.Links.{RefusesLink}
use Rattle.kb_test_laws.specs.Texts.{IsOfBytes}
use Rattle.kb_refusals.specs.declared.refusal.Refusal.{Refusal}
use Rattle.kiasan.specs.declared.refusals.Stop.{Stop}
use Rattle.kiasan.specs.Answers.{ClassRefuses, FileRefuses, RefusesClasses, WorldRefuses}
use Rattle.kiasan.specs.CodeFaults.{CodeRefuses, MethodsRefuse, fault_of, methods_fault}
use Rattle.kiasan.specs.Refusals.{Gives, class_refusal, code_refusal, link_refusal}
use Rattle.kiasan.proofs.StageLaws.{gives_by}

-- ---- the code of methods

fault_is : (method : ClassMethod) (code : Code) (found : CodeRefusal) → method.code ≡ Some code → first_fault code.bytes (handlers_of code) ≡ Some found → fault_of method ≡ Some found
fault_is method code found has is = rw has is

-- what stops the reading of a method's code
pub code_stops : {A : Type 0} (file number : ℕ) (method : ClassMethod) (code : Code) (found : CodeRefusal) (Passes : A → Type 0) → method.code ≡ Some code →
    RefusesCode code.bytes (handlers_of code) found → Gives {A = A} ⊥ (CodeRefuses file number method) Passes (Err (code_refusal file number found))
code_stops file number method code (codes_of.Opcode at op) Passes has is = (codes_of.Opcode at op, fault_is method code (codes_of.Opcode at op) has is, refl)
code_stops file number method code (codes_of.Cut at) Passes has is = (codes_of.Cut at, fault_is method code (codes_of.Cut at) has is, refl)
code_stops file number method code (codes_of.Target at to) Passes has is = (codes_of.Target at to, fault_is method code (codes_of.Target at to) has is, refl)
code_stops file number method code (codes_of.Switch at) Passes has is = (codes_of.Switch at, fault_is method code (codes_of.Switch at) has is, refl)
code_stops file number method code (codes_of.Range handler) Passes has is = (codes_of.Range handler, fault_is method code (codes_of.Range handler) has is, refl)
code_stops file number method code codes_of.NoMemory Passes has is = tt

-- a method that has its listing has no fault
pub no_fault : (method : ClassMethod) (listing : Option Listing) → AreListings (method ∷ []) (listing ∷ []) → fault_of method ≡ None
no_fault method None are = go method.code refl
  where
    go : (code : Option Code) → method.code ≡ code → fault_of method ≡ None
    go None e = rw e refl
    go (Some code) e = absurd (rw e at are.0)
no_fault method (Some listing) are = go method.code refl
  where
    go : (code : Option Code) → method.code ≡ code → fault_of method ≡ None
    go None e = absurd (rw e at are.0)
    go (Some code) e = rw e (ap fault_in (listed_decodes listing code.bytes (handlers_of code) (rw e at are.0)))

-- methods that have their listings have none
pub no_faults : (number : ℕ) (methods : List ClassMethod) (listings : List (Option Listing)) → AreListings methods listings → methods_fault number methods ≡ None
no_faults number [] [] are = refl
no_faults number [] (l ∷ listings) are = absurd are
no_faults number (m ∷ methods) [] are = absurd are
no_faults number (m ∷ methods) (l ∷ listings) are = rw (no_fault m l (are.0, tt)) (no_faults (number + 1) methods listings are.1)

-- the methods up to an index have their listings, and what is left has the first fault of all
pub record AreListed (methods : List ClassMethod) (i : ℕ) (listings : List (Option Listing)) : Type 0 where
  pub listed : AreListings (take i methods) listings
  pub fault : methods_fault i (drop i methods) ≡ methods_fault 0 methods

pub none_listed : (methods : List ClassMethod) → AreListed methods 0 []
none_listed methods = record { listed = tt; fault = refl }

as_many_listed : (methods : List ClassMethod) (listings : List (Option Listing)) → AreListings methods listings → length methods ≡ length listings
as_many_listed [] [] are = refl
as_many_listed (m ∷ methods) (l ∷ listings) are = ap suc (as_many_listed methods listings are.1)
as_many_listed [] (l ∷ listings) are = absurd are
as_many_listed (m ∷ methods) [] are = absurd are

next_method : (methods : List ClassMethod) (i : ℕ) (method : ClassMethod) → i < length methods → method ≡ get_or methods i method → drop i methods ≡ method ∷ drop (i + 1) methods
next_method methods i method inside at =
    let next : suc i ≡ i + 1 = omega arith in
    drop-cons methods i method inside ∙ ap (λ (m : ClassMethod). m ∷ drop (suc i) methods) (sym at) ∙ ap (λ (n : ℕ). method ∷ drop n methods) next

pub one_listed : (methods : List ClassMethod) (i : ℕ) (method : ClassMethod) (listings now : List (Option Listing)) (listing : Option Listing) → i < length methods → method ≡ get_or methods i method →
    AreListed methods i listings → AreListings (method ∷ []) (listing ∷ []) → now ≡ listings ++ listing ∷ [] → AreListed methods (i + 1) now
one_listed methods i method listings now listing inside at are is e =
    let next : i + 1 ≡ suc i = omega arith in
    let more : AreListings (take (i + 1) methods) (listings ++ listing ∷ []) =
    rw (next, take-suc methods i method inside, ← at) (listings_pushed (take i methods) listings method listing are.listed is) in
    let later : methods_fault (i + 1) (drop (i + 1) methods) ≡ methods_fault i (drop i methods) =
    rw (next_method methods i method inside at, no_fault method listing is) refl in
    record { listed = subst (λ ls. AreListings (take (i + 1) methods) ls) (sym e) more; fault = later ∙ are.fault }

pub all_listed : (methods : List ClassMethod) (i : ℕ) (listings : List (Option Listing)) → AreListed methods i listings → length methods ≤ i → AreListings methods listings
all_listed methods i listings are end = subst (λ ms. AreListings ms listings) (take_all i methods end) are.listed

pub first_code : {A B : Type 0} (file : ℕ) (methods : List ClassMethod) (i : ℕ) (method : ClassMethod) (listings : List (Option Listing)) (number : ℕ) (stop : Stop) (Passes : A → Type 0) (Also : B → Type 0) →
    i < length methods → method ≡ get_or methods i method → AreListed methods i listings → number ≡ length listings →
    Gives {A = A} ⊥ (CodeRefuses file number method) Passes (Err stop) → Gives {A = B} ⊥ (MethodsRefuse file methods) Also (Err stop)
first_code file methods i method listings number stop Passes Also inside at are n given =
    gives_by ⊥ ⊥ (CodeRefuses file number method) (MethodsRefuse file methods) Passes Also stop (λ wrong. wrong) more given
  where
    more : (refusal : Refusal) → CodeRefuses file number method refusal → MethodsRefuse file methods refusal
    more refusal (found, is, e) =
        let long : length (take i methods) ≡ length listings = as_many_listed (take i methods) listings are.listed in
        let here : number ≡ i = omega (arith, n, long, length-take i methods, inside) in
        let first : methods_fault i (drop i methods) ≡ Some (i, found) = rw (next_method methods i method inside at, is) refl in
        ((number, found), sym are.fault ∙ first ∙ ap (λ (k : ℕ). Some (k, found)) (sym here), e)

-- ---- classes in order

-- what stops the reading of a class file
pub class_stops : {A : Type 0} (number : ℕ) (bytes : List ℕ) (found : ClassRefusal) (Passes : A → Type 0) → Refuses bytes found →
    Gives {A = A} ⊥ (FileRefuses number bytes) Passes (Err (class_refusal number found))
class_stops number bytes classes.Magic Passes is = (classes.Magic, is, refl)
class_stops number bytes (classes.Version major) Passes is = (classes.Version major, is, refl)
class_stops number bytes (classes.Short at) Passes is = (classes.Short at, is, refl)
class_stops number bytes (classes.Tag entry tag) Passes is = (classes.Tag entry tag, is, refl)
class_stops number bytes (classes.PoolIndex at index) Passes is = (classes.PoolIndex at index, is, refl)
class_stops number bytes (classes.PoolKind at index) Passes is = (classes.PoolKind at index, is, refl)
class_stops number bytes (classes.CodeLength at) Passes is = (classes.CodeLength at, is, refl)
class_stops number bytes (classes.Extra at) Passes is = (classes.Extra at, is, refl)
class_stops number bytes (classes.TwoCodes method) Passes is = (classes.TwoCodes method, is, refl)
class_stops number bytes classes.Long Passes is = (classes.Long, is, refl)
class_stops number bytes classes.NoMemory Passes is = tt

-- what stops the reading of a class
pub file_stops : {A B : Type 0} (number : ℕ) (bytes : List ℕ) (stop : Stop) (Passes : A → Type 0) (Also : B → Type 0) →
    Gives {A = A} ⊥ (FileRefuses number bytes) Passes (Err stop) → Gives {A = B} ⊥ (ClassRefuses number bytes) Also (Err stop)
file_stops number bytes stop Passes Also given =
    gives_by ⊥ ⊥ (FileRefuses number bytes) (ClassRefuses number bytes) Passes Also stop (λ wrong. wrong) (λ refusal refused. inl refused) given

pub methods_stop : {A B : Type 0} (number : ℕ) (bytes : List ℕ) (file : ClassFile) (stop : Stop) (Passes : A → Type 0) (Also : B → Type 0) → IsClassFile file bytes →
    Gives {A = A} ⊥ (MethodsRefuse number file.methods) Passes (Err stop) → Gives {A = B} ⊥ (ClassRefuses number bytes) Also (Err stop)
methods_stop number bytes file stop Passes Also is given =
    gives_by ⊥ ⊥ (MethodsRefuse number file.methods) (ClassRefuses number bytes) Passes Also stop (λ wrong. wrong) (λ refusal refused. inr (file, is, refused)) given

as_many : (classes : List (List ℕ)) (given : List GivenClass) → AreGivenBy classes given → length classes ≡ length given
as_many [] [] are = refl
as_many (c ∷ classes) (g ∷ given) are = ap suc (as_many classes given are.1)
as_many [] (g ∷ given) are = absurd are
as_many (c ∷ classes) [] are = absurd are

pub class_next : (classes : List (List ℕ)) (i : ℕ) (bytes : List ℕ) (given : List GivenClass) (class : GivenClass) → i < length classes → bytes ≡ get_or classes i bytes →
    AreGivenBy (take i classes) given → IsGivenBy bytes class → AreGivenBy (take (i + 1) classes) (given ++ class ∷ [])
class_next classes i bytes given class inside at are is =
    let next : i + 1 ≡ suc i = omega arith in
    rw (next, take-suc classes i bytes inside, ← at) (given_pushed (take i classes) given bytes class are is)

pub first_class : (classes : List (List ℕ)) (given : List GivenClass) (i : ℕ) (bytes : List ℕ) (number : ℕ) (stop : Stop) → i < length classes → bytes ≡ get_or classes i bytes →
    AreGivenBy (take i classes) given → number ≡ length given → Gives {A = GivenClass} ⊥ (ClassRefuses number bytes) (IsGivenBy bytes) (Err stop) →
    {A : Type 0} (Passes : A → Type 0) → Gives {A = A} ⊥ (RefusesClasses classes) Passes (Err stop)
first_class classes given i bytes number stop inside at are n told Passes =
    gives_by ⊥ ⊥ (ClassRefuses number bytes) (RefusesClasses classes) (IsGivenBy bytes) Passes stop (λ wrong. wrong) more told
  where
    more : (refusal : Refusal) → ClassRefuses number bytes refusal → RefusesClasses classes refusal
    more refusal bad =
        let next : suc i ≡ i + 1 = omega arith in
        let behind : drop i classes ≡ bytes ∷ drop (i + 1) classes =
        drop-cons classes i bytes inside ∙ ap (λ (x : List ℕ). x ∷ drop (suc i) classes) (sym at) ∙ ap (λ (n : ℕ). bytes ∷ drop n classes) next in
        let before : number ≡ length (take i classes) = n ∙ sym (as_many (take i classes) given are) in
        record {
          before = take i classes;
          bytes = bytes;
          after = drop (i + 1) classes;
          classes_are = sym (take-append-drop i classes) ∙ ap (λ (rest : List (List ℕ)). take i classes ++ rest) behind;
          given = given;
          good = are;
          bad = subst (λ (m : ℕ). ClassRefuses m bytes refusal) before bad;
        }

-- ---- their world

-- where the files are of bytes, the classes are spelled by bytes
pub are_of_bytes : (classes : List (List ℕ)) (given : List GivenClass) → AreGivenBy classes given → AllByRecursion AreBytes classes → AllByRecursion IsOfBytes given
are_of_bytes [] [] are bytes = tt
are_of_bytes (file ∷ classes) (class ∷ given) are bytes = (record { bytes = file; are_bytes = bytes.0; spelled = are.0.file.spelled }, are_of_bytes classes given are.1 bytes.1)
are_of_bytes [] (class ∷ given) are bytes = absurd are
are_of_bytes (file ∷ classes) [] are bytes = absurd are

-- what is said of classes that are not linked
pub link_stops : {A : Type 0} (given : List GivenClass) (found : LinkRefusal) (Passes : A → Type 0) → RefusesLink given found →
    Gives {A = A} ⊥ (WorldRefuses given) Passes (Err (link_refusal found))
link_stops given links.TooMany Passes refuses = (links.TooMany, refuses, refl)
link_stops given (links.BadName file entry) Passes refuses = (links.BadName file entry, refuses, refl)
link_stops given (links.BadDescriptor file entry) Passes refuses = (links.BadDescriptor file entry, refuses, refl)
link_stops given (links.TwoMembers file entry) Passes refuses = (links.TwoMembers file entry, refuses, refl)
link_stops given (links.Twice name) Passes refuses = (links.Twice name, refuses, refl)
link_stops given (links.Missing name) Passes refuses = (links.Missing name, refuses, refl)
link_stops given (links.Circle name) Passes refuses = (links.Circle name, refuses, refl)
link_stops given (links.BadSuper name) Passes refuses = (links.BadSuper name, refuses, refl)
link_stops given (links.SplitPackage name method) Passes refuses = (links.SplitPackage name method, refuses, refl)
link_stops given (links.NoMethod target) Passes refuses = absurd refuses
link_stops given (links.NoField method at) Passes refuses = absurd refuses
link_stops given (links.Outside method at what) Passes refuses = absurd refuses
link_stops given (links.Initialiser name) Passes refuses = absurd refuses
link_stops given links.NoMemory Passes refuses = tt
