-- Methods of a package that are shared, class by class.
use Rattle.std.proofs.Common.{◌≡◌, ◌≢◌, ℕ, zero, suc, ◌+◌, ◌-◌, ◌<◌, ◌==◌, ◌||◌, ◌⊎◌, inl, inr, Bool, true, false, true≢false, not, cond, List, [], ◌∷◌, ◌++◌, map, filter, take, drop, length, length-take, Option, Some, slice_get, slice_index_or, get_or, refl, sym, ap, subst, ◌∙◌, arith}
use Rattle.std.specs.List.{list_any}
use Rattle.std.specs.Str.{bytes_eq}
use Rattle.std.proofs.lemmas.Grind.{take_at_read}
use Rattle.std.proofs.lemmas.List.{append_assoc, map-append, drop_more, take-append-drop}
use Rattle.std.proofs.lemmas.Option.{slice_get_read, get_or_from_slice_get}
use Rattle.std.proofs.lemmas.Bool.Decides.{Decides-eqb}
use Rattle.std.proofs.lemmas.Slice.Eq.{bytes_eq-Decides}
use Rattle.kb_class.specs.Class.{Class}
use Rattle.kb_class.specs.Naming.{Has}
use Rattle.kb_class.specs.declared.members.MethodInfo.{MethodInfo}
use Rattle.kb_classes.specs.declared.refusal.LinkRefusal.{LinkRefusal}
use Rattle.kb_classes.specs.declared.refusal.LinkRefusal.TheVariants as refusals
use Rattle.kb_classes.specs.Subtypes.{AreChains}
use Rattle.kb_classes.specs.Refusals.{RefusesClasses}
use Rattle.kb_classes.specs.Rules.{IsFirst, IsNoneSuch, HaveDifferentNames, HaveSupers, HaveNoCircle, HaveGoodSupers}
use Rattle.kb_classes.specs.Split.{package_of, Placed, placed_from, IsSplit}
use Rattle.kb_link.specs.Sharing.{is_elsewhere, stands_elsewhere, elsewhere_above, IsShared, StopsAtShared}

-- ---- the package of a name

or_true : (b : Bool) → (b || true) ≡ true
or_true true = refl
or_true false = refl

some_slash : (xs : List ℕ) (x : ℕ) → (x == 47) ≡ true → list_any (λ b. b == 47) (xs ++ x ∷ []) ≡ true
some_slash [] x e = rw e refl
some_slash (y ∷ ys) x e = ap (λ (b : Bool). (y == 47) || b) (some_slash ys x e) ∙ or_true (y == 47)

same_slashes : (xs : List ℕ) (x : ℕ) → (x == 47) ≡ false → list_any (λ b. b == 47) (xs ++ x ∷ []) ≡ list_any (λ b. b == 47) xs
same_slashes [] x e = rw e refl
same_slashes (y ∷ ys) x e = ap (λ (b : Bool). (y == 47) || b) (same_slashes ys x e)

-- a name that ends in a slash is a package
pub package_last : (xs : List ℕ) (x : ℕ) → (x == 47) ≡ true → package_of (xs ++ x ∷ []) ≡ xs ++ x ∷ []
package_last [] x e = rw e refl
package_last (y ∷ ys) x e =
    (λ i. cond ((y == 47) || some_slash ys x e i) (y ∷ package_last ys x e i) []) ∙ ap (λ (b : Bool). cond b (y ∷ (ys ++ x ∷ [])) []) (or_true (y == 47))

-- the package stays without a last byte that is no slash
pub package_skip : (xs : List ℕ) (x : ℕ) → (x == 47) ≡ false → package_of (xs ++ x ∷ []) ≡ package_of xs
package_skip [] x e = rw e refl
package_skip (y ∷ ys) x e = λ i. cond ((y == 47) || same_slashes ys x e i) (y ∷ package_skip ys x e i) []

-- ---- numbers that pass a test

module _ {A : Type 0} (test : A → Bool) where
  pub in_filter : (xs : List A) (x : A) → Has (filter test xs) x → Has xs x × (test x ≡ true)
  in_filter [] x has = absurd cc
  in_filter (y ∷ ys) x has = go (λ place at. in_filter ys x (place, at)) (test y) refl
    where
      behind : Has ys x × (test x ≡ true) → Has (y ∷ ys) x × (test x ≡ true)
      behind found = ((suc found.0.0, found.0.1), found.1)

      first : ((place : ℕ) → slice_get (filter test ys) place ≡ Some x → Has ys x × (test x ≡ true)) → test y ≡ true → (place : ℕ) → slice_get (y ∷ filter test ys) place ≡ Some x → Has (y ∷ ys) x × (test x ≡ true)
      first rest e zero at =
          let same : y ≡ x = cc in
          ((0, at), subst (λ (z : A). test z ≡ true) same e)
      first rest e (suc place) at = behind (rest place at)

      go : ((place : ℕ) → slice_get (filter test ys) place ≡ Some x → Has ys x × (test x ≡ true)) → (b : Bool) → test y ≡ b → Has (y ∷ ys) x × (test x ≡ true)
      go rest true e = first rest e has.0 (subst (λ (zs : List A). slice_get zs has.0 ≡ Some x) (let f : filter test (y ∷ ys) ≡ y ∷ filter test ys = rw e refl in f) has.1)
      go rest false e = behind (rest has.0 (subst (λ (zs : List A). slice_get zs has.0 ≡ Some x) (let f : filter test (y ∷ ys) ≡ filter test ys = rw e refl in f) has.1))

  pub has_filtered : (xs : List A) (x : A) → Has xs x → test x ≡ true → Has (filter test xs) x
  has_filtered [] x has passes = absurd cc
  has_filtered (y ∷ ys) x has passes = by (λ place at. has_filtered ys x (place, at) passes) has.0 has.1
    where
      kept : test y ≡ true → filter test (y ∷ ys) ≡ y ∷ filter test ys
      kept e = rw e refl

      dropped : test y ≡ false → filter test (y ∷ ys) ≡ filter test ys
      dropped e = rw e refl

      behind : Has (filter test ys) x → (b : Bool) → test y ≡ b → Has (filter test (y ∷ ys)) x
      behind found true e = (suc found.0, rw (kept e) found.1)
      behind found false e = (found.0, rw (dropped e) found.1)

      by : ((place : ℕ) → slice_get ys place ≡ Some x → Has (filter test ys) x) → (place : ℕ) → slice_get (y ∷ ys) place ≡ Some x → Has (filter test (y ∷ ys)) x
      by rest zero at =
          let same : x ≡ y = cc in
          (0, rw (kept (subst (λ (z : A). test z ≡ true) same passes)) at)
      by rest (suc place) at = behind (rest place at) (test y) refl

-- ---- another package

module _ (classes : List Class) (name : List ℕ) (number : ℕ) where
  pub elsewhere_is : (class : Class) → slice_get classes number ≡ Some class → package_of class.name ≢ package_of name → is_elsewhere classes name number ≡ true
  elsewhere_is class at differs = ap (λ (o : Option Class). stands_elsewhere name o) at ∙ by (bytes_eq (package_of class.name) (package_of name)) refl
    where
      by : (b : Bool) → bytes_eq (package_of class.name) (package_of name) ≡ b → not (bytes_eq (package_of class.name) (package_of name)) ≡ true
      by true e = absurd (differs ((bytes_eq-Decides (package_of class.name) (package_of name)).0 e))
      by false e = ap (λ (b : Bool). not b) e

  pub elsewhere_differs : (class : Class) → slice_get classes number ≡ Some class → is_elsewhere classes name number ≡ true → package_of class.name ≢ package_of name
  elsewhere_differs class at is same =
      let told : not (bytes_eq (package_of class.name) (package_of name)) ≡ true = ap (λ (o : Option Class). stands_elsewhere name o) (sym at) ∙ is in
      let equal : bytes_eq (package_of class.name) (package_of name) ≡ true = (bytes_eq-Decides (package_of class.name) (package_of name)).1 same in
      true≢false (sym told ∙ ap (λ (b : Bool). not b) equal)

-- ---- split and shared

abbrev place_in : ℕ → List ℕ → MethodInfo → Placed
place_in number own method = record { class = number; own = own; method = method }

module _ (classes : List Class) (chains : List (List ℕ)) (number : ℕ) (own : List ℕ) (method : MethodInfo) where
  pub shared_of_split : IsSplit classes chains (record { class = number; own = own; method = method }) → IsShared classes (elsewhere_above classes own (slice_index_or chains number [])) method
  shared_of_split split = record {
    of_package = split.of_package;
    above = (
      split.number,
      has_filtered (is_elsewhere classes own) (drop 1 (slice_index_or chains number [])) split.number split.above (elsewhere_is classes own split.number split.class split.class_is split.apart),
      record { class = split.class; class_is = split.class_is; shares = record { other = split.method; declared = split.declared; of_package = split.other_of_package; name = split.name; kind = split.kind } },
    );
  }

  pub split_of_shared : IsShared classes (elsewhere_above classes own (slice_index_or chains number [])) method → IsSplit classes chains (record { class = number; own = own; method = method })
  split_of_shared shared =
      let above = shared.above in
      let found = in_filter (is_elsewhere classes own) (drop 1 (slice_index_or chains number [])) above.0 above.1 in
      record {
        of_package = shared.of_package;
        number = above.0;
        above = found.0;
        class = above.2.class;
        class_is = above.2.class_is;
        apart = elsewhere_differs classes own above.0 above.2.class above.2.class_is found.1;
        method = above.2.shares.other;
        declared = above.2.shares.declared;
        other_of_package = above.2.shares.of_package;
        name = above.2.shares.name;
        kind = above.2.shares.kind;
      }

-- ---- all methods, class by class

pub placed_behind : (number : ℕ) (xs ys : List Class) → placed_from number (xs ++ ys) ≡ placed_from number xs ++ placed_from (number + length xs) ys
placed_behind number [] ys = ap (λ (n : ℕ). placed_from n ys) (let e : number ≡ number + 0 = omega arith in e)
placed_behind number (x ∷ xs) ys =
    let sum : suc number + length xs ≡ number + suc (length xs) = omega arith in
    let here : List Placed = map (λ (method : MethodInfo). place_in number x.name method) x.methods in
    ap (λ (ps : List Placed). here ++ ps) (placed_behind (suc number) xs ys ∙ ap (λ (n : ℕ). placed_from (suc number) xs ++ placed_from n ys) sum)
    ∙ sym (append_assoc here (placed_from (suc number) xs) (placed_from (number + suc (length xs)) ys))

none_behind : {A : Type 0} (Is : A → Type 0) (xs ys : List A) → IsNoneSuch Is xs → IsNoneSuch Is ys → IsNoneSuch Is (xs ++ ys)
none_behind Is [] ys none others = others
none_behind Is (x ∷ xs) ys none others = (none.0, none_behind Is xs ys none.1 others)

none_mapped : {A B : Type 0} (f : A → B) (Is : A → Type 0) (Be : B → Type 0) (turn : (x : A) → Be (f x) → Is x) (xs : List A) → IsNoneSuch Is xs → IsNoneSuch Be (map f xs)
none_mapped f Is Be turn [] none = tt
none_mapped f Is Be turn (x ∷ xs) none = ((λ be. none.0 (turn x be)), none_mapped f Is Be turn xs none.1)

module _ (classes : List Class) (chains : List (List ℕ)) (before : List Class) (class : Class) where
  abbrev placed : List MethodInfo → List Placed
  placed methods = map (λ (method : MethodInfo). place_in (length before) class.name method) methods

  none_placed : (methods : List MethodInfo) → IsNoneSuch (IsShared classes (elsewhere_above classes class.name (slice_index_or chains (length before) []))) methods → IsNoneSuch (IsSplit classes chains) (placed methods)
  none_placed methods none =
      none_mapped (λ (method : MethodInfo). place_in (length before) class.name method) (IsShared classes (elsewhere_above classes class.name (slice_index_or chains (length before) []))) (IsSplit classes chains)
      (λ method split. shared_of_split classes chains (length before) class.name method split) methods none

  at_number : (rest : List Class) → placed_from 0 (before ++ class ∷ rest) ≡ placed_from 0 before ++ (placed class.methods ++ placed_from (suc (length before)) rest)
  at_number rest = placed_behind 0 before (class ∷ rest) ∙ ap (λ (n : ℕ). placed_from 0 before ++ placed_from n (class ∷ rest)) (let e : 0 + length before ≡ length before = omega arith in e)

  -- one class more without a split
  pub none_pushed : IsNoneSuch (IsSplit classes chains) (placed_from 0 before) → IsNoneSuch (IsShared classes (elsewhere_above classes class.name (slice_index_or chains (length before) []))) class.methods
      → IsNoneSuch (IsSplit classes chains) (placed_from 0 (before ++ class ∷ []))
  none_pushed none here =
      subst (λ (ps : List Placed). IsNoneSuch (IsSplit classes chains) ps) (sym (at_number []))
      (none_behind (IsSplit classes chains) (placed_from 0 before) (placed class.methods ++ []) none (none_behind (IsSplit classes chains) (placed class.methods) [] (none_placed class.methods here) tt))

  -- the first shared method of a class behind classes without a split is the first split
  pub first_placed : (rest : List Class) (method : MethodInfo) → classes ≡ before ++ class ∷ rest → IsNoneSuch (IsSplit classes chains) (placed_from 0 before)
      → IsFirst (IsShared classes (elsewhere_above classes class.name (slice_index_or chains (length before) []))) class.methods method
      → IsFirst (IsSplit classes chains) (placed_from 0 classes) (record { class = length before; own = class.name; method = method })
  first_placed rest method parts none first =
      let one : Placed = record { class = length before; own = class.name; method = method } in
      let after : List Placed = placed first.after ++ placed_from (suc (length before)) rest in
      let methods : placed class.methods ≡ placed first.before ++ one ∷ placed first.after =
      ap (λ (ms : List MethodInfo). placed ms) first.parts ∙ map-append (λ (m : MethodInfo). place_in (length before) class.name m) first.before (method ∷ first.after) in
      let here : placed class.methods ++ placed_from (suc (length before)) rest ≡ placed first.before ++ one ∷ after =
      ap (λ (ps : List Placed). ps ++ placed_from (suc (length before)) rest) methods ∙ append_assoc (placed first.before) (one ∷ placed first.after) (placed_from (suc (length before)) rest) in
      record {
        before = placed_from 0 before ++ placed first.before;
        after = after;
        parts =
            ap (λ (cs : List Class). placed_from 0 cs) parts ∙ at_number rest ∙ ap (λ (ps : List Placed). placed_from 0 before ++ ps) here
            ∙ sym (append_assoc (placed_from 0 before) (placed first.before) (one ∷ after));
        others = none_behind (IsSplit classes chains) (placed_from 0 before) (placed first.before) none (none_placed first.before first.others);
        such = split_of_shared classes chains (length before) class.name method first.such;
      }

-- ---- refusals

pub stops_at_shared : (classes : List Class) (class : Class) (chain : List ℕ) (method : MethodInfo) (name : List ℕ) (refusal : LinkRefusal) → name ≡ class.name
    → IsFirst (IsShared classes (elsewhere_above classes class.name chain)) class.methods method
    → (refusal ≡ refusals.NoMemory) ⊎ (refusal ≡ refusals.SplitPackage name method.name) → StopsAtShared classes class chain refusal
stops_at_shared classes class chain method name refusal named first (inl memory) = subst (StopsAtShared classes class chain) (sym memory) tt
stops_at_shared classes class chain method name refusal named first (inr split) = subst (StopsAtShared classes class chain) (sym split) (named, method, refl, first)

module _ (classes : List Class) (chains : List (List ℕ)) (names : HaveDifferentNames classes) (supers : HaveSupers classes) (no_circle : HaveNoCircle classes) (good : HaveGoodSupers classes)
    (are : AreChains classes chains) (before : List Class) (class : Class) (rest : List Class) (parts : classes ≡ before ++ class ∷ rest)
    (none : IsNoneSuch (IsSplit classes chains) (placed_from 0 before)) where
  pub refuses_split : (refusal : LinkRefusal) → StopsAtShared classes class (slice_index_or chains (length before) []) refusal → RefusesClasses classes refusal
  refuses_split refusals.TooMany never = absurd never
  refuses_split (refusals.BadName file entry) never = absurd never
  refuses_split (refusals.BadDescriptor file entry) never = absurd never
  refuses_split (refusals.TwoMembers file entry) never = absurd never
  refuses_split (refusals.Twice name) never = absurd never
  refuses_split (refusals.Missing name) never = absurd never
  refuses_split (refusals.Circle name) never = absurd never
  refuses_split (refusals.BadSuper name) never = absurd never
  refuses_split (refusals.SplitPackage name method) stops = (
    names,
    supers,
    no_circle,
    good,
    chains,
    are,
    record {
      placed = record { class = length before; own = class.name; method = stops.1 };
      class_is = sym stops.0;
      method_is = stops.2;
      first = first_placed classes chains before class rest stops.1 parts none stops.3;
    },
  )
  refuses_split (refusals.NoMethod target) never = absurd never
  refuses_split (refusals.NoField method at) never = absurd never
  refuses_split (refusals.Outside method at what) never = absurd never
  refuses_split (refusals.Initialiser name) never = absurd never
  refuses_split refusals.NoMemory memory = tt

-- ---- a name cut from behind

module _ (name : List ℕ) (back : ℕ) (package_is : List ℕ) (within : back < length name) (has : package_of (take (length name - back) name) ≡ package_is) where
  cut : take (length name - 1 - back + 1) name ≡ take (length name - 1 - back) name ++ get_or name (length name - 1 - back) 0 ∷ []
  cut = (take_at_read name (length name - 1 - back) 0 (let e : length name - 1 - back < length name = omega (arith, within) in e)).1

  before_cut : package_of (take (length name - 1 - back) name ++ get_or name (length name - 1 - back) 0 ∷ []) ≡ package_is
  before_cut =
      let sum : length name - back ≡ length name - 1 - back + 1 = omega (arith, within) in
      ap (λ (bytes : List ℕ). package_of bytes) (sym cut) ∙ ap (λ (n : ℕ). package_of (take n name)) (sym sum) ∙ has

  pub package_found : get_or name (length name - 1 - back) 0 ≡ 47 → take (length name - 1 - back + 1) name ≡ package_is
  package_found is =
      let last : ℕ = get_or name (length name - 1 - back) 0 in
      cut ∙ sym (package_last (take (length name - 1 - back) name) last ((Decides-eqb last 47).1 is)) ∙ before_cut

  pub package_less : (get_or name (length name - 1 - back) 0 ≡ 47 → ⊥) → package_of (take (length name - (back + 1)) name) ≡ package_is
  package_less differs = by (get_or name (length name - 1 - back) 0 == 47) refl
    where
      by : (b : Bool) → (get_or name (length name - 1 - back) 0 == 47) ≡ b → package_of (take (length name - (back + 1)) name) ≡ package_is
      by true e = absurd (differs ((Decides-eqb (get_or name (length name - 1 - back) 0) 47).0 e))
      by false e =
          let sum : length name - (back + 1) ≡ length name - 1 - back = omega (arith, within) in
          ap (λ (n : ℕ). package_of (take n name)) sum ∙ sym (package_skip (take (length name - 1 - back) name) (get_or name (length name - 1 - back) 0) e) ∙ before_cut

-- ---- the next class of a walk

module _ (classes items : List Class) (same : items ≡ classes) (chains : List (List ℕ)) (are : AreChains classes chains) (i : ℕ) (inside : i < length items) (class : Class) (class_is : class ≡ get_or items i class)
    (chain slice : List ℕ) (chain_is : chain ≡ slice_index_or chains i chain) (slice_is : slice ≡ chain) where
  within : i < length classes
  within = subst (λ (cs : List Class). i < length cs) same inside

  class_here : class ≡ get_or classes i class
  class_here = class_is ∙ ap (λ (cs : List Class). get_or cs i class) same

  taken : take (i + 1) classes ≡ take i classes ++ class ∷ []
  taken = (take_at_read classes i class within).1 ∙ ap (λ (c : Class). take i classes ++ c ∷ []) (sym class_here)

  parted : classes ≡ take i classes ++ class ∷ drop (i + 1) classes
  parted = sym (take-append-drop i classes) ∙ ap (λ (cs : List Class). take i classes ++ cs) (drop_more classes i class within ∙ ap (λ (c : Class). c ∷ drop (i + 1) classes) (sym class_here))

  chain_here : slice_index_or chains (length (take i classes)) [] ≡ slice
  chain_here =
      let many : length (take i classes) ≡ i = omega (arith, length-take i classes, within) in
      let long : i < length chains = omega (arith, within, are.len) in
      ap (λ (n : ℕ). slice_index_or chains n []) many ∙ get_or_from_slice_get chains i chain [] (slice_get_read chains (length chains) i chain refl long chain_is) ∙ sym slice_is

  pub none_next : IsNoneSuch (IsSplit classes chains) (placed_from 0 (take i classes)) → IsNoneSuch (IsShared classes (elsewhere_above classes class.name slice)) class.methods
      → IsNoneSuch (IsSplit classes chains) (placed_from 0 (take (i + 1) classes))
  none_next none here =
      subst (λ (cs : List Class). IsNoneSuch (IsSplit classes chains) (placed_from 0 cs)) (sym taken)
      (none_pushed classes chains (take i classes) class none (subst (λ (ch : List ℕ). IsNoneSuch (IsShared classes (elsewhere_above classes class.name ch)) class.methods) (sym chain_here) here))

  pub refuses_next : HaveDifferentNames classes → HaveSupers classes → HaveNoCircle classes → HaveGoodSupers classes → IsNoneSuch (IsSplit classes chains) (placed_from 0 (take i classes))
      → (refusal : LinkRefusal) → StopsAtShared classes class slice refusal → RefusesClasses classes refusal
  refuses_next names supers no_circle good none refusal stops =
      refuses_split classes chains names supers no_circle good are (take i classes) class (drop (i + 1) classes) parted none refusal
      (subst (λ (ch : List ℕ). StopsAtShared classes class ch refusal) (sym chain_here) stops)
