-- Class files have one list of classes with one list of chains, or one reason why they have none.
use Rattle.std.proofs.Common.{◌≡◌, ◌⊎◌, inl, inr, ℕ, zero, suc, ◌<◌, ◌≤◌, List, [], ◌∷◌, ◌++◌, length, map, take, Option, Some, None, slice_get, slice_index_or, refl, sym, ap, subst, ◌∙◌, arith}
use Rattle.std.specs.List.{AllByRecursion, AllZip}
use Rattle.std.proofs.lemmas.Bool.{cases_order}
use Rattle.std.proofs.lemmas.Option.{same_Some}
use Rattle.kb_format.specs.Faults.{IsFirstFault}
use Rattle.kb_format.specs.declared.fault.FormatFault.{FormatFault}
use Rattle.kb_format.specs.declared.fault.FormatFault.TheVariants as faults
use Rattle.kb_format.proofs.FaultLaws.{one_answer}
use Rattle.kb_class.specs.declared.given.GivenClass.{GivenClass}
use Rattle.kb_class.specs.declared.members.MethodInfo.{MethodInfo}
use Rattle.kb_class.specs.Class.{Class}
use Rattle.kb_class.specs.Platform.{PlatformClass, PlatformMethod, IsPlatform, IsPlatformMethod, platform_table}
use Rattle.kb_class.proofs.OneClass.{one_class_is}
use Rattle.kb_classes.specs.declared.refusal.LinkRefusal.{LinkRefusal}
use Rattle.kb_classes.specs.declared.refusal.LinkRefusal.TheVariants as refusals
use Rattle.kb_link.specs.Links.{most_classes, KeepsFormat, Loads, AreClassesOf, ArePlatform, IsLinked, Links, BreaksFormat, RefusesLoaded, RefusesLink}
use Rattle.kb_classes.specs.Refusals.{RefusesClasses}
use Rattle.kb_classes.specs.Rules.{IsFirst, IsNoneSuch, name_of, HaveDifferentNames, IsGivenTwice, all_super_names, IsMissing, HaveSupers, IsFirstClassOnCircle, HaveNoCircle, all_claims, IsBad, HaveGoodSupers, IsFirstBad}
use Rattle.kb_classes.specs.Split.{Placed, placed_from, IsSplit, HaveNoSplit, IsFirstSplit}
use Rattle.kb_classes.specs.Subtypes.{Claim, IsChain, AreChains}
use Rattle.kb_link.specs.Tables.{refusal_of}
use Rattle.kb_classes.specs.World.{World, parent_in}

-- ---- classes

platform_method_one : (id : ℕ) (method : PlatformMethod) (a b : MethodInfo) → IsPlatformMethod id method a → IsPlatformMethod id method b → a ≡ b
platform_method_one id method a b p q =
    let number : a.class.0 ≡ b.class.0 = p.class ∙ sym q.class in
    let class : a.class ≡ b.class = λ i. record { 0 = number i } in
    let access : a.access ≡ b.access = p.access ∙ sym q.access in
    let name : a.name ≡ b.name = p.name ∙ sym q.name in
    let kind : a.kind ≡ b.kind = p.kind ∙ sym q.kind in
    let code : a.code ≡ b.code = p.code ∙ sym q.code in
    λ i. record { class = class i; access = access i; name = name i; kind = kind i; code = code i }

platform_methods_one : (id : ℕ) (methods : List PlatformMethod) (xs ys : List MethodInfo) → AllZip (IsPlatformMethod id) methods xs → AllZip (IsPlatformMethod id) methods ys → xs ≡ ys
platform_methods_one id [] [] [] p q = refl
platform_methods_one id [] (x ∷ xs) ys p q = absurd p
platform_methods_one id [] [] (y ∷ ys) p q = absurd q
platform_methods_one id (m ∷ methods) [] ys p q = absurd p
platform_methods_one id (m ∷ methods) (x ∷ xs) [] p q = absurd q
platform_methods_one id (m ∷ methods) (x ∷ xs) (y ∷ ys) p q =
    let first : x ≡ y = platform_method_one id m x y p.0 q.0 in
    let rest : xs ≡ ys = platform_methods_one id methods xs ys p.1 q.1 in
    rw (first, rest) refl

platform_one : (id : ℕ) (platform : PlatformClass) (a b : Class) → IsPlatform id platform a → IsPlatform id platform b → a ≡ b
platform_one id platform a b p q =
    let name : a.name ≡ b.name = p.name ∙ sym q.name in
    let access : a.access ≡ b.access = p.access ∙ sym q.access in
    let parent : a.parent ≡ b.parent = p.parent ∙ sym q.parent in
    let interfaces : a.interfaces ≡ b.interfaces = p.interfaces ∙ sym q.interfaces in
    let fields : a.fields ≡ b.fields = p.fields ∙ sym q.fields in
    let methods : a.methods ≡ b.methods = platform_methods_one id platform.methods a.methods b.methods p.methods q.methods in
    let entries : a.entries ≡ b.entries = p.entries ∙ sym q.entries in
    let file : a.file ≡ b.file = p.file ∙ sym q.file in
    λ i. record { name = name i; access = access i; parent = parent i; interfaces = interfaces i; fields = fields i; methods = methods i; entries = entries i; file = file i }

table_one : (id : ℕ) (table : List PlatformClass) (xs ys : List Class) → ArePlatform id table xs → ArePlatform id table ys → xs ≡ ys
table_one id [] [] [] p q = refl
table_one id [] (x ∷ xs) ys p q = absurd p
table_one id [] [] (y ∷ ys) p q = absurd q
table_one id (c ∷ table) [] ys p q = absurd p
table_one id (c ∷ table) (x ∷ xs) [] p q = absurd q
table_one id (c ∷ table) (x ∷ xs) (y ∷ ys) p q =
    let first : x ≡ y = platform_one id c x y p.0 q.0 in
    let rest : xs ≡ ys = table_one (suc id) table xs ys p.1 q.1 in
    rw (first, rest) refl

given_one : (id : ℕ) (given : List GivenClass) (xs ys : List Class) → AreClassesOf id given xs → AreClassesOf id given ys → xs ≡ ys
given_one id [] [] [] p q = refl
given_one id [] (x ∷ xs) ys p q = absurd p
given_one id [] [] (y ∷ ys) p q = absurd q
given_one id (g ∷ given) [] ys p q = absurd p
given_one id (g ∷ given) (x ∷ xs) [] p q = absurd q
given_one id (g ∷ given) (x ∷ xs) (y ∷ ys) p q =
    let first : x ≡ y = one_class_is id g x y p.0 q.0 in
    let rest : xs ≡ ys = given_one (suc id) given xs ys p.1 q.1 in
    rw (first, rest) refl

pub one_loaded : (given : List GivenClass) (xs ys : List Class) → Loads given xs → Loads given ys → xs ≡ ys
one_loaded given xs ys p q =
    let own : p.own ≡ q.own = given_one 0 given p.own q.own p.are_own q.are_own in
    let platform : p.platform ≡ q.platform = table_one (length given) platform_table p.platform q.platform p.are_platform q.are_platform in
    p.parts ∙ ap (λ (cs : List Class). cs ++ p.platform) own ∙ ap (λ (cs : List Class). q.own ++ cs) platform ∙ sym q.parts

-- ---- chains

same_rows : (xs ys : List (List ℕ)) → length xs ≡ length ys → ((n : ℕ) → slice_index_or xs n [] ≡ slice_index_or ys n []) → xs ≡ ys
same_rows [] [] long same = refl
same_rows [] (y ∷ ys) long same = absurd (omega (arith, long))
same_rows (x ∷ xs) [] long same = absurd (omega (arith, long))
same_rows (x ∷ xs) (y ∷ ys) long same =
    let shorter : length xs ≡ length ys = omega (arith, long) in
    let first : x ≡ y = same 0 in
    let rest : xs ≡ ys = same_rows xs ys shorter (λ n. same (suc n)) in
    rw (first, rest) refl

past_end : (xs : List (List ℕ)) (n : ℕ) → length xs ≤ n → slice_index_or xs n [] ≡ []
past_end [] n past = refl
past_end (x ∷ xs) zero past = absurd (omega (arith, past))
past_end (x ∷ xs) (suc n) past = let inner : length xs ≤ n = omega (arith, past) in past_end xs n inner

none_past : (classes : List Class) (n : ℕ) → slice_get classes n ≡ None → length classes ≤ n
none_past [] n at = omega arith
none_past (c ∷ classes) zero at = absurd cc
none_past (c ∷ classes) (suc n) at = let inner : length classes ≤ n = none_past classes n at in omega (arith, inner)

module _ (classes : List Class) (xs ys : List (List ℕ)) (p : AreChains classes xs) (q : AreChains classes ys) where
  -- the chain of a number, where those that are one shorter are told
  at_parent : (chain : List ℕ) (number : ℕ) (parent : Option ℕ) → slice_index_or xs number [] ≡ chain → IsChain xs number parent (slice_index_or xs number []) →
      IsChain ys number parent (slice_index_or ys number []) →
      ((m : ℕ) (rest : List ℕ) (above : ℕ) → chain ≡ m ∷ rest → slice_index_or xs above [] ≡ rest → slice_index_or ys above [] ≡ rest) → slice_index_or ys number [] ≡ chain
  at_parent chain number None is a b again = b ∙ sym a ∙ is
  at_parent chain number (Some above) is a b again =
      let rest : slice_index_or ys above [] ≡ slice_index_or xs above [] = again number (slice_index_or xs above []) above (sym is ∙ a) refl in
      b ∙ ap (λ (r : List ℕ). number ∷ r) rest ∙ sym a ∙ is

  at_number : (chain : List ℕ) (number : ℕ) → slice_index_or xs number [] ≡ chain →
      ((m : ℕ) (rest : List ℕ) (above : ℕ) → chain ≡ m ∷ rest → slice_index_or xs above [] ≡ rest → slice_index_or ys above [] ≡ rest) → slice_index_or ys number [] ≡ chain
  at_number chain number is again = go (slice_get classes number) refl where
    go : (o : Option Class) → slice_get classes number ≡ o → slice_index_or ys number [] ≡ chain
    go (Some class) at = at_parent chain number (parent_in classes class) is (p.each number class at) (q.each number class at) again
    go None at =
        let past : length classes ≤ number = none_past classes number at in
        let in_xs : length xs ≤ number = omega (arith, past, p.len) in
        let in_ys : length ys ≤ number = omega (arith, past, q.len) in
        past_end ys number in_ys ∙ sym (past_end xs number in_xs) ∙ is

  chain_one : (chain : List ℕ) (number : ℕ) → slice_index_or xs number [] ≡ chain → slice_index_or ys number [] ≡ chain
  chain_one [] number is = at_number [] number is (λ m rest above e. absurd cc)
  chain_one (n ∷ ns) number is =
      at_number (n ∷ ns) number is (λ m rest above e same. let tails : ns ≡ rest = cc in chain_one ns above (same ∙ sym tails) ∙ tails)

  pub one_chains : xs ≡ ys
  one_chains = same_rows xs ys (p.len ∙ sym q.len) (λ n. sym (chain_one (slice_index_or xs n []) n refl))

-- ---- the first that is such

module _ {A : Type 0} (Is : A → Type 0) where
  -- a list has one first item that is such
  parted : (xs ys us vs : List A) (x y : A) → IsNoneSuch Is xs → IsNoneSuch Is ys → Is x → Is y → xs ++ x ∷ us ≡ ys ++ y ∷ vs → x ≡ y
  parted [] [] us vs x y none other s t e = cc
  parted [] (z ∷ ys) us vs x y none other s t e = let same : x ≡ z = cc in absurd (other.0 (subst Is same s))
  parted (z ∷ xs) [] us vs x y none other s t e = let same : y ≡ z = cc in absurd (none.0 (subst Is same t))
  parted (z ∷ xs) (w ∷ ys) us vs x y none other s t e = let tails : xs ++ x ∷ us ≡ ys ++ y ∷ vs = cc in parted xs ys us vs x y none.1 other.1 s t tails

  first_one : (xs : List A) (x y : A) → IsFirst Is xs x → IsFirst Is xs y → x ≡ y
  first_one xs x y p q = parted p.before q.before p.after q.after x y p.others q.others p.such q.such (sym p.parts ∙ q.parts)

  none_at : (xs us : List A) (x : A) → IsNoneSuch Is (xs ++ x ∷ us) → Is x → ⊥
  none_at [] us x none is = none.0 is
  none_at (z ∷ xs) us x none is = none_at xs us x none.1 is

  no_first : (xs : List A) (x : A) → IsFirst Is xs x → IsNoneSuch Is xs → ⊥
  no_first xs x p none = none_at p.before p.after x (subst (IsNoneSuch Is) p.parts none) p.such

-- ---- reasons, one behind the other

abbrev Reason : Type 1
Reason = LinkRefusal → Type 0

-- the rule is broken, or it is kept and there is a later reason
abbrev Then : Reason → Type 0 → Reason → Reason
Then Breaks Keeps Later refusal = Breaks refusal ⊎ (Keeps × Later refusal)

abbrev IsOne : Reason → Type 0
IsOne Why = (r s : LinkRefusal) → Why r → Why s → r ≡ s

abbrev Excludes : Reason → Type 0 → Type 0
Excludes Breaks Keeps = (r : LinkRefusal) → Breaks r → Keeps → ⊥

then_one : (Breaks : Reason) (Keeps : Type 0) (Later : Reason) → IsOne Breaks → Excludes Breaks Keeps → IsOne Later → IsOne (Then Breaks Keeps Later)
then_one Breaks Keeps Later one apart later r s (inl a) (inl b) = one r s a b
then_one Breaks Keeps Later one apart later r s (inl a) (inr b) = absurd (apart r a b.0)
then_one Breaks Keeps Later one apart later r s (inr a) (inl b) = absurd (apart s b a.0)
then_one Breaks Keeps Later one apart later r s (inr a) (inr b) = later r s a.1 b.1

-- where the rule and the later ones are kept there is no reason
then_kept : (Breaks : Reason) (Keeps : Type 0) (Later : Reason) (All : Type 0) → (All → Keeps) → Excludes Breaks Keeps → Excludes Later All → Excludes (Then Breaks Keeps Later) All
then_kept Breaks Keeps Later All kept apart later r (inl a) all = apart r a (kept all)
then_kept Breaks Keeps Later All kept apart later r (inr a) all = later r a.1 all

-- ---- two classes of one name

taken_name : (classes : List Class) (n i : ℕ) (name : List ℕ) → i < n → slice_get (map name_of classes) i ≡ Some name → slice_get (map name_of (take n classes)) i ≡ Some name
taken_name [] n i name inside at = absurd cc
taken_name (c ∷ classes) zero i name inside at = absurd (omega (arith, inside))
taken_name (c ∷ classes) (suc n) zero name inside at = at
taken_name (c ∷ classes) (suc n) (suc i) name inside at = let inner : i < n = omega (arith, inside) in taken_name classes n i name inner at

module _ (classes : List Class) where
  earlier_again : (one other : List ℕ) (a : IsGivenTwice classes one) (b : IsGivenTwice classes other) → a.second < b.second → ⊥
  earlier_again one other a b less =
      let inside : a.first < b.second = omega (arith, less, a.order) in
      let same : a.first ≡ a.second =
      b.before a.first a.second one (taken_name classes b.second a.first one inside a.at_first) (taken_name classes b.second a.second one less a.at_second) in
      omega (arith, same, a.order)

  again_one : (one other : List ℕ) → IsGivenTwice classes one → IsGivenTwice classes other → one ≡ other
  again_one one other a b = go (cases_order a.second b.second) where
    go : (a.second ≡ b.second) ⊎ ((a.second < b.second) ⊎ (b.second < a.second)) → one ≡ other
    go (inl same) = same_Some one other (sym a.at_second ∙ ap (slice_get (map name_of classes)) same ∙ b.at_second)
    go (inr (inl less)) = absurd (earlier_again one other a b less)
    go (inr (inr more)) = absurd (earlier_again other one b a more)

  circle_one : (one other : List ℕ) → IsFirstClassOnCircle classes one → IsFirstClassOnCircle classes other → one ≡ other
  circle_one one other a b = go (cases_order a.number b.number) where
    go : (a.number ≡ b.number) ⊎ ((a.number < b.number) ⊎ (b.number < a.number)) → one ≡ other
    go (inl same) = same_Some one other (sym a.named ∙ ap (slice_get (map name_of classes)) same ∙ b.named)
    go (inr (inl less)) = absurd (b.first a.number less a.on_circle)
    go (inr (inr more)) = absurd (a.first b.number more b.on_circle)

  -- ---- why classes are not linked

  abbrev Again : Reason
  Again r = (name : List ℕ) × (r ≡ refusals.Twice name) × IsGivenTwice classes name

  abbrev Lacking : Reason
  Lacking r = (name : List ℕ) × (r ≡ refusals.Missing name) × IsFirst (IsMissing classes) (all_super_names classes) name

  abbrev Circling : Reason
  Circling r = (name : List ℕ) × (r ≡ refusals.Circle name) × IsFirstClassOnCircle classes name

  abbrev Bad : Reason
  Bad r = (name : List ℕ) × (r ≡ refusals.BadSuper name) × IsFirstBad classes name

  abbrev Splitting : Reason
  Splitting r =
      (name : List ℕ) × (method : List ℕ) × (r ≡ refusals.SplitPackage name method) × (chains : List (List ℕ)) × AreChains classes chains × IsFirstSplit classes chains name method

  abbrev FromBad : Reason
  FromBad = Then Bad (HaveGoodSupers classes) Splitting

  abbrev FromCircling : Reason
  FromCircling = Then Circling (HaveNoCircle classes) FromBad

  abbrev FromLacking : Reason
  FromLacking = Then Lacking (HaveSupers classes) FromCircling

  abbrev Why : Reason
  Why = Then Again (HaveDifferentNames classes) FromLacking

  why : (r : LinkRefusal) → RefusesClasses classes r → (r ≡ refusals.NoMemory → ⊥) → Why r
  why (refusals.Twice name) h other = inl (name, refl, h)
  why (refusals.Missing name) h other = inr (h.0, inl (name, refl, h.1))
  why (refusals.Circle name) h other = inr (h.0, inr (h.1, inl (name, refl, h.2)))
  why (refusals.BadSuper name) h other = inr (h.0, inr (h.1, inr (h.2, inl (name, refl, h.3))))
  why (refusals.SplitPackage name method) h other = inr (h.0, inr (h.1, inr (h.2, inr (h.3, (name, method, refl, h.4, h.5, h.6)))))
  why refusals.NoMemory h other = absurd (other refl)
  why refusals.TooMany h other = absurd h
  why (refusals.BadName file entry) h other = absurd h
  why (refusals.BadDescriptor file entry) h other = absurd h
  why (refusals.TwoMembers file entry) h other = absurd h
  why (refusals.NoMethod target) h other = absurd h
  why (refusals.NoField method at) h other = absurd h
  why (refusals.Outside method at what) h other = absurd h
  why (refusals.Initialiser name) h other = absurd h

  splitting_one : IsOne Splitting
  splitting_one r s (n, m, e, cs, are, a) (o, p, f, ds, also, b) =
      let chains : cs ≡ ds = one_chains classes cs ds are also in
      let moved : IsFirst (IsSplit classes ds) (placed_from 0 classes) a.placed = subst (λ (c : List (List ℕ)). IsFirst (IsSplit classes c) (placed_from 0 classes) a.placed) chains a.first in
      let placed : a.placed ≡ b.placed = first_one (IsSplit classes ds) (placed_from 0 classes) a.placed b.placed moved b.first in
      let names : n ≡ o = sym a.class_is ∙ ap (λ (x : Placed). x.own) placed ∙ b.class_is in
      let methods : m ≡ p = sym a.method_is ∙ ap (λ (x : Placed). x.method.name) placed ∙ b.method_is in
      e ∙ ap (λ (x : List ℕ). refusals.SplitPackage x m) names ∙ ap (λ (x : List ℕ). refusals.SplitPackage o x) methods ∙ sym f

  bad_one : (one other : List ℕ) → IsFirstBad classes one → IsFirstBad classes other → one ≡ other
  bad_one one other a b =
      sym a.named ∙ ap (λ (c : Claim). c.name) (first_one (IsBad classes) (all_claims classes) a.claim b.claim a.first b.first) ∙ b.named

  again_apart : Excludes Again (HaveDifferentNames classes)
  again_apart r (name, e, a) differ =
      let same : a.first ≡ a.second = differ a.first a.second name a.at_first a.at_second in
      omega (arith, same, a.order)

  lacking_apart : Excludes Lacking (HaveSupers classes)
  lacking_apart r (name, e, a) none = no_first (IsMissing classes) (all_super_names classes) name a none

  circling_apart : Excludes Circling (HaveNoCircle classes)
  circling_apart r (name, e, a) none = none a.number a.on_circle

  bad_apart : Excludes Bad (HaveGoodSupers classes)
  bad_apart r (name, e, a) none = no_first (IsBad classes) (all_claims classes) a.claim a.first none

  why_one : IsOne Why
  why_one =
      then_one Again (HaveDifferentNames classes) FromLacking (λ r s x y. x.1 ∙ ap refusals.Twice (again_one x.0 y.0 x.2 y.2) ∙ sym y.1) again_apart
      (then_one Lacking (HaveSupers classes) FromCircling
      (λ r s x y. x.1 ∙ ap refusals.Missing (first_one (IsMissing classes) (all_super_names classes) x.0 y.0 x.2 y.2) ∙ sym y.1) lacking_apart
      (then_one Circling (HaveNoCircle classes) FromBad (λ r s x y. x.1 ∙ ap refusals.Circle (circle_one x.0 y.0 x.2 y.2) ∙ sym y.1) circling_apart
      (then_one Bad (HaveGoodSupers classes) Splitting (λ r s x y. x.1 ∙ ap refusals.BadSuper (bad_one x.0 y.0 x.2 y.2) ∙ sym y.1) bad_apart splitting_one)))

-- classes that are linked have no reason why not
why_apart : (world : World) → Excludes (Why world.classes) (IsLinked world)
why_apart world =
    then_kept (Again world.classes) (HaveDifferentNames world.classes) (FromLacking world.classes) (IsLinked world) (λ l. l.names) (again_apart world.classes)
    (then_kept (Lacking world.classes) (HaveSupers world.classes) (FromCircling world.classes) (IsLinked world) (λ l. l.supers_there) (lacking_apart world.classes)
    (then_kept (Circling world.classes) (HaveNoCircle world.classes) (FromBad world.classes) (IsLinked world) (λ l. l.no_circle) (circling_apart world.classes)
    (then_kept (Bad world.classes) (HaveGoodSupers world.classes) (Splitting world.classes) (IsLinked world) (λ l. l.good_supers) (bad_apart world.classes) apart)))
  where
    apart : Excludes (Splitting world.classes) (IsLinked world)
    apart r (name, method, e, chains, are, first) l =
        let same : chains ≡ world.chains = one_chains world.classes chains world.chains are l.chains in
        no_first (IsSplit world.classes chains) (placed_from 0 world.classes) first.placed first.first (subst (HaveNoSplit world.classes) (sym same) l.no_split)

-- ---- why class files are not linked

kept_at : (given : List GivenClass) (n i : ℕ) (class : GivenClass) → i < n → slice_get given i ≡ Some class → AllByRecursion KeepsFormat (take n given) → KeepsFormat class
kept_at [] n i class inside at all = absurd cc
kept_at (g ∷ given) zero i class inside at all = absurd (omega (arith, inside))
kept_at (g ∷ given) (suc n) zero class inside at all = let same : g ≡ class = cc in subst KeepsFormat same all.0
kept_at (g ∷ given) (suc n) (suc i) class inside at all = let inner : i < n = omega (arith, inside) in kept_at given n i class inner at all.1

kept_in : (given : List GivenClass) (i : ℕ) (class : GivenClass) → slice_get given i ≡ Some class → AllByRecursion KeepsFormat given → KeepsFormat class
kept_in [] i class at all = absurd cc
kept_in (g ∷ given) zero class at all = let same : g ≡ class = cc in subst KeepsFormat same all.0
kept_in (g ∷ given) (suc i) class at all = kept_in given i class at all.1

fault_kept : (class : GivenClass) (fault : FormatFault) → IsFirstFault class.file fault → KeepsFormat class → ⊥
fault_kept class fault first keeps =
    let wrong : Some fault ≡ None = one_answer class.file (Some fault) None first keeps in cc

module _ (given : List GivenClass) where
  abbrev Many : Reason
  Many r = (r ≡ refusals.TooMany) × (most_classes < length given)

  abbrev Misformed : Reason
  Misformed r = (file : ℕ) × (fault : FormatFault) × (r ≡ refusal_of file fault) × BreaksFormat given file fault

  abbrev Loaded : Reason
  Loaded r = (classes : List Class) × Loads given classes × Why classes r

  abbrev FromMisformed : Reason
  FromMisformed = Then Misformed (AllByRecursion KeepsFormat given) Loaded

  abbrev WhyNot : Reason
  WhyNot = Then Many (length given ≤ most_classes) FromMisformed

  of_fault : (r : LinkRefusal) → Misformed r → WhyNot r
  of_fault r h = inr (h.3.most, inl h)

  of_loaded : (r : LinkRefusal) → RefusesLoaded given r → (r ≡ refusals.NoMemory → ⊥) → WhyNot r
  of_loaded r h other = inr (h.1.most, inr (h.1.format, (h.0, h.1, why h.0 r h.2 other)))

  why_not : (r : LinkRefusal) → RefusesLink given r → (r ≡ refusals.NoMemory → ⊥) → WhyNot r
  why_not refusals.TooMany h other = inl (refl, h)
  why_not (refusals.BadName file entry) h other = of_fault (refusals.BadName file entry) (file, faults.BadName entry, refl, h)
  why_not (refusals.BadDescriptor file entry) h other = of_fault (refusals.BadDescriptor file entry) (file, faults.BadDescriptor entry, refl, h)
  why_not (refusals.TwoMembers file entry) h other = of_fault (refusals.TwoMembers file entry) (file, faults.TwoMembers entry, refl, h)
  why_not (refusals.Twice name) h other = of_loaded (refusals.Twice name) h other
  why_not (refusals.Missing name) h other = of_loaded (refusals.Missing name) h other
  why_not (refusals.Circle name) h other = of_loaded (refusals.Circle name) h other
  why_not (refusals.BadSuper name) h other = of_loaded (refusals.BadSuper name) h other
  why_not (refusals.SplitPackage name method) h other = of_loaded (refusals.SplitPackage name method) h other
  why_not (refusals.NoMethod target) h other = absurd h
  why_not (refusals.NoField method at) h other = absurd h
  why_not (refusals.Outside method at what) h other = absurd h
  why_not (refusals.Initialiser name) h other = absurd h
  why_not refusals.NoMemory h other = absurd (other refl)

  earlier_fault : (i j : ℕ) (f g : FormatFault) → BreaksFormat given i f → BreaksFormat given j g → i < j → ⊥
  earlier_fault i j f g a b less = fault_kept a.class f a.first (kept_at given j i a.class less a.there b.before)

  misformed_one : IsOne Misformed
  misformed_one r s (i, f, e, a) (j, g, h, b) = go (cases_order i j) where
    go : (i ≡ j) ⊎ ((i < j) ⊎ (j < i)) → r ≡ s
    go (inr (inl less)) = absurd (earlier_fault i j f g a b less)
    go (inr (inr more)) = absurd (earlier_fault j i g f b a more)
    go (inl same) =
        let class : a.class ≡ b.class = same_Some a.class b.class (sym a.there ∙ ap (slice_get given) same ∙ b.there) in
        let also : IsFirstFault b.class.file f = subst (λ (c : GivenClass). IsFirstFault c.file f) class a.first in
        let fault : f ≡ g = same_Some f g (one_answer b.class.file (Some f) (Some g) also b.first) in
        e ∙ ap (λ (n : ℕ). refusal_of n f) same ∙ ap (refusal_of j) fault ∙ sym h

  many_apart : Excludes Many (length given ≤ most_classes)
  many_apart r (e, many) few = omega (arith, many, few)

  misformed_apart : Excludes Misformed (AllByRecursion KeepsFormat given)
  misformed_apart r (i, f, e, a) all = fault_kept a.class f a.first (kept_in given i a.class a.there all)

  loaded_one : IsOne Loaded
  loaded_one r s (xs, p, a) (ys, q, b) =
      let same : xs ≡ ys = one_loaded given xs ys p q in
      why_one ys r s (subst (λ (cs : List Class). Why cs r) same a) b

  why_not_one : IsOne WhyNot
  why_not_one =
      then_one Many (length given ≤ most_classes) FromMisformed (λ r s x y. x.0 ∙ sym y.0) many_apart
      (then_one Misformed (AllByRecursion KeepsFormat given) Loaded misformed_one misformed_apart loaded_one)

  loaded_apart : (world : World) → Excludes Loaded (Links given world)
  loaded_apart world r (xs, p, a) l =
      let same : xs ≡ world.classes = one_loaded given xs world.classes p l.loads in
      why_apart world r (subst (λ (cs : List Class). Why cs r) same a) l.linked

  -- there is one reason but that memory ran out
  pub one_refusal : (r s : LinkRefusal) → RefusesLink given r → RefusesLink given s → (r ≡ refusals.NoMemory → ⊥) → (s ≡ refusals.NoMemory → ⊥) → r ≡ s
  one_refusal r s a b other also = why_not_one r s (why_not r a other) (why_not s b also)

  -- class files that have a world have no reason but that memory ran out
  pub refused_or_linked : (world : World) (r : LinkRefusal) → RefusesLink given r → (r ≡ refusals.NoMemory → ⊥) → Links given world → ⊥
  refused_or_linked world r a other l =
      then_kept Many (length given ≤ most_classes) FromMisformed (Links given world) (λ k. k.loads.most) many_apart
      (then_kept Misformed (AllByRecursion KeepsFormat given) Loaded (Links given world) (λ k. k.loads.format) misformed_apart (loaded_apart world)) r (why_not r a other) l

  -- two worlds of class files have one list of classes, and one list of chains
  pub worlds_classes : (a b : World) → Links given a → Links given b → a.classes ≡ b.classes
  worlds_classes a b p q = one_loaded given a.classes b.classes p.loads q.loads

  pub worlds_chains : (a b : World) → Links given a → Links given b → a.chains ≡ b.chains
  worlds_chains a b p q =
      one_chains b.classes a.chains b.chains (subst (λ (cs : List Class). AreChains cs a.chains) (worlds_classes a b p q) p.linked.chains) q.linked.chains

-- a reason against class files that have a world is that memory ran out
pub no_reason : (given : List GivenClass) (world : World) (r : LinkRefusal) → Links given world → RefusesLink given r → r ≡ refusals.NoMemory
no_reason given world refusals.NoMemory l a = refl
no_reason given world refusals.TooMany l a = absurd (refused_or_linked given world refusals.TooMany a (λ e. let wrong : refusals.TooMany ≡ refusals.NoMemory = e in cc) l)
no_reason given world (refusals.BadName file entry) l a = absurd (refused_or_linked given world (refusals.BadName file entry) a (λ e. let wrong : (refusals.BadName file entry) ≡ refusals.NoMemory = e in cc) l)
no_reason given world (refusals.BadDescriptor file entry) l a = absurd (refused_or_linked given world (refusals.BadDescriptor file entry) a (λ e. let wrong : (refusals.BadDescriptor file entry) ≡ refusals.NoMemory = e in cc) l)
no_reason given world (refusals.TwoMembers file entry) l a = absurd (refused_or_linked given world (refusals.TwoMembers file entry) a (λ e. let wrong : (refusals.TwoMembers file entry) ≡ refusals.NoMemory = e in cc) l)
no_reason given world (refusals.Twice name) l a = absurd (refused_or_linked given world (refusals.Twice name) a (λ e. let wrong : (refusals.Twice name) ≡ refusals.NoMemory = e in cc) l)
no_reason given world (refusals.Missing name) l a = absurd (refused_or_linked given world (refusals.Missing name) a (λ e. let wrong : (refusals.Missing name) ≡ refusals.NoMemory = e in cc) l)
no_reason given world (refusals.Circle name) l a = absurd (refused_or_linked given world (refusals.Circle name) a (λ e. let wrong : (refusals.Circle name) ≡ refusals.NoMemory = e in cc) l)
no_reason given world (refusals.BadSuper name) l a = absurd (refused_or_linked given world (refusals.BadSuper name) a (λ e. let wrong : (refusals.BadSuper name) ≡ refusals.NoMemory = e in cc) l)
no_reason given world (refusals.SplitPackage name method) l a = absurd (refused_or_linked given world (refusals.SplitPackage name method) a (λ e. let wrong : (refusals.SplitPackage name method) ≡ refusals.NoMemory = e in cc) l)
no_reason given world (refusals.NoMethod target) l a = absurd (refused_or_linked given world (refusals.NoMethod target) a (λ e. let wrong : (refusals.NoMethod target) ≡ refusals.NoMemory = e in cc) l)
no_reason given world (refusals.NoField method at) l a = absurd (refused_or_linked given world (refusals.NoField method at) a (λ e. let wrong : (refusals.NoField method at) ≡ refusals.NoMemory = e in cc) l)
no_reason given world (refusals.Outside method at what) l a = absurd (refused_or_linked given world (refusals.Outside method at what) a (λ e. let wrong : (refusals.Outside method at what) ≡ refusals.NoMemory = e in cc) l)
no_reason given world (refusals.Initialiser name) l a = absurd (refused_or_linked given world (refusals.Initialiser name) a (λ e. let wrong : (refusals.Initialiser name) ≡ refusals.NoMemory = e in cc) l)
