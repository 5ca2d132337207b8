-- Class files have one world: what is said of the parts of a world beside its classes and chains tells them in whole.
use Rattle.std.proofs.Common.{◌≡◌, ◌⊎◌, inl, inr, ℕ, zero, suc, ◌<◌, Bool, true, false, List, [], ◌∷◌, ◌++◌, length, map, Some, slice_get, slice_index_or, refl, sym, ap, subst, ◌∙◌, arith}
use Rattle.std.proofs.lemmas.Option.{same_Some}
use Rattle.kb_names.specs.declared.types.ExactType.{ExactType}
use Rattle.kb_names.specs.declared.types.ExactType.TheVariants as exact
use Rattle.kb_names.specs.declared.types.JType.{JType}
use Rattle.kb_order.specs.Texts.{IsBefore, IsRising}
use Rattle.kb_order.proofs.TextLaws.{before_itself, before_chain}
use Rattle.kb_class.specs.declared.given.GivenClass.{GivenClass}
use Rattle.kb_class.specs.Class.{Class}
use Rattle.kb_class.specs.Naming.{Has}
use Rattle.kb_link.specs.Links.{Links}
use Rattle.kb_classes.specs.Subtypes.{is_super, AreSupers}
use Rattle.kb_classes.specs.Universe.{given_types, array_text, AreArrays, AreLiterals, AreNamedPlatform, IsUniverse}
use Rattle.kb_classes.specs.World.{World}
use Rattle.kb_link.proofs.OneWorld.{worlds_classes, worlds_chains}

-- ---- lists of marks

module _ {A : Type 0} (none : A) where
  -- lists as long as one another are equal where their items are
  same_items : (xs ys : List A) → length xs ≡ length ys → ((i : ℕ) → i < length xs → slice_index_or xs i none ≡ slice_index_or ys i none) → xs ≡ ys
  same_items [] [] long same = refl
  same_items [] (y ∷ ys) long same = absurd (omega (arith, long))
  same_items (x ∷ xs) [] long same = absurd (omega (arith, long))
  same_items (x ∷ xs) (y ∷ ys) long same =
      let shorter : length xs ≡ length ys = omega (arith, long) in
      let first : x ≡ y = same 0 (omega arith) in
      let rest : xs ≡ ys = same_items xs ys shorter (λ i inside. same (suc i) (omega (arith, inside))) in
      rw (first, rest) refl

same_marks : (a b : Bool) → (a ≡ true → b ≡ true) → (b ≡ true → a ≡ true) → a ≡ b
same_marks true b to from = sym (to refl)
same_marks false true to from = from refl
same_marks false false to from = refl

one_supers : (classes : List Class) (xs ys : List (List Bool)) → AreSupers classes xs → AreSupers classes ys → xs ≡ ys
one_supers classes xs ys p q = same_items [] xs ys (p.len ∙ sym q.len) row
  where
    row : (low : ℕ) → low < length xs → slice_index_or xs low [] ≡ slice_index_or ys low []
    row low inside =
        let within : low < length classes = subst (λ (n : ℕ). low < n) p.len inside in
        same_items false (slice_index_or xs low []) (slice_index_or ys low []) (p.rows low within ∙ sym (q.rows low within)) (λ high far.
        same_marks (is_super xs low high) (is_super ys low high)
        (λ marked. (q.each low high within).1 ((p.each low high within).0 marked))
        (λ marked. (p.each low high within).1 ((q.each low high within).0 marked)))

-- ---- rising lists

module _ {A : Type 0} (key : A → List ℕ) where
  -- the first item comes before each other one
  before_others : (x : A) (xs : List A) → IsRising (map key (x ∷ xs)) → (place : ℕ) (y : A) → slice_get xs place ≡ Some y → IsBefore (key x) (key y)
  before_others x [] rises place y at = absurd cc
  before_others x (w ∷ xs) rises zero y at =
      let same : w ≡ y = cc in
      subst (λ (u : A). IsBefore (key x) (key u)) same rises.0
  before_others x (w ∷ xs) rises (suc place) y at = before_chain (key x) (key w) (key y) rises.0 (before_others w xs rises.1 place y at)

  rising_rest : (x : A) (xs : List A) → IsRising (map key (x ∷ xs)) → IsRising (map key xs)
  rising_rest x [] rises = tt
  rising_rest x (w ∷ xs) rises = rises.1

  -- an item is the first one, or comes behind it
  first_or_behind : (y : A) (ys : List A) → IsRising (map key (y ∷ ys)) → (x : A) → Has (y ∷ ys) x → (y ≡ x) ⊎ IsBefore (key y) (key x)
  first_or_behind y ys rises x (zero, at) = inl (same_Some y x at)
  first_or_behind y ys rises x (suc place, at) = inr (before_others y ys rises place x at)

  -- an item of the whole that is not the first one is among the others
  among_others : (x : A) (xs : List A) → IsRising (map key (x ∷ xs)) → (z : A) → Has xs z → (y : A) (ys : List A) → x ≡ y → Has (y ∷ ys) z → Has ys z
  among_others x xs rises z has y ys same (zero, at) =
      let equal : x ≡ z = same ∙ same_Some y z at in
      absurd (before_itself (key z) (subst (λ (u : A). IsBefore (key u) (key z)) equal (before_others x xs rises has.0 z has.1)))
  among_others x xs rises z has y ys same (suc place, at) = (place, at)

  -- rising lists with the same items are one list
  pub one_rising : (xs ys : List A) → IsRising (map key xs) → IsRising (map key ys) → ((z : A) → Has xs z → Has ys z) → ((z : A) → Has ys z → Has xs z) → xs ≡ ys
  one_rising [] [] p q to from = refl
  one_rising [] (y ∷ ys) p q to from = let has = from y (0, refl) in absurd (nowhere has.0 y has.1)
    where
      nowhere : (place : ℕ) (x : A) → slice_get [] place ≡ Some x → ⊥
      nowhere place x at = cc
  one_rising (x ∷ xs) [] p q to from = let has = to x (0, refl) in absurd (nowhere has.0 x has.1)
    where
      nowhere : (place : ℕ) (z : A) → slice_get [] place ≡ Some z → ⊥
      nowhere place z at = cc
  one_rising (x ∷ xs) (y ∷ ys) p q to from = go (first_or_behind y ys q x (to x (0, refl))) (first_or_behind x xs p y (from y (0, refl)))
      (λ same. one_rising xs ys (rising_rest x xs p) (rising_rest y ys q)
      (λ z has. among_others x xs p z has y ys same (to z (suc has.0, has.1)))
      (λ z has. among_others y ys q z has x xs (sym same) (from z (suc has.0, has.1))))
    where
      joined : x ≡ y → xs ≡ ys → x ∷ xs ≡ y ∷ ys
      joined first rest = rw (first, rest) refl

      go : (y ≡ x) ⊎ IsBefore (key y) (key x) → (x ≡ y) ⊎ IsBefore (key x) (key y) → (x ≡ y → xs ≡ ys) → x ∷ xs ≡ y ∷ ys
      go (inl same) other rest = joined (sym same) (rest (sym same))
      go (inr less) (inl same) rest = joined same (rest same)
      go (inr less) (inr more) rest = absurd (before_itself (key x) (before_chain (key x) (key y) (key x) more less))

map_itself : (xs : List (List ℕ)) → map (λ (x : List ℕ). x) xs ≡ xs
map_itself [] = refl
map_itself (x ∷ xs) = ap (λ (ys : List (List ℕ)). x ∷ ys) (map_itself xs)

one_literals : (classes : List Class) (xs ys : List (List ℕ)) → AreLiterals classes xs → AreLiterals classes ys → xs ≡ ys
one_literals classes xs ys p q =
    one_rising (λ (x : List ℕ). x) xs ys (subst IsRising (sym (map_itself xs)) p.rises) (subst IsRising (sym (map_itself ys)) q.rises)
    (λ z has. (q.same z).1 ((p.same z).0 has)) (λ z has. (p.same z).1 ((q.same z).0 has))

one_arrays : (classes : List Class) (xs ys : List JType) → AreArrays classes xs → AreArrays classes ys → xs ≡ ys
one_arrays classes xs ys p q =
    one_rising array_text xs ys p.rises q.rises (λ z has. (q.same z).1 ((p.same z).0 has)) (λ z has. (p.same z).1 ((q.same z).0 has))

-- ---- the universe

one_platform : (classes rest : List Class) (xs ys : List ExactType) → AreNamedPlatform classes rest xs → AreNamedPlatform classes rest ys → xs ≡ ys
one_platform classes [] xs ys p q = p ∙ sym q
one_platform classes (class ∷ rest) xs ys (inl p) (inl q) =
    let others : p.1 ≡ q.1 = one_platform classes rest p.1 q.1 p.3 q.3 in
    p.2 ∙ ap (λ (ts : List ExactType). exact.Class class.name ∷ ts) others ∙ sym q.2
one_platform classes (class ∷ rest) xs ys (inl p) (inr q) = absurd (q.0 p.0)
one_platform classes (class ∷ rest) xs ys (inr p) (inl q) = absurd (p.0 q.0)
one_platform classes (class ∷ rest) xs ys (inr p) (inr q) = one_platform classes rest xs ys p.1 q.1

one_universe : (classes : List Class) (xs ys : List ExactType) → IsUniverse classes xs → IsUniverse classes ys → xs ≡ ys
one_universe classes xs ys p q =
    let platform : p.platform ≡ q.platform = one_platform classes classes p.platform q.platform p.are_platform q.are_platform in
    let arrays : p.arrays ≡ q.arrays = one_arrays classes p.arrays q.arrays p.are_arrays q.are_arrays in
    p.parts ∙ (λ i. given_types classes ++ platform i ++ map exact.Array (arrays i)) ∙ sym q.parts

-- ---- the world

pub one_world_is : (given : List GivenClass) (a b : World) → Links given a → Links given b → a ≡ b
one_world_is given a b p q =
    let classes : a.classes ≡ b.classes = worlds_classes given a b p q in
    let chains : a.chains ≡ b.chains = worlds_chains given a b p q in
    let supers : a.supers ≡ b.supers = one_supers b.classes a.supers b.supers (subst (λ (cs : List Class). AreSupers cs a.supers) classes p.linked.supers) q.linked.supers in
    let universe : a.universe ≡ b.universe = one_universe b.classes a.universe b.universe (subst (λ (cs : List Class). IsUniverse cs a.universe) classes p.linked.universe) q.linked.universe in
    let literals : a.literals ≡ b.literals = one_literals b.classes a.literals b.literals (subst (λ (cs : List Class). AreLiterals cs a.literals) classes p.linked.literals) q.linked.literals in
    λ i. record { classes = classes i; chains = chains i; supers = supers i; universe = universe i; literals = literals i }
