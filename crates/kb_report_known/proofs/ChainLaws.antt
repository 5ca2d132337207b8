-- Chains of superclasses: each ends with the chain of each class on it, so the slots of a class begin with those of each class
-- above it (JVMS 8 section 2.7).
use Rattle.std.proofs.Common.{◌≡◌, ◌⊎◌, inl, inr, ℕ, zero, suc, ◌+◌, ◌≤◌, ◌==◌, ◌||◌, Bool, true, false, true≢false, List, [], ◌∷◌, ◌++◌, length, reverse, Option, Some, None, refl, sym, ap, subst, ◌∙◌, arith}
use Rattle.std.specs.Prelude.{slice_get}
use Rattle.std.specs.List.{flat_map, list_any}
use Rattle.std.proofs.lemmas.Bool.{eqb-true, eq-eqb}
use Rattle.std.proofs.lemmas.List.{get_or_past, reverse-append}
use Rattle.std.proofs.lemmas.List.Concat.{flat_map-append}
use Rattle.std.proofs.lemmas.List.Folds.{list_any-append}
use Rattle.std.proofs.lemmas.Option.{none-some, same_Some, slice_get_cases}
use Rattle.kb_class.specs.Class.{Class}
use Rattle.kb_class.specs.declared.members.FieldInfo.{FieldInfo}
use Rattle.kb_classes.proofs.SlotLaws.{numbered_behind}
use Rattle.kb_classes.specs.Slots.{Declared, has_slot, numbered, own_slots_at, own_slots_there, slot_of, slots_among, slots_of}
use Rattle.kb_classes.specs.Subtypes.{IsChain}
use Rattle.kb_classes.specs.World.{World, chain_of, parent_in}
use Rattle.kb_classes.specs.declared.slots.FieldSlot.{FieldSlot}
use Rattle.kb_link.specs.Links.{IsLinked}
use Rattle.kb_report_known.proofs.ListLaws.{in_front}
use Rattle.kb_report_known.specs.Fields.{is_class_below}

-- ---- lists

abbrev pub is_in : ℕ → List ℕ → Bool
is_in number numbers = list_any (λ (other : ℕ). other == number) numbers

first_or_later : (high low : ℕ) (rest : List ℕ) → is_in high (low ∷ rest) ≡ true → (low ≡ high) ⊎ (((low == high) ≡ false) × (is_in high rest ≡ true))
first_or_later high low rest there = go (low == high) refl there
  where
    go : (b : Bool) → (low == high) ≡ b → (b || is_in high rest) ≡ true → (low ≡ high) ⊎ (((low == high) ≡ false) × (is_in high rest ≡ true))
    go true same e = inl (eqb-true low high same)
    go false other e = inr (other, e)

pub in_reverse : (number : ℕ) (numbers : List ℕ) → is_in number (reverse numbers) ≡ is_in number numbers
in_reverse number [] = refl
in_reverse number (x ∷ xs) =
    ap (is_in number) (reverse-append (x ∷ []) xs) ∙ list_any-append (λ (other : ℕ). other == number) (reverse xs) (x ∷ [])
    ∙ ap (λ (b : Bool). b || ((x == number) || false)) (in_reverse number xs) ∙ turned (is_in number xs) (x == number)
  where
    turned : (a b : Bool) → (a || (b || false)) ≡ (b || a)
    turned true true = refl
    turned true false = refl
    turned false true = refl
    turned false false = refl

-- an item of two lists is one of the first, or stands behind it
get_either : {A : Type 0} (xs ys : List A) (i : ℕ) (x : A) → slice_get (xs ++ ys) i ≡ Some x → (slice_get xs i ≡ Some x) ⊎ ((j : ℕ) × (slice_get ys j ≡ Some x))
get_either [] ys i x at = inr (i, at)
get_either (y ∷ xs) ys zero x at = inl at
get_either (y ∷ xs) ys (suc i) x at = get_either xs ys i x at

-- ---- the class that declares a slot

among_class : (number : ℕ) (fields : List FieldInfo) (place : ℕ) (one : Declared) → slice_get (slots_among number fields) place ≡ Some one → one.class ≡ number
among_class number [] place one at = absurd cc
among_class number (field ∷ fields) place one at = go (λ i h. among_class number fields i one h) (has_slot field) refl
  where
    both : (i : ℕ) → ((j : ℕ) → slice_get (slots_among number fields) j ≡ Some one → one.class ≡ number)
        → slice_get (record { class = number; field = field } ∷ slots_among number fields) i ≡ Some one → one.class ≡ number
    both zero again h = sym (ap (λ (d : Declared). d.class) (same_Some (record { class = number; field = field }) one h))
    both (suc i) again h = again i h

    go : ((j : ℕ) → slice_get (slots_among number fields) j ≡ Some one → one.class ≡ number) → (b : Bool) → has_slot field ≡ b → one.class ≡ number
    go again true e = both place again (let same : slots_among number (field ∷ fields) ≡ record { class = number; field = field } ∷ slots_among number fields = (rw e refl) in ap (λ (ds : List Declared). slice_get ds place) (sym same) ∙ at)
    go again false e = again place (let same : slots_among number (field ∷ fields) ≡ slots_among number fields = (rw e refl) in ap (λ (ds : List Declared). slice_get ds place) (sym same) ∙ at)

own_class : (classes : List Class) (number place : ℕ) (one : Declared) → slice_get (own_slots_at classes number) place ≡ Some one → one.class ≡ number
own_class classes number place one at = go (slice_get classes number) at
  where
    go : (o : Option Class) → slice_get (own_slots_there number o) place ≡ Some one → one.class ≡ number
    go None at = absurd cc
    go (Some class) at = among_class number class.fields place one at

along_class : (classes : List Class) (numbers : List ℕ) (place : ℕ) (one : Declared) → slice_get (flat_map (own_slots_at classes) numbers) place ≡ Some one → is_in one.class numbers ≡ true
along_class classes [] place one at = absurd cc
along_class classes (n ∷ ns) place one at =
    elim (get_either (own_slots_at classes n) (flat_map (own_slots_at classes) ns) place one at) [
      | inl here ↦ (let same : (n == one.class) ≡ true = eq-eqb n one.class (sym (own_class classes n place one here)) in ap (λ (b : Bool). b || is_in one.class ns) same)
      | inr later ↦ or_true (n == one.class) (is_in one.class ns) (along_class classes ns later.0 one later.1)
    ]
  where
    or_true : (a b : Bool) → b ≡ true → (a || b) ≡ true
    or_true true b e = refl
    or_true false b e = e

numbered_at : (first : ℕ) (all : List Declared) (place : ℕ) (slot : FieldSlot) → slice_get (numbered first all) place ≡ Some slot → (one : Declared) × (slice_get all place ≡ Some one) × (one.class ≡ slot.class.0)
numbered_at first [] place slot at = absurd cc
numbered_at first (x ∷ xs) zero slot at = (x, refl, ap (λ (s : FieldSlot). s.class.0) (same_Some (slot_of first x) slot at))
numbered_at first (x ∷ xs) (suc place) slot at = numbered_at (suc first) xs place slot at

-- ---- chains

-- The chain ends with the other one, which is that of the class, and which has its only place there.
pub record EndsWith (world : World) (low high : ℕ) : Type 0 where
  pub before : List ℕ
  pub parts : chain_of world low ≡ before ++ chain_of world high
  pub none : is_in high before ≡ false
  pub itself : is_class_below world high high ≡ true

module _ (world : World) (linked : IsLinked world) where
  chain_ends : (most low high : ℕ) → length (chain_of world low) ≤ most → is_class_below world low high ≡ true → EndsWith world low high
  chain_ends zero low high short below = absurd (none_in (chain_of world low) short below)
    where
      none_in : (numbers : List ℕ) → length numbers ≤ 0 → is_in high numbers ≡ true → ⊥
      none_in [] short there = absurd cc
      none_in (number ∷ numbers) short there = absurd (omega (arith, short))
  chain_ends (suc most) low high short below = at_class (λ next shorter there. chain_ends most next high shorter there) (slice_get world.classes low) refl
    where
      no_chain : slice_get world.classes low ≡ None → chain_of world low ≡ []
      no_chain none = elim (slice_get_cases world.classes low).1 [
        | inl h ↦ absurd (none-some h.0 (sym none ∙ h.2))
        | inr h ↦ (let outside : length world.chains ≤ low = omega (arith, h.0, linked.chains.len) in get_or_past world.chains low [] outside)
      ]

      -- a chain begins with its class
      begins : (rest : List ℕ) → chain_of world low ≡ low ∷ rest → low ≡ high → EndsWith world low high
      begins rest chain same = record {
        before = [];
        parts = ap (chain_of world) same;
        none = refl;
        itself = ap (λ (n : ℕ). is_in n (chain_of world n)) (sym same) ∙ ap (is_in low) chain ∙ ap (λ (b : Bool). b || is_in low rest) (eq-eqb low low refl);
      }

      at_parent : ((next : ℕ) → length (chain_of world next) ≤ most → is_class_below world next high ≡ true → EndsWith world next high) → (parent : Option ℕ) → IsChain world.chains low parent (chain_of world low)
          → EndsWith world low high
      at_parent again None chain =
          elim (first_or_later high low [] (sym (ap (is_in high) chain) ∙ below)) [
            | inl same ↦ begins [] chain same
            | inr later ↦ (let never : false ≡ true = later.1 in absurd cc)
          ]
      at_parent again (Some parent) chain =
          elim (first_or_later high low (chain_of world parent) (sym (ap (is_in high) chain) ∙ below)) [
            | inl same ↦ begins (chain_of world parent) chain same
            | inr later ↦ (
                let longer : length (chain_of world low) ≡ suc (length (chain_of world parent)) = ap (λ (l : List ℕ). length l) chain in
                let more = again parent (omega (arith, short, longer)) later.1 in
                record {
                  before = low ∷ more.before;
                  parts = chain ∙ ap (λ (l : List ℕ). low ∷ l) more.parts;
                  none = ap (λ (b : Bool). b || is_in high more.before) later.0 ∙ more.none;
                  itself = more.itself;
                })
          ]

      at_class : ((next : ℕ) → length (chain_of world next) ≤ most → is_class_below world next high ≡ true → EndsWith world next high) → (class : Option Class) → slice_get world.classes low ≡ class
          → EndsWith world low high
      at_class again None none = absurd (let never : false ≡ true = sym (ap (is_in high) (no_chain none)) ∙ below in cc)
      at_class again (Some class) there = at_parent again (parent_in world.classes class) (linked.chains.each low class there)

  pub ends_with : (low high : ℕ) → is_class_below world low high ≡ true → EndsWith world low high
  ends_with low high below = chain_ends (length (chain_of world low)) low high (omega arith) below

  -- a class that is below one which is below another is below that
  pub below_through : (low middle high : ℕ) → is_class_below world low middle ≡ true → is_class_below world middle high ≡ true → is_class_below world low high ≡ true
  below_through low middle high one other =
      let ends = ends_with low middle one in
      ap (is_in high) ends.parts ∙ list_any-append (λ (n : ℕ). n == high) ends.before (chain_of world middle) ∙ go (is_in high ends.before) (is_in high (chain_of world middle)) other
    where
      go : (a b : Bool) → b ≡ true → (a || b) ≡ true
      go true b e = refl
      go false b e = e

  -- of two classes above one, one is below the other
  pub one_below : (low one other : ℕ) → is_class_below world low one ≡ true → is_class_below world low other ≡ true → (is_class_below world one other ≡ true) ⊎ (is_class_below world other one ≡ true)
  one_below low one other p q =
      let a = ends_with low one p in
      let b = ends_with low other q in
      tails a.before b.before (sym a.parts ∙ b.parts) a.itself b.itself
    where
      on : (number : ℕ) (before tail chain : List ℕ) → chain ≡ before ++ tail → is_in number tail ≡ true → is_in number chain ≡ true
      on number before tail chain is there = ap (is_in number) is ∙ list_any-append (λ (n : ℕ). n == number) before tail ∙ go (is_in number before) (is_in number tail) there
        where
          go : (a b : Bool) → b ≡ true → (a || b) ≡ true
          go true b e = refl
          go false b e = e

      tails : (xs ys : List ℕ) → xs ++ chain_of world one ≡ ys ++ chain_of world other → is_class_below world one one ≡ true → is_class_below world other other ≡ true
          → (is_class_below world one other ≡ true) ⊎ (is_class_below world other one ≡ true)
      tails [] ys e self selves = inl (on other ys (chain_of world other) (chain_of world one) e selves)
      tails (x ∷ xs) [] e self selves = inr (on one (x ∷ xs) (chain_of world one) (chain_of world other) (sym e) self)
      tails (x ∷ xs) (y ∷ ys) e self selves = tails xs ys (rest x y (xs ++ chain_of world one) (ys ++ chain_of world other) e) self selves
        where
          rest : (x y : ℕ) (ns ms : List ℕ) → x ∷ ns ≡ y ∷ ms → ns ≡ ms
          rest x y ns ms e = cc

  -- ---- slots

  slots_parts : (low high : ℕ) (ends : EndsWith world low high)
      → slots_of world low ≡ slots_of world high
      ++ numbered (0 + length (flat_map (own_slots_at world.classes) (reverse (chain_of world high)))) (flat_map (own_slots_at world.classes) (reverse ends.before))
  slots_parts low high ends =
      let first : List Declared = flat_map (own_slots_at world.classes) (reverse (chain_of world high)) in
      let more : List Declared = flat_map (own_slots_at world.classes) (reverse ends.before) in
      let whole : flat_map (own_slots_at world.classes) (reverse (chain_of world low)) ≡ first ++ more =
      ap (λ (chain : List ℕ). flat_map (own_slots_at world.classes) (reverse chain)) ends.parts
      ∙ (ap (λ (chain : List ℕ). flat_map (own_slots_at world.classes) chain) (reverse-append ends.before (chain_of world high))
      ∙ flat_map-append (own_slots_at world.classes) (reverse (chain_of world high)) (reverse ends.before)) in
      ap (numbered 0) whole ∙ numbered_behind 0 first more

  -- each slot of a class is one of each class below it
  pub slots_end : (low high i : ℕ) (slot : FieldSlot) → is_class_below world low high ≡ true → slice_get (slots_of world high) i ≡ Some slot → slice_get (slots_of world low) i ≡ Some slot
  slots_end low high i slot below at =
      let ends = ends_with low high below in
      ap (λ (slots : List FieldSlot). slice_get slots i) (slots_parts low high ends) ∙ in_front (slots_of world high) _ i slot at

  -- each slot of a class is one of the class that declares it, which is that class or one above it
  pub slot_below : (low i : ℕ) (slot : FieldSlot) → slice_get (slots_of world low) i ≡ Some slot → is_class_below world low slot.class.0 ≡ true
  slot_below low i slot at =
      let all : List Declared = flat_map (own_slots_at world.classes) (reverse (chain_of world low)) in
      let one = numbered_at 0 all i slot at in
      sym (in_reverse slot.class.0 (chain_of world low)) ∙ subst (λ (n : ℕ). is_in n (reverse (chain_of world low)) ≡ true) one.2 (along_class world.classes (reverse (chain_of world low)) i one.0 one.1)

  pub slot_declared : (low i : ℕ) (slot : FieldSlot) → slice_get (slots_of world low) i ≡ Some slot → slice_get (slots_of world slot.class.0) i ≡ Some slot
  slot_declared low i slot at =
      let high = slot.class.0 in
      let ends = ends_with low high (slot_below low i slot at) in
      let more : List Declared = flat_map (own_slots_at world.classes) (reverse ends.before) in
      elim (get_either (slots_of world high) (numbered (0 + length (flat_map (own_slots_at world.classes) (reverse (chain_of world high)))) more) i slot
      (sym (ap (λ (slots : List FieldSlot). slice_get slots i) (slots_parts low high ends)) ∙ at)) [
        | inl there ↦ there
        | inr later ↦ (
            let one = numbered_at _ more later.0 slot later.1 in
            let there : is_in high ends.before ≡ true = sym (in_reverse high ends.before)
            ∙ subst (λ (n : ℕ). is_in n (reverse ends.before) ≡ true) one.2 (along_class world.classes (reverse ends.before) later.0 one.0 one.1) in
            absurd (true≢false (sym there ∙ ends.none)))
      ]
