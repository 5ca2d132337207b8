-- Objects that have a field have its slot, and the table of the most slots says what it is to say.
use Rattle.std.proofs.Common.{◌≡◌, ◌⊎◌, inl, inr, ◌↔◌, ℕ, zero, suc, ◌^◌, ◌<◌, ◌≤◌, ◌==◌, ◌&&◌, ◌||◌, Bool, true, false, true≢false, List, [], ◌∷◌, length, map, Option, Some, None, refl, sym, ap, subst, ◌∙◌, arith}
use Rattle.std.specs.Prelude.{nat_lt, slice_get, slice_index_or}
use Rattle.std.specs.List.{list_any}
use Rattle.std.specs.Option.{option_map, option_map_or}
use Rattle.std.proofs.lemmas.Bool.{and_parts, eqb-true, eq-eqb, ltb-false, ltb-true}
use Rattle.std.proofs.lemmas.List.{get_or_past}
use Rattle.std.proofs.lemmas.Option.{same_Some, slice_get-map}
use Rattle.kb_class.specs.Class.{Class}
use Rattle.kb_classes.proofs.Named.{number_inside, number_right, number_there}
use Rattle.kb_classes.specs.Rules.{name_of, HaveDifferentNames}
use Rattle.kb_classes.specs.Slots.{slots_of}
use Rattle.kb_classes.specs.World.{World, chain_of, number_in}
use Rattle.kb_classes.specs.declared.slots.FieldSlot.{FieldSlot}
use Rattle.kb_link.proofs.Loaded.{there_below}
use Rattle.kb_link.specs.Links.{IsLinked}
use Rattle.kb_names.specs.declared.types.ExactType.{ExactType}
use Rattle.kb_names.specs.declared.types.ExactType.TheVariants as exact
use Rattle.kb_report_text.specs.Slots.{field_of_type}
use Rattle.kb_semantics.specs.Values.{slots_of_class}
use Rattle.kb_report_known.proofs.ChainLaws.{below_through, ends_with, one_below, slot_below, slots_end}
use Rattle.kb_report_known.specs.Fields.{has_field_at, is_below, is_class_below, is_there_below, IsFieldAt, IsMost}
use Rattle.kb_report_known.proofs.TableLaws.{have_most, HaveMost}
use Rattle.kb_report_known.specs.Tables.{AreFew, declares_some, most_below}
use Rattle.kb_report_known.specs.declared.fields.FieldAt.{FieldAt}

-- a class is the one of its name
pub number_of_name : (classes : List Class) → HaveDifferentNames classes → (number : ℕ) (name : List ℕ) → slice_get (map name_of classes) number ≡ Some name → number_in classes name ≡ Some number
number_of_name classes differ number name there = go (number_in classes name) refl
  where
    go : (o : Option ℕ) → number_in classes name ≡ o → number_in classes name ≡ Some number
    go None none = absurd (number_there classes name number there none)
    go (Some other) is = is ∙ ap (λ (n : ℕ). Some n) (differ other number name (number_right classes name other is) there)

pub name_at : (classes : List Class) (number : ℕ) (name : List ℕ) → option_map (λ (c : Class). c.name) (slice_get classes number) ≡ Some name → slice_get (map name_of classes) number ≡ Some name
name_at classes number name is = slice_get-map name_of classes number ∙ is

-- what is below by a class's name is so by its number
pub below_of_name : (world : World) → IsLinked world → (number high : ℕ) (name : List ℕ) → option_map (λ (c : Class). c.name) (slice_get world.classes number) ≡ Some name
    → is_below world name high ≡ is_class_below world number high
below_of_name world linked number high name is =
    ap (λ (o : Option ℕ). list_any (λ (above : ℕ). above == high) (option_map_or (chain_of world) o [])) (number_of_name world.classes linked.names number name (name_at world.classes number name is))

-- a class that is there, or not
pub is_there : (world : World) (low high : ℕ) (has : Bool) → has ≡ nat_lt low (length world.classes) → has ≡ true → is_there_below world low high ≡ is_class_below world low high
is_there world low high has is told = ap (λ (b : Bool). b && is_class_below world low high) (sym is ∙ told)

pub there_true : (world : World) (low high : ℕ) (has : Bool) → has ≡ is_there_below world low high → has ≡ true → is_class_below world low high ≡ true
there_true world low high has is told = (and_parts (nat_lt low (length world.classes)) (is_class_below world low high) (sym is ∙ told)).1

pub is_not_there : (world : World) (low high : ℕ) (has : Bool) → has ≡ nat_lt low (length world.classes) → has ≡ false → false ≡ is_there_below world low high
is_not_there world low high has is told = sym (ap (λ (b : Bool). b && is_class_below world low high) (sym is ∙ told))

-- of a class that is not there no class is above
pub none_above : (world : World) → IsLinked world → (low high : ℕ) → length world.classes ≤ low → is_class_below world low high ≡ false
none_above world linked low high outside = ap (λ (chain : List ℕ). list_any (λ (above : ℕ). above == high) chain) (past world.chains low (omega (arith, outside, linked.chains.len)))
  where
    past : (chains : List (List ℕ)) (n : ℕ) → length chains ≤ n → slice_index_or chains n [] ≡ []
    past chains n h = get_or_past chains n [] h

-- an object of a class has few slots, whatever the class's name
pub few_of_names : (world : World) → AreFew world (length world.classes) → (name : List ℕ) → length (slots_of_class world name) ≤ 2 ^ 32
few_of_names world few name = go (number_in world.classes name) refl
  where
    go : (o : Option ℕ) → number_in world.classes name ≡ o → length (option_map_or (slots_of world) o []) ≤ 2 ^ 32
    go None is = omega arith
    go (Some low) is = few low (number_inside world.classes name low is)

module _ (world : World) (linked : IsLinked world) where
  -- an object of a class has the field exactly where it has the field's slot
  pub has_slot : (at : FieldAt) (field : FieldSlot) → IsFieldAt world at field → (name : List ℕ)
      → (is_below world name at.class.0 ≡ true) ↔ (slice_get (slots_of_class world name) at.slot ≡ Some field)
  has_slot at field is name = ((λ below. onto (number_in world.classes name) below), (λ there. back (number_in world.classes name) there))
    where
      onto : (o : Option ℕ) → list_any (λ (above : ℕ). above == at.class.0) (option_map_or (chain_of world) o []) ≡ true → slice_get (option_map_or (slots_of world) o []) at.slot ≡ Some field
      onto None below = absurd cc
      onto (Some low) below = slots_end world linked low at.class.0 at.slot field below is.there

      back : (o : Option ℕ) → slice_get (option_map_or (slots_of world) o []) at.slot ≡ Some field → list_any (λ (above : ℕ). above == at.class.0) (option_map_or (chain_of world) o []) ≡ true
      back None there = absurd cc
      back (Some low) there = subst (λ (n : ℕ). is_class_below world low n ≡ true) is.declares (slot_below world linked low at.slot field there)

  pub has_slot_of_type : (at : FieldAt) (field : FieldSlot) → IsFieldAt world at field → (kind : ExactType) → (has_field_at world kind at ≡ true) ↔ (field_of_type world at.slot kind ≡ Some field)
  has_slot_of_type at field is (exact.Class name) = has_slot at field is name
  has_slot_of_type at field is (exact.Array component) = ((λ none. absurd cc), (λ none. absurd cc))

  -- a slot that the class declares
  declared_there : (slots : List FieldSlot) (class : ℕ) → declares_some slots class ≡ true → (i : ℕ) × (slot : FieldSlot) × (slice_get slots i ≡ Some slot) × (slot.class.0 ≡ class)
  declared_there [] class declares = absurd cc
  declared_there (slot ∷ slots) class declares = go (λ h. declared_there slots class h) (slot.class.0 == class) refl declares
    where
      go : (declares_some slots class ≡ true → (i : ℕ) × (s : FieldSlot) × (slice_get slots i ≡ Some s) × (s.class.0 ≡ class)) → (b : Bool) → (slot.class.0 == class) ≡ b → (b || declares_some slots class) ≡ true
          → (i : ℕ) × (s : FieldSlot) × (slice_get (slot ∷ slots) i ≡ Some s) × (s.class.0 ≡ class)
      go later true e h = (zero, slot, refl, eqb-true slot.class.0 class e)
      go later false e h = let more = later h in (suc more.0, more.1, more.2, more.3)

  declares_there : (slots : List FieldSlot) (class i : ℕ) (slot : FieldSlot) → slice_get slots i ≡ Some slot → slot.class.0 ≡ class → declares_some slots class ≡ true
  declares_there [] class i slot at is = absurd cc
  declares_there (x ∷ xs) class zero slot at is = ap (λ (b : Bool). b || declares_some xs class) (eq-eqb x.class.0 class (ap (λ (s : FieldSlot). s.class.0) (same_Some x slot at) ∙ is))
  declares_there (x ∷ xs) class (suc i) slot at is = or_true (x.class.0 == class) (declares_some xs class) (declares_there xs class i slot at is)
    where
      or_true : (a b : Bool) → b ≡ true → (a || b) ≡ true
      or_true true b e = refl
      or_true false b e = e

  pub most_is : (at : FieldAt) → IsMost world at (most_below world (length world.classes) at.class.0)
  most_is at = record { least = least (have_most world (length world.classes)); some = some (have_most world (length world.classes)) }
    where
      most : ℕ → ℕ
      most class = most_below world (length world.classes) class

      least : HaveMost world (length world.classes) most → (field : FieldSlot) → IsFieldAt world at field → (name : List ℕ) → is_below world name at.class.0 ≡ true → length (slots_of_class world name) ≤ most at.class.0
      least are field is name below = go (number_in world.classes name) refl (is_in_slots (has_slot at field is name) below)
        where
          is_in_slots : (is_below world name at.class.0 ≡ true) ↔ (slice_get (slots_of_class world name) at.slot ≡ Some field) → is_below world name at.class.0 ≡ true → slice_get (slots_of_class world name) at.slot ≡ Some field
          is_in_slots both below = both.0 below

          go : (o : Option ℕ) → number_in world.classes name ≡ o → slice_get (option_map_or (slots_of world) o []) at.slot ≡ Some field → length (option_map_or (slots_of world) o []) ≤ most at.class.0
          go None none there = absurd cc
          go (Some low) at_low there =
              are.each low at.class.0 (number_inside world.classes name low at_low) (declares_there (slots_of world low) at.class.0 at.slot field there is.declares)

      some : HaveMost world (length world.classes) most → (field : FieldSlot) → IsFieldAt world at field → (name : List ℕ) × (is_below world name at.class.0 ≡ true) × (length (slots_of_class world name) ≡ most at.class.0)
      some are field is = elim (are.some at.class.0) [
        | inl none ↦ absurd (never (slots_of world at.class.0) at.slot field is.there (let some = are.each at.class.0 at.class.0 is.inside (declares_there (slots_of world at.class.0) at.class.0 at.slot field is.there is.declares) in omega (arith, some, none)))
        | inr low ↦ named low.0 low.1 low.2 low.3
      ]
        where
          never : (slots : List FieldSlot) (i : ℕ) (slot : FieldSlot) → slice_get slots i ≡ Some slot → length slots ≤ 0 → ⊥
          never [] i slot at h = cc
          never (x ∷ xs) i slot at h = omega (arith, h)

          named : (low : ℕ) → low < length world.classes → declares_some (slots_of world low) at.class.0 ≡ true → length (slots_of world low) ≡ most at.class.0
              → (name : List ℕ) × (is_below world name at.class.0 ≡ true) × (length (slots_of_class world name) ≡ most at.class.0)
          named low inside declares many =
              let class = there_below world.classes low inside in
              let name : List ℕ = class.0.name in
              let number : number_in world.classes name ≡ Some low = number_of_name world.classes linked.names low name (slice_get-map name_of world.classes low ∙ ap (λ (o : Option Class). option_map name_of o) class.1) in
              let slot = declared_there (slots_of world low) at.class.0 declares in
              let below : is_class_below world low at.class.0 ≡ true = subst (λ (n : ℕ). is_class_below world low n ≡ true) slot.3 (slot_below world linked low slot.0 slot.1 slot.2) in
              (name, ap (λ (o : Option ℕ). list_any (λ (above : ℕ). above == at.class.0) (option_map_or (chain_of world) o [])) number ∙ below, ap (λ (o : Option ℕ). length (option_map_or (slots_of world) o [])) number ∙ many)

-- ---- kinds that have two fields

module _ (world : World) (links : 0 < length world.classes → IsLinked world) where
  linked_at : (name : List ℕ) (low : ℕ) → number_in world.classes name ≡ Some low → IsLinked world
  linked_at name low is = links (let inside : low < length world.classes = number_inside world.classes name low is in omega (arith, inside))

  -- an object that has a field of the lower class has one of the upper class too
  pub has_both : (kind : ExactType) (lower upper : FieldAt) → is_class_below world lower.class.0 upper.class.0 ≡ true → has_field_at world kind lower ≡ true → has_field_at world kind upper ≡ true
  has_both (exact.Array component) lower upper below has = absurd cc
  has_both (exact.Class name) lower upper below has = go (number_in world.classes name) refl has
    where
      go : (o : Option ℕ) → number_in world.classes name ≡ o → list_any (λ (above : ℕ). above == lower.class.0) (option_map_or (chain_of world) o []) ≡ true
          → list_any (λ (above : ℕ). above == upper.class.0) (option_map_or (chain_of world) o []) ≡ true
      go None is has = absurd cc
      go (Some low) is has = below_through world (linked_at name low is) low lower.class.0 upper.class.0 has below

  -- the class of a field that an object has is there
  pub class_there : (kind : ExactType) (field : FieldAt) → has_field_at world kind field ≡ true → field.class.0 < length world.classes
  class_there (exact.Array component) field has = absurd cc
  class_there (exact.Class name) field has = go (number_in world.classes name) refl has
    where
      inside : (linked : IsLinked world) (high : ℕ) → is_class_below world high high ≡ true → (b : Bool) → nat_lt high (length world.classes) ≡ b → high < length world.classes
      inside linked high itself true e = ltb-true high (length world.classes) e
      inside linked high itself false e = absurd (true≢false (sym itself ∙ none_above world linked high high (ltb-false high (length world.classes) e)))

      go : (o : Option ℕ) → number_in world.classes name ≡ o → list_any (λ (above : ℕ). above == field.class.0) (option_map_or (chain_of world) o []) ≡ true → field.class.0 < length world.classes
      go None is has = absurd cc
      go (Some low) is has =
          let linked = linked_at name low is in
          inside linked field.class.0 (ends_with world linked low field.class.0 has).itself (nat_lt field.class.0 (length world.classes)) refl

  -- and where an object has both, the class of one is below the other's
  pub one_of_both : (kind : ExactType) (one other : FieldAt) → has_field_at world kind one ≡ true → has_field_at world kind other ≡ true
      → (is_class_below world one.class.0 other.class.0 ≡ true) ⊎ (is_class_below world other.class.0 one.class.0 ≡ true)
  one_of_both (exact.Array component) one other p q = absurd cc
  one_of_both (exact.Class name) one other p q = go (number_in world.classes name) refl p q
    where
      go : (o : Option ℕ) → number_in world.classes name ≡ o → list_any (λ (above : ℕ). above == one.class.0) (option_map_or (chain_of world) o []) ≡ true
          → list_any (λ (above : ℕ). above == other.class.0) (option_map_or (chain_of world) o []) ≡ true
          → (is_class_below world one.class.0 other.class.0 ≡ true) ⊎ (is_class_below world other.class.0 one.class.0 ≡ true)
      go None is p q = absurd cc
      go (Some low) is p q = one_below world (linked_at name low is) low one.class.0 other.class.0 p q
