-- The slots of a class begin with those of each class above it (JVMS 8 section 2.7), so a field that is resolved has its slot
-- in each object of the class that declares it, or of one below. A slot is of a type that slots have.
use Rattle.std.proofs.Common.{◌≡◌, ℕ, zero, suc, ◌+◌, ◌≤◌, ◌⊎◌, inl, inr, Bool, true, false, not, ◌||◌, cond, nat_eq, List, [], ◌∷◌, ◌++◌, length, map, filter, reverse, Option, Some, None, slice_get, refl, sym, ap, ◌∙◌, arith}
use Rattle.std.specs.List.{AllByRecursion, flat_map, list_any}
use Rattle.std.specs.Option.{option_map, option_map_or}
use Rattle.std.proofs.lemmas.Bool.{and_parts, eqb-true}
use Rattle.std.proofs.lemmas.List.{get_or_past, reverse-append}
use Rattle.std.proofs.lemmas.List.Concat.{flat_map-append}
use Rattle.std.proofs.lemmas.Option.{none-some, option_and_then_some, same_Some, slice_get_cases, slice_get_within}
use Rattle.kb_class.specs.Class.{Class, Sought}
use Rattle.kb_class.specs.declared.members.FieldInfo.{FieldInfo}
use Rattle.kb_class.specs.declared.members.MemberKind.{MemberKind}
use Rattle.kb_class.specs.declared.members.MemberKind.TheVariants as kinds
use Rattle.kb_class.specs.Members.{is_static}
use Rattle.kb_classes.proofs.SlotLaws.{numbered_behind}
use Rattle.kb_link.specs.Links.{IsLinked}
use Rattle.kb_classes.specs.Slots.{Declared, has_slot, has_slot_type, numbered, own_slots_at, own_slots_there, slot_of, slots_among, slots_of}
use Rattle.kb_classes.specs.Subtypes.{IsChain}
use Rattle.kb_classes.specs.World.{World, chain_of, number_in, parent_in}
use Rattle.kb_classes.specs.declared.slots.FieldSlot.{FieldSlot}
use Rattle.kb_names.specs.declared.types.ExactType.{ExactType}
use Rattle.kb_names.specs.declared.types.ExactType.TheVariants as exact
use Rattle.kb_names.specs.declared.types.JType.{JType}
use Rattle.kb_semantics.specs.Instructions.{has_field}
use Rattle.kb_semantics.specs.Values.{slots_of_class}
use Rattle.kb_resolution.specs.Lookup.{class_of_sought, is_slot, resolved_field, slot_among, slot_in_class, slot_of_sought, sought_at}
use Rattle.kb_picture.specs.Queries.{slot_of_class}
use Rattle.kb_picture.specs.WellFormed.{HasSlot}

-- ---- lists

pub get_front : {A : Type 0} (xs ys : List A) (i : ℕ) (x : A) → slice_get xs i ≡ Some x → slice_get (xs ++ ys) i ≡ Some x
get_front [] ys i x at = absurd cc
get_front (y ∷ xs) ys zero x at = at
get_front (y ∷ xs) ys (suc i) x at = get_front xs ys i x at

pub all_joined : {A : Type 0} (P : A → Type 0) (xs ys : List A) → AllByRecursion P xs → AllByRecursion P ys → AllByRecursion P (xs ++ ys)
all_joined P [] ys one other = other
all_joined P (x ∷ xs) ys one other = (one.0, all_joined P xs ys one.1 other)

-- a number of a list is its first one, or a later one
first_or_later : (high low : ℕ) (rest : List ℕ) → list_any (nat_eq high) (low ∷ rest) ≡ true → (high ≡ low) ⊎ (list_any (nat_eq high) rest ≡ true)
first_or_later high low rest there = go (nat_eq high low) refl there where
  go : (b : Bool) → nat_eq high low ≡ b → (b || list_any (nat_eq high) rest) ≡ true → (high ≡ low) ⊎ (list_any (nat_eq high) rest ≡ true)
  go true same e = inl (eqb-true high low same)
  go false other e = inr e

none_in : (high : ℕ) (numbers : List ℕ) → length numbers ≤ 0 → list_any (nat_eq high) numbers ≡ true → ⊥
none_in high [] short there = absurd cc
none_in high (number ∷ numbers) short there = absurd (omega (arith, short))

-- ---- chains

pub record EndsWith (chain tail : List ℕ) : Type 0 where
  pub before : List ℕ
  pub parts : chain ≡ before ++ tail

module _ (world : World) (linked : IsLinked world) where
  -- the class of the second number is the one of the first, or stands above it
  abbrev pub IsBelow : ℕ → ℕ → Type 0
  IsBelow low high = list_any (nat_eq high) (chain_of world low) ≡ true

  itself : (low high : ℕ) → high ≡ low → EndsWith (chain_of world low) (chain_of world high)
  itself low high same = record { before = []; parts = ap (chain_of world) (sym same) }

  -- the chain of a class ends with that of each class on it
  chain_ends : (most low high : ℕ) → length (chain_of world low) ≤ most → IsBelow low high → EndsWith (chain_of world low) (chain_of world high)
  chain_ends zero low high short below = absurd (none_in high (chain_of world low) short below)
  chain_ends (suc most) low high short below = at_class (λ next shorter there. chain_ends most next high shorter there) (slice_get world.classes low) refl where
    no_chain : slice_get world.classes low ≡ None → chain_of world low ≡ []
    no_chain none = elim (slice_get_cases world.classes low).1 [
      | inl h ↦ absurd (none-some h.0 (sym none ∙ h.2))
      | inr h ↦ (let outside : length world.chains ≤ low = omega (arith, h.0, linked.chains.len) in get_or_past world.chains low [] outside)
    ]

    at_parent : ((next : ℕ) → length (chain_of world next) ≤ most → IsBelow next high → EndsWith (chain_of world next) (chain_of world high)) → (parent : Option ℕ)
        → IsChain world.chains low parent (chain_of world low) → EndsWith (chain_of world low) (chain_of world high)
    at_parent again None chain =
        elim (first_or_later high low [] (sym (ap (λ (l : List ℕ). list_any (nat_eq high) l) chain) ∙ below)) [
          | inl same ↦ itself low high same
          | inr later ↦ (let never : false ≡ true = later in absurd cc)
        ]
    at_parent again (Some parent) chain =
        elim (first_or_later high low (chain_of world parent) (sym (ap (λ (l : List ℕ). list_any (nat_eq high) l) chain) ∙ below)) [
          | inl same ↦ itself low high same
          | inr later ↦ (
              let longer : length (chain_of world low) ≡ suc (length (chain_of world parent)) = ap (λ (l : List ℕ). length l) chain in
              let more = again parent (omega (arith, short, longer)) later in
              record { before = low ∷ more.before; parts = chain ∙ ap (λ (l : List ℕ). low ∷ l) more.parts })
        ]

    at_class : ((next : ℕ) → length (chain_of world next) ≤ most → IsBelow next high → EndsWith (chain_of world next) (chain_of world high)) → (class : Option Class)
        → slice_get world.classes low ≡ class → EndsWith (chain_of world low) (chain_of world high)
    at_class again None none =
        let never : false ≡ true = sym (ap (λ (l : List ℕ). list_any (nat_eq high) l) (no_chain none)) ∙ below in
        absurd cc
    at_class again (Some class) there = at_parent again (parent_in world.classes class) (linked.chains.each low class there)

  -- ---- slots

  -- each slot of a class is one of each class below it
  slots_end : (low high i : ℕ) (slot : FieldSlot) → IsBelow low high → slice_get (slots_of world high) i ≡ Some slot → slice_get (slots_of world low) i ≡ Some slot
  slots_end low high i slot below at =
      let ends = chain_ends (length (chain_of world low)) low high (omega arith) below in
      let first : List Declared = flat_map (own_slots_at world.classes) (reverse (chain_of world high)) in
      let more : List Declared = flat_map (own_slots_at world.classes) (reverse ends.before) in
      let whole : flat_map (own_slots_at world.classes) (reverse (chain_of world low)) ≡ first ++ more =
      ap (λ (chain : List ℕ). flat_map (own_slots_at world.classes) (reverse chain)) ends.parts
      ∙ (ap (λ (chain : List ℕ). flat_map (own_slots_at world.classes) chain) (reverse-append ends.before (chain_of world high))
      ∙ flat_map-append (own_slots_at world.classes) (reverse (chain_of world high)) (reverse ends.before)) in
      ap (λ (all : List Declared). slice_get (numbered 0 all) i) whole ∙ ap (λ (slots : List FieldSlot). slice_get slots i) (numbered_behind 0 first more)
      ∙ get_front (numbered 0 first) (numbered (0 + length first) more) i slot at

  -- an object of a class that has the field has its slot
  pub slot_there : (name : List ℕ) (field : FieldSlot) → slice_get (slots_of world field.class.0) field.slot ≡ Some field → has_field world (exact.Class name) field ≡ true
      → slice_get (slots_of_class world name) field.slot ≡ Some field
  slot_there name field declared has = go (number_in world.classes name) has where
    go : (number : Option ℕ) → list_any (nat_eq field.class.0) (option_map_or (chain_of world) number []) ≡ true
        → slice_get (option_map_or (slots_of world) number []) field.slot ≡ Some field
    go None below = absurd cc
    go (Some number) below = slots_end number field.class.0 field.slot field below declared

  -- and no array has one
  pub slot_in : (kind : ExactType) (field : FieldSlot) → slice_get (slots_of world field.class.0) field.slot ≡ Some field → has_field world kind field ≡ true
      → (slot_of_class world field.slot kind ≡ Some field.kind) × HasSlot world kind field.slot
  slot_in (exact.Class name) field declared has =
      let there : slice_get (slots_of_class world name) field.slot ≡ Some field = slot_there name field declared has in
      (ap (option_map (λ (slot : FieldSlot). slot.kind)) there, slice_get_within (slots_of_class world name) field.slot field there)
  slot_in (exact.Array component) field declared has = absurd cc

-- ---- a field that is resolved

numbered_slot : (first : ℕ) (all : List Declared) (i : ℕ) (slot : FieldSlot) → slice_get (numbered first all) i ≡ Some slot → slot.slot ≡ first + i
numbered_slot first [] i slot at = absurd cc
numbered_slot first (x ∷ xs) zero slot at = (let sum : first ≡ first + 0 = omega arith in sym (ap (λ (s : FieldSlot). s.slot) (same_Some (slot_of first x) slot at)) ∙ sum)
numbered_slot first (x ∷ xs) (suc i) slot at = (let sum : suc first + i ≡ first + suc i = omega arith in numbered_slot (suc first) xs i slot at ∙ sum)

-- the slot is found among these, and is one that the class declares
pub record IsAmong (class : ℕ) (slots : List FieldSlot) (slot : FieldSlot) : Type 0 where
  pub place : ℕ
  pub at : slice_get slots place ≡ Some slot
  pub of : slot.class.0 ≡ class

among_found : (class : ℕ) (name : List ℕ) (type : JType) (slots : List FieldSlot) (slot : FieldSlot) → slot_among class name type slots ≡ Some slot → IsAmong class slots slot
among_found class name type [] slot e = absurd (none-some slot e)
among_found class name type (first ∷ slots) slot e = go (λ (g : slot_among class name type slots ≡ Some slot). among_found class name type slots slot g) (is_slot class name type first) refl e
  where
    go : (slot_among class name type slots ≡ Some slot → IsAmong class slots slot) → (b : Bool) → is_slot class name type first ≡ b
        → cond b (Some first) (slot_among class name type slots) ≡ Some slot → IsAmong class (first ∷ slots) slot
    go again true is g =
        let declared : first.class.0 ≡ class = eqb-true first.class.0 class (and_parts _ _ (and_parts _ _ is).0).0 in
        record { place = zero; at = g; of = sym (ap (λ (s : FieldSlot). s.class.0) (same_Some first slot g)) ∙ declared }
    go again false is g = let found = again g in record { place = suc found.place; at = found.at; of = found.of }

slot_at : (world : World) (class : ℕ) (field : FieldSlot) → IsAmong class (slots_of world class) field → slice_get (slots_of world field.class.0) field.slot ≡ Some field
slot_at world class field found =
    let none : 0 + found.place ≡ found.place = omega arith in
    let number : field.slot ≡ found.place = numbered_slot 0 (flat_map (own_slots_at world.classes) (reverse (chain_of world class))) found.place field found.at ∙ none in
    ap (λ (n : ℕ). slice_get (slots_of world n) field.slot) found.of ∙ ap (slice_get (slots_of world class)) number ∙ found.at

-- a field that is resolved has its slot among those of the class that declares it
pub resolved_at : (world : World) (class entry : ℕ) (field : FieldSlot) → resolved_field world class entry ≡ Some field → slice_get (slots_of world field.class.0) field.slot ≡ Some field
resolved_at world class entry field is = option_and_then_some (slot_of_sought world) (sought_at world class entry) field is (λ sought at found. in_sought sought found) where
  in_class : (number : ℕ) (name : List ℕ) (kind : MemberKind) → slot_in_class world name kind number ≡ Some field → slice_get (slots_of world field.class.0) field.slot ≡ Some field
  in_class number name (kinds.Field type) found = slot_at world number field (among_found number name type (slots_of world number) field found)
  in_class number name (kinds.Method kind) found = absurd (none-some field found)

  in_sought : (sought : Sought) → slot_of_sought world sought ≡ Some field → slice_get (slots_of world field.class.0) field.slot ≡ Some field
  in_sought sought found =
      option_and_then_some (slot_in_class world sought.member.name sought.member.kind) (class_of_sought world sought) field found
      (λ number there slot. in_class number sought.member.name sought.member.kind slot)

-- ---- types of slots

abbrev IsTyped : Declared → Type 0
IsTyped declared = has_slot_type declared.field.kind ≡ true

typed_among : (number : ℕ) (fields : List FieldInfo) → AllByRecursion IsTyped (slots_among number fields)
typed_among number [] = tt
typed_among number (field ∷ fields) = go (has_slot field) refl (typed_among number fields) where
  go : (b : Bool) → has_slot field ≡ b → AllByRecursion IsTyped (slots_among number fields)
      → AllByRecursion IsTyped (map (λ (it : FieldInfo). record { class = number; field = it }) (cond b (field ∷ filter has_slot fields) (filter has_slot fields)))
  go false is rest = rest
  go true is rest = ((and_parts (not (is_static field.access)) (has_slot_type field.kind) is).1, rest)

typed_along : (classes : List Class) (numbers : List ℕ) → AllByRecursion IsTyped (flat_map (own_slots_at classes) numbers)
typed_along classes [] = tt
typed_along classes (number ∷ numbers) =
    all_joined IsTyped (own_slots_at classes number) (flat_map (own_slots_at classes) numbers) (own (slice_get classes number)) (typed_along classes numbers)
  where
    own : (class : Option Class) → AllByRecursion IsTyped (own_slots_there number class)
    own None = tt
    own (Some class) = typed_among number class.fields

typed_at : (first : ℕ) (all : List Declared) (i : ℕ) (slot : FieldSlot) → AllByRecursion IsTyped all → slice_get (numbered first all) i ≡ Some slot → has_slot_type slot.kind ≡ true
typed_at first [] i slot typed at = absurd cc
typed_at first (x ∷ xs) zero slot typed at = sym (ap (λ (s : FieldSlot). has_slot_type s.kind) (same_Some (slot_of first x) slot at)) ∙ typed.0
typed_at first (x ∷ xs) (suc i) slot typed at = typed_at (suc first) xs i slot typed.1 at

pub slot_typed : (world : World) (number i : ℕ) (slot : FieldSlot) → slice_get (slots_of world number) i ≡ Some slot → has_slot_type slot.kind ≡ true
slot_typed world number i slot at =
    typed_at 0 (flat_map (own_slots_at world.classes) (reverse (chain_of world number))) i slot (typed_along world.classes (reverse (chain_of world number))) at
