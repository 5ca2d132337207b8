-- Fields and slots by the pairs of names and types.
use Rattle.std.proofs.Common.{◌≡◌, ℕ, suc, ◌+◌, ◌<◌, ◌≤◌, inl, inr, Bool, true, false, ◌&&◌, ◌==◌, List, [], ◌∷◌, ◌++◌, length, reverse, Option, Some, None, slice_get, is_some, if◌then◌else◌, refl, sym, ap, subst, ◌∙◌, arith}
use Rattle.std.specs.HashMap.{HashMap}
use Rattle.std.specs.List.{AllZip, flat_map, list_any}
use Rattle.std.specs.Option.{option_and_then}
use Rattle.std.specs.Str.{bytes_eq}
use Rattle.std.proofs.lemmas.Bool.Decides.{Decides-eqb}
use Rattle.std.proofs.lemmas.List.{get_or_past}
use Rattle.std.proofs.lemmas.Option.{slice_get_cases, slice_get_past}
use Rattle.std.proofs.lemmas.Slice.Eq.{bytes_eq-Decides}
use Rattle.kb_names.specs.declared.types.JType.{JType}
use Rattle.kb_class.specs.Class.{Class}
use Rattle.kb_class.specs.declared.members.FieldInfo.{FieldInfo}
use Rattle.kb_class.specs.declared.members.MemberKind.TheVariants as kinds
use Rattle.kb_numbers.specs.declared.numbering.Numbers.{Numbers}
use Rattle.kb_numbers.specs.declared.pairs.Pair.{Pair}
use Rattle.kb_numbers.specs.Members.{MemberNumbers, field_place, fields_at, own_fields}
use Rattle.kb_numbers.specs.Numbers.{AreNumbered, IsFieldPair, StandsFor}
use Rattle.kb_numbers.specs.Pairs.{is_pair, place_told}
use Rattle.kb_numbers.proofs.MemberLaws.{field_is, field_same, fields_beside, fields_here, own_numbers}
use Rattle.kb_numbers.proofs.NumberLaws.{field_type, same_member, same_pair}
use Rattle.kb_numbers.proofs.PlaceLaws.{place_beside}
use Rattle.kb_numbers.proofs.ZipLaws.{zip_as, zip_both}
use Rattle.kb_classes.specs.declared.slots.FieldSlot.{FieldSlot}
use Rattle.kb_link.specs.Links.{IsLinked}
use Rattle.kb_link.specs.Members.{is_field, place_where, same_type}
use Rattle.kb_classes.specs.Slots.{Declared, has_slot, slots_among, own_slots_at, own_slots_there, numbered, slots_along, slots_of}
use Rattle.kb_classes.specs.World.{World, chain_of}
use Rattle.kb_link.proofs.MemberNames.{and_true, both_true, type_is, type_self}
use Rattle.kb_classes.proofs.SlotLaws.{numbered_behind}
use Rattle.kb_classes.proofs.Walks.{same_test}
use Rattle.kb_resolution.specs.Lookup.{only_where, declaring, is_slot, slot_among}
use Rattle.kb_resolution.specs.Tables.{own_keys, keys_there, keys_at, keys_along, is_key, HaveSlotTables, slot_place}
use Rattle.kb_resolution.specs.declared.tables.SlotKey.{SlotKey}
use Rattle.kb_resolution.proofs.NameLaws.{any_place, get_first}

-- ---- fields that a class declares

module _ (world : World) (numbers : Numbers) (are : AreNumbered world.classes numbers) (number : ℕ) (class : Class) (at : slice_get world.classes number ≡ Some class) (pair : Pair) (name : List ℕ) (type : JType)
    (stands : StandsFor numbers.texts pair name (kinds.Field type)) where
  same_field : (field : FieldInfo) (other : Pair) → IsFieldPair numbers.texts field other → is_field name type field ≡ is_pair other pair
  same_field field other beside = same_test (is_field name type field) (is_pair other pair) to back
    where
      to : is_field name type field ≡ true → is_pair other pair ≡ true
      to e =
          let both = both_true (bytes_eq field.name name) (same_type field.kind type) e in
          field_same world.classes numbers are number class at pair name type stands field other beside ((bytes_eq-Decides field.name name).0 both.0) (type_is field.kind type both.1)

      back : is_pair other pair ≡ true → is_field name type field ≡ true
      back e =
          let is = field_is world.classes numbers are number class at pair name type stands field other beside e in
          and_true (bytes_eq field.name name) (same_type field.kind type) ((bytes_eq-Decides field.name name).1 is.0) (sym (ap (λ (t : JType). same_type field.kind t) is.1) ∙ type_self field.kind)

  -- the class declares the field where the pair has a place there
  pub declared_at : (found : Option ℕ) → found ≡ field_place numbers.classes.items number pair → declaring world name type number ≡ only_where (is_some found) number
  declared_at found is =
      let beside = fields_beside world.classes numbers are number class at pair name type stands in
      let own = own_numbers world.classes numbers are number class at in
      let places : place_where (is_field name type) class.fields ≡ place_where (λ (other : Pair). is_pair other pair) own.own.fields =
      place_beside (is_field name type) (λ (other : Pair). is_pair other pair) class.fields own.own.fields
      (zip_as (IsFieldPair numbers.texts) (λ (f : FieldInfo) (p : Pair). is_field name type f ≡ is_pair p pair) class.fields own.own.fields (λ f p h. same_field f p h) beside) in
      let told : found ≡ place_where (is_field name type) class.fields = is ∙ fields_here world.classes numbers are number class at pair name type stands ∙ sym places in
      ap (λ (o : Option Class). option_and_then (λ (c : Class). only_where (list_any (is_field name type) c.fields) number) o) at
      ∙ ap (λ (b : Bool). only_where b number) (any_place (is_field name type) class.fields ∙ ap (λ (o : Option ℕ). is_some o) (sym told))

-- the same of a number that is a class's
pub declared_within : (world : World) (numbers : Numbers) → AreNumbered world.classes numbers → (number : ℕ) → number < length world.classes → (pair : Pair) (name : List ℕ) (type : JType)
    → StandsFor numbers.texts pair name (kinds.Field type) → (found : Option ℕ) → found ≡ field_place numbers.classes.items number pair → only_where (is_some found) number ≡ declaring world name type number
declared_within world numbers are number inside pair name type stands found is =
    elim (slice_get_cases world.classes number).1 [
      | inl h ↦ sym (declared_at world numbers are number h.0 h.2 pair name type stands found is)
      | inr h ↦ absurd (let no : ⊥ = omega (arith, inside, h.0) in no)
    ]

-- no class has the number
pub undeclared : (world : World) (name : List ℕ) (type : JType) (number : ℕ) → length world.classes ≤ number → declaring world name type number ≡ None
undeclared world name type number past =
    ap (λ (o : Option Class). option_and_then (λ (c : Class). only_where (list_any (is_field name type) c.fields) number) o) (slice_get_past world.classes number past)

-- ---- slots and their keys

-- the key is that of the slot
pub record IsKeyOf (texts : List (List ℕ)) (slot : FieldSlot) (key : SlotKey) : Type 0 where
  pub of_class : key.class ≡ slot.class.0
  pub stands : StandsFor texts key.pair slot.name (kinds.Field slot.kind)

module _ (texts : List (List ℕ)) where
  own_beside : (first class : ℕ) (fields : List FieldInfo) (pairs : List Pair) → AllZip (IsFieldPair texts) fields pairs → AllZip (IsKeyOf texts) (numbered first (slots_among class fields)) (own_keys class fields pairs)
  own_beside first class [] [] each = tt
  own_beside first class [] (p ∷ pairs) each = absurd each
  own_beside first class (f ∷ fields) [] each = absurd each
  own_beside first class (f ∷ fields) (p ∷ pairs) each = go (λ n. own_beside n class fields pairs each.1) (has_slot f) refl
    where
      go : ((n : ℕ) → AllZip (IsKeyOf texts) (numbered n (slots_among class fields)) (own_keys class fields pairs)) → (b : Bool) → has_slot f ≡ b
          → AllZip (IsKeyOf texts) (numbered first (slots_among class (f ∷ fields))) (own_keys class (f ∷ fields) (p ∷ pairs))
      go rest true e =
          let slots : slots_among class (f ∷ fields) ≡ record { class = class; field = f } ∷ slots_among class fields = rw e refl in
          let keys : own_keys class (f ∷ fields) (p ∷ pairs) ≡ record { class = class; pair = p } ∷ own_keys class fields pairs =
          ap (λ (b : Bool). if b then record { class = class; pair = p } ∷ own_keys class fields pairs else own_keys class fields pairs) e in
          subst (λ (ds : List Declared). AllZip (IsKeyOf texts) (numbered first ds) (own_keys class (f ∷ fields) (p ∷ pairs))) (sym slots)
          (subst (λ (ks : List SlotKey). AllZip (IsKeyOf texts) (numbered first (record { class = class; field = f } ∷ slots_among class fields)) ks) (sym keys)
          (record { of_class = refl; stands = each.0 }, rest (suc first)))
      go rest false e =
          let slots : slots_among class (f ∷ fields) ≡ slots_among class fields = rw e refl in
          let keys : own_keys class (f ∷ fields) (p ∷ pairs) ≡ own_keys class fields pairs =
          ap (λ (b : Bool). if b then record { class = class; pair = p } ∷ own_keys class fields pairs else own_keys class fields pairs) e in
          subst (λ (ds : List Declared). AllZip (IsKeyOf texts) (numbered first ds) (own_keys class (f ∷ fields) (p ∷ pairs))) (sym slots)
          (subst (λ (ks : List SlotKey). AllZip (IsKeyOf texts) (numbered first (slots_among class fields)) ks) (sym keys) (rest first))

module _ (world : World) (numbers : Numbers) (are : AreNumbered world.classes numbers) where
  at_beside : (first class : ℕ) → AllZip (IsKeyOf numbers.texts) (numbered first (own_slots_at world.classes class)) (keys_at world.classes numbers.classes.items class)
  at_beside first class = go (slice_get world.classes class) refl
    where
      go : (o : Option Class) → slice_get world.classes class ≡ o → AllZip (IsKeyOf numbers.texts) (numbered first (own_slots_at world.classes class)) (keys_at world.classes numbers.classes.items class)
      go None at =
          subst (λ (o : Option Class). AllZip (IsKeyOf numbers.texts) (numbered first (own_slots_there class o)) (keys_there class o (fields_at numbers.classes.items class))) (sym at) tt
      go (Some of) at =
          let found = own_numbers world.classes numbers are class of at in
          let each : AllZip (IsFieldPair numbers.texts) of.fields (fields_at numbers.classes.items class) =
          subst (λ (o : Option MemberNumbers). AllZip (IsFieldPair numbers.texts) of.fields (own_fields o)) (sym found.there) found.is.numbers.each_field in
          subst (λ (o : Option Class). AllZip (IsKeyOf numbers.texts) (numbered first (own_slots_there class o)) (keys_there class o (fields_at numbers.classes.items class))) (sym at)
          (own_beside numbers.texts first class of.fields (fields_at numbers.classes.items class) each)

  all_beside : (first : ℕ) (classes : List ℕ) → AllZip (IsKeyOf numbers.texts) (numbered first (flat_map (own_slots_at world.classes) classes)) (flat_map (keys_at world.classes numbers.classes.items) classes)
  all_beside first [] = tt
  all_beside first (c ∷ classes) =
      let own : List Declared = own_slots_at world.classes c in
      let rest : List Declared = flat_map (own_slots_at world.classes) classes in
      subst (λ (slots : List FieldSlot). AllZip (IsKeyOf numbers.texts) slots (keys_at world.classes numbers.classes.items c ++ flat_map (keys_at world.classes numbers.classes.items) classes))
      (sym (numbered_behind first own rest))
      (zip_both (IsKeyOf numbers.texts) (numbered first own) (numbered (first + length own) rest) (keys_at world.classes numbers.classes.items c) (flat_map (keys_at world.classes numbers.classes.items) classes)
      (at_beside first c) (all_beside (first + length own) classes))

  -- ---- the slot of a field

  module _ (class : ℕ) (pair : Pair) (name : List ℕ) (type : JType) (stands : StandsFor numbers.texts pair name (kinds.Field type)) where
    same_slot : (slot : FieldSlot) (key : SlotKey) → IsKeyOf numbers.texts slot key → is_slot class name type slot ≡ is_key class pair key
    same_slot slot key is = same_test (is_slot class name type slot) (is_key class pair key) to back
      where
        to : is_slot class name type slot ≡ true → is_key class pair key ≡ true
        to e =
            let outer = both_true ((slot.class.0 == class) && bytes_eq slot.name name) (same_type slot.kind type) e in
            let inner = both_true (slot.class.0 == class) (bytes_eq slot.name name) outer.0 in
            let owner : key.class ≡ class = is.of_class ∙ (Decides-eqb slot.class.0 class).0 inner.0 in
            let types : kinds.Field slot.kind ≡ kinds.Field type = ap (λ (t : JType). kinds.Field t) (type_is slot.kind type outer.1) in
            and_true (key.class == class) (is_pair key.pair pair) ((Decides-eqb key.class class).1 owner)
            (same_pair numbers.texts are.distinct key.pair pair slot.name name (kinds.Field slot.kind) (kinds.Field type) is.stands stands ((bytes_eq-Decides slot.name name).0 inner.1) types)

        back : is_key class pair key ≡ true → is_slot class name type slot ≡ true
        back e =
            let both = both_true (key.class == class) (is_pair key.pair pair) e in
            let owner : slot.class.0 ≡ class = sym is.of_class ∙ (Decides-eqb key.class class).0 both.0 in
            let same = same_member numbers.texts key.pair pair slot.name name (kinds.Field slot.kind) (kinds.Field type) is.stands stands both.1 in
            let types : same_type slot.kind type ≡ true = sym (ap (λ (t : JType). same_type slot.kind t) (field_type slot.kind type same.1)) ∙ type_self slot.kind in
            and_true ((slot.class.0 == class) && bytes_eq slot.name name) (same_type slot.kind type)
            (and_true (slot.class.0 == class) (bytes_eq slot.name name) ((Decides-eqb slot.class.0 class).1 owner) ((bytes_eq-Decides slot.name name).1 same.0)) types

    among_place : (slots : List FieldSlot) → slot_among class name type slots ≡ option_and_then (slice_get slots) (place_where (is_slot class name type) slots)
    among_place [] = refl
    among_place (slot ∷ slots) =
        get_first (is_slot class name type) slot slots (is_slot class name type slot) (place_where (is_slot class name type) slots) (slot_among class name type slots) (among_place slots)

    places : place_where (is_slot class name type) (slots_of world class) ≡ place_where (is_key class pair) (keys_along world.classes numbers.classes.items (chain_of world class))
    places =
        place_beside (is_slot class name type) (is_key class pair) (slots_of world class) (keys_along world.classes numbers.classes.items (chain_of world class))
        (zip_as (IsKeyOf numbers.texts) (λ (s : FieldSlot) (k : SlotKey). is_slot class name type s ≡ is_key class pair k) (slots_of world class)
        (keys_along world.classes numbers.classes.items (chain_of world class)) (λ s k is. same_slot s k is) (all_beside 0 (reverse (chain_of world class))))

    -- the slot at the place that the tables have is that of the field
    pub slot_there : {S : Type 0} (tables : List (HashMap Pair ℕ S)) → HaveSlotTables world numbers.classes.items tables → IsLinked world → (found : Option ℕ) → found ≡ slot_place tables class pair
        → option_and_then (slice_get (slots_of world class)) found ≡ slot_among class name type (slots_of world class)
    slot_there {S = S} tables have linked found is =
        ap (λ (o : Option ℕ). option_and_then (slice_get (slots_of world class)) o) (is ∙ told) ∙ sym (among_place (slots_of world class))
      where
        none_along : length world.classes ≤ class → place_where (is_slot class name type) (slots_of world class) ≡ None
        none_along past =
            ap (λ (chain : List ℕ). place_where (is_slot class name type) (slots_along world.classes chain)) (get_or_past world.chains class [] (omega (arith, past, linked.chains.len)))

        told : slot_place tables class pair ≡ place_where (is_slot class name type) (slots_of world class)
        told = elim (slice_get_cases tables class).1 [
          | inl h ↦ ap (λ (o : Option (HashMap Pair ℕ S)). option_and_then (λ (table : HashMap Pair ℕ S). place_told table pair) o) h.2 ∙ have.each class h.0 h.2 pair ∙ sym places
          | inr h ↦ (let past : length world.classes ≤ class = omega (arith, h.0, have.len) in ap (λ (o : Option (HashMap Pair ℕ S)). option_and_then (λ (table : HashMap Pair ℕ S). place_told table pair) o) h.1 ∙ sym (none_along past))
        ]
