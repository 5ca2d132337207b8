-- What the members that entries name stand for.
use Rattle.std.proofs.Common.{◌≡◌, ◌<◌, ℕ, inl, inr, Bool, false, true, true≢false, List, length, Option, Some, None, IfSome, slice_get, refl, sym, ap, subst, ◌∙◌}
use Rattle.std.specs.HashMap.{HashMap}
use Rattle.std.specs.Option.{option_and_then}
use Rattle.std.proofs.lemmas.Option.{none-some, same_Some, slice_get_cases}
use Rattle.kb_names.specs.declared.types.ExactType.{ExactType}
use Rattle.kb_names.specs.declared.types.ExactType.TheVariants as exact
use Rattle.kb_names.specs.declared.types.JType.{JType}
use Rattle.kb_names.specs.declared.types.MethodType.{MethodType}
use Rattle.kb_class.specs.Class.{Class, Sought, reference_of_entry}
use Rattle.kb_class.specs.declared.entries.ReferenceKind.{ReferenceKind}
use Rattle.kb_class.specs.declared.entries.ReferenceKind.TheVariants as references
use Rattle.kb_class.specs.declared.members.MemberKind.{MemberKind}
use Rattle.kb_class.specs.declared.members.MemberKind.TheVariants as kinds
use Rattle.kb_numbers.specs.declared.numbering.Numbers.{Numbers}
use Rattle.kb_numbers.specs.declared.pairs.EntryNumbers.{EntryNumbers}
use Rattle.kb_numbers.specs.declared.pairs.Pair.{Pair}
use Rattle.kb_numbers.specs.Members.{entry_named}
use Rattle.kb_numbers.specs.Numbers.{AreNumbered, Names, StandsFor as PairStandsFor}
use Rattle.kb_numbers.proofs.MemberLaws.{entry_there}
use Rattle.kb_link.specs.Links.{IsLinked}
use Rattle.kb_classes.specs.Slots.{slots_of}
use Rattle.kb_classes.specs.World.{World}
use Rattle.kb_resolution.specs.LeftOut.{has_left_out}
use Rattle.kb_resolution.specs.Lookup.{class_of, class_of_field, field_class, if_class, resolved_in, slot_in_class, sought_at, special_for}
use Rattle.kb_resolution.specs.Tables.{HaveSlotTables, StandsFor, is_proper, slot_place}
use Rattle.kb_resolution.specs.declared.resolved.Resolved.{Resolved}
use Rattle.kb_resolution.proofs.FieldLaws.{slot_there}
use Rattle.kb_resolution.proofs.MethodLaws.{sought_inside}

-- the numbers have what an entry names
pub named_there : (world : World) (numbers : Numbers) → AreNumbered world.classes numbers → (class entry : ℕ) (sought : Sought) → sought_at world class entry ≡ Some sought
    → (told : Option EntryNumbers) → told ≡ entry_named numbers.classes.items class entry → (named : EntryNumbers) × (told ≡ Some named) × Names numbers.texts named sought
named_there world numbers are class entry sought at told is =
    elim (slice_get_cases world.classes class).1 [
      | inl h ↦ of h.0 h.2
      | inr h ↦ absurd (none-some sought (sym (ap (λ (o : Option Class). option_and_then (λ (c : Class). reference_of_entry (slice_get c.entries entry)) o) h.1) ∙ at))
    ]
  where
    of : (c : Class) → slice_get world.classes class ≡ Some c → (named : EntryNumbers) × (told ≡ Some named) × Names numbers.texts named sought
    of c there =
        let here : reference_of_entry (slice_get c.entries entry) ≡ Some sought =
        sym (ap (λ (o : Option Class). option_and_then (λ (k : Class). reference_of_entry (slice_get k.entries entry)) o) there) ∙ at in
        let found = entry_there world.classes numbers are class c there entry sought here in
        (found.0, is ∙ found.1, found.2)

-- of that very entry
pub names_told : (world : World) (numbers : Numbers) → AreNumbered world.classes numbers → (class entry : ℕ) (sought : Sought) → sought_at world class entry ≡ Some sought
    → (named : EntryNumbers) → Some named ≡ entry_named numbers.classes.items class entry → Names numbers.texts named sought
names_told world numbers are class entry sought at named is =
    let found = named_there world numbers are class entry sought at (Some named) is in
    let same : found.0 ≡ named = sym (same_Some named found.0 found.1) in
    subst (λ (n : EntryNumbers). Names numbers.texts n sought) same found.2

pub not_unnamed : (world : World) (numbers : Numbers) → AreNumbered world.classes numbers → (class entry : ℕ) (sought : Sought) → sought_at world class entry ≡ Some sought
    → None ≡ entry_named numbers.classes.items class entry → ⊥
not_unnamed world numbers are class entry sought at is =
    let found = named_there world numbers are class entry sought at None is in
    none-some found.0 found.1

-- the class in which members are sought is one of the world
pub class_inside : (world : World) (type : ExactType) (number : Option ℕ) → number ≡ class_of world type → IfSome number (λ class. class < length world.classes)
class_inside world type None is = tt
class_inside world type (Some number) is = sought_inside world type number (sym is)

-- a field that is sought in a class
pub field_in_class : (world : World) (of : ExactType) (class : List ℕ) (name : List ℕ) (type : JType) (number : Option ℕ) → of ≡ exact.Class class → number ≡ class_of world of
    → option_and_then (λ (n : ℕ). field_class world n name type) number ≡ class_of_field world references.Field of name (kinds.Field type)
field_in_class world of class name type number is at =
    ap (λ (o : Option ℕ). option_and_then (λ (n : ℕ). field_class world n name type) o) (at ∙ ap (class_of world) is)
    ∙ sym (ap (λ (t : ExactType). class_of_field world references.Field t name (kinds.Field type)) is)

module _ (world : World) (current : ℕ) (what : ReferenceKind) (class : ExactType) (name : List ℕ) (kind : MemberKind) where
  abbrev sought : Sought
  sought = record { what = what; class = class; member = record { name = name; kind = kind } }

  -- ---- fields

  module _ (type : JType) (told : Resolved) (numbers : Numbers) (pair : Pair) (stands : PairStandsFor numbers.texts pair name (kinds.Field type)) where
    slot_of_field : {S : Type 0} (are : AreNumbered world.classes numbers) (linked : IsLinked world) (tables : List (HashMap Pair ℕ S)) → HaveSlotTables world numbers.classes.items tables
        → (declaring slot : Option ℕ) → slot ≡ option_and_then (λ (c : ℕ). slot_place tables c pair) declaring
        → option_and_then (λ (c : ℕ). option_and_then (slice_get (slots_of world c)) slot) declaring ≡ option_and_then (slot_in_class world name (kinds.Field type)) declaring
    slot_of_field are linked tables have None slot is = refl
    slot_of_field are linked tables have (Some c) slot is = slot_there world numbers are c pair name type stands tables have linked slot is

    field_told : {S : Type 0} (are : AreNumbered world.classes numbers) (linked : IsLinked world) (tables : List (HashMap Pair ℕ S)) → HaveSlotTables world numbers.classes.items tables
        → told.declaring ≡ class_of_field world references.Field class name (kinds.Field type) → told.slot ≡ option_and_then (λ (c : ℕ). slot_place tables c pair) told.declaring
        → (told.method ≡ None) × (told.special ≡ None) × (told.left_out ≡ false) × (told.owner ≡ None)
        → StandsFor world current (record { what = references.Field; class = class; member = record { name = name; kind = kinds.Field type } }) told
    field_told are linked tables have declaring slot others = record {
      is_declaring = declaring;
      is_slot = slot_of_field are linked tables have told.declaring told.slot slot ∙ ap (λ (o : Option ℕ). option_and_then (slot_in_class world name (kinds.Field type)) o) declaring;
      is_method = others.0;
      is_special = others.1;
      is_left_out = others.2;
      is_owner = others.3;
    }

    -- what a field stands for
    pub field_stands : {S : Type 0} (are : AreNumbered world.classes numbers) (linked : IsLinked world) (tables : List (HashMap Pair ℕ S)) → HaveSlotTables world numbers.classes.items tables
        → kind ≡ kinds.Field type → is_proper what kind ≡ true
        → told.declaring ≡ class_of_field world references.Field class name (kinds.Field type) → told.slot ≡ option_and_then (λ (c : ℕ). slot_place tables c pair) told.declaring
        → (told.method ≡ None) × (told.special ≡ None) × (told.left_out ≡ false) × (told.owner ≡ None) → StandsFor world current sought told
    field_stands are linked tables have is proper declaring slot others =
        subst (λ (k : MemberKind). StandsFor world current (record { what = what; class = class; member = record { name = name; kind = k } }) told) (sym is)
        (go what (sym (ap (is_proper what) is) ∙ proper))
      where
        go : (w : ReferenceKind) → is_proper w (kinds.Field type) ≡ true → StandsFor world current (record { what = w; class = class; member = record { name = name; kind = kinds.Field type } }) told
        go references.Field e = field_told are linked tables have declaring slot others
        go references.Method e = absurd (true≢false (sym e))
        go references.InterfaceMethod e = absurd (true≢false (sym e))

  -- ---- methods

  module _ (type : MethodType) (number owner : Option ℕ) (left_out : Bool) (of : number ≡ class_of world class) (by : owner ≡ if_class class number) (out : left_out ≡ has_left_out type) where
    abbrev found : Resolved
    found = record {
      declaring = None;
      slot = None;
      method = option_and_then (resolved_in world name type) number;
      special = option_and_then (special_for world current name type) number;
      left_out = left_out;
      owner = owner;
    }

    method_told : (w : ReferenceKind) → is_proper w (kinds.Method type) ≡ true → StandsFor world current (record { what = w; class = class; member = record { name = name; kind = kinds.Method type } }) found
    method_told references.Field e = absurd (true≢false (sym e))
    method_told references.Method e = record {
      is_declaring = refl;
      is_slot = refl;
      is_method = ap (λ (o : Option ℕ). option_and_then (resolved_in world name type) o) of;
      is_special = ap (λ (o : Option ℕ). option_and_then (special_for world current name type) o) of;
      is_left_out = out;
      is_owner = by ∙ ap (if_class class) of;
    }
    method_told references.InterfaceMethod e = record {
      is_declaring = refl;
      is_slot = refl;
      is_method = ap (λ (o : Option ℕ). option_and_then (resolved_in world name type) o) of;
      is_special = ap (λ (o : Option ℕ). option_and_then (special_for world current name type) o) of;
      is_left_out = out;
      is_owner = by ∙ ap (if_class class) of;
    }

    -- what a method stands for
    pub method_stands : (told : Resolved) → told ≡ found → kind ≡ kinds.Method type → is_proper what kind ≡ true → StandsFor world current sought told
    method_stands told same is proper =
        subst (λ (k : MemberKind). StandsFor world current (record { what = what; class = class; member = record { name = name; kind = k } }) told) (sym is)
        (subst (λ (t : Resolved). StandsFor world current (record { what = what; class = class; member = record { name = name; kind = kinds.Method type } }) t) (sym same)
        (method_told what (sym (ap (is_proper what) is) ∙ proper)))
