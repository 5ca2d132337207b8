-- The words of a line: each is that of one thing alone, and none has a space or a line feed in it.
use Rattle.std.proofs.Common.{◌≡◌, ℕ, zero, suc, ◌≤◌, Bool, true, false, List, [], ◌∷◌, ◌++◌, map, Option, Some, refl, sym, ap, ◌∙◌, arith, subst, append-nil}
use Rattle.std.specs.Prelude.{slice_get, slice_index, nat_lt, codes, option_and_then}
use Rattle.std.specs.Option.{option_map_or}
use Rattle.std.specs.Str.{bytes_eq}
use Rattle.std.specs.Fmt.{decimal}
use Rattle.std.proofs.lemmas.Option.{same_Some}
use Rattle.std.proofs.lemmas.Slice.Eq.{bytes_eq-Decides}
use Rattle.std.proofs.lemmas.Bool.Decides.{nat_tests}
use Rattle.kb_grammar.specs.Lines.{Lacks}
use Rattle.kb_grammar.proofs.WordLaws.{Lacks-++, same_cut, same_behind, not_lacking}
use Rattle.kb_names.specs.Escapes.{name_text}
use Rattle.kb_names.specs.Descriptors.{type_text}
use Rattle.kb_names.specs.declared.class_names.Spelling.TheVariants.{Escaped}
use Rattle.kb_names.specs.declared.types.ExactType.{ExactType}
use Rattle.kb_names.specs.declared.types.ExactType.TheVariants as exact
use Rattle.kb_names.specs.declared.types.JType.{JType}
use Rattle.kb_class.specs.Class.{Class}
use Rattle.kb_class.specs.declared.members.FieldInfo.{FieldInfo}
use Rattle.kb_classes.specs.World.{World}
use Rattle.kb_link.specs.Links.{IsLinked}
use Rattle.kb_classes.specs.Rules.{name_of}
use Rattle.kb_classes.specs.declared.slots.FieldSlot.{FieldSlot}
use Rattle.kb_link.proofs.Loaded.{there_below}
use Rattle.kb_semantics.specs.Config.{class_name}
use Rattle.kb_semantics.specs.Values.{slots_of_class}
use Rattle.kb_picture.specs.WellFormed.{HasSlot, IsSlot}
use Rattle.kb_picture.specs.declared.picture.Origin.{Origin}
use Rattle.kb_picture.specs.declared.picture.Origin.TheVariants.{Arg, Field, Element}
use Rattle.kb_picture.specs.declared.picture.PicObject.{PicObject}
use Rattle.kb_report_text.specs.Slots.{fields_named, has_namesake, kind_text, field_text, field_of_type, field_of, slot_text}
use Rattle.kb_path_words.specs.Ranges.{IsSmall}
use Rattle.kb_report_text.specs.Ranges.{OriginFits}
use Rattle.kb_heap_words.proofs.Lacking.{IsGap, digits_lack, name_lacks, gap_in_name, type_lacks, above, space, dot, colon, bracket, bracket_end}
use Rattle.kb_heap_words.proofs.NameLaws.{same_name, same_type}
use Rattle.kb_heap_words.proofs.WordLaws.{same_digits}
use Rattle.kb_report_laws.proofs.Sections.{unlike}
use Rattle.kb_report_laws.proofs.FieldLaws.{one_slot, slot_is_declared, only_one}

-- ---- fields

pub map_at : {A B : Type 0} (f : A → B) (xs : List A) (place : ℕ) (x : A) → slice_get xs place ≡ Some x → slice_get (map f xs) place ≡ Some (f x)
map_at f [] place x at = absurd cc
map_at {A} f (y ∷ ys) zero x at = ap (λ (z : A). Some (f z)) (same_Some y x at)
map_at f (y ∷ ys) (suc place) x at = map_at f ys place x at

-- the names that a slot has in its world
pub record SlotNames (world : World) (slot : FieldSlot) : Type 0 where
  pub class : Class
  pub field : FieldInfo
  pub class_is : slice_get world.classes slot.class.0 ≡ Some class
  pub place : ℕ
  pub field_is : slice_get class.fields place ≡ Some field
  pub name_is : field.name ≡ slot.name
  pub kind_is : field.kind ≡ slot.kind

pub slot_names : (world : World) (name : List ℕ) (place : ℕ) (slot : FieldSlot) → slice_get (slots_of_class world name) place ≡ Some slot → SlotNames world slot
slot_names world name place slot at =
    let is = slot_is_declared world name place slot at in
    record {
      class = is.0;
      field = is.1;
      class_is = is.2;
      place = is.3.0;
      field_is = is.3.1;
      name_is = is.4;
      kind_is = is.5;
    }

name_of_class : (world : World) (slot : FieldSlot) (names : SlotNames world slot) → class_name world slot.class.0 ≡ names.class.name
name_of_class world slot names = ap (λ (o : Option Class). option_map_or (λ (c : Class). c.name) o []) names.class_is

kind_lacks : (byte : ℕ) → IsGap byte → (namesake : Bool) (kind : JType) → Lacks byte (kind_text namesake kind)
kind_lacks byte gap true kind = (above 58 byte gap.low (omega arith), type_lacks byte gap kind)
kind_lacks byte gap false kind = tt

pub field_lacks : (byte : ℕ) → IsGap byte → (world : World) (slot : FieldSlot) → Lacks byte (field_text world slot)
unfolding field_text
field_lacks byte gap world slot =
    Lacks-++ byte (name_text (class_name world slot.class.0)) (46 ∷ (name_text slot.name ++ kind_text (has_namesake world slot) slot.kind)) (gap_in_name byte gap (class_name world slot.class.0))
    (above 46 byte gap.low (omega arith), Lacks-++ byte (name_text slot.name) (kind_text (has_namesake world slot) slot.kind) (gap_in_name byte gap slot.name) (kind_lacks byte gap (has_namesake world slot) slot.kind))

few : (n : ℕ) → nat_lt 1 n ≡ false → n ≤ 1
few n e = grind (arith, nat_tests, e)

-- no other field of the class has the name of one without a namesake
one_of_name : (world : World) (slot : FieldSlot) (names : SlotNames world slot) → has_namesake world slot ≡ false → fields_named slot.name names.class ≤ 1
one_of_name world slot names none =
    few (fields_named slot.name names.class) (sym (ap (λ (o : Option Class). nat_lt 1 (option_map_or (fields_named slot.name) o 0)) names.class_is) ∙ none)

same_bytes : (one other : List ℕ) → one ≡ other → bytes_eq one other ≡ true
same_bytes one other e = (bytes_eq-Decides one other).1 e

module _ (world : World) (linked : IsLinked world) where
  same_kinds : (slot other : FieldSlot) (p : SlotNames world slot) (q : SlotNames world other) → slot.class.0 ≡ other.class.0 → slot.name ≡ other.name → has_namesake world slot ≡ false → slot.kind ≡ other.kind
  same_kinds slot other p q number called none =
      let class : p.class ≡ q.class = same_Some p.class q.class (sym p.class_is ∙ ap (slice_get world.classes) number ∙ q.class_is) in
      let there : slice_get p.class.fields q.place ≡ Some q.field = ap (λ (c : Class). slice_get c.fields q.place) class ∙ q.field_is in
      let first : bytes_eq slot.name p.field.name ≡ true = same_bytes slot.name p.field.name (sym p.name_is) in
      let second : bytes_eq slot.name q.field.name ≡ true = same_bytes slot.name q.field.name (called ∙ sym q.name_is) in
      let field = only_one slot.name p.class.fields p.place q.place p.field q.field p.field_is there first second (one_of_name world slot p none) in
      sym p.kind_is ∙ ap (λ (f : FieldInfo). f.kind) field ∙ q.kind_is

  -- the text of a field tells its class, its name and its type
  pub same_field_text : (slot other : FieldSlot) (p : SlotNames world slot) (q : SlotNames world other) → field_text world slot ≡ field_text world other
      → (slot.class.0 ≡ other.class.0) × (slot.name ≡ other.name) × (slot.kind ≡ other.kind)
  unfolding field_text
  same_field_text slot other p q e =
      let parts = same_cut 46 (name_text (class_name world slot.class.0)) (name_text (class_name world other.class.0)) (name_text slot.name ++ kind_text (has_namesake world slot) slot.kind) (name_text other.name ++ kind_text (has_namesake world other) other.kind)
      (name_lacks 46 dot (omega arith) (class_name world slot.class.0)) (name_lacks 46 dot (omega arith) (class_name world other.class.0)) e in
      let names : p.class.name ≡ q.class.name = sym (name_of_class world slot p) ∙ same_name (class_name world slot.class.0) (class_name world other.class.0) parts.0 ∙ name_of_class world other q in
      let number : slot.class.0 ≡ other.class.0 = linked.names slot.class.0 other.class.0 p.class.name (map_at name_of world.classes slot.class.0 p.class p.class_is) (map_at name_of world.classes other.class.0 q.class q.class_is ∙ ap (λ (n : List ℕ). Some n) (sym names)) in
      let rest = go number (has_namesake world slot) refl (has_namesake world other) refl parts.1 in
      (number, rest.0, rest.1)
    where
      go : slot.class.0 ≡ other.class.0 → (a : Bool) → has_namesake world slot ≡ a → (b : Bool) → has_namesake world other ≡ b
          → name_text slot.name ++ kind_text a slot.kind ≡ name_text other.name ++ kind_text b other.kind → (slot.name ≡ other.name) × (slot.kind ≡ other.kind)
      go number true x true y e =
          let parts = same_cut 58 (name_text slot.name) (name_text other.name) (type_text Escaped slot.kind) (type_text Escaped other.kind) (name_lacks 58 colon (omega arith) slot.name) (name_lacks 58 colon (omega arith) other.name) e in
          (same_name slot.name other.name parts.0, same_type slot.kind other.kind parts.1)
      go number true x false y e =
          absurd (not_lacking 58 (name_text slot.name) (type_text Escaped slot.kind) (name_text other.name) (name_lacks 58 colon (omega arith) other.name) (e ∙ append-nil (name_text other.name)))
      go number false x true y e =
          absurd (not_lacking 58 (name_text other.name) (type_text Escaped other.kind) (name_text slot.name) (name_lacks 58 colon (omega arith) slot.name) (sym e ∙ append-nil (name_text slot.name)))
      go number false x false y e =
          let called = same_name slot.name other.name (sym (append-nil (name_text slot.name)) ∙ e ∙ append-nil (name_text other.name)) in
          (called, same_kinds slot other p q number called x)

-- ---- slots

-- the field of a slot that is there
record FoundField (world : World) (objects : List PicObject) (object slot : ℕ) : Type 0 where
  name : List ℕ
  kind_is : slice_get (map (λ (o : PicObject). o.kind) objects) object ≡ Some (exact.Class name)
  field : FieldSlot
  field_is : slice_get (slots_of_class world name) slot ≡ Some field
  found : field_of world objects object slot ≡ Some field

found_field : (world : World) (params : ℕ) (objects : List PicObject) (object slot : ℕ) → IsSlot world params objects (Field object slot) → FoundField world objects object slot
found_field world params objects object slot is = go is.0.kind refl is.2
  where
    go : (kind : ExactType) → is.0.kind ≡ kind → HasSlot world kind slot → FoundField world objects object slot
    go (exact.Class name) kind has =
        let field = there_below (slots_of_class world name) slot has in
        record {
          name = name;
          kind_is = map_at (λ (o : PicObject). o.kind) objects object is.0 is.1 ∙ ap (λ (k : ExactType). Some k) kind;
          field = field.0;
          field_is = field.1;
          found = ap (option_and_then (λ (o : PicObject). field_of_type world slot o.kind)) is.1 ∙ ap (field_of_type world slot) kind ∙ field.1;
        }
    go (exact.Array component) kind has = absurd has

field_slot_text : (world : World) (objects : List PicObject) (object slot : ℕ) (found : FoundField world objects object slot)
    → slot_text world objects (Field object slot) ≡ codes "o" ++ (decimal object ++ 46 ∷ field_text world found.field)
unfolding slot_text
field_slot_text world objects object slot found = ap (λ (o : Option FieldSlot). codes "o" ++ (decimal object ++ 46 ∷ option_map_or (field_text world) o [])) found.found

pub slot_lacks : (byte : ℕ) → IsGap byte → (world : World) (params : ℕ) (objects : List PicObject) (slot : Origin) → OriginFits slot → IsSlot world params objects slot
    → Lacks byte (slot_text world objects slot)
unfolding slot_text
slot_lacks byte gap world params objects (Arg number) small is = (above 97 byte gap.low (omega arith), digits_lack byte number gap.apart small)
slot_lacks byte gap world params objects (Field object slot) small is =
    let found = found_field world params objects object slot is in
    subst (Lacks byte) (sym (field_slot_text world objects object slot found))
    (above 111 byte gap.low (omega arith), Lacks-++ byte (decimal object) (46 ∷ field_text world found.field) (digits_lack byte object gap.apart small.0) (above 46 byte gap.low (omega arith), field_lacks byte gap world found.field))
slot_lacks byte gap world params objects (Element array index) small is = (
  above 111 byte gap.low (omega arith),
  Lacks-++ byte (decimal array) (91 ∷ (decimal index ++ codes "]")) (digits_lack byte array gap.apart small.0)
      (above 91 byte gap.low (omega arith), Lacks-++ byte (decimal index) (codes "]") (digits_lack byte index gap.apart small.1) (above 93 byte gap.low (omega arith), tt)),
)

abbrev pub kinds_of : List PicObject → List ExactType
kinds_of objects = map (λ (o : PicObject). o.kind) objects

element_lacks : (array index : ℕ) → IsSmall array → IsSmall index → Lacks 46 (decimal array ++ 91 ∷ (decimal index ++ codes "]"))
element_lacks array index p q =
    Lacks-++ 46 (decimal array) (91 ∷ (decimal index ++ codes "]")) (digits_lack 46 array dot p)
    (omega arith, Lacks-++ 46 (decimal index) (codes "]") (digits_lack 46 index dot q) (omega arith, tt))

module _ (world : World) (linked : IsLinked world) (objects others : List PicObject) (kinds : kinds_of objects ≡ kinds_of others) where
  same_fields : (object slot number place : ℕ) (p : FoundField world objects object slot) (q : FoundField world others number place) → IsSmall object → IsSmall number
      → decimal object ++ 46 ∷ field_text world p.field ≡ decimal number ++ 46 ∷ field_text world q.field → Field object slot ≡ Field number place
  same_fields object slot number place p q small small_too e =
      let parts = same_cut 46 (decimal object) (decimal number) (field_text world p.field) (field_text world q.field) (digits_lack 46 object dot small) (digits_lack 46 number dot small_too) e in
      let same : object ≡ number = same_digits object number small small_too parts.0 in
      let kind : Some (exact.Class p.name) ≡ Some (exact.Class q.name) = sym p.kind_is ∙ ap (λ (ks : List ExactType). slice_get ks object) kinds ∙ ap (slice_get (kinds_of others)) same ∙ q.kind_is in
      let name : p.name ≡ q.name = cc in
      let there : slice_get (slots_of_class world p.name) place ≡ Some q.field = ap (λ (n : List ℕ). slice_get (slots_of_class world n) place) name ∙ q.field_is in
      let text = same_field_text world linked p.field q.field (slot_names world p.name slot p.field p.field_is) (slot_names world q.name place q.field q.field_is) parts.1 in
      let slots = one_slot world linked p.name slot place p.field q.field p.field_is there text.0 text.1 text.2 in
      λ i. Field (same i) (slots i)

  pub same_slot : (params many : ℕ) (one other : Origin) → IsSlot world params objects one → IsSlot world many others other → OriginFits one → OriginFits other
      → slot_text world objects one ≡ slot_text world others other → one ≡ other
  unfolding slot_text
  same_slot params many (Arg a) (Arg b) p q h k e = ap (λ (n : ℕ). Arg n) (same_digits a b h k (same_behind (codes "a") (decimal a) (decimal b) e))
  same_slot params many (Arg a) (Field b t) p q h k e = absurd (unlike 97 111 (omega arith) (ap (λ (l : List ℕ). slice_index l 0) e))
  same_slot params many (Arg a) (Element b j) p q h k e = absurd (unlike 97 111 (omega arith) (ap (λ (l : List ℕ). slice_index l 0) e))
  same_slot params many (Field a s) (Arg b) p q h k e = absurd (unlike 111 97 (omega arith) (ap (λ (l : List ℕ). slice_index l 0) e))
  same_slot params many (Field a s) (Field b t) p q h k e =
      let one = found_field world params objects a s p in
      let two = found_field world many others b t q in
      same_fields a s b t one two h.0 k.0 (same_behind (codes "o") (decimal a ++ 46 ∷ field_text world one.field) (decimal b ++ 46 ∷ field_text world two.field) (sym (field_slot_text world objects a s one) ∙ e ∙ field_slot_text world others b t two))
  same_slot params many (Field a s) (Element b j) p q h k e =
      let one = found_field world params objects a s p in
      absurd (not_lacking 46 (decimal a) (field_text world one.field) (decimal b ++ 91 ∷ (decimal j ++ codes "]")) (element_lacks b j k.0 k.1)
      (same_behind (codes "o") (decimal a ++ 46 ∷ field_text world one.field) (decimal b ++ 91 ∷ (decimal j ++ codes "]")) (sym (field_slot_text world objects a s one) ∙ e)))
  same_slot params many (Element a i) (Arg b) p q h k e = absurd (unlike 111 97 (omega arith) (ap (λ (l : List ℕ). slice_index l 0) e))
  same_slot params many (Element a i) (Field b t) p q h k e =
      let two = found_field world many others b t q in
      absurd (not_lacking 46 (decimal b) (field_text world two.field) (decimal a ++ 91 ∷ (decimal i ++ codes "]")) (element_lacks a i h.0 h.1)
      (same_behind (codes "o") (decimal b ++ 46 ∷ field_text world two.field) (decimal a ++ 91 ∷ (decimal i ++ codes "]")) (sym (field_slot_text world others b t two) ∙ sym e)))
  same_slot params many (Element a i) (Element b j) p q h k e =
      let whole = same_behind (codes "o") (decimal a ++ 91 ∷ (decimal i ++ codes "]")) (decimal b ++ 91 ∷ (decimal j ++ codes "]")) e in
      let arrays = same_cut 91 (decimal a) (decimal b) (decimal i ++ codes "]") (decimal j ++ codes "]") (digits_lack 91 a bracket h.0) (digits_lack 91 b bracket k.0) whole in
      let indices = same_cut 93 (decimal i) (decimal j) [] [] (digits_lack 93 i bracket_end h.1) (digits_lack 93 j bracket_end k.1) arrays.1 in
      let array : a ≡ b = same_digits a b h.0 k.0 arrays.0 in
      let index : i ≡ j = same_digits i j h.1 k.1 indices.0 in
      λ n. Element (array n) (index n)
