-- What one slot more says of the exact type of an object.
use Rattle.std.proofs.Common.{◌≡◌, inl, inr, ℕ, ◌<◌, ◌≤◌, Bool, true, false, true≢false, length, max, Some, None, refl, sym, ap, ◌∙◌, ◌&&◌, arith}
use Rattle.std.specs.Prelude.{nat_lt}
use Rattle.std.proofs.lemmas.Bool.{ltb-false}
use Rattle.kb_classes.specs.World.{World}
use Rattle.kb_link.specs.Links.{IsLinked}
use Rattle.kb_names.specs.declared.types.ExactType.{ExactType}
use Rattle.kb_names.specs.declared.types.ExactType.TheVariants as exact
use Rattle.kb_picture.specs.WellFormed.{HasElement, IsLengthOf}
use Rattle.kb_picture.specs.declared.picture.Length.{Length}
use Rattle.kb_picture.specs.declared.picture.Length.TheVariants.{Plain, Is, Above}
use Rattle.kb_report_known.proofs.FieldLaws.{class_there, has_both, one_of_both}
use Rattle.kb_report_known.specs.Fields.{has_field_at, is_class_below, is_there_below}
use Rattle.kb_report_known.specs.Known.{IsShapeWith}
use Rattle.kb_report_known.specs.declared.fields.FieldAt.{FieldAt}
use Rattle.kb_report_known.specs.declared.known.Shape.TheVariants.{Any, Fields, Elements}

abbrev pub HasField : World → FieldAt → ExactType → Length → Type 0
HasField world field kind length = has_field_at world kind field ≡ true

-- no object has a field and an element
fields_or_elements : (world : World) (field : FieldAt) (index : ℕ) (kind : ExactType) (len : Length) → IsLengthOf kind len → has_field_at world kind field ≡ true → HasElement len index → ⊥
fields_or_elements world field index (exact.Array component) len is has element = cc
fields_or_elements world field index (exact.Class name) Plain is has element = element
fields_or_elements world field index (exact.Class name) (Is n) is has element = is
fields_or_elements world field index (exact.Class name) (Above n) is has element = is

module _ (world : World) (field : FieldAt) where
  pub field_first : IsShapeWith world Any (HasField world field) (Some (Fields field))
  field_first kind len is = ((λ has. (tt, has)), (λ both. both.1))

  pub field_of_array : (greatest : ℕ) → IsShapeWith world (Elements greatest) (HasField world field) None
  field_of_array greatest kind len is element has = fields_or_elements world field greatest kind len is has element

module _ (world : World) (links : 0 < length world.classes → IsLinked world) (lowest field : FieldAt) where
  pub field_above : is_class_below world lowest.class.0 field.class.0 ≡ true → IsShapeWith world (Fields lowest) (HasField world field) (Some (Fields lowest))
  field_above below kind len is = ((λ has. (has, has_both world links kind lowest field below has)), (λ both. both.0))

  pub field_below : is_class_below world field.class.0 lowest.class.0 ≡ true → IsShapeWith world (Fields lowest) (HasField world field) (Some (Fields field))
  field_below below kind len is = ((λ has. (has_both world links kind field lowest below has, has)), (λ both. both.1))

  pub field_apart : is_there_below world lowest.class.0 field.class.0 ≡ false → is_there_below world field.class.0 lowest.class.0 ≡ false → IsShapeWith world (Fields lowest) (HasField world field) None
  field_apart up down kind len is one other = elim (one_of_both world links kind lowest field one other) [
    | inl below ↦ true≢false (sym (both lowest.class.0 field.class.0 (class_there world links kind lowest one) below) ∙ up)
    | inr below ↦ true≢false (sym (both field.class.0 lowest.class.0 (class_there world links kind field other) below) ∙ down)
  ]
    where
      both : (low high : ℕ) → low < length world.classes → is_class_below world low high ≡ true → is_there_below world low high ≡ true
      both low high inside below = go (nat_lt low (length world.classes)) refl
        where
          go : (b : Bool) → nat_lt low (length world.classes) ≡ b → is_there_below world low high ≡ true
          go true e = ap (λ (b : Bool). b && is_class_below world low high) e ∙ below
          go false e = absurd (let outside : length world.classes ≤ low = ltb-false low (length world.classes) e in omega (arith, outside, inside))

abbrev pub HasIndex : ℕ → ExactType → Length → Type 0
HasIndex index kind length = HasElement length index

module _ (world : World) (index : ℕ) where
  pub element_first : IsShapeWith world Any (HasIndex index) (Some (Elements index))
  element_first kind len is = ((λ has. (tt, has)), (λ both. both.1))

  pub element_of_fields : (lowest : FieldAt) → IsShapeWith world (Fields lowest) (HasIndex index) None
  element_of_fields lowest kind len is has element = fields_or_elements world lowest index kind len is has element

  pub element_more : (greatest : ℕ) → IsShapeWith world (Elements greatest) (HasIndex index) (Some (Elements (max greatest index)))
  element_more greatest kind Plain is = ((λ none. absurd none), (λ both. both.0))
  element_more greatest kind (Is n) is = ((λ has. (omega (arith, has), omega (arith, has))), (λ both. omega (arith, both.0, both.1)))
  element_more greatest kind (Above n) is = ((λ has. (omega (arith, has), omega (arith, has))), (λ both. omega (arith, both.0, both.1)))
