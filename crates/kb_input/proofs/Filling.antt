-- An input whose slots get values of their types keeps its types, and each slot holds what was put there.
use Rattle.std.proofs.Common.{◌≡◌, ◌≢◌, ℕ, zero, suc, ◌<◌, ◌^◌, inl, inr, List, [], ◌∷◌, map, fold, Option, Some, None, slice_get, slice_set, refl, sym, ap, subst, ◌∙◌, option_map, option_and_then}
use Rattle.std.proofs.lemmas.Bool.{cases_eq}
use Rattle.std.proofs.lemmas.Option.{same_Some, slice_get-map}
use Rattle.std.specs.List.{AllByRecursion}
use Rattle.kb_class.proofs.Lists.{set_here, set_other, set_size, get_inside}
use Rattle.kb_heap.specs.declared.heap.Value.{Value}
use Rattle.kb_heap.specs.declared.heap.Object.{Object}
use Rattle.kb_heap.specs.declared.heap.Heap.{Heap}
use Rattle.kb_heap.specs.declared.heap.Input.{Input}
use Rattle.kb_heap.specs.Heap.{object_at, value_at, object_with, with_object_at, with_value}
use Rattle.kb_classes.specs.World.{World}
use Rattle.kb_classes.specs.declared.slots.FieldSlot.{FieldSlot}
use Rattle.kb_names.specs.declared.types.ExactType.{ExactType}
use Rattle.kb_names.specs.declared.types.ExactType.TheVariants as exact
use Rattle.kb_names.specs.declared.types.JType.{JType}
use Rattle.kb_semantics.specs.Inputs.{HasValuesOf}
use Rattle.kb_semantics.specs.Values.{IsValueOf, AreValuesOf, slots_of_class}
use Rattle.kb_picture.specs.declared.picture.Origin.{Origin}
use Rattle.kb_picture.specs.declared.picture.Origin.TheVariants.{Arg, Field, Element}
use Rattle.kb_picture.specs.Laws.{form_of}
use Rattle.kb_input.specs.Emitted.{with_slot, with_held}

-- ---- lists of values

set_values : (world : World) (heap : Heap) (kinds : List JType) (values : List Value) (i : ℕ) (type : JType) (v : Value) → AreValuesOf world heap kinds values → slice_get kinds i ≡ Some type
    → IsValueOf world heap type v → AreValuesOf world heap kinds (slice_set values i v)
set_values world heap [] [] i type v are at one = tt
set_values world heap [] (w ∷ values) i type v are at one = absurd are
set_values world heap (t ∷ kinds) [] i type v are at one = absurd are
set_values world heap (t ∷ kinds) (w ∷ values) zero type v are at one = (subst (λ (u : JType). IsValueOf world heap u v) (sym (same_Some t type at)) one, are.1)
set_values world heap (t ∷ kinds) (w ∷ values) (suc i) type v are at one = (are.0, set_values world heap kinds values i type v are.1 at one)

set_all : {A : Type 0} (P : A → Type 0) (xs : List A) (i : ℕ) (y : A) → AllByRecursion P xs → P y → AllByRecursion P (slice_set xs i y)
set_all P [] i y all one = tt
set_all P (x ∷ xs) zero y all one = (one, all.1)
set_all P (x ∷ xs) (suc i) y all one = (all.0, set_all P xs i y all.1 one)

all_there : {A : Type 0} (P : A → Type 0) (xs : List A) (i : ℕ) (x : A) → AllByRecursion P xs → slice_get xs i ≡ Some x → P x
all_there P [] i x all at = absurd cc
all_there P (w ∷ xs) zero x all at = subst P (same_Some w x at) all.0
all_there P (w ∷ xs) (suc i) x all at = all_there P xs i x all.1 at

forms_kept : (objects : List Object) (i : ℕ) (old new : Object) → slice_get objects i ≡ Some old → form_of new ≡ form_of old → map form_of (slice_set objects i new) ≡ map form_of objects
forms_kept [] i old new at same = refl
forms_kept (first ∷ objects) zero old new at same = ap (λ (f : ExactType × ℕ). f ∷ map form_of objects) (same ∙ ap form_of (sym (same_Some first old at)))
forms_kept (first ∷ objects) (suc i) old new at same = ap (λ (fs : List (ExactType × ℕ)). form_of first ∷ fs) (forms_kept objects i old new at same)

-- ---- what a slot takes

abbrev pub FieldTakes : World → Heap → ExactType → ℕ → Value → Type 0
FieldTakes world heap (exact.Class name) slot value =
    (type : JType) × (slice_get (map (λ (field : FieldSlot). field.kind) (slots_of_class world name)) slot ≡ Some type) × IsValueOf world heap type value
FieldTakes world heap (exact.Array component) slot value = ⊥

abbrev pub ElementTakes : World → Heap → ExactType → Value → Type 0
ElementTakes world heap (exact.Class name) value = ⊥
ElementTakes world heap (exact.Array component) value = IsValueOf world heap component value

-- the value is one of the slot's type, in an input with such a heap and such argument types
abbrev pub SlotTakes : World → List JType → Heap → Origin → Value → Type 0
SlotTakes world kinds base (Arg number) value = (type : JType) × (slice_get kinds number ≡ Some type) × IsValueOf world base type value
SlotTakes world kinds base (Field object slot) value = (of : Object) × (object_at base object ≡ Some of) × FieldTakes world base of.kind slot value
SlotTakes world kinds base (Element array index) value = (of : Object) × (object_at base array ≡ Some of) × ElementTakes world base of.kind value

abbrev pub KeepsTypes : World → Heap → Object → Type 0
KeepsTypes world base object = HasValuesOf world base object.kind object.values

-- The input has objects of the same exact types and lengths as the heap, and values of their types.
pub record IsFilled (world : World) (kinds : List JType) (base : Heap) (input : Input) : Type 0 where
  pub forms : map form_of input.heap.objects ≡ map form_of base.objects
  pub objects : AllByRecursion (KeepsTypes world base) input.heap.objects
  pub args : AreValuesOf world base kinds input.args

field_kept : (world : World) (base : Heap) (kind : ExactType) (values : List Value) (slot : ℕ) (v : Value) → FieldTakes world base kind slot v → HasValuesOf world base kind values
    → HasValuesOf world base kind (slice_set values slot v)
field_kept world base (exact.Class name) values slot v takes has = set_values world base (map (λ (field : FieldSlot). field.kind) (slots_of_class world name)) values slot takes.0 v has takes.1 takes.2
field_kept world base (exact.Array component) values slot v takes has = absurd takes

element_kept : (world : World) (base : Heap) (kind : ExactType) (values : List Value) (slot : ℕ) (v : Value) → ElementTakes world base kind v → HasValuesOf world base kind values
    → HasValuesOf world base kind (slice_set values slot v)
element_kept world base (exact.Class name) values slot v takes has = absurd takes
element_kept world base (exact.Array component) values slot v takes has =
    (subst (λ (n : ℕ). n < 2 ^ 31) (sym (set_size values slot v)) has.0, set_all (IsValueOf world base component) values slot v has.1 takes)

-- the object of the input that has the same exact type and length
record IsLike (world : World) (base : Heap) (input : Input) (o : ℕ) (of : Object) : Type 0 where
  now : Object
  at : object_at input.heap o ≡ Some now
  form : form_of now ≡ form_of of
  has : HasValuesOf world base of.kind now.values

like_there : (world : World) (kinds : List JType) (base : Heap) (input : Input) (o : ℕ) (of : Object) → IsFilled world kinds base input → object_at base o ≡ Some of → IsLike world base input o of
like_there world kinds base input o of filled there = go (object_at input.heap o) refl
  where
    forms : option_map form_of (object_at input.heap o) ≡ Some (form_of of)
    forms = sym (slice_get-map form_of input.heap.objects o) ∙ (ap (λ (fs : List (ExactType × ℕ)). slice_get fs o) filled.forms ∙ (slice_get-map form_of base.objects o ∙ ap (option_map form_of) there))

    go : (x : Option Object) → object_at input.heap o ≡ x → IsLike world base input o of
    go None at = absurd (let e : None ≡ Some (form_of of) = ap (option_map form_of) (sym at) ∙ forms in cc)
    go (Some now) at =
        let same : form_of now ≡ form_of of = same_Some (form_of now) (form_of of) (ap (option_map form_of) (sym at) ∙ forms) in
        record {
          now = now;
          at = at;
          form = same;
          has = subst (λ (kind : ExactType). HasValuesOf world base kind now.values) (ap (λ (f : ExactType × ℕ). f.0) same) (all_there (KeepsTypes world base) input.heap.objects o now filled.objects at);
        }

put_into : (world : World) (kinds : List JType) (base : Heap) (input : Input) (o slot : ℕ) (v : Value) (of : Object) → IsFilled world kinds base input → (like : IsLike world base input o of)
    → HasValuesOf world base of.kind (slice_set like.now.values slot v) → IsFilled world kinds base (record input { heap = with_value input.heap o slot v })
put_into world kinds base input o slot v of filled like kept =
    subst (λ (heap : Heap). IsFilled world kinds base (record input { heap = heap })) (sym (ap (with_object_at input.heap o slot v) like.at)) (record {
      forms = forms_kept input.heap.objects o like.now (object_with like.now slot v) like.at (ap (λ (n : ℕ). (like.now.kind, n)) (set_size like.now.values slot v)) ∙ filled.forms;
      objects = set_all (KeepsTypes world base) input.heap.objects o (object_with like.now slot v) filled.objects
          (subst (λ (kind : ExactType). HasValuesOf world base kind (slice_set like.now.values slot v)) (sym (ap (λ (f : ExactType × ℕ). f.0) like.form)) kept);
      args = filled.args;
    })

pub put_filled : (world : World) (kinds : List JType) (base : Heap) (input : Input) (slot : Origin) (v : Value) → IsFilled world kinds base input → SlotTakes world kinds base slot v
    → IsFilled world kinds base (with_slot input slot v)
put_filled world kinds base input (Arg number) v filled takes = record {
  forms = filled.forms;
  objects = filled.objects;
  args = set_values world base kinds input.args number takes.0 v filled.args takes.1 takes.2;
}
put_filled world kinds base input (Field o slot) v filled takes =
    let like = like_there world kinds base input o takes.0 filled takes.1 in
    put_into world kinds base input o slot v takes.0 filled like (field_kept world base takes.0.kind like.now.values slot v takes.2 like.has)
put_filled world kinds base input (Element o slot) v filled takes =
    let like = like_there world kinds base input o takes.0 filled takes.1 in
    put_into world kinds base input o slot v takes.0 filled like (element_kept world base takes.0.kind like.now.values slot v takes.2 like.has)

abbrev pub HeldTakes : World → List JType → Heap → Origin × Value → Type 0
HeldTakes world kinds base held = SlotTakes world kinds base held.0 held.1

pub all_filled : (world : World) (kinds : List JType) (base : Heap) (input : Input) (held : List (Origin × Value)) → IsFilled world kinds base input → AllByRecursion (HeldTakes world kinds base) held
    → IsFilled world kinds base (fold with_held input held)
all_filled world kinds base input [] filled takes = filled
all_filled world kinds base input (x ∷ held) filled takes =
    all_filled world kinds base (with_slot input x.0 x.1) held (put_filled world kinds base input x.0 x.1 filled takes.0) takes.1

-- ---- what a slot holds

abbrev pub cell_value : Input → Origin → Option Value
cell_value input (Arg number) = slice_get input.args number
cell_value input (Field object slot) = value_at input.heap object slot
cell_value input (Element array index) = value_at input.heap array index

-- the slots are not one
abbrev CellsDiffer : ℕ → ℕ → ℕ → ℕ → Type 0
CellsDiffer o slot p other = o ≡ p → slot ≡ other → ⊥

abbrev pub AreTwo : Origin → Origin → Type 0
AreTwo (Arg number) (Arg other) = number ≢ other
AreTwo (Arg number) (Field p other) = Unit {0}
AreTwo (Arg number) (Element p other) = Unit {0}
AreTwo (Field o slot) (Arg other) = Unit {0}
AreTwo (Field o slot) (Field p other) = CellsDiffer o slot p other
AreTwo (Field o slot) (Element p other) = CellsDiffer o slot p other
AreTwo (Element o slot) (Arg other) = Unit {0}
AreTwo (Element o slot) (Field p other) = CellsDiffer o slot p other
AreTwo (Element o slot) (Element p other) = CellsDiffer o slot p other

value_put : (heap : Heap) (o slot : ℕ) (v old : Value) → value_at heap o slot ≡ Some old → value_at (with_value heap o slot v) o slot ≡ Some v
value_put heap o slot v old there = go (object_at heap o) refl there
  where
    go : (of : Option Object) → object_at heap o ≡ of → option_and_then (λ (x : Object). slice_get x.values slot) of ≡ Some old → value_at (with_object_at heap o slot v of) o slot ≡ Some v
    go None at e = absurd cc
    go (Some of) at e =
        ap (option_and_then (λ (x : Object). slice_get x.values slot)) (set_here heap.objects o (object_with of slot v) (get_inside heap.objects o of at))
        ∙ set_here of.values slot v (get_inside of.values slot old e)

value_other : (heap : Heap) (o slot p other : ℕ) (v : Value) → CellsDiffer o slot p other → value_at (with_value heap o slot v) p other ≡ value_at heap p other
value_other heap o slot p other v two = go (object_at heap o) refl
  where
    go : (of : Option Object) → object_at heap o ≡ of → value_at (with_object_at heap o slot v of) p other ≡ value_at heap p other
    go None at = refl
    go (Some of) at = elim (cases_eq o p) [
      | inl same ↦
          let here : slice_get (slice_set heap.objects o (object_with of slot v)) p ≡ Some (object_with of slot v) =
          ap (slice_get (slice_set heap.objects o (object_with of slot v))) (sym same) ∙ set_here heap.objects o (object_with of slot v) (get_inside heap.objects o of at) in
          let there : object_at heap p ≡ Some of = ap (object_at heap) (sym same) ∙ at in
          ap (option_and_then (λ (x : Object). slice_get x.values other)) here
          ∙ (set_other of.values slot other v (two same) ∙ sym (ap (option_and_then (λ (x : Object). slice_get x.values other)) there))
      | inr apart ↦ ap (option_and_then (λ (x : Object). slice_get x.values other)) (set_other heap.objects o p (object_with of slot v) apart)
    ]

pub cell_put : (input : Input) (slot : Origin) (v old : Value) → cell_value input slot ≡ Some old → cell_value (with_slot input slot v) slot ≡ Some v
cell_put input (Arg number) v old there = set_here input.args number v (get_inside input.args number old there)
cell_put input (Field o slot) v old there = value_put input.heap o slot v old there
cell_put input (Element o slot) v old there = value_put input.heap o slot v old there

pub cell_other : (input : Input) (slot other : Origin) (v : Value) → AreTwo slot other → cell_value (with_slot input slot v) other ≡ cell_value input other
cell_other input (Arg number) (Arg other) v two = set_other input.args number other v two
cell_other input (Arg number) (Field p other) v two = refl
cell_other input (Arg number) (Element p other) v two = refl
cell_other input (Field o slot) (Arg other) v two = refl
cell_other input (Field o slot) (Field p other) v two = value_other input.heap o slot p other v two
cell_other input (Field o slot) (Element p other) v two = value_other input.heap o slot p other v two
cell_other input (Element o slot) (Arg other) v two = refl
cell_other input (Element o slot) (Field p other) v two = value_other input.heap o slot p other v two
cell_other input (Element o slot) (Element p other) v two = value_other input.heap o slot p other v two

-- the slot is none of those
abbrev pub IsNone : Origin → List (Origin × Value) → Type 0
IsNone slot [] = Unit {0}
IsNone slot (x ∷ held) = AreTwo x.0 slot × IsNone slot held

-- no two of the slots are one
abbrev pub AreAllTwo : List (Origin × Value) → Type 0
AreAllTwo [] = Unit {0}
AreAllTwo (x ∷ held) = ((i : ℕ) (y : Origin × Value) → slice_get held i ≡ Some y → AreTwo x.0 y.0) × IsNone x.0 held × AreAllTwo held

abbrev pub IsThere : Input → Origin × Value → Type 0
IsThere input held = (old : Value) × (cell_value input held.0 ≡ Some old)

cell_kept : (input : Input) (slot : Origin) (held : List (Origin × Value)) → IsNone slot held → cell_value (fold with_held input held) slot ≡ cell_value input slot
cell_kept input slot [] none = refl
cell_kept input slot (x ∷ held) none = cell_kept (with_slot input x.0 x.1) slot held none.1 ∙ cell_other input x.0 slot x.1 none.0

still_there : (input : Input) (slot : Origin) (v : Value) (held : List (Origin × Value)) → ((i : ℕ) (y : Origin × Value) → slice_get held i ≡ Some y → AreTwo slot y.0)
    → AllByRecursion (IsThere input) held → AllByRecursion (IsThere (with_slot input slot v)) held
still_there input slot v [] two there = tt
still_there input slot v (x ∷ held) two there =
    ((there.0.0, cell_other input slot x.0 v (two 0 x refl) ∙ there.0.1), still_there input slot v held (λ i y at. two (suc i) y at) there.1)

pub all_held : (input : Input) (held : List (Origin × Value)) (i : ℕ) (x : Origin × Value) → AreAllTwo held → AllByRecursion (IsThere input) held → slice_get held i ≡ Some x
    → cell_value (fold with_held input held) x.0 ≡ Some x.1
all_held input [] i x two there at = absurd cc
all_held input (first ∷ held) zero x two there at =
    let same : first ≡ x = same_Some first x at in
    subst (λ (y : Origin × Value). cell_value (fold with_held (with_slot input first.0 first.1) held) y.0 ≡ Some y.1) same
    (cell_kept (with_slot input first.0 first.1) first.0 held two.1 ∙ cell_put input first.0 first.1 there.0.0 there.0.1)
all_held input (first ∷ held) (suc i) x two there at =
    all_held (with_slot input first.0 first.1) held i x two.2 (still_there input first.0 first.1 held two.0 there.1) at
