-- The emitted input of a state is an instance of it, by what emitted inputs are to pictures: it has the values that the last
-- model gave, and 0 for each further variable.
use Rattle.std.proofs.Common.{◌≡◌, ℕ, zero, suc, ◌-◌, ◌<◌, ◌≤◌, ℤ, pos, Bool, List, [], ◌∷◌, ◌++◌, length, length-append, map, Option, Some, None, slice_get, refl, sym, ap, ◌∙◌, subst, arith}
use Rattle.std.specs.Prelude.{replicate}
use Rattle.std.proofs.lemmas.List.{length-replicate}
use Rattle.std.proofs.lemmas.Option.{slice_get_within}
use Rattle.kb_blast.specs.Meaning.{AreMetInPool, KindFits}
use Rattle.kb_blast.specs.Query.{kinds_of}
use Rattle.kb_class.specs.declared.ids.MethodId.{MethodId}
use Rattle.kb_heap.specs.Heap.{object_at}
use Rattle.kb_heap.specs.declared.heap.Heap.{Heap}
use Rattle.kb_heap.specs.declared.heap.Input.{Input}
use Rattle.kb_heap.specs.declared.heap.Object.{Object}
use Rattle.kb_heap.specs.declared.heap.Value.{Value}
use Rattle.kb_heap.specs.declared.heap.Value.TheVariants.{Int as IntValue, Null as NullValue, Ref}
use Rattle.kb_classes.specs.World.{World}
use Rattle.kb_classes.specs.declared.slots.FieldSlot.{FieldSlot}
use Rattle.kb_names.specs.declared.types.ExactType.{ExactType}
use Rattle.kb_names.specs.declared.types.ExactType.TheVariants as exact
use Rattle.kb_names.specs.declared.types.JType.{JType}
use Rattle.kb_names.specs.declared.types.JType.TheVariants as types
use Rattle.kb_oracle.proofs.Queries.{length-kinds}
use Rattle.kb_semantics.specs.Inputs.{HasValuesOf, IsInputObject, IsTypeCorrect, argument_types}
use Rattle.kb_semantics.specs.Values.{IsObjectOf, IsValueOf, slots_of_class}
use Rattle.kb_terms.specs.Terms.{IsPool, int_at, variables_of}
use Rattle.kb_terms.specs.declared.node.Node.{Node}
use Rattle.kb_terms.specs.declared.node.TermId.{TermId}
use Rattle.kb_terms.specs.declared.node.VarKind.{VarKind}
use Rattle.kb_picture.specs.Queries.{kinds_seen}
use Rattle.kb_picture.specs.WellFormed.{IsClosed, IsWithin}
use Rattle.kb_drive.specs.Values.{followed_by_zeros}
use Rattle.kb_input.specs.Laws.{IsOfPicture, AreValuesFor as PictureValues, HasInput as PictureInput}
use Rattle.kb_input.proofs.InputLaws.{emitted_of_picture}
use Rattle.kb_drive.specs.EmittedLaws.{InputsAreOfStates, input_for}
use Rattle.kb_drive.proofs.GrowLaws.{value_agrees}
use Rattle.kb_drive.proofs.KindLaws.{each_at, typed_at}

-- ---- a type-correct input names objects that it has

object_within : (world : World) (heap : Heap) (type : JType) (place : ℕ) (it : Option Object) → object_at heap place ≡ it → IsObjectOf world type it
    → place < length heap.objects
object_within world heap type place None e is = absurd is
object_within world heap type place (Some of) e is = slice_get_within heap.objects place of e

named_within : (world : World) (heap : Heap) (type : JType) (place : ℕ) → IsValueOf world heap type (Ref place) → place < length heap.objects
named_within world heap (types.Class name) place is = object_within world heap (types.Class name) place (object_at heap place) refl is
named_within world heap (types.Array component) place is = object_within world heap (types.Array component) place (object_at heap place) refl is
named_within world heap types.Bool place is = absurd is
named_within world heap types.Byte place is = absurd is
named_within world heap types.Char place is = absurd is
named_within world heap types.Short place is = absurd is
named_within world heap types.Int place is = absurd is
named_within world heap types.Long place is = absurd is
named_within world heap types.Float place is = absurd is
named_within world heap types.Double place is = absurd is

value_within : (world : World) (heap : Heap) (type : JType) (value : Value) → IsValueOf world heap type value → IsWithin (length heap.objects) value
value_within world heap type (IntValue z) is object e = absurd cc
value_within world heap type NullValue is object e = absurd cc
value_within world heap type (Ref place) is object e =
    let same : place ≡ object = cc in
    subst (λ (n : ℕ). n < length heap.objects) same (named_within world heap type place is)

slot_within : (world : World) (heap : Heap) (kind : ExactType) (values : List Value) (j : ℕ) (value : Value) → HasValuesOf world heap kind values
    → slice_get values j ≡ Some value → IsWithin (length heap.objects) value
slot_within world heap (exact.Class name) values j value are at =
    let typed = typed_at world heap (map (λ (field : FieldSlot). field.kind) (slots_of_class world name)) values j value are at in
    value_within world heap typed.0 value typed.2
slot_within world heap (exact.Array component) values j value are at =
    value_within world heap component value (each_at (IsValueOf world heap component) values j value are.1 at)

pub correct_is_closed : (world : World) (id : MethodId) (input : Input) → IsTypeCorrect world id input → IsClosed input
correct_is_closed world id input correct = record {
  arguments = λ i value at.
      let typed = typed_at world input.heap (argument_types world correct.method) input.args i value correct.arguments at in
      value_within world input.heap typed.0 value typed.2;
  objects = λ i j object value at there.
      let is = each_at (IsInputObject world input.heap) input.heap.objects i object correct.objects at in
      slot_within world input.heap object.kind object.values j value is.values there;
}

-- ---- values followed by 0s

zeros : (n v : ℕ) → int_at (replicate n (pos 0)) v ≡ pos 0
zeros zero v = refl
zeros (suc n) zero = refl
zeros (suc n) (suc v) = zeros n v

int_behind : (values : List ℤ) (n v : ℕ) → int_at (values ++ replicate n (pos 0)) v ≡ int_at values v
int_behind [] n v = zeros n v
int_behind (x ∷ xs) n zero = refl
int_behind (x ∷ xs) n (suc v) = int_behind xs n v

filled_length : (count : ℕ) (values : List ℤ) → length values ≤ count → length (followed_by_zeros count values) ≡ count
filled_length count values le =
    omega (arith, le, length-append values (replicate (count - length values) (pos 0)), length-replicate (count - length values) (pos 0))

int_there : (values : List ℤ) (number : ℕ) (value : ℤ) → slice_get values number ≡ Some value → int_at values number ≡ value
int_there [] number value e = absurd cc
int_there (x ∷ xs) zero value e = cc
int_there (x ∷ xs) (suc number) value e = int_there xs number value e

-- conditions are met by each values that give the variables the same ints
met_alike : (nodes : List Node) (xs ys : List ℤ) (when : List (TermId × Bool)) → IsPool nodes → ((v : ℕ) → int_at ys v ≡ int_at xs v) → AreMetInPool nodes xs when
    → AreMetInPool nodes ys when
met_alike nodes xs ys [] pool same met = tt
met_alike nodes xs ys (condition ∷ when) pool same met =
    (value_agrees nodes condition.0 ys xs pool (λ v less. same v) ∙ met.0, met_alike nodes xs ys when pool same met.1)

-- ---- the emitted input

-- The emitted input of a state, by the law of emitted inputs.
pub inputs_of_states : InputsAreOfStates
inputs_of_states world bounds state when values explorable formed has are =
    let many : length (kinds_of state.nodes) ≡ variables_of state.nodes = length-kinds state.nodes in
    let kinds : length (kinds_of state.nodes) ≡ length (kinds_seen world state.method state.picture) = ap length formed.kinds in
    let filled : List ℤ = followed_by_zeros (variables_of state.nodes) values in
    let same : (v : ℕ) → int_at filled v ≡ int_at values v = λ v. int_behind values (variables_of state.nodes - length values) v in
    let full : length filled ≡ variables_of state.nodes = filled_length (variables_of state.nodes) values (omega (arith, are.few, many)) in
    let all : PictureValues world state.method state.picture filled = record {
      count = omega (arith, full, many, kinds);
      each = λ number kind value at there.
          subst (KindFits kind) (sym (same number) ∙ int_there filled number value there)
          (are.fits number kind (ap (λ (ks : List VarKind). slice_get ks number) formed.kinds ∙ at));
    } in
    let input : PictureInput world state.method state.picture filled = record {
      linked = explorable.linked;
      accepted = explorable.accepted;
      typed = has.typed;
      receiver = has.receiver;
      values_are = all;
    } in
    let is : IsOfPicture world state.method state.picture filled (input_for world state values) = emitted_of_picture world state.method state.picture filled input in
    record {
      correct = is.correct;
      instance_of = record {
        shape = is.shape;
        conditions = subst (λ (vs : List ℤ). AreMetInPool state.nodes vs when) (sym is.variables) (met_alike state.nodes values filled when formed.pool same are.met);
      };
      closed = correct_is_closed world state.method (input_for world state values) is.correct;
    }
