-- What instructions on references find in symbolic values is what the machine finds in their values.
use Rattle.std.proofs.Common.{◌≡◌, refl}
use Rattle.std.specs.Option.{option_map}
use Rattle.kb_names.specs.declared.types.JType.{JType}
use Rattle.kb_names.specs.declared.types.JType.TheVariants as types
use Rattle.kb_semantics.specs.Instructions.{is_null as is_null_reference}
use Rattle.kb_semantics.specs.Values.{kept}
use Rattle.kb_picture.specs.Endings.{Reading}
use Rattle.kb_frames.specs.declared.value.SymValue.{SymValue}
use Rattle.kb_frames.specs.declared.value.SymValue.TheVariants.{Int, Null, Obj, Literal, New, Loc}
use Rattle.kb_frames.specs.StandsFor.{value_of_sym}
use Rattle.kb_stepref.specs.Comparing.{is_null}
use Rattle.kb_ways.specs.Operands.{reference}
use Rattle.kb_ways.specs.Kept.{is_of_kind, kept_in}
use Rattle.kb_resolution.specs.Lookup.{only_where}
use Rattle.kb_frames.specs.State.{State}
pub use Rattle.kb_ways.proofs.ReferenceLaws.{IsReference, kept_of, kept_value, object_and_value_are, one_reference_is, pair_below, reference_back, reference_in, reference_kind, reference_value, referred, top_reference, two_references_are}

module _ (r : Reading) where
  pub null_is : (value : SymValue) → IsReference value → is_null_reference (referred r value) ≡ is_null value
  null_is (Int t) is = absurd is
  null_is Null is = refl
  null_is (Obj n) is = refl
  null_is (Literal n) is = refl
  null_is (New n) is = refl
  null_is (Loc n) is = refl

  -- ---- what a result and a field keep

  -- a result of a type of references keeps each
  pub result_kept : (type : JType) (value : SymValue) → IsReference value → kept type (value_of_sym r value) ≡ option_map (value_of_sym r) (only_where (is_of_kind type value) value)
  result_kept type (Int t) is = absurd is
  result_kept (types.Class name) Null is = refl
  result_kept (types.Array component) Null is = refl
  result_kept _ Null is = refl
  result_kept (types.Class name) (Obj n) is = refl
  result_kept (types.Array component) (Obj n) is = refl
  result_kept _ (Obj n) is = refl
  result_kept (types.Class name) (Literal n) is = refl
  result_kept (types.Array component) (Literal n) is = refl
  result_kept _ (Literal n) is = refl
  result_kept (types.Class name) (New n) is = refl
  result_kept (types.Array component) (New n) is = refl
  result_kept _ (New n) is = refl
  result_kept (types.Class name) (Loc n) is = refl
  result_kept (types.Array component) (Loc n) is = refl
  result_kept _ (Loc n) is = refl

-- a reference is kept as it is
pub kept_whole : (type : JType) (value : SymValue) (state : State) → IsReference value → kept_in type value state ≡ (state, value)
kept_whole type (Int t) state is = absurd is
kept_whole types.Bool Null state is = refl
kept_whole types.Bool (Obj n) state is = refl
kept_whole types.Bool (Literal n) state is = refl
kept_whole types.Bool (New n) state is = refl
kept_whole types.Bool (Loc n) state is = refl
kept_whole _ value state is = refl
