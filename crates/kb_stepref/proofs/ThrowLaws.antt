-- What becomes of an object that is no Throwable.
use Rattle.std.proofs.Common.{◌≡◌, false, refl}
use Rattle.kb_class.specs.Platform.{throwable}
use Rattle.kb_classes.specs.Subtypes.{fits}
use Rattle.kb_classes.specs.World.{World}
use Rattle.kb_names.specs.declared.types.ExactType.{ExactType}
use Rattle.kb_names.specs.declared.types.JType.TheVariants as types
use Rattle.kb_frames.specs.declared.value.SymValue.{SymValue}
use Rattle.kb_frames.specs.declared.value.SymValue.TheVariants.{Int, Null, Obj, Literal, New, Loc}
use Rattle.kb_frames.specs.State.{State}
use Rattle.kb_ways.specs.Plans.{plain}
use Rattle.kb_ways.specs.Ways.{Fails}
use Rattle.kb_stepref.specs.Effects.{throws_value}

pub unfit_thrown : (world : World) (state : State) (value : SymValue) (kind : ExactType) → fits world kind (types.Class throwable) ≡ false → throws_value world state value kind ≡ plain state Fails
unfit_thrown world state (Obj number) kind e = rw e refl
unfit_thrown world state (New number) kind e = rw e refl
unfit_thrown world state (Int term) kind e = refl
unfit_thrown world state Null kind e = refl
unfit_thrown world state (Literal number) kind e = refl
unfit_thrown world state (Loc number) kind e = refl
