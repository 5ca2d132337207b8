-- A write of a slot or an element leaves the stage as it is, and the turn of the instruction stays its turn.
use Rattle.std.proofs.Common.{◌≡◌, ℕ, refl}
use Rattle.kb_frames.specs.declared.value.SymValue.{SymValue}
use Rattle.kb_frames.specs.declared.value.SymValue.TheVariants.{Int, Null, Obj, Literal, New, Loc}
use Rattle.kb_frames.specs.State.{State}
use Rattle.kb_ways.specs.Needs.{IsFor}
use Rattle.kb_ways.specs.Slots.{put_in}
use Rattle.kb_ways.specs.declared.turn.Turn.{Turn}
use Rattle.kb_ways.proofs.TurnLaws.{is_for_same}

pub put_stage : (object : SymValue) (slot : ℕ) (value : SymValue) (state : State) → (put_in object slot value state).stage ≡ state.stage
put_stage (Int term) slot value state = refl
put_stage Null slot value state = refl
put_stage (Obj number) slot value state = refl
put_stage (Literal number) slot value state = refl
put_stage (New number) slot value state = refl
put_stage (Loc number) slot value state = refl

pub put_is_for : (turn : Turn) (object : SymValue) (slot : ℕ) (value : SymValue) (state : State) → IsFor turn state → IsFor turn (put_in object slot value state)
put_is_for turn (Obj number) slot value state h = is_for_same turn state (put_in (Obj number) slot value state) refl refl refl h
put_is_for turn (New number) slot value state h = is_for_same turn state (put_in (New number) slot value state) refl refl refl h
put_is_for turn (Int term) slot value state h = h
put_is_for turn Null slot value state h = h
put_is_for turn (Literal number) slot value state h = h
put_is_for turn (Loc number) slot value state h = h
