-- A store writes an element and leaves the frame as it is, so that it goes on with the stack from before without its operands.
use Rattle.std.proofs.Common.{◌≡◌, ℕ, Bool, true, Option, Some, length, drop, sym, ap, ◌∙◌, if◌then◌else◌}
use Rattle.kb_heap.specs.declared.bounds.Bounds.{Bounds}
use Rattle.kb_classes.specs.World.{World}
use Rattle.kb_names.specs.declared.types.JType.{JType}
use Rattle.kb_semantics.specs.Config.{has_room}
use Rattle.kb_frames.specs.declared.state.Stage.{Stage}
use Rattle.kb_frames.specs.declared.value.SymValue.{SymValue}
use Rattle.kb_frames.specs.Lent.{locals_of, stack_of}
use Rattle.kb_frames.specs.Next.{method_now}
use Rattle.kb_frames.specs.State.{State}
use Rattle.kb_ways.specs.Kept.{kept}
use Rattle.kb_ways.specs.Plans.{followed, planned, plain}
use Rattle.kb_ways.specs.Slots.{put_in}
use Rattle.kb_ways.specs.Ways.{Goes, went, with_stack, Fails}
use Rattle.kb_ways.proofs.KeptLaws.{kept_is_in, kept_more}
use Rattle.kb_steparray.specs.Effects.{store_at, store_kept}

-- the way on from the state in which what is kept was put is that of the plan
pub store_led : (world : World) (bounds : Bounds) (next : ℕ) (state : State) (component : JType) (array : SymValue) (place : ℕ) (value : SymValue) (it : State × SymValue) → kept component value state ≡ Some it
    → has_room world (method_now state.method state.stage) (length (drop 3 (stack_of state.stage))) ≡ true
    → went world bounds next (put_in array place it.1 it.0) (with_stack it.0 (drop 3 (stack_of it.0.stage))) ≡ followed world bounds next (store_at world state component array place value)
store_led world bounds next state component array place value it e room =
    let same : it.0.stage ≡ state.stage =
    ap (λ (k : State × SymValue). k.0.stage) (sym (kept_is_in component value state it e)) ∙ ap (λ (s : State). s.stage) (kept_more component value state).rest in
    ap (λ (stage : Stage). went world bounds next (put_in array place it.1 it.0) (Goes (locals_of stage) (drop 3 (stack_of stage)))) same
    ∙ sym (ap (λ (b : Bool). followed world bounds next (if b then planned state (kept component value state) (store_kept state array place) else plain state Fails)) room
    ∙ ap (λ (k : Option (State × SymValue)). followed world bounds next (planned state k (store_kept state array place))) e)
