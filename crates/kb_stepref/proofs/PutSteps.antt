-- A putfield writes a slot and leaves the frame as it is, so that it goes on with the stack from before without its operands.
use Rattle.std.proofs.Common.{◌≡◌, ℕ, Bool, true, Option, Some, length, drop, sym, ap, ◌∙◌, if◌then◌else◌}
use Rattle.kb_heap.specs.declared.bounds.Bounds.{Bounds}
use Rattle.kb_classes.specs.World.{World}
use Rattle.kb_classes.specs.declared.slots.FieldSlot.{FieldSlot}
use Rattle.kb_semantics.specs.Config.{has_room}
use Rattle.kb_frames.specs.declared.state.Stage.{Stage}
use Rattle.kb_frames.specs.declared.value.SymValue.{SymValue}
use Rattle.kb_frames.specs.Lent.{locals_of, stack_of}
use Rattle.kb_frames.specs.Next.{method_now}
use Rattle.kb_frames.specs.State.{State}
use Rattle.kb_ways.specs.Ways.{Goes, went, with_stack, Fails}
use Rattle.kb_stepref.specs.Effects.{put_kept, put_where, puts_kept}
use Rattle.kb_ways.specs.Plans.{followed, planned, plain}
use Rattle.kb_ways.proofs.KeptLaws.{kept_is_in, kept_more}
use Rattle.kb_ways.specs.Kept.{kept}

-- the way on from the state in which what is kept was put is that of the plan
pub put_led : (world : World) (bounds : Bounds) (next : ℕ) (state : State) (field : FieldSlot) (object value : SymValue) (it : State × SymValue) → kept field.kind value state ≡ Some it
    → has_room world (method_now state.method state.stage) (length (drop 2 (stack_of state.stage))) ≡ true
    → went world bounds next (put_kept object field.slot it) (with_stack it.0 (drop 2 (stack_of it.0.stage))) ≡ followed world bounds next (put_where world state field object value)
put_led world bounds next state field object value it e room =
    let same : it.0.stage ≡ state.stage =
    ap (λ (k : State × SymValue). k.0.stage) (sym (kept_is_in field.kind value state it e)) ∙ ap (λ (s : State). s.stage) (kept_more field.kind value state).rest in
    ap (λ (stage : Stage). went world bounds next (put_kept object field.slot it) (Goes (locals_of stage) (drop 2 (stack_of stage)))) same
    ∙ sym (ap (λ (b : Bool). followed world bounds next (if b then planned state (kept field.kind value state) (puts_kept state object field.slot) else plain state Fails)) room
    ∙ ap (λ (k : Option (State × SymValue)). followed world bounds next (planned state k (puts_kept state object field.slot))) e)
