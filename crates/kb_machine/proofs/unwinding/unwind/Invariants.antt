use Rattle.std.proofs.Common.{◌≡◌, ◌∷◌, ℕ, length}
use Rattle.kb_heap.specs.declared.heap.Heap.{Heap}
use Rattle.kb_semantics.specs.Config.{Config}
use Rattle.kb_semantics.specs.Ways.{handler_at}
use Rattle.kb_machine.specs.Landings.{unwound}
use Rattle.kb_machine.specs.Turns.{setting_of}
use Rattle.kb_machine.proofs.unwinding.unwind.Given as goal

abbrev pub invariant-loop-target : goal.invariant-loop-target
invariant-loop-target l = record {
  target : l.target ≡ handler_at l.turn.world.now l.frame.method l.frame.at l.kind;
  same : (c : Config) (heap : Heap) (object : ℕ) →
      unwound (setting_of l.turn) c heap object l.kind (l.frame ∷ l.callers) ≡ unwound (setting_of l.turn) c heap object l.kind (l.fn.frame ∷ l.fn.callers);
}

abbrev pub decreases-loop-target : goal.decreases-loop-target
decreases-loop-target l = length l.callers
