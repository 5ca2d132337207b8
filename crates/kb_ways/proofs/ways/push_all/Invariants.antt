use Rattle.std.proofs.Common.{◌≡◌, ◌++◌, reverse, take}
use Rattle.kb_frames.specs.declared.frame.SymFrame.{SymFrame}
use Rattle.kb_frames.specs.Lent.{on_frame}
use Rattle.kb_ways.proofs.ways.push_all.Given as goal

abbrev pub invariant-loop-value : goal.invariant-loop-value
invariant-loop-value l = l.state ≡ on_frame (λ (frame : SymFrame). record frame { stack = reverse (take l.value-index l.values) ++ frame.stack }) l.fn.state
