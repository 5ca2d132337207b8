use Rattle.std.proofs.Common.{ℕ, arith, length-drop, length-take}
use Rattle.kb_outside.proofs.Bytes.{Grows-further}
use Rattle.kb_outside.proofs.sinks.send_all.Goals as goal

pub loop-sent-preserved : goal.loop-sent-preserved
loop-sent-preserved g c = record {
  within = omega (arith, c.in_ok-sent.ensures.within, length-take {A = ℕ}, length-drop {A = ℕ});
  later = omega (arith, c.loop-sent.invariant.later, c.write.ensures.later);
  grown = Grows-further _ _ _ _ _ _ c.loop-sent.invariant.grown c.in_ok-sent.ensures.taken;
}
