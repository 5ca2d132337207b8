use Rattle.std.proofs.Common.{arith}
use Rattle.kb_asm_text.proofs.HeadLaws.{none_named}
use Rattle.kb_asm_text.proofs.shape.op_of.Goals as goal

pub returns : goal.returns
returns c = let ended = c.loop-op-test.false in none_named c.args.name.now (λ k lt. c.loop-op.invariant k (omega (arith, lt, ended)))
