use Rattle.std.proofs.lemmas.List.{take_all}
use Rattle.std.proofs.Common.{arith, ◌≡◌, take}
use Rattle.kb_propagate.proofs.clauses.named.Goals as goal

-- src/clauses.rt:91:1
pub returns : goal.returns
returns c l h =
    let all : take c.loop-literal.literal-index c.args.literals.now ≡ c.args.literals.now = take_all _ _ (omega (arith, c.loop-literal-test.false)) in
    c.loop-literal.invariant l (rw all h)
