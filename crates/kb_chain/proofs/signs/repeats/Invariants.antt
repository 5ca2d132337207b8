use Rattle.std.proofs.Common.{◌≡◌, drop, None}
use Rattle.kb_chain.specs.Signs.{repeats}
use Rattle.kb_chain.proofs.signs.repeats.Given as goal

abbrev pub invariant-loop-literal : goal.invariant-loop-literal
invariant-loop-literal l = repeats l.previous (drop l.literal-index l.literals) ≡ repeats None l.literals
