use Rattle.std.proofs.Common.{◌≡◌, take}
use Rattle.kb_blast.specs.Query.{numbered_conditions}
use Rattle.kb_numbered.proofs.terms.numbered_conditions.Given as goal

abbrev pub invariant-loop-term : goal.invariant-loop-term
invariant-loop-term l = l.conditions ≡ numbered_conditions l.numbering (take l.term-index l.when)
