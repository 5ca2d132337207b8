use Rattle.std.proofs.Common.{take}
use Rattle.kb_format.proofs.Judged.{AreJudged}
use Rattle.kb_format.proofs.verdicts.verdicts_of.Given as goal

abbrev pub invariant-loop-entry : goal.invariant-loop-entry
invariant-loop-entry l = AreJudged (take l.entry-index l.pool) l.verdicts.items
