use Rattle.std.proofs.Common.{List, subst}
use Rattle.std.proofs.lemmas.List.{take_all}
use Rattle.kb_classfile.specs.declared.file.PoolEntry.{PoolEntry}
use Rattle.kb_format.proofs.Judged.{AreJudged, more_judged, judged}
use Rattle.kb_format.proofs.verdicts.verdicts_of.Goals as goal

pub loop-entry-preserved : goal.loop-entry-preserved
loop-entry-preserved c =
    rw (c.in_ok-push.ensures.items)
    (more_judged c.args.pool.now c.loop-entry.entry-index c.entry-item.result c.loop-entry.verdicts.items c.in_ok-verdict.verdict c.loop-entry-test.true c.entry-item.is c.loop-entry.invariant c.in_ok-verdict.ensures)

pub returns : goal.returns
returns c =
    judged c.args.pool.now c.loop-entry.verdicts.items
    (subst (λ (es : List PoolEntry). AreJudged es c.loop-entry.verdicts.items) (take_all c.loop-entry.entry-index c.args.pool.now c.loop-entry-test.false) c.loop-entry.invariant)
