use Rattle.std.proofs.Common.{add-one, sym, ◌∙◌}
use Rattle.kb_names.proofs.Reading.{reached-suc}
use Rattle.kb_names.proofs.stages.read_all.Goals as goal

pub loop-at-preserved : goal.loop-at-preserved
loop-at-preserved g c =
    rw add-one
    (reached-suc g.S.Stage.step c.args.start c.loop-at.stage c.args.text.now c.loop-at.at c.loop-at-test.true c.loop-at.invariant
    ∙ sym c.in-Ok-Some.ensures ∙ c.in-Ok-Some.field-0-is)
