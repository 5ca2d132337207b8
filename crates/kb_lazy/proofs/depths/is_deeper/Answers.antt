use Rattle.std.proofs.Common.{sym, ◌∙◌, get_or}
use Rattle.std.proofs.lemmas.Option.{slice_get-get_or}
use Rattle.kb_lazy.proofs.DepthLaws.{step_deeper}
use Rattle.kb_lazy.proofs.depths.is_deeper.Goals as goal

pub loop-left-preserved : goal.loop-left-preserved
loop-left-preserved c =
    step_deeper c.loop-left.before.now c.loop-left.origin c.in-Some.holder c.loop-left.left (get_or c.loop-left.before.now c.in-Some.holder c.index-before-holder.result) c.loop-left-test.true
    (sym c.in-Some.ensures.holder) (slice_get-get_or c.loop-left.before.now c.in-Some.holder c.index-before-holder.result c.in-Some.ensures.inside)
    ∙ c.loop-left.invariant
