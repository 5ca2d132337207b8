use Rattle.std.proofs.Common.{◌∙◌, arith}
use Rattle.kb_classes.proofs.UniverseReading.{pushed_more, pushed_done}
use Rattle.kb_classes.proofs.universe.push_arrays.Goals as goal

pub loop-rest-preserved : goal.loop-rest-preserved
loop-rest-preserved c =
    pushed_more c.args.universe.now c.loop-rest.universe c.push.new.self c.args.arrays.now c.loop-rest.rest.now c.text-item.result c.in_ok-component.component
    c.in-len1-up.len_at_least c.text-item.is (λ of simple e. c.in_ok-component.ensures of simple (c.as_slice.ensures ∙ e)) c.in_ok-push.ensures.ok c.loop-rest.invariant

pub returns : goal.returns
returns c = pushed_done c.args.universe.now c.loop-rest.universe c.args.arrays.now c.loop-rest.rest.now (omega (arith, c.in_default.len_below)) c.loop-rest.invariant
