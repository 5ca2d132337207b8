use Rattle.kb_lazy.specs.Choices.{all_new}
use Rattle.std.proofs.Common.{◌++◌}
use Rattle.kb_lazy.proofs.NewLaws.{new_step}
use Rattle.kb_lazy.proofs.fresh.push_new.Goals as goal

pub loop-rest-preserved : goal.loop-rest-preserved
loop-rest-preserved c =
    new_step c.args.world.now c.args.kind.now c.args.array c.loop-rest.choices c.push_if_fitting.new.choices (c.args.choices.now ++ all_new c.args.world.now c.args.kind.now c.args.array) c.loop-rest.rest.now
    c.first-item.result c.in-len1-up.len_at_least c.first-item.is c.in_ok-push_if_fitting.ensures c.loop-rest.invariant
