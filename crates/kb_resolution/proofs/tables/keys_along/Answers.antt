use Rattle.kb_resolution.specs.Tables.{keys_along, keys_at}
use Rattle.kb_resolution.proofs.KeyLaws.{keys_step}
use Rattle.kb_resolution.proofs.tables.keys_along.Goals as goal

pub loop-back-preserved : goal.loop-back-preserved
loop-back-preserved c =
    keys_step (keys_at c.args.linked.now.classes c.args.numbers.now.classes.items) c.args.chain.now c.loop-back.back c.loop-back.keys.items c.add_keys_at.new.keys.items
    (keys_along c.args.linked.now.classes c.args.numbers.now.classes.items c.args.chain.now) c.loop-back-test.true c.loop-back.invariant c.in_ok-add_keys_at.ensures
