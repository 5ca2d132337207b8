use Rattle.std.proofs.Common.{◌-◌}
use Rattle.kb_classes.specs.Slots.{own_slots_at, slots_along}
use Rattle.kb_classes.proofs.SlotLaws.{along_step}
use Rattle.kb_classes.proofs.slots.slots_along.Goals as goal

pub loop-back-preserved : goal.loop-back-preserved
loop-back-preserved c =
    along_step (own_slots_at c.args.classes.now) c.args.chain.now c.loop-back.back c.loop-back.slots c.in_ok-slots.slots (slots_along c.args.classes.now c.args.chain.now) c.loop-back-test.true c.loop-back.invariant c.in_ok-slots.ensures
