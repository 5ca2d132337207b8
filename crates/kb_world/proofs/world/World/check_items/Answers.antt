use Rattle.std.proofs.Common.{ap, ◌∙◌}
use Rattle.kb_universe.specs.Found.{FoundMethods}
use Rattle.kb_world.proofs.Items.{fault_later, mention_next, stops_here}
use Rattle.kb_world.proofs.world.World.check_items.Goals as goal

pub loop-rest-preserved : goal.loop-rest-preserved
loop-rest-preserved c = record {
  all = ap (λ (f : FoundMethods). f.all) c.in-Ok.ensures.added ∙ c.loop-rest.invariant.all;
  settled = c.in-Ok.ensures.settled;
  none = fault_later c.args.self.now c.args.class.0 c.loop-rest.rest.now c.item-item.result c.in-len1-up.len_at_least c.item-item.is c.in-Ok.ensures.none ∙ c.loop-rest.invariant.none;
  added = mention_next c.args.self.now c.args.class.0 c.loop-rest.rest.now c.item-item.result c.in-len1-up.len_at_least c.item-item.is c.loop-rest.found c.check_item.new.found c.in-Ok.ensures.added ∙ c.loop-rest.invariant.added;
}

pub returns-in-Err-clause-refused : goal.returns-in-Err-clause-refused
returns-in-Err-clause-refused c =
    stops_here c.args.self.now c.args.class.0 c.loop-rest.rest.now c.item-item.result c.in-len1-up.len_at_least c.item-item.is c.args.method.0 c.args.items.now c.in-Err.refusal c.loop-rest.invariant.none c.in-Err.ensures.refused
