use Rattle.std.proofs.Common.{◌≡◌, length}
use Rattle.kb_classes.specs.World.{methods_in}
use Rattle.kb_world.specs.Reach.{fault_in, mentions_in}
use Rattle.kb_world.specs.Walks.{with_all, AreSettled}
use Rattle.kb_world.proofs.world.World.check_items.Given as goal

abbrev pub invariant-loop-rest : goal.invariant-loop-rest
invariant-loop-rest l = record {
  all : l.found.all ≡ length (methods_in l.self.classes);
  settled : AreSettled l.self l.found.numbers l.looked;
  none : fault_in l.self l.class.0 l.rest ≡ fault_in l.self l.class.0 l.items;
  added : with_all l.found (mentions_in l.self l.class.0 l.rest) ≡ with_all l.fn.found (mentions_in l.self l.class.0 l.items);
}

abbrev pub decreases-loop-rest : goal.decreases-loop-rest
decreases-loop-rest l = length l.rest
