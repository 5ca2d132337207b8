use Rattle.std.proofs.Common.{◌≡◌, ◌-◌, length}
use Rattle.kb_classes.specs.World.{methods_in}
use Rattle.kb_world.specs.Walks.{AreSettled}
use Rattle.kb_world.proofs.Reaching.{IsWalked}
use Rattle.kb_world.proofs.world.World.check_methods.Given as goal

abbrev pub invariant-loop-number : goal.invariant-loop-number
invariant-loop-number l = (l.found.all ≡ length (methods_in l.self.classes)) × IsWalked l.self l.fn.id.0 l.place l.found.numbers × AreSettled l.self l.found.numbers l.looked

abbrev pub decreases-loop-number : goal.decreases-loop-number
decreases-loop-number l = length (methods_in l.self.classes) - l.place
