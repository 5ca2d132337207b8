use Rattle.std.proofs.Common.{sym}
use Rattle.kb_classes.proofs.Named.{number_inside}
use Rattle.kb_world.proofs.world.World.new_class_fault.Goals as goal

pub object_fault-requires : goal.object_fault-requires
object_fault-requires c = number_inside c.args.self.now.classes c.args.name.now c.in-Some.class.0 (sym c.in-Some.ensures)
