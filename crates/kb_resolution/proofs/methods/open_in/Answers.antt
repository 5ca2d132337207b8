use Rattle.std.proofs.Common.{sym}
use Rattle.kb_resolution.proofs.MethodLaws.{declared_within}
use Rattle.kb_resolution.proofs.methods.open_in.Goals as goal

pub method_of-requires : goal.method_of-requires
method_of-requires c = declared_within c.args.linked.now c.requires.linked c.args.wanted.name.now c.args.wanted.kind.now c.args.number c.in-Some.id (sym c.in-Some.ensures)
