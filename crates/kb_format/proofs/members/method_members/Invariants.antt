use Rattle.std.proofs.Common.{◌≡◌, map, take}
use Rattle.kb_format.specs.Members.{member_of_method}
use Rattle.kb_format.proofs.members.method_members.Given as goal

abbrev pub invariant-loop-method : goal.invariant-loop-method
invariant-loop-method l = l.members.items ≡ map member_of_method (take l.method-index l.methods)
