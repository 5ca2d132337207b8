use Rattle.std.proofs.Common.{◌≡◌, map, take}
use Rattle.kb_format.specs.Members.{member_of_field}
use Rattle.kb_format.proofs.members.field_members.Given as goal

abbrev pub invariant-loop-field : goal.invariant-loop-field
invariant-loop-field l = l.members.items ≡ map member_of_field (take l.field-index l.fields)
