use Rattle.std.proofs.Common.{◌≡◌}
use Rattle.kb_resolution.specs.Lookup.{first_along, declares_open, superinterfaces}
use Rattle.kb_resolution.proofs.MethodLaws.{found_behind}
use Rattle.kb_resolution.proofs.methods.found_above.Given as goal

abbrev pub invariant-loop-number : goal.invariant-loop-number
invariant-loop-number l = found_behind l.linked l.low l.wanted.name.now l.wanted.kind.now l.number ≡ first_along (declares_open l.linked l.wanted.name.now l.wanted.kind.now) (superinterfaces l.linked l.low)
