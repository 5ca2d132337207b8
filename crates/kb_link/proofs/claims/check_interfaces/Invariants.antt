use Rattle.std.proofs.Common.{map, take}
use Rattle.kb_classes.specs.Subtypes.{interface_claim}
use Rattle.kb_classes.specs.Rules.{IsNoneSuch, IsBad}
use Rattle.kb_link.proofs.claims.check_interfaces.Given as goal

abbrev pub invariant-loop-place : goal.invariant-loop-place
invariant-loop-place l = IsNoneSuch (IsBad l.fn.classes) (map interface_claim (take l.place l.fn.class.interfaces))
