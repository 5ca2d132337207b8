use Rattle.std.proofs.Common.{take}
use Rattle.std.specs.List.{flat_map}
use Rattle.kb_classes.specs.Subtypes.{claims_of}
use Rattle.kb_classes.specs.Rules.{IsNoneSuch, IsBad}
use Rattle.kb_link.proofs.claims.check_claims.Given as goal

abbrev pub invariant-loop-class : goal.invariant-loop-class
invariant-loop-class l = IsNoneSuch (IsBad l.fn.classes) (flat_map claims_of (take l.class-index l.class-items))
