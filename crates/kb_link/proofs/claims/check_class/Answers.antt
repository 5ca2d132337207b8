use Rattle.std.proofs.Common.{map}
use Rattle.kb_classes.specs.Subtypes.{parent_claim, interface_claim, claims_of}
use Rattle.kb_classes.specs.Rules.{IsBad}
use Rattle.kb_classes.proofs.Firsts.{first_behind, err_as}
use Rattle.kb_link.proofs.Claiming.{stops_bad}
use Rattle.kb_link.proofs.claims.check_class.Goals as goal

pub returns-clause-refused : goal.returns-clause-refused
returns-clause-refused c =
    let classes = c.args.classes.now in
    let class = c.args.class.now in
    err_as c.check_interfaces.result
    (λ refusal stops. stops_bad classes (map interface_claim class.interfaces) (claims_of class) refusal (λ claim first. first_behind (IsBad classes) (parent_claim class.parent) (map interface_claim class.interfaces) claim c.in_ok-check_parent.ensures.good first) stops)
    c.check_interfaces.ensures.refused
