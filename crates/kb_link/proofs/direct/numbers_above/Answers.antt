use Rattle.kb_classes.specs.Subtypes.{parent_names, super_names}
use Rattle.kb_classes.specs.Rules.{IsMissing}
use Rattle.kb_classes.proofs.Firsts.{first_behind, err_as}
use Rattle.kb_link.proofs.Claiming.{stops_missing}
use Rattle.kb_link.proofs.direct.numbers_above.Goals as goal

pub returns-clause-refused : goal.returns-clause-refused
returns-clause-refused c =
    let classes = c.args.classes.now in
    let class = c.args.class.now in
    err_as c.with_interfaces.result
    (λ refusal stops. stops_missing classes class.interfaces (super_names class) refusal (λ name first. first_behind (IsMissing classes) (parent_names class.parent) class.interfaces name c.in_ok-numbers.ensures.numbers.1 first) stops)
    c.with_interfaces.ensures.refused
