use Rattle.std.proofs.Common.{List, subst}
use Rattle.std.specs.List.{flat_map}
use Rattle.kb_class.specs.Class.{Class}
use Rattle.kb_classes.specs.Subtypes.{super_names}
use Rattle.kb_classes.specs.Rules.{IsFirst, IsMissing}
use Rattle.kb_classes.specs.Refusals.{RefusesClasses}
use Rattle.kb_classes.proofs.Firsts.{first_here, handed_on}
use Rattle.kb_link.proofs.Claiming.{missing_refuses}
use Rattle.kb_link.proofs.direct.direct_supers.Goals as goal

pub returns-in_err-numbers-clause-refused : goal.returns-in_err-numbers-clause-refused
returns-in_err-numbers-clause-refused c =
    let classes = c.args.classes.now in
    handed_on (RefusesClasses classes) c.from_residual.result c.in_err-numbers.field-0.0 c.from_residual.ensures.1
    (missing_refuses classes (super_names c.class-item.result) c.in_err-numbers.field-0.0 c.requires
    (λ name first. (
      c.requires,
      subst (λ (cs : List Class). IsFirst (IsMissing classes) (flat_map super_names cs) name) c.as_slice-class-items.ensures.same
          (first_here super_names (IsMissing classes) c.as_slice-class-items.result.now c.loop-class.class-index c.class-item.result c.loop-class-test.true c.class-item.is name c.loop-class.invariant.1 first),
    ))
    c.in_err-numbers.ensures.refused)
