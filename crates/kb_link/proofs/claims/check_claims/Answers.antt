use Rattle.std.proofs.Common.{List, refl, subst}
use Rattle.std.specs.List.{flat_map}
use Rattle.kb_class.specs.Class.{Class}
use Rattle.kb_classes.specs.Subtypes.{claims_of}
use Rattle.kb_classes.specs.Rules.{IsFirst, IsBad}
use Rattle.kb_classes.specs.Refusals.{RefusesClasses}
use Rattle.kb_classes.proofs.Firsts.{first_here, handed_on}
use Rattle.kb_link.proofs.Claiming.{bad_refuses}
use Rattle.kb_link.proofs.claims.check_claims.Goals as goal

pub returns-in_err-check_class-clause-refused : goal.returns-in_err-check_class-clause-refused
returns-in_err-check_class-clause-refused c =
    let classes = c.args.classes.now in
    handed_on (RefusesClasses classes) c.from_residual.result c.in_err-check_class.field-0.0 c.from_residual.ensures.1
    (bad_refuses classes (claims_of c.class-item.result) c.in_err-check_class.field-0.0
    (λ claim first. (
      c.requires.0,
      c.requires.1,
      c.requires.2,
      record {
        claim = claim;
        named = refl;
        first =
            subst (λ (cs : List Class). IsFirst (IsBad classes) (flat_map claims_of cs) claim) c.as_slice-class-items.ensures.same
            (first_here claims_of (IsBad classes) c.as_slice-class-items.result.now c.loop-class.class-index c.class-item.result c.loop-class-test.true c.class-item.is claim c.loop-class.invariant first);
      },
    ))
    c.in_err-check_class.ensures.refused)
