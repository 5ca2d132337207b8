use Rattle.std.proofs.Common.{sym, subst}
use Rattle.kb_classes.specs.World.{World}
use Rattle.kb_report_known.specs.Fields.{IsTextOf}
use Rattle.kb_report_known.proofs.fields.Fields.named.Goals as goal

pub returns-in-Some-clause-some : goal.returns-in-Some-clause-some
returns-in-Some-clause-some c =
    subst (λ (world : World). IsTextOf world c.args.text.now c.in-Some.field.now) c.self.view_is (c.self.invariant.0.found c.args.text.now c.in-Some.field.now (sym c.in-Some.ensures.value))
