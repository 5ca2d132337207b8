use Rattle.std.proofs.Common.{sym, ◌∙◌}
use Rattle.kb_report_known.proofs.FieldLaws.{there_true}
use Rattle.kb_report_known.proofs.KnownLaws.{field_above, field_apart, field_below}
use Rattle.kb_report_known.proofs.known.lower.Goals as goal

pub returns-then-has-clause-shape : goal.returns-then-has-clause-shape
returns-then-has-clause-shape c =
    field_above c.args.fields.now c.tell_linked.ensures c.args.lowest c.args.field
    (there_true c.args.fields.now c.args.lowest.class.0 c.args.field.class.0 c.has.result c.has.ensures c.if-has.true)

pub returns-then-has-2-clause-shape : goal.returns-then-has-2-clause-shape
returns-then-has-2-clause-shape c =
    field_below c.args.fields.now c.tell_linked.ensures c.args.lowest c.args.field
    (there_true c.args.fields.now c.args.field.class.0 c.args.lowest.class.0 c.has-2.result c.has-2.ensures c.if-has-2.true)

pub returns-clause-shape : goal.returns-clause-shape
returns-clause-shape c =
    field_apart c.args.fields.now c.tell_linked.ensures c.args.lowest c.args.field (sym c.has.ensures ∙ c.if-has.false) (sym c.has-2.ensures ∙ c.if-has-2.false)
