use Rattle.kb_report_text.specs.Tables.{has_name}
use Rattle.kb_report_text.proofs.NameLaws.{met_next, shared_next}
use Rattle.kb_report_text.proofs.naming.shared_names.Goals as goal

pub loop-field-preserved : goal.loop-field-preserved
loop-field-preserved c =
    let met = c.loop-field.invariant.0 in
    let shared = c.loop-field.invariant.1 in (
      met_next c.args.fields.now c.loop-field.field-index c.field-item.result (has_name c.loop-field.met) (has_name c.note.new.met) c.loop-field-test.true c.field-item.is met c.in_ok-note.ensures.met,
      shared_next c.args.fields.now c.loop-field.field-index c.field-item.result (has_name c.loop-field.met) (has_name c.loop-field.shared) (has_name c.note.new.shared) c.loop-field-test.true c.field-item.is met shared
          c.in_ok-note.ensures.shared,
    )
