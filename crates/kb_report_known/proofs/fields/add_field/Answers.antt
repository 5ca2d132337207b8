use Rattle.std.proofs.Common.{List, ℕ, ◌++◌, ap, ◌∙◌}
use Rattle.kb_report_text.specs.Slots.{field_text}
use Rattle.kb_report_known.proofs.TableLaws.{field_added}
use Rattle.kb_report_known.proofs.fields.add_field.Goals as goal

pub returns : goal.returns
returns c =
    field_added c.args.named.now c.args.slot.now c.args.numbers.now.entries c.insert.new.self.entries c.into_bytes.result
    (c.into_bytes.ensures ∙ c.in_ok-write_field.ensures ∙ ap (λ (t : List ℕ). t ++ field_text c.args.named.now c.args.slot.now) c.new-text.ensures) c.in_ok-insert.ensures.entries
