use Rattle.std.proofs.Common.{sym, ap, ◌∙◌, ◌==◌, ℕ}
use Rattle.std.specs.Map.{lookup}
use Rattle.std.proofs.lemmas.Option.{none-some}
use Rattle.kb_numbers.specs.declared.pairs.EntryNumbers.{EntryNumbers}
use Rattle.kb_resolution.specs.Tables.{is_named}
use Rattle.kb_resolution.proofs.known.Known.new.Goals as goal

pub returns : goal.returns
returns c = λ world class texts. record {
  of_classes = λ text told at type has. absurd (none-some told (sym (ap (lookup (λ (key : ℕ). text == key)) c.new.ensures.empty) ∙ at));
  of_types = λ text told at kind has. absurd (none-some told (sym (ap (lookup (λ (key : ℕ). text == key)) c.new-2.ensures.empty) ∙ at));
  of_members = λ named told at sought names proper. absurd (none-some told (sym (ap (lookup (λ (key : EntryNumbers). is_named named key)) c.new-3.ensures.empty) ∙ at));
}
