use Rattle.std.proofs.Common.{List, ℕ, ◌++◌, ◌∙◌, ap}
use Rattle.std.specs.Prelude.{codes}
use Rattle.kb_test_lines.specs.Words.{SpellsWords}
use Rattle.kb_grammar.proofs.ReadLaws.{none_read}
use Rattle.kb_test_lines.proofs.Parts.{bad_number, bad_outs}
use Rattle.kb_test_lines.proofs.lines.read_out_line.Goals as goal

pub returns-in_default-read_number : goal.returns-in_default-read_number
returns-in_default-read_number c =
    bad_number c.args.line.now c.first_part.result.0.now c.first_part.result.1.now c.first_part.ensures.part c.first_part.ensures.rest
    (c.in-Some.ensures ∙ ap (λ (r : List ℕ). codes "out i" ++ r) c.first_part.ensures.text) c.in_default-read_number.ensures

pub returns-in-None : goal.returns-in-None
returns-in-None c =
    bad_outs c.args.line.now c.first_part.result.0.now c.first_part.result.1.now c.first_part.ensures.part c.first_part.ensures.rest
    (c.in-Some.ensures ∙ ap (λ (r : List ℕ). codes "out i" ++ r) c.first_part.ensures.text)
    (none_read SpellsWords c.first_part.result.1.now c.in_ok-words.field-0 c.in-None.is c.in_ok-words.ensures)
