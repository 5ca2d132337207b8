use Rattle.kb_grammar.proofs.ReadLaws.{if_ok}
use Rattle.kb_path_words.proofs.ReadLaws.{not_line, no_first, decisions_read}
use Rattle.kb_path_words.proofs.reading_lines.read_decisions.Goals as goal

pub returns-in-Some : goal.returns-in-Some
returns-in-Some c =
    if_ok _ _ c.read_further.result
    (λ read h.
    decisions_read c.args.word.now c.in-Some.rest.now c.in-Some.first read (not_line c.is_line.result _ c.if-is_line.false c.is_line.ensures)
    c.in-Some.ensures.0 c.in-Some.ensures.1 c.in-Some.ensures.2 h)
    c.read_further.ensures

pub returns-in-None : goal.returns-in-None
returns-in-None c = no_first c.args.word.now (not_line c.is_line.result _ c.if-is_line.false c.is_line.ensures) c.in-None.ensures
