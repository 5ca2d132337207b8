use Rattle.std.proofs.Common.{sym, ◌∙◌}
use Rattle.kb_asm_text.proofs.TextLaws.{line_read}
use Rattle.kb_asm_text.proofs.reading.read_line.Goals as goal

pub returns : goal.returns
returns c = line_read c.args.text.now c.in_ok-words.words c.in-Some.first.now c.in-Some.others.now c.read_behind.result c.in_ok-words.ensures (sym c.as_slice.ensures ∙ c.in-Some.ensures) c.read_behind.ensures
