use Rattle.kb_grammar.proofs.ReadLaws.{none_read}
use Rattle.kb_log_text.specs.Lines.{SpellsChain}
use Rattle.kb_log_text.proofs.ReadLaws.{no_entry}
use Rattle.kb_log_text.proofs.reading.LogFormatLineFormat.read_line.Goals as goal

pub returns-in_default : goal.returns-in_default
returns-in_default c = λ before stands.
    no_entry c.args.line.now (none_read SpellsChain c.args.line.now c.in_ok-entry.field-0 c.in_default.is c.in_ok-entry.ensures) before
