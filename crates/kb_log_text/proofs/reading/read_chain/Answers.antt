use Rattle.kb_grammar.proofs.ReadLaws.{none_read}
use Rattle.kb_log_text.specs.Lines.{SpellsSteps}
use Rattle.kb_log_text.proofs.ReadLaws.{no_start, no_steps}
use Rattle.kb_log_text.proofs.reading.read_chain.Goals as goal

pub returns-in_default : goal.returns-in_default
returns-in_default c = no_start c.args.line.now c.in_default.ensures

pub returns-in-None : goal.returns-in-None
returns-in-None c =
    no_steps c.args.line.now c.in-Some.rest.now c.in-Some.start c.in-Some.ensures.0 c.in-Some.ensures.1 c.in-Some.ensures.2
    (none_read SpellsSteps c.in-Some.rest.now c.in_ok-steps.field-0 c.in-None.is c.in_ok-steps.ensures)
