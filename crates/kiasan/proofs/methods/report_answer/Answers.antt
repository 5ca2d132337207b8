use Rattle.kiasan.proofs.methods.report_answer.Goals as goal

pub returns-clause-text : goal.returns-clause-text
returns-clause-text c = record { text_is = c.in_ok-text.ensures.text; only = c.in_ok-text.ensures.own }
