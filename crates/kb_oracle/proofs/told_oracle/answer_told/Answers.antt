use Rattle.kb_oracle.proofs.told_oracle.answer_told.Goals as goal

pub returns-in_ok-decide-in-None-clause-answers : goal.returns-in_ok-decide-in-None-clause-answers
returns-in_ok-decide-in-None-clause-answers c = c.in_ok-decide-in-None.ensures.answers c.args.budget
