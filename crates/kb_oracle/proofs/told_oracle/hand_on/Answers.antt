use Rattle.kb_oracle.proofs.told_oracle.hand_on.Goals as goal

pub returns-clause-answers : goal.returns-clause-answers
returns-clause-answers c = c.decide.ensures.answers c.args.budget
