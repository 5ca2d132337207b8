use Rattle.kb_steparray.proofs.making.make_chosen.Goals as goal

-- a negative length throws
pub returns-in-Negative : goal.returns-in-Negative
returns-in-Negative c = rw (c.in-Negative.is) c.throws.ensures
