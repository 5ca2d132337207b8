use Rattle.kb_steparray.proofs.loads.load_chosen.Goals as goal

-- with no place the index is outside
pub returns-in-None : goal.returns-in-None
returns-in-None c = rw (← c.in-None.ensures) c.throws.ensures
