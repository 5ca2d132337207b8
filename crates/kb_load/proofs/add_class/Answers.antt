use Rattle.kb_load.proofs.add_class.Goals as goal

pub returns : goal.returns
returns c = (c.in_ok-class.class, c.in_ok-class.ensures.spelled, c.in-Ok.ensures.items)
