use Rattle.kb_fits.proofs.fits.has_values_of.Goals as goal

pub returns-in-Class : goal.returns-in-Class
returns-in-Class c = rw (c.in-Class.is, ← c.slots_named.ensures) c.are_values_of.ensures
