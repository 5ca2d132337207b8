use Rattle.kb_load.proofs.given_class.Goals as goal

pub returns-clause-spelled : goal.returns-clause-spelled
returns-clause-spelled c = record { file = c.in-Ok.ensures.found; listed = rw c.from_vec.ensures c.in-Ok-listings_of.ensures }

pub returns-clause-given : goal.returns-clause-given
returns-clause-given c = record { bytes = c.args.bytes.now; spelled = c.in-Ok.ensures.found.spelled; listed = rw c.from_vec.ensures c.in-Ok-listings_of.ensures }
