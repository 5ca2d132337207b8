use Rattle.kb_resolution.proofs.known.keep_member.Goals as goal

pub returns-in-Ok : goal.returns-in-Ok
returns-in-Ok c = c.in-Ok.ensures.updates.0
