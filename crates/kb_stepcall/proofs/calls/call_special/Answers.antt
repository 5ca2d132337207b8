use Rattle.kb_stepcall.proofs.calls.call_special.Goals as goal

-- a receiver that is null throws
pub returns-in-Null : goal.returns-in-Null
returns-in-Null c = rw (← c.in-Null.ensures) c.throws.ensures
