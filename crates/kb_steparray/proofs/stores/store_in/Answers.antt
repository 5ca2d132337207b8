use Rattle.kb_steparray.proofs.stores.store_in.Goals as goal

-- an array that is null throws
pub returns-in-Null : goal.returns-in-Null
returns-in-Null c = rw (c.in-Null.is) c.throws.ensures
