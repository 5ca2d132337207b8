use Rattle.std.proofs.Common.{sym}
use Rattle.kb_chain.proofs.OrderLaws.{has-from_last}
use Rattle.kb_chain.proofs.clause.ends_with.Goals as goal

pub returns-in-Some : goal.returns-in-Some
returns-in-Some c =
    rw (c.place.ensures.value, c.place-in-Some.ensures.value)
    (has-from_last c.args.ordered.now c.args.literal c.in-Some.last.now c.requires.ordered c.requires.last (sym c.in-Some.ensures.value))
