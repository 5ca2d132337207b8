use Rattle.std.proofs.Common.{◌≡◌, ◌∙◌, ap, sym, ◌<◌, length, false, set, get_or, arith}
use Rattle.std.specs.List.{filter}
use Rattle.kb_chain.specs.Literal.{literal, place_of}
use Rattle.kb_chain.specs.Working.{marked}
use Rattle.std.proofs.lemmas.List.{get_or_past}
use Rattle.kb_chain.proofs.WorkingLaws.{shown-remove, shown-absent}
use Rattle.kb_chain.proofs.OrderLaws.{IsOrdered-clause_of}
use Rattle.kb_chain.proofs.working.Working.remove.Goals as goal

pub returns-then-place-len-clause-clause : goal.returns-then-place-len-clause-clause
returns-then-place-len-clause-clause c =
    let lt : place_of (literal c.args.variable c.args.positive) < length c.self.inside.marks.items =
    rw (c.place_of-place.ensures) at (let k : c.place_of-place.result < length c.self.inside.marks.items = omega arith in k) in
    rw (c.place_of-place.ensures, ← c.self.view_is)
    (shown-remove c.self.inside.marks.items c.self.inside.touched.items (literal c.args.variable c.args.positive) c.self.invariant lt)

pub returns-else-place-len-clause-clause : goal.returns-else-place-len-clause-clause
returns-else-place-len-clause-clause c =
    let m : marked c.self.inside.marks.items (literal c.args.variable c.args.positive) ≡ false =
    ap (λ k. get_or c.self.inside.marks.items k false) (sym c.place_of-place.ensures)
    ∙ get_or_past c.self.inside.marks.items c.place_of-place.result false (omega arith) in
    rw (← c.self.view_is)
    (shown-absent c.self.inside.marks.items c.self.inside.touched.items (literal c.args.variable c.args.positive) c.self.invariant m)

pub returns-then-place-len-clause-ordered : goal.returns-then-place-len-clause-ordered
returns-then-place-len-clause-ordered c =
    IsOrdered-clause_of (filter (marked (set c.self.inside.marks.items c.place_of-place.result false)) c.self.inside.touched.items)

pub returns-else-place-len-clause-ordered : goal.returns-else-place-len-clause-ordered
returns-else-place-len-clause-ordered c = rw (← c.self.view_is) (IsOrdered-clause_of (filter (marked c.self.inside.marks.items) c.self.inside.touched.items))
