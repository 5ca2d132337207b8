use Rattle.std.proofs.Common.{◌≡◌, ◌∙◌, ap, sym, ◌<◌, length, true, false, get_or}
use Rattle.kb_chain.specs.Literal.{place_of}
use Rattle.kb_chain.specs.Working.{marked}
use Rattle.kb_chain.proofs.WorkingLaws.{shown-insert, shown-known}
use Rattle.kb_chain.proofs.working.Working.insert.Goals as goal

pub returns-then-is_marked-clause-ok : goal.returns-then-is_marked-clause-ok
returns-then-is_marked-clause-ok c =
    let m : marked c.self.inside.marks.items c.args.literal ≡ true =
    ap (λ k. get_or c.self.inside.marks.items k false) (sym c.place-place.ensures.value)
    ∙ (ap (λ z. get_or z c.place-place.result false) (sym c.as_slice.ensures.value) ∙ (sym c.is_marked.ensures ∙ c.if-is_marked.true)) in
    rw (← c.self.view_is) (shown-known c.self.inside.marks.items c.self.inside.touched.items c.args.literal c.self.invariant m)

pub returns-clause-ok : goal.returns-clause-ok
returns-clause-ok c =
    let lt : place_of c.args.literal < length c.self.inside.marks.items = rw (← c.self.view_is) at c.requires in
    rw (c.in_ok-push.ensures.items, c.place-place.ensures.value, ← c.self.view_is)
    (shown-insert c.self.inside.marks.items c.self.inside.touched.items c.args.literal c.self.invariant lt)
