use Rattle.std.proofs.Common.{◌≡◌, ◌<◌, ◌-◌, ◌∙◌, ap, sym, subst, length, take, drop, Some, slice_get}
use Rattle.kb_propagate.specs.Rows.{stored_of, rows_of}
use Rattle.kb_propagate.proofs.ClausesLaws.{slot_at, row_there}
use Rattle.kb_propagate.proofs.clauses.Clauses.literals.Goals as goal

pub returns : goal.returns
returns c =
    let flat = c.self.inside.flat.items in
    let slots = c.self.inside.slots.items in
    let slot = c.index.result.now in
    let n = c.args.number in
    let lt : n < length (rows_of (stored_of flat slots)) = subst (λ z. n < length (rows_of z)) (sym c.self.view_is) c.requires in
    ap (λ z. slice_get (rows_of z) n) (sym c.self.view_is)
    ∙ (row_there flat slots n slot (slot_at flat slots n slot lt c.index.ensures)
    ∙ ap (λ z. Some (take (slot.span.end - slot.span.start) (drop slot.span.start z))) (sym c.deref.ensures.value))
