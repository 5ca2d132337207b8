use Rattle.std.proofs.Common.{◌≡◌, ◌+◌, ◌<◌, ◌∙◌, ap, sym, subst, length, set, arith, List, ℕ, Some, slice_get}
use Rattle.std.specs.List.{swap}
use Rattle.kb_chain.specs.Literal.{Literal}
use Rattle.kb_propagate.specs.Rows.{StoredClause, stored_at, stored_of, rows_of, row_of, AreNamed}
use Rattle.kb_propagate.specs.declared.clauses.Slot.{Slot}
use Rattle.kb_propagate.proofs.Places.{at_same}
use Rattle.kb_propagate.proofs.ClausesLaws.{slot_at, row_there, stored_there, inside_flat, place_inside, within_swapped, named_swapped, stored_swapped}
use Rattle.kb_propagate.proofs.clauses.Clauses.swap.Goals as goal
use Rattle.kb_propagate.proofs.clauses.Clauses.swap.Goals.{After-index, After-swap}

-- the clause of this number stands there, and its row has both places
record IsThere (flat : List Literal) (slots : List Slot) (k : ℕ) (slot : Slot) (i j : ℕ) : Type 0 where
  slot_is : slice_get slots k ≡ Some slot
  first : i < length (row_of flat slot.span)
  second : j < length (row_of flat slot.span)

there : (c : After-index) → IsThere c.self.inside.flat.items c.self.inside.slots.items c.args.number c.index.result.now c.args.i c.args.j
there c =
    let flat = c.self.inside.flat.items in
    let slots = c.self.inside.slots.items in
    let slot = c.index.result.now in
    let n = c.args.number in
    let lt : n < length (rows_of (stored_of flat slots)) = subst (λ z. n < length (rows_of z)) (sym c.self.view_is) c.requires.number in
    let e = slot_at flat slots n slot lt c.index.ensures in
    let both = c.requires.inside (row_of flat slot.span) (ap (λ z. slice_get (rows_of z) n) (sym c.self.view_is) ∙ row_there flat slots n slot e) in
    record { slot_is = e; first = both.0; second = both.1 }

pub place-first-requires : goal.place-first-requires
place-first-requires c =
    let h = there (goal.at.place-first-requires c).After-index in
    place_inside c.self.inside.flat.items c.self.inside.slots.items c.args.number c.index.result.now c.args.i c.self.invariant.within h.slot_is h.first

pub place-second-requires : goal.place-second-requires
place-second-requires c =
    let h = there (goal.at.place-second-requires c).After-index in
    place_inside c.self.inside.flat.items c.self.inside.slots.items c.args.number c.index.result.now c.args.j c.self.invariant.within h.slot_is h.second

pub swap-requires-clause-i_in_bounds : goal.swap-requires-clause-i_in_bounds
swap-requires-clause-i_in_bounds c =
    let h = there (goal.at.swap-requires-clause-i_in_bounds c).After-index in
    let low = inside_flat c.self.inside.flat.items c.self.inside.slots.items c.args.number c.index.result.now c.args.i c.self.invariant.within h.slot_is h.first in
    omega (arith, low, c.place-first.ensures)

pub swap-requires-clause-j_in_bounds : goal.swap-requires-clause-j_in_bounds
swap-requires-clause-j_in_bounds c =
    let h = there (goal.at.swap-requires-clause-j_in_bounds c).After-index in
    let low = inside_flat c.self.inside.flat.items c.self.inside.slots.items c.args.number c.index.result.now c.args.j c.self.invariant.within h.slot_is h.second in
    omega (arith, low, c.place-second.ensures)

-- the table, by the places in the row
items : (c : After-swap) → c.swap.new.self.items ≡ swap c.self.inside.flat.items (c.index.result.now.span.start + c.args.i) (c.index.result.now.span.start + c.args.j)
items c =
    let flat = c.self.inside.flat.items in
    c.swap.ensures.items
    ∙ (ap (λ z. swap flat z c.place-second.result) c.place-first.ensures
    ∙ ap (λ z. swap flat (c.index.result.now.span.start + c.args.i) z) c.place-second.ensures)

pub invariant_of-self : goal.invariant_of-self
invariant_of-self c =
    let flat = c.self.inside.flat.items in
    let slots = c.self.inside.slots.items in
    let slot = c.index.result.now in
    let h = there (goal.at.invariant_of-self c).After-index in
    record {
      few = c.self.invariant.few;
      within = rw c.swap.ensures.items (within_swapped flat slots c.place-first.result c.place-second.result c.self.invariant.within);
      apart = c.self.invariant.apart;
      named = subst (λ z. AreNamed (rows_of (stored_of z slots))) (sym (items (goal.at.invariant_of-self c).After-swap))
          (named_swapped flat slots c.args.number slot c.args.i c.args.j c.self.invariant.within c.self.invariant.apart h.slot_is h.first h.second c.self.invariant.named);
    }

pub returns : goal.returns
returns c clause at =
    let flat = c.self.inside.flat.items in
    let slots = c.self.inside.slots.items in
    let slot = c.index.result.now in
    let n = c.args.number in
    let i = c.args.i in
    let j = c.args.j in
    let h = there (goal.at.returns c).After-index in
    let is : stored_at flat slot ≡ clause = at_same (stored_of flat slots) n (stored_at flat slot) clause (stored_there flat slots n slot h.slot_is) (ap (λ z. slice_get z n) c.self.view_is ∙ at) in
    ap (λ z. stored_of z slots) (items (goal.at.returns c).After-swap)
    ∙ (stored_swapped flat slots n slot i j c.self.invariant.within c.self.invariant.apart h.slot_is h.first h.second
    ∙ (ap (λ (z : StoredClause). set (stored_of flat slots) n (record z { literals = swap z.literals i j })) is
    ∙ ap (λ z. set z n (record clause { literals = swap clause.literals i j })) c.self.view_is))
