use Rattle.std.proofs.Common.{◌≡◌, ◌<◌, ◌≤◌, ◌^◌, ◌∙◌, ap, sym, subst, refl, false, length, length-set, set, arith, Some, slice_get}
use Rattle.std.proofs.lemmas.Option.{slice_get_read}
use Rattle.kb_propagate.specs.Rows.{stored_of, rows_of, AreNamed}
use Rattle.kb_propagate.specs.Forgetting.{deleted}
use Rattle.kb_propagate.specs.declared.clauses.Slot.{Slot}
use Rattle.kb_propagate.proofs.ClausesLaws.{IsWithin, EndWithin-shrunk, AreApart-shrunk, stored_deleted, named_deleted}
use Rattle.kb_propagate.proofs.clauses.Clauses.delete.Goals as goal
use Rattle.kb_propagate.proofs.clauses.Clauses.delete.Goals.{After-emptied-span}

there : (c : After-emptied-span) → slice_get c.self.inside.slots.items c.args.number ≡ Some c.index.result.now
there c =
    let slots = c.self.inside.slots.items in
    slice_get_read slots (length slots) c.args.number c.index.result.now refl (omega (arith, c.if-place-len.false, c.len.ensures)) c.index.ensures

-- the row of the clause is empty
removed : (c : After-emptied-span) → stored_of c.self.inside.flat.items (set c.self.inside.slots.items c.args.number (record { span = c.emptied-span.result; awake = false }))
    ≡ deleted (stored_of c.self.inside.flat.items c.self.inside.slots.items) c.args.number
removed c =
    stored_deleted c.self.inside.flat.items c.self.inside.slots.items c.args.number c.index.result.now (record { span = c.emptied-span.result; awake = false }) (there c)
    (c.emptied-span.ensures.end ∙ sym c.emptied-span.ensures.start) refl

pub invariant_of-self : goal.invariant_of-self
invariant_of-self c =
    let flat = c.self.inside.flat.items in
    let slots = c.self.inside.slots.items in
    let slot = c.index.result.now in
    let n = c.args.number in
    let later : Slot = record { span = c.emptied-span.result; awake = false } in
    let at = there (goal.at.invariant_of-self c).After-emptied-span in
    let start : later.span.start ≡ slot.span.start = c.emptied-span.ensures.start in
    let end : later.span.end ≡ slot.span.start = c.emptied-span.ensures.end in
    let order : slot.span.start ≤ slot.span.end = (c.self.invariant.within n slot at).0 in
    let w : IsWithin later.span slot.span = record { start = start; order = omega (arith, start, end); end = omega (arith, end, order) } in
    record {
      few = subst (λ m. m < 2 ^ 32) (sym (length-set slots n later)) c.self.invariant.few;
      within = EndWithin-shrunk flat slots n slot later at w c.self.invariant.within;
      apart = AreApart-shrunk slots n slot later at w c.self.invariant.apart;
      named = subst (λ z. AreNamed (rows_of z)) (sym (removed (goal.at.invariant_of-self c).After-emptied-span)) (named_deleted (stored_of flat slots) n c.self.invariant.named);
    }

pub returns : goal.returns
returns c = removed (goal.at.returns c).After-emptied-span ∙ ap (λ z. deleted z c.args.number) c.self.view_is
