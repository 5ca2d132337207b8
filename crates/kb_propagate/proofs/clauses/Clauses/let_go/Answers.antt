use Rattle.std.proofs.Common.{◌≡◌, ◌<◌, ◌≤◌, ◌^◌, ◌∙◌, ap, sym, subst, refl, false, length, length-set, arith, Some, slice_get}
use Rattle.std.proofs.lemmas.Option.{slice_get_read}
use Rattle.kb_propagate.specs.Rows.{stored_of, rows_of, AreNamed}
use Rattle.kb_propagate.specs.Forgetting.{asleep}
use Rattle.kb_propagate.specs.declared.clauses.Slot.{Slot}
use Rattle.kb_propagate.proofs.ClausesLaws.{IsWithin, EndWithin-shrunk, AreApart-shrunk, stored_asleep, named_asleep}
use Rattle.kb_propagate.proofs.clauses.Clauses.let_go.Goals as goal
use Rattle.kb_propagate.proofs.clauses.Clauses.let_go.Goals.{After-index}

there : (c : After-index) → slice_get c.self.inside.slots.items c.args.number ≡ Some c.index.result.now
there c =
    let slots = c.self.inside.slots.items in
    slice_get_read slots (length slots) c.args.number c.index.result.now refl (omega (arith, c.if-place-len.false, c.len.ensures)) c.index.ensures

pub invariant_of-self : goal.invariant_of-self
invariant_of-self c =
    let flat = c.self.inside.flat.items in
    let slots = c.self.inside.slots.items in
    let slot = c.index.result.now in
    let n = c.args.number in
    let later : Slot = record { span = slot.span; awake = false } in
    let at = there (goal.at.invariant_of-self c).After-index in
    let w : IsWithin later.span slot.span = record { start = refl; order = (c.self.invariant.within n slot at).0; end = omega arith } in
    record {
      few = subst (λ m. m < 2 ^ 32) (sym (length-set slots n later)) c.self.invariant.few;
      within = EndWithin-shrunk flat slots n slot later at w c.self.invariant.within;
      apart = AreApart-shrunk slots n slot later at w c.self.invariant.apart;
      named = subst (λ z. AreNamed (rows_of z)) (sym (stored_asleep flat slots n slot later at refl refl)) (named_asleep (stored_of flat slots) n c.self.invariant.named);
    }

pub returns : goal.returns
returns c =
    let slot = c.index.result.now in
    stored_asleep c.self.inside.flat.items c.self.inside.slots.items c.args.number slot (record { span = slot.span; awake = false }) (there (goal.at.returns c).After-index) refl refl
    ∙ ap (λ z. asleep z c.args.number) c.self.view_is
