use Rattle.std.proofs.Common.{◌≡◌, ◌<◌, ◌^◌, ◌∙◌, ap, sym, subst, take}
use Rattle.kb_propagate.specs.Rows.{stored_of, rows_of, AreNamed, EndWithin}
use Rattle.kb_propagate.proofs.clauses.Clauses.compact.Goals as goal

pub invariant_of-self : goal.invariant_of-self
invariant_of-self c =
    let flat = c.truncate.new.self.items in
    let slots = c.move_together-end.new.slots.items in
    let kept : flat ≡ take c.move_together-end.result c.move_together-end.new.flat.items = c.truncate.ensures.items in
    record {
      few = subst (λ n. n < 2 ^ 32) (sym c.move_together-end.ensures.count) c.self.invariant.few;
      within = subst (λ z. EndWithin z slots) (sym kept) c.move_together-end.ensures.within;
      apart = c.move_together-end.ensures.apart;
      named = subst (λ z. AreNamed (rows_of z)) (sym (ap (λ z. stored_of z slots) kept ∙ c.move_together-end.ensures.stored)) c.self.invariant.named;
    }

pub returns : goal.returns
returns c =
    ap (λ z. stored_of z c.move_together-end.new.slots.items) c.truncate.ensures.items ∙ (c.move_together-end.ensures.stored ∙ c.self.view_is)
