use Rattle.std.proofs.Common.{◌≡◌, ℤ, List, length, slice_get, sym, subst}
use Rattle.kb_terms.specs.Terms.{AreFirstValues}
use Rattle.kb_drive.specs.declared.piece.Piece.{Piece}
use Rattle.kb_drive.proofs.ValuedLaws.{first_stay, values_stay}
use Rattle.kb_drive.proofs.valued.Valued.gone_on.Goals as goal

pub invariant_of-result : goal.invariant_of-result
invariant_of-result c =
    let old : Piece = c.get_mut.result.now in
    let new : Piece = c.go_on.new.piece in
    let first : AreFirstValues old.values old.state.nodes c.self.inside.computed.items =
    subst (λ (p : Piece). AreFirstValues p.values p.state.nodes c.self.inside.computed.items) (sym c.get_mut.ensures.value) c.self.invariant in
    let same : new.values ≡ old.values = values_stay c.args.world.now c.args.bounds.now (record { piece = old; choices = c.args.choices.now; next = c.args.next }) (slice_get c.args.choices.now c.args.next) (record { piece = new; outcome = c.in_ok-outcome.outcome; stood = length old.state.when }) c.in_ok-outcome.ensures.taken in
    subst (λ (vs : List ℤ). AreFirstValues vs new.state.nodes c.self.inside.computed.items) (sym same)
    (first_stay old.values old.state.nodes new.state.nodes c.self.inside.computed.items c.in_ok-outcome.ensures.terms first)
