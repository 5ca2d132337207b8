use Rattle.std.proofs.Common.{◌≡◌, sym, ap, subst, ◌∙◌}
use Rattle.kb_terms.specs.Terms.{AreFirstValues}
use Rattle.kb_drive.specs.declared.piece.Piece.{Piece}
use Rattle.kb_drive.specs.Running.{runs_on}
use Rattle.kb_drive.proofs.RanLaws.{has_become}
use Rattle.kb_drive.proofs.ValuedLaws.{first_stay}
use Rattle.kb_drive.proofs.valued.Valued.run_on.Goals as goal

pub invariant_of-result : goal.invariant_of-result
invariant_of-result c =
    let old : Piece = c.get_mut.result.now in
    let first : AreFirstValues old.values old.state.nodes c.self.inside.computed.items =
    subst (λ (p : Piece). AreFirstValues p.values p.state.nodes c.self.inside.computed.items) (sym c.get_mut.ensures.value) c.self.invariant in
    first_stay old.values old.state.nodes c.run_on.new.state.nodes c.self.inside.computed.items c.in_ok-ran.ensures.terms first

pub returns-clause-became : goal.returns-clause-became
returns-clause-became c =
    let held : c.get_mut.result.now ≡ c.args.self = c.get_mut.ensures.value ∙ c.self.view_is in
    has_become c.args.world.now c.args.bounds.now c.args.self (runs_on c.args.world.now c.args.bounds.now c.args.self.state)
    (record { state = c.run_on.new.state; decisions = c.get_mut.result.now.decisions; values = c.get_mut.result.now.values }) c.in_ok-ran.ran
    (c.in_ok-ran.ensures.ran ∙ ap (λ (p : Piece). runs_on c.args.world.now c.args.bounds.now p.state) held)
    (ap (λ (p : Piece). record { state = c.run_on.new.state; decisions = p.decisions; values = p.values }) held)
    c.in_ok-ran.ensures.choices c.in_ok-ran.ensures.reached c.in_ok-ran.ensures.leads c.in_ok-ran.ensures.ending
