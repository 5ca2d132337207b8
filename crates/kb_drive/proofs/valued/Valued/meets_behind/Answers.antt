use Rattle.std.proofs.Common.{◌≡◌, ◌↔◌, IsTrue, ℤ, Bool, List, drop, ap, subst, ◌∙◌}
use Rattle.kb_terms.specs.Terms.{values}
use Rattle.kb_terms.specs.declared.node.TermId.{TermId}
use Rattle.kb_drive.specs.declared.piece.Piece.{Piece}
use Rattle.kb_drive.specs.Met.{AreMetBy}
use Rattle.kb_drive.proofs.MetLaws.{met_behind, met_by_values, met_joined, values_meet}
use Rattle.kb_drive.proofs.valued.Valued.meets_behind.Goals as goal

pub returns-clause-met : goal.returns-clause-met
returns-clause-met c =
    let piece : Piece = c.args.self.now in
    let held : c.get-piece.result.now ≡ piece = c.get-piece.ensures ∙ c.self.view_is in
    let all : c.as_slice.result.now ≡ values piece.values piece.state.nodes =
    c.as_slice.ensures.value ∙ c.in_ok-extend_values.ensures.all ∙ ap (λ (vs : List ℤ). values vs c.pool.result.now) c.as_slice-values.ensures
    ∙ ap (values c.get-piece.result.now.values) c.pool.ensures ∙ ap (λ (p : Piece). values p.values p.state.nodes) held in
    let when : c.conditions-when.result.now ≡ piece.state.when = c.conditions-when.ensures ∙ ap (λ (p : Piece). p.state.when) held in
    let by : IsTrue c.are_met_behind.result ↔ AreMetBy (values piece.values piece.state.nodes) (drop c.args.stood piece.state.when) =
    subst (λ (vs : List ℤ). IsTrue c.are_met_behind.result ↔ AreMetBy vs (drop c.args.stood piece.state.when)) all
    (subst (λ (ws : List (TermId × Bool)). IsTrue c.are_met_behind.result ↔ AreMetBy c.as_slice.result.now (drop c.args.stood ws)) when c.are_met_behind.ensures) in (
      λ met. met_joined piece.state.nodes piece.values c.args.stood piece.state.when c.requires.met (met_by_values piece.state.nodes piece.values (drop c.args.stood piece.state.when) (by.0 met)),
      λ met. by.1 (values_meet piece.state.nodes piece.values (drop c.args.stood piece.state.when) (met_behind piece.state.nodes piece.values c.args.stood piece.state.when met)),
    )
