use Rattle.std.proofs.Common.{◌≡◌, ℕ, List, Some, length, slice_get, sym, ap, ◌∙◌, subst}
use Rattle.std.proofs.lemmas.Option.{slice_get-get_or}
use Rattle.kb_picture.specs.declared.choice.Choice.{Choice}
use Rattle.kb_ways.specs.Ways.{Take}
use Rattle.kb_drive.specs.declared.piece.Piece.{Piece}
use Rattle.kb_drive.specs.Following.{IsTakenOf, alternative_next, taken_from}
use Rattle.kb_drive.specs.Parts.{decided}
use Rattle.kb_drive.proofs.taking.go_on.Goals as goal

pub take-requires-clause-offered : goal.take-requires-clause-offered
take-requires-clause-offered c =
    let there : slice_get c.args.choices.now c.args.next ≡ Some c.index-choices-next.result =
    slice_get-get_or c.args.choices.now c.args.next c.index-choices-next.result c.requires.left ∙ ap Some (sym c.index-choices-next.is) in
    (c.args.next, ap (λ (choices : List Choice). slice_get choices c.args.next) (sym c.requires.choices) ∙ there)

pub returns-clause-taken : goal.returns-clause-taken
returns-clause-taken c =
    let there : slice_get c.args.choices.now c.args.next ≡ Some c.index-choices-next.result =
    slice_get-get_or c.args.choices.now c.args.next c.index-choices-next.result c.requires.left ∙ ap Some (sym c.index-choices-next.is) in
    let decisions : List ℕ = decided c.args.piece.now.decisions (length c.args.choices.now) c.args.next in
    let piece : c.decide.new.piece ≡ record { state = c.take.new.state; decisions = decisions; values = c.args.piece.now.values } = c.in_ok-decide.ensures in
    let taken : record { piece = c.decide.new.piece; outcome = c.in_ok-outcome.outcome; stood = length c.args.piece.now.state.when }
    ≡ taken_from c.args.world.now c.args.bounds.now (alternative_next (record { piece = c.args.piece.now; choices = c.args.choices.now; next = c.args.next }) c.index-choices-next.result) =
    ap (λ (p : Piece). record { piece = p; outcome = c.in_ok-outcome.outcome; stood = length c.args.piece.now.state.when }) piece
    ∙ ap (λ (t : Take). record {
      piece = record { state = t.state; decisions = decisions; values = c.args.piece.now.values };
      outcome = t.outcome;
      stood = length c.args.piece.now.state.when;
    }) c.in_ok-outcome.ensures.take in
    subst (λ choice. IsTakenOf c.args.world.now c.args.bounds.now (record { piece = c.args.piece.now; choices = c.args.choices.now; next = c.args.next }) choice
    (record { piece = c.decide.new.piece; outcome = c.in_ok-outcome.outcome; stood = length c.args.piece.now.state.when })) (sym there) taken
