-- How an exploration of a piece begins, and what it has come to when nothing waits.
use Rattle.std.proofs.Common.{◌≡◌, ℕ, zero, suc, List, [], ◌∷◌, length, map, Some, slice_get, refl, sym, ap, ◌∙◌, subst, arith, append-nil}
use Rattle.kb_class.specs.declared.ids.MethodId.{MethodId}
use Rattle.kb_heap.specs.declared.bounds.Bounds.{Bounds}
use Rattle.kb_heap.specs.declared.heap.Input.{Input}
use Rattle.kb_classes.specs.World.{World}
use Rattle.kb_semantics.specs.Inputs.{IsTypeCorrect}
use Rattle.kb_picture.specs.declared.choice.Choice.{Choice}
use Rattle.kb_picture.specs.declared.path.Path.{Path}
use Rattle.kb_frames.specs.StandsFor.{IsInstanceOf}
use Rattle.kb_drive.specs.declared.piece.Piece.{Piece}
use Rattle.kb_drive.specs.declared.walk.Walk.{Walk}
use Rattle.kb_picture.specs.Carried.{EachPath}
use Rattle.kb_drive.specs.Covers.{decisions_of}
use Rattle.kb_picture.specs.Exactly.{ExactlyOneHas, NoneHas}
use Rattle.kb_drive.specs.Division.{DivideThose, IsFrontOf}
use Rattle.kb_drive.specs.Following.{waits_at, walk_with}
use Rattle.kb_drive.specs.Explorable.{IsExplorable}
use Rattle.kb_drive.specs.Parts.{IsInPart, Listed, Waits, alternatives_from, decisions_of_part, parts_of}
use Rattle.kb_drive.specs.Pieces.{IsPiece}
use Rattle.kb_drive.specs.Steps.{StepsLead}
use Rattle.kb_steps.specs.Taking.{choices_at, taken_at}
use Rattle.kb_drive.specs.Walks.{AreRising, BeginWith, IsWalk}
use Rattle.kb_drive.specs.Whole.{CoversPiece, IsOfPiece}
use Rattle.kb_drive.proofs.OrderLaws.{in_order}
use Rattle.kb_drive.proofs.PartLaws.{alternatives_begin, alternatives_rise, none_listed, none_of, none_taken, one_listed, one_of}
use Rattle.kb_drive.proofs.PieceLaws.{instance_before}

-- ---- the beginning

abbrev pub no_walk : MethodId → ℕ → Walk
no_walk target paths = record { target = target; paths = paths; listed = []; closed = 0; waiting = [] }

no_path : {A : Type 0} (i : ℕ) (x : A) → slice_get [] i ≡ Some x → ⊥
no_path i x e = absurd cc

module _ (world : World) (bounds : Bounds) (paths budget : ℕ) (piece : Piece) (is : IsPiece world piece.state.method bounds piece)
    (explorable : IsExplorable world piece.state.method bounds) (leads : StepsLead world bounds piece.state) where
  abbrev first_walk : List Choice → Walk
  first_walk choices = walk_with (no_walk piece.state.method paths) (waits_at piece choices)

  -- its parts are the alternatives of the piece
  first_parts : (choices : List Choice) → parts_of (first_walk choices).listed (first_walk choices).waiting ≡ map Waits (alternatives_from piece (length choices) 0 choices)
  first_parts [] = refl
  first_parts (choice ∷ others) = ap (map Waits) (append-nil (alternatives_from piece (length (choice ∷ others)) 0 (choice ∷ others)))

  walk_begins_with : (choices : List Choice) → choices ≡ choices_at world bounds piece.state → IsWalk world bounds budget (first_walk choices)
  walk_begins_with [] e = record {
    explorable = explorable;
    rising = tt;
    right = λ i path at. absurd (no_path i path at);
    waits = tt;
    closed = refl;
    open_last = record { most = omega arith; full = λ i path at o. absurd (no_path i path at); last = λ i j one other at f less o. absurd (no_path i one at) };
  }
  walk_begins_with (choice ∷ others) e = record {
    explorable = explorable;
    rising = subst (λ parts. AreRising (map decisions_of_part parts)) (sym (first_parts (choice ∷ others))) (alternatives_rise piece (choice ∷ others));
    right = λ i path at. absurd (no_path i path at);
    waits = (record { piece = is; choices = e; left = omega arith }, tt);
    closed = refl;
    open_last = record { most = omega arith; full = λ i path at o. absurd (no_path i path at); last = λ i j one other at f less o. absurd (no_path i one at) };
  }

  pub walk_begins : IsWalk world bounds budget (first_walk (choices_at world bounds piece.state))
  walk_begins = walk_begins_with (choices_at world bounds piece.state) refl

  -- each input of the piece is in exactly one part
  pub first_inputs : DivideThose (IsOfPiece world piece) (IsInPart world bounds)
      (parts_of (first_walk (choices_at world bounds piece.state)).listed (first_walk (choices_at world bounds piece.state)).waiting)
  first_inputs input of =
      let stands = is.stands input of.correct of.instance_of in
      subst (λ parts. ExactlyOneHas (IsInPart world bounds) parts input) (sym (first_parts (choices_at world bounds piece.state)))
      (one_of world bounds piece input (length (choices_at world bounds piece.state)) 0 (choices_at world bounds piece.state) (leads.one input stands.0 of.correct stands.1))

  -- and each other one in none
  pub first_others : (input : Input) → IsTypeCorrect world piece.state.method input → (IsInstanceOf piece.state input → ⊥)
      → NoneHas (IsInPart world bounds) (parts_of (first_walk (choices_at world bounds piece.state)).listed (first_walk (choices_at world bounds piece.state)).waiting) input
  first_others input correct not =
      subst (λ parts. NoneHas (IsInPart world bounds) parts input) (sym (first_parts (choices_at world bounds piece.state)))
      (none_of world bounds piece input (length (choices_at world bounds piece.state)) 0 (choices_at world bounds piece.state)
      (none_taken world bounds piece input (choices_at world bounds piece.state)
      (λ choice has takes. not (instance_before world piece.state.method bounds piece is (taken_at world bounds piece.state choice) (leads.each choice has) input takes))))

  pub first_fronts : BeginWith piece.decisions (map decisions_of_part (parts_of (first_walk (choices_at world bounds piece.state)).listed (first_walk (choices_at world bounds piece.state)).waiting))
  first_fronts =
      subst (λ parts. BeginWith piece.decisions (map decisions_of_part parts)) (sym (first_parts (choices_at world bounds piece.state)))
      (alternatives_begin piece (length (choices_at world bounds piece.state)) 0 (choices_at world bounds piece.state))

-- ---- the end

module _ (world : World) (bounds : Bounds) (budget : ℕ) (piece : Piece) (walk : Walk) (is : IsWalk world bounds budget walk) (target : walk.target ≡ piece.state.method)
    (ended : walk.waiting ≡ []) where
  last_parts : parts_of walk.listed walk.waiting ≡ map Listed walk.listed
  last_parts = ap (parts_of walk.listed) ended ∙ append-nil (map Listed walk.listed)

  paths_begin : (listed : List Path) → BeginWith piece.decisions (map decisions_of_part (map Listed listed)) → EachPath (λ (path : Path). IsFrontOf piece.decisions path.decisions) listed
  paths_begin [] begin i path e = absurd (no_path i path e)
  paths_begin (first ∷ others) begin zero path e = let same : first ≡ path = cc in subst (λ (p : Path). IsFrontOf piece.decisions p.decisions) same begin.0
  paths_begin (first ∷ others) begin (suc i) path e = paths_begin others begin.1 i path e

  same_decisions : (listed : List Path) → map decisions_of_part (map Listed listed) ≡ map decisions_of listed
  same_decisions [] = refl
  same_decisions (path ∷ others) = ap (λ ds. path.decisions ∷ ds) (same_decisions others)

  -- Where nothing waits, the listed paths cover the piece.
  pub walk_covers : DivideThose (IsOfPiece world piece) (IsInPart world bounds) (parts_of walk.listed walk.waiting)
      → ((input : Input) → IsTypeCorrect world piece.state.method input → (IsInstanceOf piece.state input → ⊥) → NoneHas (IsInPart world bounds) (parts_of walk.listed walk.waiting) input)
      → BeginWith piece.decisions (map decisions_of_part (parts_of walk.listed walk.waiting))
      → CoversPiece world bounds walk.paths budget piece walk.listed
  walk_covers divided others fronts = record {
    inputs = λ input of. one_listed world bounds walk.listed input (subst (λ parts. ExactlyOneHas (IsInPart world bounds) parts input) last_parts (divided input of));
    others = λ input correct not. none_listed world bounds walk.listed input (subst (λ parts. NoneHas (IsInPart world bounds) parts input) last_parts (others input correct not));
    right = λ i path at. rw (sym target) (is.right i path at);
    open_last = is.open_last;
    decisions = in_order decisions_of walk.listed (rw (sym (same_decisions walk.listed), sym (ap (map decisions_of_part) last_parts)) is.rising);
    fronts = paths_begin walk.listed (subst (λ parts. BeginWith piece.decisions (map decisions_of_part parts)) last_parts fronts);
  }
