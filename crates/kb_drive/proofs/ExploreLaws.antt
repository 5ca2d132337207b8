-- The exploration of a piece as its calls tell it: how it begins, goes on, and ends.
use Rattle.std.proofs.Common.{◌≡◌, ℕ, false, List, [], ◌∷◌, length, map, drop, slice_get, Option, Some, None, inl, refl, sym, ◌∙◌, subst, arith, take_all}
use Rattle.kb_heap.specs.declared.bounds.Bounds.{Bounds}
use Rattle.kb_heap.specs.declared.heap.Input.{Input}
use Rattle.kb_classes.specs.World.{World}
use Rattle.kb_oracle.specs.declared.answer.Answer.{Answer}
use Rattle.kb_semantics.specs.Inputs.{IsTypeCorrect}
use Rattle.kb_picture.specs.Exactly.{NoneHas}
use Rattle.kb_picture.specs.declared.choice.Choice.{Choice}
use Rattle.kb_frames.specs.StandsFor.{IsInstanceOf}
use Rattle.kb_drive.specs.declared.piece.Piece.{Piece}
use Rattle.kb_drive.specs.declared.walk.Walk.{Walk}
use Rattle.kb_drive.specs.Counts.{RoseBy, undecided_count}
use Rattle.kb_drive.specs.Division.{DivideThose}
use Rattle.kb_drive.specs.Explorable.{IsExplorable}
use Rattle.kb_drive.specs.Following.{waits_at, walk_with}
use Rattle.kb_drive.specs.Parts.{IsInPart, decisions_of_part, parts_of}
use Rattle.kb_drive.specs.Pieces.{IsPiece}
use Rattle.kb_drive.specs.Steps.{StepsLead}
use Rattle.kb_steps.specs.Taking.{choices_at}
use Rattle.kb_drive.specs.Values.{OfGiven}
use Rattle.kb_drive.specs.Walks.{BeginWith, IsFrom, IsFurther, IsRefined, IsWalk}
use Rattle.kb_drive.specs.Whole.{CoversPiece, IsOfPiece}
use Rattle.kb_drive.proofs.BeginLaws.{first_fronts, first_inputs, first_others, no_walk, walk_begins, walk_covers}
use Rattle.kb_drive.proofs.EachLeads.{steps_lead}

-- What holds of a walk that explores a piece.
pub record Explores (world : World) (bounds : Bounds) (paths budget : ℕ) (piece : Piece) (walk : Walk) : Type 0 where
  pub walk_is : IsWalk world bounds budget walk
  pub target : walk.target ≡ piece.state.method
  pub paths_are : walk.paths ≡ paths
  pub inputs : DivideThose (IsOfPiece world piece) (IsInPart world bounds) (parts_of walk.listed walk.waiting)
  pub others : (input : Input) → IsTypeCorrect world piece.state.method input → (IsInstanceOf piece.state input → ⊥)
      → NoneHas (IsInPart world bounds) (parts_of walk.listed walk.waiting) input
  pub fronts : BeginWith piece.decisions (map decisions_of_part (parts_of walk.listed walk.waiting))

module _ (world : World) (bounds : Bounds) (paths budget : ℕ) (piece : Piece) where
  -- ---- the beginning

  abbrev pub begun_with : List Choice → Walk
  begun_with choices = walk_with (no_walk piece.state.method paths) (waits_at piece choices)

  abbrev pub begun : Walk
  begun = begun_with (choices_at world bounds piece.state)

  same_target : (choices : List Choice) → (begun_with choices).target ≡ piece.state.method
  same_target [] = refl
  same_target (choice ∷ others) = refl

  same_paths : (choices : List Choice) → (begun_with choices).paths ≡ paths
  same_paths [] = refl
  same_paths (choice ∷ others) = refl

  pub begins : IsPiece world piece.state.method bounds piece → IsExplorable world piece.state.method bounds → Explores world bounds paths budget piece begun
  begins is explorable = record {
    walk_is = walk_begins world bounds paths budget piece is explorable leads;
    target = same_target (choices_at world bounds piece.state);
    paths_are = same_paths (choices_at world bounds piece.state);
    inputs = first_inputs world bounds paths budget piece is explorable leads;
    others = first_others world bounds paths budget piece is explorable leads;
    fronts = first_fronts world bounds paths budget piece is explorable leads;
  }
    where
      leads : StepsLead world bounds piece.state
      leads = steps_lead world bounds piece.state explorable.range is.reached

  none_undecided : (choices : List Choice) (unsure : ℕ) → RoseBy (undecided_count (begun_with choices).listed) unsure unsure
  none_undecided [] unsure small = omega arith
  none_undecided (choice ∷ others) unsure small = omega arith

  pub begun_unsure : (unsure : ℕ) → RoseBy (undecided_count begun.listed) unsure unsure
  begun_unsure unsure = none_undecided (choices_at world bounds piece.state) unsure

  no_path : {A : Type 0} (i : ℕ) (x : A) → slice_get [] i ≡ Some x → ⊥
  no_path i x e = cc

  from_none : (choices : List Choice) → piece.values ≡ [] → IsFrom world (begun_with choices) []
  from_none [] none = record { paths = record { logs = refl; inputs = λ i path at. absurd (no_path i path at) }; pieces = tt }
  from_none (choice ∷ others) none = record { paths = record { logs = refl; inputs = λ i path at. absurd (no_path i path at) }; pieces = (inl none, tt) }

  drop_whole : {A : Type 0} (xs : List A) → drop (length xs) xs ≡ []
  drop_whole [] = refl
  drop_whole (x ∷ xs) = drop_whole xs

  pub begun_given : piece.values ≡ [] → (given : Option (List Answer)) → OfGiven (IsFrom world begun) given given
  begun_given none (Some answers) =
      (take_all (length answers) answers (omega arith), subst (IsFrom world begun) (sym (drop_whole answers)) (from_none (choices_at world bounds piece.state) none))
  begun_given none None = tt

  -- ---- a step

  pub goes_on : (old new : Walk) → Explores world bounds paths budget piece old → IsWalk world bounds budget new → IsRefined world bounds old new
      → Explores world bounds paths budget piece new
  goes_on old new was is refined = record {
    walk_is = is;
    target = refined.target ∙ was.target;
    paths_are = refined.paths ∙ was.paths_are;
    inputs = λ input of. (refined.inputs input (correct_before input of.correct)).one (was.inputs input of);
    others = λ input correct not. (refined.inputs input (correct_before input correct)).none (was.others input correct not);
    fronts = refined.fronts piece.decisions was.fronts;
  }
    where
      correct_before : (input : Input) → IsTypeCorrect world piece.state.method input → IsTypeCorrect world old.target input
      correct_before input correct = subst (λ m. IsTypeCorrect world m input) (sym was.target) correct

  -- ---- the end

  pub ends : (old new : Walk) → Explores world bounds paths budget piece old → IsFurther world bounds old new false → CoversPiece world bounds paths budget piece new.listed
  ends old new was further =
      subst (λ (walk : Walk). CoversPiece world bounds paths budget piece walk.listed) (sym further.1)
      (subst (λ (n : ℕ). CoversPiece world bounds n budget piece old.listed) was.paths_are
      (walk_covers world bounds budget piece old was.walk_is was.target further.0 was.inputs was.others was.fronts))
