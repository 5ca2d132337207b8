-- A step of an exploration, as its calls tell it: from what was taken and what is known to what holds behind it.
use Rattle.std.proofs.Common.{◌≡◌, ℕ, true, List, [], ◌∷◌, Option, Some, None, slice_get, refl, sym, subst}
use Rattle.kb_class.specs.declared.ids.MethodId.{MethodId}
use Rattle.kb_heap.specs.declared.bounds.Bounds.{Bounds}
use Rattle.kb_classes.specs.World.{World}
use Rattle.kb_picture.specs.declared.choice.Choice.{Choice}
use Rattle.kb_picture.specs.Laws.{OnePlaces}
use Rattle.kb_drive.specs.declared.follow.Known.{Known}
use Rattle.kb_drive.specs.declared.waiting.Taken.{Taken}
use Rattle.kb_drive.specs.declared.waiting.Waiting.{Waiting}
use Rattle.kb_drive.specs.declared.walk.Walk.{Walk}
use Rattle.kb_drive.specs.EmittedLaws.{InputsAreOfStates}
use Rattle.kb_drive.specs.Following.{IsAskedWithin, IsKnown, IsReachedBehind, IsTakenFrom, IsTakenOf, alternative_next, follows, taken_from, waits_on, walk_with}
use Rattle.kb_steps.specs.Taking.{taken_at}
use Rattle.kb_ways.specs.Reached.{IsReached}
use Rattle.kb_drive.specs.Explorable.{IsExplorable}
use Rattle.kb_frames_laws.specs.Endings.{EndingsMean}
use Rattle.kb_drive.specs.Steps.{StepsLeadOn}
use Rattle.kb_drive.specs.Walks.{CanBeTaken, EachWaiting, IsFurther, IsRefined, IsWaiting, IsWalk}
use Rattle.kb_drive.proofs.WalkLaws.{step_further, step_refined, step_walk}

-- each choice that waits can be taken
pub can_be_taken : (world : World) (target : MethodId) (bounds : Bounds) (waiting : List Waiting) → IsExplorable world target bounds
    → EachWaiting (IsWaiting world target bounds) waiting → EachWaiting (CanBeTaken world bounds) waiting
can_be_taken world target bounds [] explorable each = tt
can_be_taken world target bounds (first ∷ others) explorable each = (
  record {
    reached = each.0.piece.reached;
    range = explorable.range;
    choices = each.0.choices;
    left = each.0.left;
  },
  can_be_taken world target bounds others explorable each.1,
)

module _ (steps : StepsLeadOn) (endings_mean : EndingsMean) (emits : InputsAreOfStates) (one_places : OnePlaces) where
  -- what holds behind a step
  pub record HasStepped (world : World) (bounds : Bounds) (budget : ℕ) (old new : Walk) : Type 0 where
    pub walk : IsWalk world bounds budget new
    pub refined : IsRefined world bounds old new
    pub further : IsFurther world bounds old new true

  of_first : (world : World) (bounds : Bounds) (budget : ℕ) (old : Walk) (first : Waiting) (others : List Waiting) (choice : Choice) (known : Known)
      → IsWalk world bounds budget old → old.waiting ≡ first ∷ others → slice_get first.choices first.next ≡ Some choice
      → IsKnown budget (taken_from world bounds (alternative_next first choice)) known → IsAskedWithin old known
      → IsReached world (taken_at world bounds first.piece.state choice).state
      → IsReachedBehind world bounds (taken_from world bounds (alternative_next first choice)) known
      → HasStepped world bounds budget old (walk_with (record old { waiting = waits_on first others }) (follows world bounds (taken_from world bounds (alternative_next first choice)) known))
  of_first world bounds budget old first others choice known is waits at knows within reached way = record {
    walk = step_walk steps endings_mean emits one_places world bounds budget old first others choice known is waits at knows within reached way;
    refined = step_refined steps endings_mean emits one_places world bounds budget old first others choice known is waits at knows within reached way;
    further = step_further steps endings_mean emits one_places world bounds budget old first others choice known is waits at knows within reached way;
  }

  -- By cases on the choices that wait.
  pub has_stepped : (world : World) (bounds : Bounds) (budget : ℕ) (old : Walk) (waiting now : List Waiting) (taken : Taken) (known : Known) (new : Walk)
      → IsWalk world bounds budget old → old.waiting ≡ waiting → IsTakenFrom world bounds waiting now (Some taken) → IsKnown budget taken known → IsAskedWithin old known → IsReached world taken.piece.state → IsReachedBehind world bounds taken known
      → new ≡ walk_with (record old { waiting = now }) (follows world bounds taken known) → HasStepped world bounds budget old new
  has_stepped world bounds budget old [] now taken known new is waits from knows within reached way same = absurd from
  has_stepped world bounds budget old (first ∷ others) now taken known new is waits from knows within reached way same = go (slice_get first.choices first.next) refl from.0
    where
      go : (choice : Option Choice) → slice_get first.choices first.next ≡ choice → IsTakenOf world bounds first choice taken → HasStepped world bounds budget old new
      go None at of = absurd of
      go (Some choice) at of =
          subst (HasStepped world bounds budget old) (sym (same_walk choice of))
          (of_first world bounds budget old first others choice known is waits at (subst (λ (t : Taken). IsKnown budget t known) of knows) within
          (subst (λ (t : Taken). IsReached world t.piece.state) of reached) (subst (λ (t : Taken). IsReachedBehind world bounds t known) of way))
        where
          same_walk : (c : Choice) → taken ≡ taken_from world bounds (alternative_next first c)
              → new ≡ walk_with (record old { waiting = waits_on first others }) (follows world bounds (taken_from world bounds (alternative_next first c)) known)
          same_walk c is_taken = rw (sym is_taken, sym from.1) same
