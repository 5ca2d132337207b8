-- An exploration ends: each take leaves fewer takes behind it than there were.
use Rattle.std.proofs.Common.{ℕ, zero, suc, ◌≤◌, List, [], ◌∷◌, refl, arith}
use Rattle.kb_class.specs.Naming.{Has}
use Rattle.kb_heap.specs.declared.bounds.Bounds.{Bounds}
use Rattle.kb_classes.specs.World.{World}
use Rattle.kb_picture.specs.declared.choice.Choice.{Choice}
use Rattle.kb_frames.specs.declared.value.Outcome.{Outcome}
use Rattle.kb_frames.specs.declared.value.Outcome.TheVariants.{Asks, Goes, Ends, Cut}
use Rattle.kb_frames.specs.State.{State}
use Rattle.kb_drive.specs.Steps.{GoesOn, StepsLead, rank_of}
use Rattle.kb_steps.specs.Taking.{choices_at, taken_at}
use Rattle.kb_drive.specs.Walks.{size_behind, size_of, size_of_choices, size_within}
use Rattle.kb_drive.proofs.SumLaws.{sum_more}

module _ (world : World) (bounds : Bounds) where
  -- what is below one alternative, when what is below states that go on is no more
  behind_less : (one other : State → ℕ) (state : State) (outcome : Outcome) → (GoesOn outcome → one state ≤ other state) → size_behind one state outcome ≤ size_behind other state outcome
  behind_less one other state Asks less = let le = less tt in omega (arith, le)
  behind_less one other state Goes less = let le = less tt in omega (arith, le)
  behind_less one other state (Ends ending) less = omega arith
  behind_less one other state (Cut bound) less = omega arith

  choices_less : (one other : State → ℕ) (state : State) (choices : List Choice)
      → ((choice : Choice) → Has choices choice → GoesOn (taken_at world bounds state choice).outcome → one (taken_at world bounds state choice).state ≤ other (taken_at world bounds state choice).state)
      → size_of_choices world bounds one state choices ≤ size_of_choices world bounds other state choices
  choices_less one other state [] less = omega arith
  choices_less one other state (choice ∷ others) less =
      let here = behind_less one other (taken_at world bounds state choice).state (taken_at world bounds state choice).outcome (less choice (0, refl)) in
      let rest = choices_less one other state others (λ c has. less c (suc has.0, has.1)) in
      let first = sum_more (λ (c : Choice). size_behind one (taken_at world bounds state c).state (taken_at world bounds state c).outcome) choice others in
      let second = sum_more (λ (c : Choice). size_behind other (taken_at world bounds state c).state (taken_at world bounds state c).outcome) choice others in
      omega (arith, here, rest, first, second)

  -- deeper trees have no fewer takes
  size_grows : (n m : ℕ) (state : State) → n ≤ m → size_within n world bounds state ≤ size_within m world bounds state
  unfolding size_within
  size_grows zero m state le = omega arith
  size_grows (suc n) zero state le = omega (arith, le)
  size_grows (suc n) (suc m) state le =
      choices_less (size_within n world bounds) (size_within m world bounds) state (choices_at world bounds state) (λ choice has goes. size_grows n m (taken_at world bounds state choice).state (omega (arith, le)))

  -- The takes below all alternatives of a state are no more than those below the state.
  pub size_split : (state : State) → StepsLead world bounds state → size_of_choices world bounds (size_of world bounds) state (choices_at world bounds state) ≤ size_of world bounds state
  unfolding size_within
  size_split state leads =
      choices_less (size_of world bounds) (size_within (rank_of world bounds state) world bounds) state (choices_at world bounds state) (λ choice has goes. (let fewer = (leads.each choice has).fewer goes in
      size_grows (suc (rank_of world bounds (taken_at world bounds state choice).state)) (rank_of world bounds state) (taken_at world bounds state choice).state (omega (arith, fewer))))
