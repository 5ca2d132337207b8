-- How a state goes on where nothing is chosen: an exploration takes every way on that is the only one at once, up to the next
-- choice (a symbolic run goes on by itself up to a branch that both ways are open to: King, 1976).
use Rattle.std.specs.Prelude.{◌≡◌, ℕ, zero, suc, Bool, true, false, List, [], ◌∷◌, Option, Some, None, if◌then◌else◌}
use Rattle.kb_heap.specs.declared.bounds.Bounds.{Bounds}
use Rattle.kb_classes.specs.World.{World}
use Rattle.kb_picture.specs.declared.choice.Choice.{Choice}
use Rattle.kb_picture.specs.declared.choice.Choice.TheVariants.{Only}
use Rattle.kb_frames.specs.declared.value.Outcome.{Outcome}
use Rattle.kb_frames.specs.declared.value.Outcome.TheVariants.{Asks, Goes, Ends, Cut}
use Rattle.kb_frames.specs.State.{State}
use Rattle.kb_ways.specs.Reached.{IsReached}
use Rattle.kb_ways.specs.Ways.{Take}
use Rattle.kb_drive.specs.declared.running.Ran.{Ran}
use Rattle.kb_drive.specs.declared.running.Ran.TheVariants as rans
use Rattle.kb_drive.specs.Steps.{GoesOn, rank_of}
use Rattle.kb_steps.specs.Taking.{choices_at, taken_at}

-- ---- the only way on

abbrev pub is_way_on : Choice → Bool
is_way_on Only = true
is_way_on _ = false

-- there is one way on alone, and nothing is chosen; an alternative of a choice that is alone is none
abbrev pub is_only : List Choice → Bool
is_only [] = false
is_only (choice ∷ []) = is_way_on choice
is_only (choice ∷ other ∷ others) = false

abbrev pub way_on : World → Bounds → State → Take
way_on world bounds state = taken_at world bounds state Only

-- ---- running on

-- the state stands before a choice
abbrev pub stays : State → Take
stays state = record { state = state; outcome = Asks }

-- what runs give behind a take whose state goes on; what ends or is cut is left as it is
abbrev pub run_behind : (State → Take) → State → Outcome → Take
run_behind runs state Asks = runs state
run_behind runs state Goes = runs state
run_behind runs state (Ends ending) = record { state = state; outcome = Ends ending }
run_behind runs state (Cut bound) = record { state = state; outcome = Cut bound }

-- the only ways on that follow one another, so many at most
unfoldable pub runs_within : ℕ → World → Bounds → State → Take
runs_within zero world bounds state = stays state
runs_within (suc depth) world bounds state =
    if is_only (choices_at world bounds state)
    then run_behind (runs_within depth world bounds) (way_on world bounds state).state (way_on world bounds state).outcome
    else stays state

-- All of them: what has become of a state that stands before its next choice, has ended or is cut. No more takes that go on
-- follow one another than the state's rank says, and one more that does not.
abbrev pub runs_on : World → Bounds → State → Take
runs_on world bounds state = runs_within (suc (rank_of world bounds state)) world bounds state

-- a take with the only ways on behind it
abbrev pub ran_behind : World → Bounds → State → Outcome → Take
ran_behind world bounds state outcome = run_behind (runs_on world bounds) state outcome

-- ---- what is reached on the way

abbrev pub IfOnly : Bool → Type 0 → Type 0
IfOnly true P = P
IfOnly false P = Unit {0}

abbrev pub IfGoesOn : Outcome → Type 0 → Type 0
IfGoesOn Asks P = P
IfGoesOn Goes P = P
IfGoesOn (Ends ending) P = Unit {0}
IfGoesOn (Cut bound) P = Unit {0}

-- each state behind one of these takes is one to which calls have led
unfoldable pub AreReachedWithin : ℕ → World → Bounds → State → Type 0
AreReachedWithin zero world bounds state = Unit {0}
AreReachedWithin (suc depth) world bounds state =
    IfOnly (is_only (choices_at world bounds state))
    (IsReached world (way_on world bounds state).state × IfGoesOn (way_on world bounds state).outcome (AreReachedWithin depth world bounds (way_on world bounds state).state))

abbrev pub AreReachedOn : World → Bounds → State → Type 0
AreReachedOn world bounds state = AreReachedWithin (suc (rank_of world bounds state)) world bounds state

-- ---- as it is told

-- what has become of a state that goes on no further, by the outcome of a take
abbrev pub ran_by : Outcome → Option Ran
ran_by Asks = None
ran_by Goes = None
ran_by (Ends ending) = Some (rans.Ends ending)
ran_by (Cut bound) = Some (rans.Cut bound)

abbrev pub outcome_of : Ran → Outcome
outcome_of (rans.Chooses choices) = Asks
outcome_of (rans.Ends ending) = Ends ending
outcome_of (rans.Cut bound) = Cut bound

abbrev pub told_ran : State → Ran → Take
told_ran state ran = record { state = state; outcome = outcome_of ran }

-- the alternatives that are told are those of the state
abbrev pub TellsChoices : World → Bounds → State → Ran → Type 0
TellsChoices world bounds state (rans.Chooses choices) = choices ≡ choices_at world bounds state
TellsChoices world bounds state (rans.Ends ending) = Unit {0}
TellsChoices world bounds state (rans.Cut bound) = Unit {0}

-- The only way on was taken: none, where the state goes on by it. Where there is no only way on the state stays.
abbrev pub WentFurther : World → Bounds → State → State → Option Ran → Type 0
WentFurther world bounds old new None =
    (is_only (choices_at world bounds old) ≡ true) × GoesOn (way_on world bounds old).outcome × (new ≡ (way_on world bounds old).state)
WentFurther world bounds old new (Some (rans.Chooses choices)) =
    (is_only (choices_at world bounds old) ≡ false) × (new ≡ old) × (choices ≡ choices_at world bounds old)
WentFurther world bounds old new (Some (rans.Ends ending)) =
    (is_only (choices_at world bounds old) ≡ true) × (told_ran new (rans.Ends ending) ≡ way_on world bounds old)
WentFurther world bounds old new (Some (rans.Cut bound)) =
    (is_only (choices_at world bounds old) ≡ true) × (told_ran new (rans.Cut bound) ≡ way_on world bounds old)
