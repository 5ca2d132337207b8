-- The int steps lead on, by the laws of kb_stepint: what is seen of an input stays, and fewer takes can follow.
use Rattle.std.proofs.Common.{◌≡◌, ℕ, ◌+◌, ◌-◌, ◌*◌, ◌<◌, ◌≤◌, ℤ, Bool, true, false, List, [], ◌∷◌, ◌++◌, drop, length, take, nat_le, refl, sym, ap, subst, ◌∙◌, if◌then◌else◌, arith}
use Rattle.std.specs.List.{filter_map}
use Rattle.std.specs.Option.{option_map_or}
use Rattle.std.proofs.lemmas.Bool.{leb-false}
use Rattle.std.proofs.lemmas.List.Elements.{filter_map-append}
use Rattle.kb_class.specs.Naming.{Has}
use Rattle.kb_class.specs.declared.ids.MethodId.{MethodId}
use Rattle.kb_code.specs.declared.instruction.Instr.{Instr}
use Rattle.kb_heap.specs.declared.bounds.Bound.TheVariants.{Steps}
use Rattle.kb_heap.specs.declared.bounds.Bounds.{Bounds}
use Rattle.kb_heap.specs.declared.heap.Input.{Input}
use Rattle.kb_classes.specs.World.{World}
use Rattle.kb_semantics.specs.Config.{has_room, instruction_at}
use Rattle.kb_semantics.specs.Ways.{counted}
use Rattle.kb_picture.specs.declared.choice.Choice.{Choice}
use Rattle.kb_picture.specs.declared.picture.Origin.{Origin}
use Rattle.kb_picture.specs.declared.picture.Origin.TheVariants.{Arg}
use Rattle.kb_picture.specs.declared.picture.Picture.{Picture}
use Rattle.kb_picture.specs.declared.picture.PlaceLists.{PlaceLists}
use Rattle.kb_picture.specs.declared.picture.Seen.{Seen}
use Rattle.kb_picture.specs.Growth.{after_int_read}
use Rattle.kb_picture.specs.Instances.{variable_value, variable_values}
use Rattle.kb_picture.specs.Laws.{with_seen}
use Rattle.kb_picture.specs.Places.{slot_value}
use Rattle.kb_picture.specs.Shapes.{HasShape}
use Rattle.kb_picture.specs.WellFormed.{variables_seen}
use Rattle.kb_picture.proofs.ShapeLaws.{same_places}
use Rattle.kb_picture.proofs.PlaceLaws.{places_seen}
use Rattle.kb_frames.specs.declared.frame.SymFrame.{SymFrame}
use Rattle.kb_frames.specs.declared.state.Stage.{Stage}
use Rattle.kb_frames.specs.declared.state.Stage.TheVariants.{Begins, Runs}
use Rattle.kb_frames.specs.declared.value.Outcome.{Outcome}
use Rattle.kb_frames.specs.declared.value.Outcome.TheVariants.{Asks, Goes, Ends, Cut}
use Rattle.kb_frames.specs.FirstReads.{with_read}
use Rattle.kb_frames.specs.Lent.{begun, begun_stage, carried_on, read_count, stack_of, transfers_of, with_frame}
use Rattle.kb_ways.specs.Measure.{choices_left, left_of, needed, unread_at}
use Rattle.kb_frames.specs.Next.{argument_next, instruction_next, method_now, next_is_int, offset_now}
use Rattle.kb_frames.specs.State.{State}
use Rattle.kb_ways.specs.Asked.{all_asked}
use Rattle.kb_stepint.specs.Choices.{choices_of, conditions_of}
use Rattle.kb_stepint.specs.Effects.{plan_of, effect_of}
use Rattle.kb_stepint.specs.Laws.{IsAtInts}
use Rattle.kb_ways.specs.Simulation.{GetsOn}
use Rattle.kb_stepint.specs.Takes.{taken, reads_argument}
use Rattle.kb_ways.specs.Plans.{takes_next, takes_up, carried_out}
use Rattle.kb_ways.specs.Ways.{OfClass, Take, There, Way, Goes as WayGoes, Jumps, Enters, Leaves, Throws, ThrowsThere, Fails, carries_out, ill_typed, object_value, resumes, went}
use Rattle.kb_frames.specs.Calls.{back_to, called, called_stage, landed, left, left_stage}
use Rattle.kb_frames.specs.Making.{with_made}
use Rattle.kb_frames.specs.declared.value.SymValue.{SymValue}
use Rattle.kb_frames.specs.declared.value.SymValue.TheVariants.{New}
use Rattle.kb_ways.proofs.CallLaws.{entered_has, returned_has, thrown_has}
use Rattle.kb_ways.proofs.GrowLaws.{Grows, all_asked_grows, front_itself, if_has, option_has, HasMore}
use Rattle.kb_stepint.proofs.AddedLaws.{adds}
use Rattle.kb_stepint.proofs.KeepLaws.{kept, reads, takes_next_stays, effect_makes}
use Rattle.kb_ways.proofs.MeasureLaws.{few_next}
use Rattle.kb_stepint.proofs.MeasureLaws.{gets_on}
use Rattle.kb_stepint.proofs.OutcomeLaws.{follows}
use Rattle.kb_stepint.proofs.ReachedLaws.{has_input}
use Rattle.kb_drive.specs.Reached.{GoesOnReached, IsHeapReached}
use Rattle.kb_drive.proofs.IntsStay.{ints_keep}
use Rattle.kb_drive.specs.Steps.{GoesOn, LeadsOn, StaysAtInputs, rank_of}
use Rattle.kb_drive.proofs.EndLaws.{endings_there}
use Rattle.kb_drive.proofs.FrontLaws.{take_append}
use Rattle.kb_drive.proofs.HeapLaws.{at_ints}
use Rattle.kb_picture.specs.declared.picture.Seen.TheVariants as seens

-- ---- what stays at inputs

pub stays_itself : (picture : Picture) → StaysAtInputs picture picture
stays_itself picture = record {
  seen = front_itself picture.seen;
  places = λ input before now.
      ap (λ (l : PlaceLists). take (length before.places.objects) l.objects) (same_places picture input before.places before.placed now)
      ∙ front_itself before.places.objects;
  variables = λ input before now.
      ap (λ (l : PlaceLists). take (length (variable_values picture input before.places.objects)) (variable_values picture input l.objects))
      (same_places picture input before.places before.placed now)
      ∙ front_itself (variable_values picture input before.places.objects);
}

module _ (picture : Picture) (slot : Origin × Seen) where
  same_behind : (input : Input) (before : HasShape picture input) (now : HasShape (with_seen picture slot) input) → now.places ≡ before.places
  same_behind input before now = same_places (with_seen picture slot) input before.places (places_seen picture input slot ∙ before.placed) now

  abbrev further : Input → List ℕ → List ℤ
  further input places = filter_map (λ (s : Origin × Seen). variable_value (slot_value input places s.0) s.1) (slot ∷ [])

  values_behind : (input : Input) (places : List ℕ) → variable_values (with_seen picture slot) input places ≡ variable_values picture input places ++ further input places
  unfolding variable_values
  values_behind input places = filter_map-append (λ (s : Origin × Seen). variable_value (slot_value input places s.0) s.1) picture.seen (slot ∷ [])

  -- another slot that is seen comes behind those that were, and so does its variable
  pub stays_seen : StaysAtInputs picture (with_seen picture slot)
  stays_seen = record {
    seen = take_append picture.seen (slot ∷ []);
    places = λ input before now.
        ap (λ (l : PlaceLists). take (length before.places.objects) l.objects) (same_behind input before now)
        ∙ front_itself before.places.objects;
    variables = λ input before now.
        ap (λ (l : PlaceLists). take (length (variable_values picture input before.places.objects)) (variable_values (with_seen picture slot) input l.objects))
        (same_behind input before now)
        ∙ ap (take (length (variable_values picture input before.places.objects))) (values_behind input before.places.objects)
        ∙ take_append (variable_values picture input before.places.objects) (further input before.places.objects);
  }

pub stays_int : (picture : Picture) (slot : Origin) → StaysAtInputs picture (after_int_read picture slot)
unfolding after_int_read
stays_int picture slot = stays_seen picture (slot, seens.Int (length (variables_seen picture)))

stays_behind : (world : World) (bounds : Bounds) (old : State) (choice : Choice) → StaysAtInputs old.picture (taken world bounds old choice).state.picture
stays_behind world bounds old choice =
    option_has (λ (take : Take). StaysAtInputs old.picture take.state.picture) (argument_next world old.method old.stage)
    (reads_argument old) (takes_next plan_of world bounds choice old) (λ type. stays_int old.picture (Arg (read_count old.stage)))
    (subst (StaysAtInputs old.picture) (sym (takes_next_stays world bounds choice old).picture) (stays_itself old.picture))

-- ---- how many takes can follow

-- an instruction that was carried out was one within the bound, and few choices come before the next
abbrev pub GoesFew : World → Bounds → State → State → Outcome → Type 0
GoesFew world bounds old new Asks = Unit {0}
GoesFew world bounds old new Goes = (old.carried < bounds.run.steps) × (choices_left world new ≤ 5)
GoesFew world bounds old new (Ends ending) = Unit {0}
GoesFew world bounds old new (Cut bound) = Unit {0}

abbrev pub IsRunning : Stage → Type 0
IsRunning (Begins read) = ⊥
IsRunning (Runs frame callers) = Unit {0}

few_at : (world : World) (state : State) (method : MethodId) (stage : Stage) → IsRunning stage
    → left_of (unread_at world method stage) (option_map_or (needed world state) (instruction_next world method stage) 0) ≤ 5
few_at world state method (Begins read) running = absurd running
few_at world state method (Runs frame callers) running = few_next world state (instruction_next world method (Runs frame callers))

pub framed_runs : (f : SymFrame → SymFrame) (stage : Stage) → IsRunning stage → IsRunning (with_frame f stage)
framed_runs f (Begins read) running = absurd running
framed_runs f (Runs frame callers) running = tt

called_runs : (world : World) (method : MethodId) (arguments rest : List SymValue) (stage : Stage) → IsRunning stage → IsRunning (called_stage world method arguments rest stage)
called_runs world method arguments rest (Begins read) running = absurd running
called_runs world method arguments rest (Runs frame callers) running = tt

left_runs : (count : ℕ) (stage : Stage) → IsRunning stage → IsRunning (left_stage count stage)
left_runs count (Begins read) running = absurd running
left_runs count (Runs frame callers) running = go (drop count (frame ∷ callers)) where
  go : (frames : List SymFrame) → IsRunning (back_to (Runs frame callers) frames)
  go [] = tt
  go (first ∷ others) = tt

pub read_runs : (value : SymValue) (stage : Stage) → IsRunning stage → IsRunning (with_read stage value)
read_runs value (Begins read) running = absurd running
read_runs value (Runs frame callers) running = tt

pub begun_runs : (world : World) (state : State) (stage : Stage) → IsRunning (begun_stage world state stage)
begun_runs world state (Begins read) = tt
begun_runs world state (Runs frame callers) = tt

module _ (world : World) (bounds : Bounds) (old : State) where
  abbrev pub Few : Take → Type 0
  Few take = GoesFew world bounds old take.state take.outcome

  module _ (within : old.carried < bounds.run.steps) where
    carries_few : (state : State) (f : SymFrame → SymFrame) → IsRunning state.stage → Few (carries_out state f)
    carries_few state f running = (within, few_at world (carries_out state f).state state.method (with_frame f state.stage) (framed_runs f state.stage running))

    landed_few : (count target transfers : ℕ) (value : SymValue) (state : State) → IsRunning state.stage
        → Few (carries_out (landed count value transfers state) (λ (f : SymFrame). record f { at = target }))
    landed_few count target transfers value state running =
        carries_few (landed count value transfers state) (λ (f : SymFrame). record f { at = target })
        (framed_runs (λ (f : SymFrame). record f { stack = value ∷ []; transfers = transfers }) (left_stage count state.stage) (left_runs count state.stage running))

    pub went_few : (next : ℕ) (state : State) (way : Way) → IsRunning state.stage → Few (went world bounds next state way)
    went_few next state (WayGoes locals stack) running =
        if_has Few (has_room world (method_now state.method state.stage) (length stack)) _ _
        (carries_few state (λ (frame : SymFrame). record frame { at = next; locals = locals; stack = stack }) running) tt
    went_few next state (Jumps target stack) running =
        if_has Few (has_room world (method_now state.method state.stage) (length stack)) _ _
        (option_has Few (counted bounds.run (offset_now state.stage) target (transfers_of state.stage)) _ _
        (λ n. carries_few state (λ (frame : SymFrame). record frame { at = target; stack = stack; transfers = n }) running) tt) tt
    went_few next state (Enters method arguments rest) running =
        entered_has Few world bounds state method arguments rest (within, few_at world (carried_on (called world method arguments rest state)) state.method (called_stage world method arguments rest state.stage) (called_runs world method arguments rest state.stage running)) tt
    went_few next state (Leaves value) running =
        returned_has Few world state value tt (λ caller more waits. carries_few (left 1 state) (resumes world value) (left_runs 1 state.stage running)) tt
    went_few next state (Throws class) running =
        thrown_has Few world bounds state (OfClass class) tt
        (λ count target n frame callers is. landed_few count target n (New (length state.made)) (with_made world state class) running) tt tt
    went_few next state (ThrowsThere object kind) running =
        thrown_has Few world bounds state (There object kind) tt (λ count target n frame callers is. landed_few count target n (object_value object) state running) tt tt
    went_few next state Fails running = tt

    answers_few : (choice : Choice) (state : State) (found : Instr × ℕ) → IsRunning state.stage → Few (carried_out plan_of world bounds choice state found)
    answers_few choice state found running =
        let conditions = conditions_of found.0 (stack_of state.stage) choice in
        let grown : Grows state (all_asked state conditions) = all_asked_grows conditions state in
        let same : (all_asked state conditions).stage ≡ state.stage = ap (λ (s : State). s.stage) grown.rest in
        let effect = effect_of world (all_asked state conditions) choice found.0 in
        let more : HasMore (all_asked state conditions) effect.state = effect_makes world (all_asked state conditions) choice found.0 in
        let now : effect.state.stage ≡ state.stage = ap (λ (s : State). s.stage) more.rest ∙ same in
        went_few found.1 effect.state effect.way (subst IsRunning (sym now) running)

    takes_up_few : (choice : Choice) (state : State) → IsRunning state.stage → Few (takes_up plan_of world bounds choice state)
    takes_up_few choice state running =
        option_has Few (instruction_at world (method_now state.method state.stage) (offset_now state.stage)) (carried_out plan_of world bounds choice state) (ill_typed world state)
        (λ found. answers_few choice state found running) tt

  takes_next_few : (choice : Choice) → Few (takes_next plan_of world bounds choice old)
  takes_next_few choice = go (nat_le bounds.run.steps old.carried) refl where
    go : (b : Bool) → nat_le bounds.run.steps old.carried ≡ b → Few (if b then record { state = old; outcome = Cut Steps } else takes_up plan_of world bounds choice (begun world old))
    go true e = tt
    go false e = takes_up_few (leb-false bounds.run.steps old.carried e) choice (begun world old) (begun_runs world old old.stage)

  taken_few : (choice : Choice) → Few (taken world bounds old choice)
  taken_few choice =
      option_has Few (argument_next world old.method old.stage) (reads_argument old) (takes_next plan_of world bounds choice old)
      (λ type. tt) (takes_next_few choice)

asks_less : (steps was now before after : ℕ) → now ≡ was → after < before → 6 * (steps - now) + after < 6 * (steps - was) + before
asks_less steps was now before after same less = omega (arith, same, less)

goes_less : (steps was now before after : ℕ) → now ≡ was + 1 → was < steps → after ≤ 5 → 6 * (steps - now) + after < 6 * (steps - was) + before
goes_less steps was now before after one within few = omega (arith, one, within, few)

pub less_rank : (world : World) (bounds : Bounds) (old new : State) (outcome : Outcome) → GetsOn world old new outcome → GoesFew world bounds old new outcome
    → GoesOn outcome → rank_of world bounds new < rank_of world bounds old
less_rank world bounds old new Asks on few goes =
    asks_less bounds.run.steps old.carried new.carried (choices_left world old) (choices_left world new) on.0 on.1
less_rank world bounds old new Goes on few goes =
    goes_less bounds.run.steps old.carried new.carried (choices_left world old) (choices_left world new) on few.0 few.1
less_rank world bounds old new (Ends ending) on few goes = absurd goes
less_rank world bounds old new (Cut bound) on few goes = absurd goes

-- ---- all of it

goes_reached : (world : World) (state : State) (outcome : Outcome) → IsHeapReached world state → GoesOnReached world state outcome
goes_reached world state Asks is = is
goes_reached world state Goes is = is
goes_reached world state (Ends ending) is = is
goes_reached world state (Cut bound) is = tt

pub ints_lead : (world : World) (bounds : Bounds) (state : State) (choice : Choice) → IsHeapReached world state → next_is_int world state ≡ true → Has (choices_of world state bounds) choice
    → LeadsOn world bounds state (taken world bounds state choice)
ints_lead world bounds state choice is ints has =
    let at : IsAtInts world state = at_ints world state is ints in
    let after : Take = taken world bounds state choice in
    record {
      outcome = follows world bounds state choice at has;
      kept = kept world bounds state choice;
      compared = adds world bounds state choice at.reached;
      read = reads world bounds state choice;
      picture = has_input world bounds choice state at;
      stays = stays_behind world bounds state choice;
      ending = endings_there world bounds state choice at has;
      leads = λ reached. goes_reached world after.state after.outcome (ints_keep world bounds state choice is ints reached.sound.pool);
      fewer = less_rank world bounds state after.state after.outcome (gets_on world bounds state choice) (taken_few world bounds state choice);
    }
