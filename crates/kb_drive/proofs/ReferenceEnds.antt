-- Where a take of a step on references ends a run, the ending states what is there in the state.
use Rattle.std.proofs.Common.{◌≡◌, ℕ, ◌<◌, ◌≤◌, ◌^◌, suc, false, List, [], length, nat_le, Option, Some, None, refl, ap, arith, ◌∙◌, sym, subst}
use Rattle.std.specs.Option.{option_map_or}
use Rattle.kb_class.specs.Naming.{Has}
use Rattle.kb_code.specs.declared.instruction.Instr.{Instr}
use Rattle.kb_heap.specs.declared.bounds.Bound.{Bound}
use Rattle.kb_heap.specs.declared.bounds.Bounds.{Bounds}
use Rattle.kb_classes.specs.World.{World}
use Rattle.kb_names.specs.declared.types.JType.{JType}
use Rattle.kb_lazy.specs.Laws.{AreInRange}
use Rattle.kb_semantics.specs.Config.{instruction_at}
use Rattle.kb_terms.specs.declared.node.TermId.{TermId}
use Rattle.kb_picture.specs.declared.choice.Choice.{Choice}
use Rattle.kb_picture.specs.declared.choice.Choice.TheVariants.{Only, Size}
use Rattle.kb_picture.specs.declared.picture.Origin.{Origin}
use Rattle.kb_picture.specs.declared.picture.Origin.TheVariants.{Arg, Field, Element}
use Rattle.kb_picture.specs.declared.picture.Picture.{Picture}
use Rattle.kb_picture.specs.Queries.{kind_for}
use Rattle.kb_picture.specs.WellTyped.{is_reference_type}
use Rattle.kb_frames.specs.FirstReads.{first_int}
use Rattle.kb_frames.specs.declared.frame.SymFrame.{SymFrame}
use Rattle.kb_frames.specs.declared.state.Stage.TheVariants.{Runs}
use Rattle.kb_frames.specs.declared.value.SymValue.{SymValue}
use Rattle.kb_frames.specs.declared.value.SymValue.TheVariants.{Int, Null, Obj, Literal, New, Loc}
use Rattle.kb_frames.specs.Lent.{begun}
use Rattle.kb_frames.specs.Next.{method_now, offset_now}
use Rattle.kb_frames.specs.StandsFor.{out_of}
use Rattle.kb_frames.specs.State.{State}
use Rattle.kb_frames.specs.States.{IsOutIn, IsSymValue}
use Rattle.kb_ways.specs.Advancing.{only}
use Rattle.kb_ways.specs.Choosing.{length_conditions}
use Rattle.kb_ways.specs.Plans.{Planned, carried_out, takes_next, takes_up}
use Rattle.kb_ways.specs.Questions.{answered, answers, asked_next, behind_index, behind_read, cut_where, passed_by}
use Rattle.kb_ways.specs.Ways.{Take, Way, Goes, Jumps, Enters, Leaves, Throws, ThrowsThere, Fails, ill_typed, object_value, went}
use Rattle.kb_ways.specs.declared.question.Question.{Question}
use Rattle.kb_ways.specs.declared.question.Question.TheVariants.{Reads}
use Rattle.kb_ways.specs.declared.question.Question.TheVariants as questions
use Rattle.kb_ways.proofs.CallLaws.{entered_has}
use Rattle.kb_ways.proofs.GoodWays.{IsGood, running_now}
use Rattle.kb_ways.proofs.GrowLaws.{all_asked_grows, if_has, option_has}
use Rattle.kb_ways.proofs.SoundLaws.{Sound, begun_sound, sound_reached}
use Rattle.kb_stepref.specs.Choices.{alternatives, choices_of}
use Rattle.kb_stepref.specs.Effects.{plan_of}
use Rattle.kb_stepref.specs.Laws.{IsAtReferences}
use Rattle.kb_stepref.specs.Questions.{asked_by, question_of}
use Rattle.kb_stepref.specs.Takes.{taken}
use Rattle.kb_stepref.proofs.AnsweredLaws.{int_sound}
use Rattle.kb_stepref.proofs.ChosenStates.{IsIndexOf, IsKnown, IsLengthUpTo, index_is, index_known, length_is, length_known}
use Rattle.kb_stepref.proofs.FirstReadLaws.{IsAsked, IsAskedAt, IsAskedIndex, IsAskedLength, asked, asked_at_references}
use Rattle.kb_stepref.proofs.KnownTakes.{element_asked, int_known, int_stage}
use Rattle.kb_stepref.proofs.KeepLaws.{index_has, index_stage}
use Rattle.kb_stepref.proofs.ReachedLaws.{now_known}
use Rattle.kb_stepref.proofs.SoundLaws.{IsSized, answered_stage, element_stage, none_asked, plan_sound}
use Rattle.kb_drive.specs.Steps.{EndsIn}
use Rattle.kb_drive.proofs.EndLaws.{ill_ends, went_ends}

-- a value that is there is stated as what is there, where no location is
sym_in : (world : World) (state : State) (value : SymValue) → state.picture.locs ≡ [] → IsSymValue world state value → IsOutIn world state (length state.made) (out_of value)
sym_in world state (Int term) none is = is
sym_in world state Null none is = tt
sym_in world state (Obj number) none is = is
sym_in world state (Literal number) none is = is
sym_in world state (New number) none is = is
sym_in world state (Loc number) none is =
    let inside : number < length state.picture.locs = is in
    let empty : length state.picture.locs ≡ 0 = ap length none in
    absurd (omega (arith, inside, empty))

-- the only way on is no length
only_no_size : (count : ℕ) → Only ≡ Size count → ⊥
only_no_size count e = cc

no_size : IsSized Only
no_size count e = absurd (only_no_size count e)

module _ (world : World) (bounds : Bounds) where
  abbrev Ends : Take → Type 0
  Ends take = EndsIn world take.state take.outcome

  -- ---- instructions

  -- what is returned and what is thrown is there
  way_ends : (next : ℕ) (state : State) (way : Way) → state.picture.locs ≡ [] → IsGood world state way → Ends (went world bounds next state way)
  way_ends next state (Goes locals stack) none good = went_ends world bounds next state (Goes locals stack) tt
  way_ends next state (Jumps target stack) none good = went_ends world bounds next state (Jumps target stack) tt
  way_ends next state (Enters method arguments rest) none good = entered_has Ends world bounds state method arguments rest tt tt
  way_ends next state (Leaves None) none good = went_ends world bounds next state (Leaves None) tt
  way_ends next state (Leaves (Some value)) none good = went_ends world bounds next state (Leaves (Some value)) (sym_in world state value none good)
  way_ends next state (Throws class) none good = went_ends world bounds next state (Throws class) tt
  way_ends next state (ThrowsThere object kind) none good =
      went_ends world bounds next state (ThrowsThere object kind) (sym_in world state (object_value object) none good)
  way_ends next state Fails none good = ill_ends world bounds state

  module _ (choice : Choice) (sized : IsSized choice) (state : State) (frame : SymFrame) (callers : List SymFrame) (running : state.stage ≡ Runs frame callers) (sound : Sound world state)
      (none : state.picture.locs ≡ []) where
    carried_out_ends : (found : Instr × ℕ) → Ends (carried_out plan_of world bounds choice state found)
    carried_out_ends found =
        let plan : Planned = plan_of world state choice found.0 in
        let good = plan_sound world state sound frame callers running choice sized found.0 in
        way_ends found.1 plan.state plan.way (ap (λ (p : Picture). p.locs) good.behind.picture ∙ none) good.good

    takes_up_ends : Ends (takes_up plan_of world bounds choice state)
    takes_up_ends =
        option_has Ends (instruction_at world (method_now state.method state.stage) (offset_now state.stage)) (carried_out plan_of world bounds choice state) (ill_typed world state) carried_out_ends
        (ill_ends world bounds state)

  -- ---- takes

  cut_ends : (bound : Option Bound) (state : State) (take : Take) → (bound ≡ None → Ends take) → Ends (cut_where bound state take)
  cut_ends None state take h = h refl
  cut_ends (Some bound) state take h = tt

  takes_next_ends : (state : State) → IsAtReferences world state → question_of world state bounds ≡ None → Ends (takes_next plan_of world bounds Only state)
  takes_next_ends state at asks =
      let run = running_now world bounds Only state in
      if_has Ends (nat_le bounds.run.steps state.carried) _ (takes_up plan_of world bounds Only (begun world state)) tt
      (takes_up_ends Only no_size (begun world state) run.0 run.1 run.2 (begun_sound world state (sound_reached world state at.reached) (none_asked world bounds state asks)) at.known)

-- ---- all takes

module _ (world : World) (bounds : Bounds) (state : State) (choice : Choice) (range : AreInRange bounds) (at : IsAtReferences world state) where
  abbrev EndsHere : Take → Type 0
  EndsHere take = Ends world bounds take

  -- ---- behind a slot

  read_ends : (slot : Origin) (type : JType) → IsAskedAt world bounds state slot type → (told : State) → IsKnown world told
      → ((number place : ℕ) → slot ≡ Field number place → told.stage ≡ state.stage) → ((number place : ℕ) → slot ≡ Element number place → told.stage ≡ state.stage)
      → EndsHere (behind_read plan_of world bounds slot told)
  read_ends (Arg number) type from told known field element = tt
  read_ends (Field number place) type from told known field element =
      takes_up_ends world bounds Only no_size told from.frame from.callers (field number place refl ∙ from.running) known.sound known.known
  read_ends (Element number place) type from told known field element =
      takes_up_ends world bounds Only no_size told from.frame from.callers (element number place refl ∙ from.running) known.sound known.known

  -- ---- behind an index

  module _ (x : TermId) (count : ℕ) (is : IsAskedIndex world bounds state x count) (listed : IsIndexOf count choice) where
    abbrev placed_state : State
    placed_state = answered world choice state (questions.Index x count)

    placed_known : IsKnown world placed_state
    placed_known = index_known world bounds state at x count is choice listed

    placed_running : placed_state.stage ≡ Runs is.by.frame is.by.callers
    placed_running = index_stage world choice state x count ∙ is.by.running

    -- an index is no length
    not_sized : IsSized choice
    not_sized n e = absurd (subst (IsIndexOf count) e listed)

    -- also where an int is read that nobody had read
    int_ends : (slot : Origin) (type : JType) → asked_next (asked_by bounds) world placed_state ≡ Some (Reads slot type) → is_reference_type type ≡ false
        → EndsHere (takes_up plan_of world bounds choice (first_int slot (kind_for (Some type)) placed_state))
    int_ends slot type asks plain =
        let asked_there : IsAsked world bounds placed_state placed_known.sound.typed slot type = element_asked world bounds state at x count is choice placed_known.sound slot type asks in
        let known : IsKnown world (first_int slot (kind_for (Some type)) placed_state) =
        int_known world placed_state slot type placed_known (int_sound world bounds placed_state placed_known.sound slot type asked_there plain) in
        takes_up_ends world bounds choice not_sized (first_int slot (kind_for (Some type)) placed_state) is.by.frame is.by.callers
        (int_stage world bounds placed_state is.by.frame is.by.callers slot type placed_running asked_there.from ∙ placed_running) known.sound known.known

    index_ends : EndsHere (behind_index (asked_by bounds) plan_of world bounds choice placed_state)
    index_ends =
        index_has world bounds EndsHere choice placed_state (λ place q chosen e. tt)
        (takes_up_ends world bounds choice not_sized placed_state is.by.frame is.by.callers placed_running placed_known.sound placed_known.known)
        (λ place slot type chosen e plain. int_ends slot type e plain)

  -- ---- behind a length

  length_ends : (x : TermId) (most : ℕ) (is : IsAskedLength world bounds state x most) → IsLengthUpTo most choice
      → EndsHere (takes_up plan_of world bounds choice (answered world choice state (questions.Length x most)))
  length_ends x most is listed =
      let told : State = answered world choice state (questions.Length x most) in
      let known : IsKnown world told = length_known world bounds state at x most is choice in
      takes_up_ends world bounds choice sized told is.by.frame is.by.callers
      (ap (λ (s : State). s.stage) (all_asked_grows (length_conditions x most choice) state).rest ∙ is.by.running) known.sound known.known
    where
      -- one up to the bound is an int
      sized : IsSized choice
      sized n e =
          let up : n ≤ bounds.run.alloc = subst (λ (m : ℕ). n ≤ m) is.most_is (subst (IsLengthUpTo most) e listed) in
          let small : suc bounds.run.alloc < 2 ^ 31 = range.alloc in
          omega (arith, up, small)

  -- An ending states what is there, and what is thrown is an object.
  pub references_end : Has (choices_of world state bounds) choice → EndsIn world (taken world bounds state choice).state (taken world bounds state choice).outcome
  references_end has = go (question_of world state bounds) refl has where
    go : (question : Option Question) → question_of world state bounds ≡ question → Has (option_map_or (alternatives world state bounds) question only) choice
        → EndsHere (option_map_or (answers (asked_by bounds) plan_of world bounds choice state) question (takes_next plan_of world bounds Only state))
    go None asks offered = takes_next_ends world bounds state at asks
    go (Some (Reads slot type)) asks offered =
        let told : State = answered world choice state (Reads slot type) in
        cut_ends world bounds (passed_by choice) told (behind_read plan_of world bounds slot told)
        (λ passed. read_ends slot type (asked world bounds state at slot type asks).from told (now_known world bounds state at slot type asks choice range offered passed)
        (λ number place is. subst (λ (of : Origin). (answered world choice state (Reads of type)).stage ≡ state.stage) (sym is) (answered_stage world choice state number place type))
        (λ number place is. subst (λ (of : Origin). (answered world choice state (Reads of type)).stage ≡ state.stage) (sym is) (element_stage world choice state number place type)))
    go (Some (questions.Index x count)) asks offered =
        let is : IsAskedIndex world bounds state x count = asked_at_references world bounds state at (questions.Index x count) asks in
        let told : State = answered world choice state (questions.Index x count) in
        cut_ends world bounds (passed_by choice) told (behind_index (asked_by bounds) plan_of world bounds choice told)
        (λ passed. index_ends x count is (index_is world bounds state at x count is choice offered))
    go (Some (questions.Length x most)) asks offered =
        let is : IsAskedLength world bounds state x most = asked_at_references world bounds state at (questions.Length x most) asks in
        let told : State = answered world choice state (questions.Length x most) in
        cut_ends world bounds (passed_by choice) told (takes_up plan_of world bounds choice told)
        (λ passed. length_ends x most is (length_is world bounds state at x most is choice offered))
