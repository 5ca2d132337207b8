-- A method over heaps calls none: where nothing was called, no take of an int step or of one on references calls a method.
use Rattle.std.proofs.Common.{◌≡◌, ℕ, true≢false, nat_le, Option, Some, None, refl, sym, ap, subst, ◌∙◌}
use Rattle.std.specs.Option.{option_map_or}
use Rattle.kb_class.specs.declared.ids.MethodId.{MethodId}
use Rattle.kb_code.specs.declared.instruction.Instr.{Instr}
use Rattle.kb_code.specs.declared.instruction.Instr.TheVariants as instrs
use Rattle.kb_heap.specs.declared.bounds.Bound.{Bound}
use Rattle.kb_heap.specs.declared.bounds.Bounds.{Bounds}
use Rattle.kb_classes.specs.World.{World}
use Rattle.kb_names.specs.declared.types.JType.{JType}
use Rattle.kb_semantics.specs.Config.{instruction_at}
use Rattle.kb_terms.specs.declared.node.TermId.{TermId}
use Rattle.kb_terms.specs.Terms.{IsTerm}
use Rattle.kb_terms.proofs.Values.{IsTerm-extends}
use Rattle.kb_picture.specs.declared.choice.Choice.{Choice}
use Rattle.kb_picture.specs.declared.choice.Choice.TheVariants.{Only}
use Rattle.kb_picture.specs.declared.picture.Origin.{Origin}
use Rattle.kb_picture.specs.declared.picture.Origin.TheVariants.{Arg, Field, Element}
use Rattle.kb_picture.specs.WellTyped.{is_reference_type}
use Rattle.kb_frames.specs.declared.state.Stage.{Stage}
use Rattle.kb_frames.specs.declared.state.Stage.TheVariants.{Begins, Runs}
use Rattle.kb_frames.specs.declared.value.SymValue.{SymValue}
use Rattle.kb_frames.specs.FirstReads.{found_in, with_read}
use Rattle.kb_frames.specs.Lent.{begun, stack_of}
use Rattle.kb_frames.specs.Next.{argument_next, method_now, offset_now}
use Rattle.kb_frames.specs.State.{State}
use Rattle.kb_frames.specs.States.{IsStage}
use Rattle.kb_ways.specs.Asked.{all_asked}
use Rattle.kb_ways.specs.declared.question.Question.{Question}
use Rattle.kb_ways.specs.declared.question.Question.TheVariants.{Reads}
use Rattle.kb_ways.specs.declared.question.Question.TheVariants as questions
use Rattle.kb_ways.specs.Operands.{an_int}
use Rattle.kb_ways.specs.Plans.{carried_out, takes_next, takes_up}
use Rattle.kb_ways.specs.Questions.{answered, answers, behind_read, cut_where, passed_by}
use Rattle.kb_ways.specs.Reached.{IsAlone}
use Rattle.kb_ways.specs.Ways.{Take, Way, Goes, Jumps, Enters, Leaves, Throws, ThrowsThere, Fails, ill_typed}
use Rattle.kb_ways.proofs.AloneLaws.{EntersNone, begun_alone, went_alone}
use Rattle.kb_ways.proofs.GrowLaws.{Grows, HasMore, all_asked_grows, if_has, option_has}
use Rattle.kb_stepint.specs.Choices.{conditions_of}
use Rattle.kb_stepint.specs.Effects.{effect_of, plan_of as int_plan_of}
use Rattle.kb_stepint.specs.Laws.{IsAtInts}
use Rattle.kb_stepint.specs.Takes.{reads_argument, taken as int_taken}
use Rattle.kb_stepint.proofs.KeepLaws.{effect_makes}
use Rattle.kb_stepref.specs.Effects.{plan_of}
use Rattle.kb_stepref.specs.Laws.{IsAtReferences}
use Rattle.kb_stepref.specs.Questions.{asked_by, question_of}
use Rattle.kb_stepref.specs.Takes.{taken}
use Rattle.kb_stepref.proofs.FirstReadLaws.{IsAskedAt, IsAskedBy, asked, asked_at_references}
use Rattle.kb_stepref.proofs.KeepLaws.{plan_writes}
use Rattle.kb_stepref.proofs.SoundLaws.{answered_method, answered_stage}
use Rattle.kb_drive.proofs.EndLaws.{LeavesIn, begun_top, effect_leaves}
use Rattle.kb_frames.proofs.ItemLaws.{option_has_at}
use Rattle.kb_drive.proofs.HeapPlans.{CallsNothing, IsRead, asks_read_alone, calls_begun, calls_next, calls_same, plan_enters_none}

-- a way that leaves no method open enters none
enters_none : (world : World) (state : State) (way : Way) → LeavesIn world state way → EntersNone way
enters_none world state (Goes locals stack) h = tt
enters_none world state (Jumps target stack) h = tt
enters_none world state (Enters method arguments rest) h = h
enters_none world state (Leaves value) h = tt
enters_none world state (Throws class) h = tt
enters_none world state (ThrowsThere object kind) h = tt
enters_none world state Fails h = tt

abbrev IsAloneIn : State → Type 0
IsAloneIn state = IsAlone state.method state.stage

-- another state in the same frames
alone_same : (old new : State) → new.method ≡ old.method → new.stage ≡ old.stage → IsAloneIn old → IsAloneIn new
alone_same old new method stage alone = subst (λ (m : MethodId). IsAlone m new.stage) (sym method) (subst (IsAlone old.method) (sym stage) alone)

-- an argument that is read is no frame
read_alone : (method : MethodId) (value : SymValue) (stage : Stage) → IsAlone method stage → IsAlone method (with_read stage value)
read_alone method value (Begins read) alone = tt
read_alone method value (Runs frame callers) alone = alone

abbrev Alone : Take → Type 0
Alone take = IsAloneIn take.state

-- ---- ints

-- the int on the top of the stack is a term
abbrev HasTop : State → Type 0
HasTop state = (t : TermId) → an_int (stack_of state.stage) ≡ Some t → IsTerm state.nodes t

module _ (world : World) (bounds : Bounds) (choice : Choice) where
  answers_alone : (state : State) (found : Instr × ℕ) → HasTop state → IsAloneIn state → Alone (carried_out int_plan_of world bounds choice state found)
  answers_alone state found top alone =
      let conditions = conditions_of found.0 (stack_of state.stage) choice in
      let asked_state : State = all_asked state conditions in
      let grown : Grows state asked_state = all_asked_grows conditions state in
      let same : asked_state.stage ≡ state.stage = ap (λ (s : State). s.stage) grown.rest in
      let effect = effect_of world asked_state choice found.0 in
      let more : HasMore asked_state effect.state = effect_makes world asked_state choice found.0 in
      went_alone world bounds found.1 effect.state
      (alone_same state effect.state (ap (λ (s : State). s.method) more.rest ∙ ap (λ (s : State). s.method) grown.rest) (ap (λ (s : State). s.stage) more.rest ∙ same) alone) effect.way
      (enters_none world effect.state effect.way
      (effect_leaves world asked_state (λ t e. IsTerm-extends state.nodes asked_state.nodes t grown.terms (top t (ap (λ stage. an_int (stack_of stage)) (sym same) ∙ e))) choice found.0))

  takes_up_alone : (state : State) → HasTop state → IsAloneIn state → Alone (takes_up int_plan_of world bounds choice state)
  takes_up_alone state top alone =
      option_has Alone (instruction_at world (method_now state.method state.stage) (offset_now state.stage)) (carried_out int_plan_of world bounds choice state) (ill_typed world state)
      (λ found. answers_alone state found top alone) alone

  takes_next_alone : (state : State) → IsStage world state state.stage → IsAloneIn state → Alone (takes_next int_plan_of world bounds choice state)
  takes_next_alone state is alone =
      if_has Alone (nat_le bounds.run.steps state.carried) _ _ alone
      (takes_up_alone (begun world state) (λ t e. begun_top world state state.stage t is e) (begun_alone world state state.stage alone))

pub ints_alone : (world : World) (bounds : Bounds) (state : State) (choice : Choice) → IsAtInts world state → IsAlone state.method state.stage
    → IsAlone (int_taken world bounds state choice).state.method (int_taken world bounds state choice).state.stage
ints_alone world bounds state choice at alone =
    option_has Alone (argument_next world state.method state.stage) (reads_argument state) (takes_next int_plan_of world bounds choice state)
    (λ type. read_alone state.method _ state.stage alone) (takes_next_alone world bounds choice state at.reached.sound.stage alone)

-- ---- references

-- an answer enters no frame
found_alone : (slot : Origin) (value : SymValue) (state : State) → IsAloneIn state → IsAloneIn (found_in slot value state)
found_alone (Arg number) value state alone = read_alone state.method value state.stage alone
found_alone (Field object place) value state alone = alone
found_alone (Element array index) value state alone = alone

answered_alone : (world : World) (choice : Choice) (state : State) (slot : Origin) (type : JType) → IsAloneIn state → IsAloneIn (answered world choice state (Reads slot type))
answered_alone world choice state slot type alone = if_has IsAloneIn (is_reference_type type) _ _ (found_alone slot _ _ alone) (found_alone slot _ _ alone)

module _ (world : World) (bounds : Bounds) where
  plan_alone : (state : State) → CallsNothing world state → IsAloneIn state → Alone (takes_up plan_of world bounds Only state)
  plan_alone state calls alone =
      option_has_at Alone (instruction_at world (method_now state.method state.stage) (offset_now state.stage)) (carried_out plan_of world bounds Only state) (ill_typed world state)
      (λ found e. (let plan = plan_of world state Only found.0 in
      let writes = plan_writes world state Only found.0 in
      went_alone world bounds found.1 plan.state (alone_same state plan.state writes.method writes.stage alone) plan.way (plan_enters_none world state Only found.0 (calls found e)))) alone

  cut_alone : (bound : Option Bound) (state : State) (take : Take) → IsAloneIn state → Alone take → Alone (cut_where bound state take)
  cut_alone None state take alone h = h
  cut_alone (Some bound) state take alone h = alone

pub references_alone : (world : World) (bounds : Bounds) (state : State) (choice : Choice) → IsAtReferences world state → CallsNothing world state → IsAlone state.method state.stage
    → IsAlone (taken world bounds state choice).state.method (taken world bounds state choice).state.stage
references_alone world bounds state choice at calls alone = go (question_of world state bounds) refl where
  -- what an index and a length are asked of is left to steps
  never : (q : Question) → IsAskedBy world bounds state q → IsRead q
  never q by = asks_read_alone world bounds state q by.instr (calls_next world state calls by.instr by.instruction) by.asks

  behind : (slot : Origin) (type : JType) → IsAskedAt world bounds state slot type → (told : State) → IsAloneIn told → told.method ≡ state.method
      → ((number place : ℕ) → slot ≡ Field number place → told.stage ≡ state.stage) → Alone (behind_read plan_of world bounds slot told)
  behind (Arg number) type from told alone same stays = alone
  behind (Field number place) type from told alone same stays =
      plan_alone world bounds told (calls_same world state told same (stays number place refl) calls) alone
  behind (Element array index) type from told alone same stays = absurd (true≢false (calls_next world state calls (instrs.LoadElem from.elem) from.instruction))

  go : (question : Option Question) → question_of world state bounds ≡ question
      → Alone (option_map_or (answers (asked_by bounds) plan_of world bounds choice state) question (takes_next plan_of world bounds Only state))
  go None asks =
      if_has Alone (nat_le bounds.run.steps state.carried) _ (takes_up plan_of world bounds Only (begun world state)) alone
      (plan_alone world bounds (begun world state) (calls_begun world state calls) (begun_alone world state state.stage alone))
  go (Some (Reads slot type)) asks =
      let told : State = answered world choice state (Reads slot type) in
      let told_alone : IsAloneIn told = answered_alone world choice state slot type alone in
      cut_alone world bounds (passed_by choice) told (behind_read plan_of world bounds slot told) told_alone
      (behind slot type (asked world bounds state at slot type asks).from told told_alone (answered_method world choice state slot type)
      (λ number place is. subst (λ (of : Origin). (answered world choice state (Reads of type)).stage ≡ state.stage) (sym is) (answered_stage world choice state number place type)))
  go (Some (questions.Index x count)) asks = absurd (never (questions.Index x count) (asked_at_references world bounds state at (questions.Index x count) asks).by)
  go (Some (questions.Length x most)) asks = absurd (never (questions.Length x most) (asked_at_references world bounds state at (questions.Length x most) asks).by)
