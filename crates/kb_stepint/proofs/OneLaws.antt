-- Where a state stands for a configuration of an input's run, the input is an instance after the take of exactly one
-- alternative.
use Rattle.std.proofs.Common.{◌≡◌, ℕ, ℤ, Bool, true, false, not, ◌||◌, List, [], ◌∷◌, filter, length, nat_le, slice_get, Option, Some, None, refl, sym, ap, subst, ◌∙◌, inl, inr, if◌then◌else◌, is_some}
use Rattle.std.specs.Option.{option_map, option_map_or, option_and_then}
use Rattle.std.proofs.lemmas.Bool.{not-true}
use Rattle.kb_class.specs.declared.members.MethodInfo.{MethodInfo}
use Rattle.kb_code.specs.Listing.{HasRisingKeys}
use Rattle.kb_code.specs.declared.instruction.Instr.{Instr}
use Rattle.kb_heap.specs.declared.bounds.Bound.TheVariants.{Steps}
use Rattle.kb_heap.specs.declared.bounds.Bounds.{Bounds}
use Rattle.kb_heap.specs.declared.heap.Input.{Input}
use Rattle.kb_heap.specs.declared.heap.Value.TheVariants.{Int as IntValue}
use Rattle.kb_classes.specs.World.{World}
use Rattle.kb_names.specs.declared.types.JType.{JType}
use Rattle.kb_semantics.specs.Config.{Config, info_of, instruction_at}
use Rattle.kb_semantics.specs.Inputs.{IsTypeCorrect, argument_types}
use Rattle.kb_terms.specs.declared.node.TermId.{TermId}
use Rattle.kb_terms.specs.declared.node.Node.{Node}
use Rattle.kb_terms.specs.Terms.{IsTerm, Extends}
use Rattle.kb_terms.proofs.Values.{Extends-trans}
use Rattle.kb_picture.specs.declared.choice.Choice.{Choice}
use Rattle.kb_picture.specs.Exactly.{ExactlyOneHas, NoneHas}
use Rattle.kb_picture.specs.Instances.{variable_values}
use Rattle.kb_picture.specs.Queries.{kind_for}
use Rattle.kb_picture.specs.WellTyped.{is_reference_type}
use Rattle.kb_frames.specs.declared.state.Stage.{Stage}
use Rattle.kb_frames.specs.declared.state.Stage.TheVariants.{Begins, Runs}
use Rattle.kb_frames.specs.declared.value.Outcome.TheVariants.{Cut}
use Rattle.kb_frames.specs.declared.value.SymValue.{SymValue}
use Rattle.kb_frames.specs.Cuts.{setting_of}
use Rattle.kb_frames.specs.Lent.{begun, begun_stage, read_count, stack_of}
use Rattle.kb_frames.specs.Next.{argument_next, instruction_next, is_int, is_int_next, method_now, offset_now}
use Rattle.kb_frames.specs.StandsFor.{IsInstanceOf, StandsFor}
use Rattle.kb_frames.specs.State.{State}
use Rattle.kb_ways.specs.declared.condition.Condition.{Condition}
use Rattle.kb_ways.specs.Asked.{all_asked, is_refuted}
use Rattle.kb_stepint.specs.Choices.{choices_of, conditions_of, listed, offered}
use Rattle.kb_ways.specs.Advancing.{only}
use Rattle.kb_ways.specs.Plans.{Planned, takes_next, takes_up, carried_out}
use Rattle.kb_stepint.specs.Effects.{plan_of, effect_of}
use Rattle.kb_stepint.specs.Laws.{IsAtInts}
use Rattle.kb_ways.specs.Operands.{int_term, an_int, two_ints}
use Rattle.kb_ways.specs.Reached.{IsReached}
use Rattle.kb_ways.specs.Simulation.{TakesOneWay}
use Rattle.kb_stepint.specs.Takes.{reads_argument, taken}
use Rattle.kb_ways.specs.Ways.{ill_typed}
use Rattle.kb_ways.proofs.KeepLaws.{went_when, went_stays}
use Rattle.kb_ways.proofs.OperandLaws.{int_is_term}
use Rattle.kb_frames.proofs.ItemLaws.{two_parts}
use Rattle.kb_ways.proofs.GrowLaws.{Grows, all_asked_grows, HasMore}
use Rattle.kb_stepint.proofs.KeepLaws.{effect_makes}
use Rattle.kb_ways.proofs.OfferLaws.{one_left}
use Rattle.kb_ways.proofs.OneAsked.{AllHold, AllSides, IsReady, conditions_there}
use Rattle.kb_ways.proofs.OneDecided.{all_hold, all_met, all_open, all_ready, not_refuted}
use Rattle.kb_ways.proofs.OneInstances.{argument_is, instance_of_met, int_argument, met_of_instance, read_instance}
use Rattle.kb_stepint.proofs.OneListed.{conditions_alike, conditions_sides, listed_one, wanted_of}
use Rattle.kb_ways.proofs.ValueLaws.{pool_ordered}
use Rattle.kb_ways.proofs.BegunLaws.{AreStackTerms, begun_terms, place_same, stack_same}

-- ---- the operands are terms

pub one_term : (nodes : List Node) (stack : List SymValue) (x : TermId) → AreStackTerms nodes stack → an_int stack ≡ Some x → IsTerm nodes x
one_term nodes stack x terms e = int_is_term nodes (slice_get stack 0) x (terms 0) e

pub two_terms : (nodes : List Node) (stack : List SymValue) (p : TermId × TermId) → AreStackTerms nodes stack → two_ints stack ≡ Some p → IsTerm nodes p.0 × IsTerm nodes p.1
two_terms nodes stack p terms e =
    let parts = two_parts (int_term (slice_get stack 0)) (int_term (slice_get stack 1)) p e in
    (int_is_term nodes (slice_get stack 1) p.0 (terms 1) parts.1, int_is_term nodes (slice_get stack 0) p.1 (terms 0) parts.0)

-- ---- an instruction that is taken up

module _ (world : World) (bounds : Bounds) (old : State) (reached : IsReached world old) (input : Input) (instance_of : IsInstanceOf old input) (found : Instr × ℕ) where
  abbrev start : State
  start = begun world old

  abbrev stack : List SymValue
  stack = stack_of (begun_stage world old old.stage)

  abbrev variables : List ℤ
  variables = variable_values old.picture input instance_of.shape.places.objects

  abbrev cs : Choice → List Condition
  cs choice = conditions_of found.0 stack choice

  abbrev grown : Choice → State
  grown choice = all_asked start (cs choice)

  abbrev effect : Choice → Planned
  effect choice = effect_of world (grown choice) choice found.0

  more : (choice : Choice) → HasMore (grown choice) (effect choice).state
  more choice = effect_makes world (grown choice) choice found.0

  abbrev new : Choice → State
  new choice = (carried_out plan_of world bounds choice start found).state

  ready : IsReady start
  ready = record { ordered = pool_ordered old.nodes reached.sound.pool; terms = conditions_there old.nodes old.when reached.sound.conditions }

  sides : (choice : Choice) → AllSides old.nodes (cs choice)
  sides choice =
      let each = begun_terms world old reached.sound.stage in
      conditions_sides old.nodes stack (λ x e. one_term old.nodes stack x each e) (λ p e. two_terms old.nodes stack p each e) found.0 choice

  grows : (choice : Choice) → Grows start (grown choice)
  grows choice = all_asked_grows (cs choice) start

  pub answered_picture : (choice : Choice) → (new choice).picture ≡ old.picture
  answered_picture choice =
      (went_stays world bounds found.1 (effect choice).state (effect choice).way).picture ∙ ap (λ (s : State). s.picture) (more choice).rest ∙ ap (λ (s : State). s.picture) (grows choice).rest

  pub answered_when : (choice : Choice) → (new choice).when ≡ (grown choice).when
  answered_when choice = went_when world bounds found.1 (effect choice).state (effect choice).way ∙ ap (λ (s : State). s.when) (more choice).rest

  pub answered_terms : (choice : Choice) → Extends (grown choice).nodes (new choice).nodes
  answered_terms choice =
      Extends-trans (grown choice).nodes (effect choice).state.nodes (new choice).nodes (more choice).on.terms
      (went_stays world bounds found.1 (effect choice).state (effect choice).way).terms

  abbrev HeldAt : Choice → List ℤ → Type 0
  HeldAt choice values = AllHold old.nodes values (cs choice)

  abbrev Held : Choice → Type 0
  Held choice = HeldAt choice variables

  abbrev InstanceAt : Choice → Input → Type 0
  InstanceAt choice i = IsInstanceOf (new choice) i

  abbrev Instance : Choice → Type 0
  Instance choice = InstanceAt choice input

  abbrev keep : Choice → Bool
  keep choice = not (is_refuted old (cs choice))

  held_kept : (choice : Choice) → Held choice → keep choice ≡ true
  held_kept choice held = ap not (not_refuted old ready.ordered variables instance_of.conditions (cs choice) held)

  held_instance : (choice : Choice) → Held choice → Instance choice
  held_instance choice held =
      instance_of_met old.picture (grown choice).nodes (grown choice).when (all_ready (cs choice) start (sides choice) ready).terms (new choice) input
      (answered_picture choice) (answered_when choice) (answered_terms choice) instance_of.shape
      (all_met (cs choice) start variables (sides choice) ready held instance_of.conditions)

  -- an instance after the take has all that the alternative asks for
  pub instance_held : (choice : Choice) → keep choice ≡ true → Instance choice → Held choice
  instance_held choice kept i =
      all_hold start reached.sound.pool ready.terms (wanted_of found.0 choice) variables (cs choice) ready.ordered (sides choice)
      (all_open start (wanted_of found.0 choice) (cs choice) (conditions_alike found.0 stack choice) (not-true (is_refuted old (cs choice)) kept))
      (met_of_instance old.picture (grown choice).nodes (grown choice).when (all_ready (cs choice) start (sides choice) ready).terms (new choice) input
      (answered_picture choice) (answered_when choice) (answered_terms choice) instance_of.shape i)

  pub one_answered : HasRisingKeys found.0 → ExactlyOneHas InstanceAt (offered old (stack_of old.stage) found.0) input
  one_answered rising =
      subst (λ (s : List SymValue). ExactlyOneHas InstanceAt (offered old s found.0) input) (stack_same world old old.stage)
      (one_left HeldAt InstanceAt variables input keep held_kept held_instance instance_held (listed found.0 stack) (listed_one old.nodes variables found.0 stack rising))

-- ---- all takes

module _ (world : World) (bounds : Bounds) (old : State) (at : IsAtInts world old) (input : Input) (c : Config) (correct : IsTypeCorrect world old.method input)
    (stands : StandsFor (setting_of world bounds) old input c) where
  abbrev place : Option (Instr × ℕ)
  place = instruction_at world (method_now old.method (begun_stage world old old.stage)) (offset_now (begun_stage world old old.stage))

  begun_instance : IsInstanceOf (begun world old) input
  begun_instance = record { shape = stands.instance_of.shape; conditions = stands.instance_of.conditions }

  rising : (found : Instr × ℕ) → place ≡ Some found → HasRisingKeys found.0
  rising found e =
      at.reached.keys (method_now old.method (begun_stage world old old.stage)) (offset_now (begun_stage world old old.stage)) found e

  one_taken_up : ExactlyOneHas (λ (choice : Choice) (i : Input). IsInstanceOf (takes_up plan_of world bounds choice (begun world old)).state i)
      (option_map_or (offered old (stack_of old.stage)) (instruction_next world old.method old.stage) only) input
  one_taken_up =
      subst (λ (found : Option (Instr × ℕ)). ExactlyOneHas (λ (choice : Choice) (i : Input). IsInstanceOf (takes_up plan_of world bounds choice (begun world old)).state i)
      (option_map_or (offered old (stack_of old.stage)) (option_map (λ (f : Instr × ℕ). f.0) found) only) input) (place_same world old old.stage) (go place refl)
    where
      go : (it : Option (Instr × ℕ)) → place ≡ it → ExactlyOneHas (λ (choice : Choice) (i : Input). IsInstanceOf (option_map_or (carried_out plan_of world bounds choice (begun world old)) it (ill_typed world (begun world old))).state i)
          (option_map_or (offered old (stack_of old.stage)) (option_map (λ (f : Instr × ℕ). f.0) it) only) input
      go None e = inl (begun_instance, tt)
      go (Some found) e = one_answered world bounds old at.reached input stands.instance_of found (rising found e)

  -- an argument that is read is an int
  argument_int : (type : JType) → argument_next world old.method old.stage ≡ Some type → (z : ℤ) × (slice_get input.args (read_count old.stage) ≡ Some (IntValue z))
  argument_int type e = by_stage old.stage e (plain_next (argument_next world old.method old.stage) (is_int_next world (method_now old.method old.stage) (instruction_next world old.method old.stage)) at.next e) where
    plain_next : (next : Option JType) (else_int : Bool) → is_int (option_map is_reference_type next) else_int ≡ true → next ≡ Some type → not (is_reference_type type) ≡ true
    plain_next None else_int int same = absurd cc
    plain_next (Some kind) else_int int same = (let one : kind ≡ type = cc in subst (λ (t : JType). not (is_reference_type t) ≡ true) one int)

    some_same : (one other : MethodInfo) → Some one ≡ Some other → one ≡ other
    some_same one other both = cc

    by_info : (n : ℕ) (info : Option MethodInfo) → info_of world old.method ≡ info → option_and_then (λ (i : MethodInfo). slice_get (argument_types world i) n) info ≡ Some type
        → is_reference_type type ≡ false → (z : ℤ) × (slice_get input.args n ≡ Some (IntValue z))
    by_info n None is h plain = absurd cc
    by_info n (Some info) is h plain =
        let same : correct.method ≡ info = some_same correct.method info (sym correct.method_is ∙ is) in
        let found = argument_is world input.heap (argument_types world correct.method) input.args correct.arguments n type
        (ap (λ (i : MethodInfo). slice_get (argument_types world i) n) same ∙ h) in
        let int = int_argument world input.heap type found.0 plain found.2 in
        (int.0, found.1 ∙ ap Some int.1)

    by_stage : (stage : Stage) → argument_next world old.method stage ≡ Some type → not (is_reference_type type) ≡ true → (z : ℤ) × (slice_get input.args (read_count stage) ≡ Some (IntValue z))
    by_stage (Begins read) h plain = by_info (length read) (info_of world old.method) refl h (not-true (is_reference_type type) plain)
    by_stage (Runs frame callers) h plain = absurd cc

  pub one_taken : ExactlyOneHas (λ (choice : Choice) (i : Input). IsInstanceOf (taken world bounds old choice).state i) (choices_of world old bounds) input
  one_taken = go (argument_next world old.method old.stage) refl where
    by_steps : (b : Bool) → ExactlyOneHas (λ (choice : Choice) (i : Input). IsInstanceOf (if b then record { state = old; outcome = Cut Steps } else takes_up plan_of world bounds choice (begun world old)).state i)
        (if b then only else option_map_or (offered old (stack_of old.stage)) (instruction_next world old.method old.stage) only) input
    by_steps true = inl (stands.instance_of, tt)
    by_steps false = one_taken_up

    go : (next : Option JType) → argument_next world old.method old.stage ≡ next
        → ExactlyOneHas (λ (choice : Choice) (i : Input). IsInstanceOf (option_map_or (reads_argument old) next (takes_next plan_of world bounds choice old)).state i)
        (if is_some next || nat_le bounds.run.steps old.carried then only else option_map_or (offered old (stack_of old.stage)) (instruction_next world old.method old.stage) only) input
    go None e = by_steps (nat_le bounds.run.steps old.carried)
    go (Some type) e =
        let int = argument_int type e in
        inl (read_instance world old input (kind_for (Some type)) int.0 at.reached.sound int.1 stands.instance_of, tt)

pub one : (world : World) (bounds : Bounds) (state : State) → IsAtInts world state → TakesOneWay world bounds state (choices_of world state bounds) (taken world bounds state)
one world bounds state at input c correct stands = one_taken world bounds state at input c correct stands
