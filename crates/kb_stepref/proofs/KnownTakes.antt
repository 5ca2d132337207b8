-- What a take leaves is sound, of the same runs, and its receiver was read. Behind an index and a length every object is known
-- still.
use Rattle.std.proofs.Common.{◌≡◌, ℕ, suc, ◌<◌, ◌≤◌, ◌^◌, false, List, [], length, nat_le, Option, Some, None, refl, sym, ap, subst, ◌∙◌, arith}
use Rattle.std.specs.Option.{option_map_or}
use Rattle.std.proofs.lemmas.Option.{option_and_then_some}
use Rattle.kb_class.specs.Naming.{Has}
use Rattle.kb_class.specs.declared.ids.MethodId.{MethodId}
use Rattle.kb_heap.specs.declared.bounds.Bound.{Bound}
use Rattle.kb_heap.specs.declared.bounds.Bounds.{Bounds}
use Rattle.kb_classes.specs.World.{World}
use Rattle.kb_names.specs.declared.types.JType.{JType}
use Rattle.kb_terms.specs.declared.node.TermId.{TermId}
use Rattle.kb_lazy.specs.Laws.{AreInRange, HasNoBeyond}
use Rattle.kb_picture.specs.declared.choice.Choice.{Choice}
use Rattle.kb_picture.specs.declared.choice.Choice.TheVariants.{Only}
use Rattle.kb_picture.specs.declared.picture.Origin.{Origin}
use Rattle.kb_picture.specs.declared.picture.Origin.TheVariants.{Arg, Field, Element}
use Rattle.kb_picture.specs.declared.picture.Picture.{Picture}
use Rattle.kb_picture.specs.declared.picture.Seen.TheVariants as seens
use Rattle.kb_picture.specs.Growth.{after_int_read}
use Rattle.kb_picture.specs.Queries.{kind_for}
use Rattle.kb_picture.specs.WellFormed.{variables_seen}
use Rattle.kb_picture.specs.WellTyped.{IsReceiverSeen, is_reference_type}
use Rattle.kb_frames.specs.declared.frame.SymFrame.{SymFrame}
use Rattle.kb_frames.specs.declared.state.Stage.TheVariants.{Begins, Runs}
use Rattle.kb_frames.specs.FirstReads.{first_int}
use Rattle.kb_frames.specs.Next.{argument_next, instruction_next}
use Rattle.kb_frames.specs.State.{State}
use Rattle.kb_ways.specs.Advancing.{only}
use Rattle.kb_ways.specs.Choosing.{length_conditions}
use Rattle.kb_ways.specs.Plans.{takes_next, takes_up}
use Rattle.kb_ways.specs.Questions.{answered, answers, asked_next, behind_index, cut_where, passed_by}
use Rattle.kb_ways.specs.Ways.{Take}
use Rattle.kb_ways.specs.declared.question.Question.{Question}
use Rattle.kb_ways.specs.declared.question.Question.TheVariants.{Reads}
use Rattle.kb_ways.specs.declared.question.Question.TheVariants as questions
use Rattle.kb_ways.proofs.GrowLaws.{all_asked_grows}
use Rattle.kb_ways.proofs.KeepLaws.{Stays}
use Rattle.kb_ways.proofs.SoundLaws.{Sound, receiver_seen, sound_reached}
use Rattle.kb_steparray.specs.Arrays.{AreCounted}
use Rattle.kb_stepref.specs.Choices.{alternatives, choices_of}
use Rattle.kb_stepref.specs.Effects.{plan_of}
use Rattle.kb_stepref.specs.Laws.{IsAtReferences}
use Rattle.kb_stepref.specs.Questions.{asked_by, question_of}
use Rattle.kb_stepref.specs.Takes.{taken}
use Rattle.kb_stepref.proofs.AnsweredLaws.{answered_receiver, int_receiver, int_sound}
use Rattle.kb_stepref.proofs.ChosenStates.{IsIndexOf, IsKnown, IsLengthUpTo, index_is, index_known, length_is, length_known}
use Rattle.kb_stepref.proofs.FirstReadLaws.{IsAsked, IsAskedAt, IsAskedIndex, IsAskedLength, asked, asked_at_references, next_asked}
use Rattle.kb_stepref.proofs.KeepLaws.{index_carried, index_has, index_stage, index_stays, int_tells, length_stays}
use Rattle.kb_stepref.proofs.LazyLaws.{seen_no_beyond}
use Rattle.kb_stepref.proofs.SoundLaws.{IsSized, SoundTo, answered_init, answered_method, answers_sound, none_asked, takes_next_sound, takes_up_sound_by}

-- ---- with objects alone

-- objects alone, none of which is beyond, and no array above the bound
abbrev pub IsPlain : Picture → Type 0
IsPlain picture = (picture.locs ≡ []) × HasNoBeyond picture × AreCounted picture

int_no_beyond : (v : ℕ) → seens.Int v ≡ seens.Beyond → ⊥
int_no_beyond v e = cc

pub int_plain : (picture : Picture) (slot : Origin) → IsPlain picture → IsPlain (after_int_read picture slot)
unfolding after_int_read
int_plain picture slot plain =
    let v : ℕ = length (variables_seen picture) in
    (plain.0, seen_no_beyond picture (after_int_read picture slot) slot (seens.Int v) refl refl (int_no_beyond v) plain.1, plain.2)

pub known_on : (world : World) (old new : State) → IsKnown world old → SoundTo world old new → IsKnown world new
known_on world old new h to = record {
  sound = to.sound;
  lazy = to.init ∙ h.lazy;
  known = ap (λ (p : Picture). p.locs) to.picture ∙ h.known;
  within = subst HasNoBeyond (sym to.picture) h.within;
  bounded = subst AreCounted (sym to.picture) h.bounded;
}

-- an int that a sound state has read
pub int_known : (world : World) (state : State) (slot : Origin) (type : JType) → IsKnown world state → Sound world (first_int slot (kind_for (Some type)) state) → IsKnown world (first_int slot (kind_for (Some type)) state)
int_known world state slot type h sound =
    let tells = int_tells slot (kind_for (Some type)) state in
    let plain : IsPlain (first_int slot (kind_for (Some type)) state).picture = subst IsPlain (sym tells.picture) (int_plain state.picture slot (h.known, h.within, h.bounded)) in
    record { sound = sound; lazy = tells.init ∙ h.lazy; known = plain.0; within = plain.1; bounded = plain.2 }

-- ---- behind an index and a length

-- Every object of the state is known, it is of the same runs, and its receiver was read.
pub record KnownTo (world : World) (old new : State) : Type 0 where
  pub known : IsKnown world new
  pub method : new.method ≡ old.method
  pub init : new.init ≡ old.init
  pub receiver : IsReceiverSeen world old.method new.picture

known_to_on : (world : World) (old told new : State) → KnownTo world old told → SoundTo world told new → KnownTo world old new
known_to_on world old told new h to = record {
  known = known_on world told new h.known to;
  method = to.method ∙ h.method;
  init = to.init ∙ h.init;
  receiver = subst (IsReceiverSeen world old.method) (sym to.picture) h.receiver;
}

-- an int element behind a place is asked for as the element of any state
pub element_asked : (world : World) (bounds : Bounds) (old : State) (at : IsAtReferences world old) (x : TermId) (count : ℕ) (is : IsAskedIndex world bounds old x count) (choice : Choice)
    (sound : Sound world (answered world choice old (questions.Index x count))) (slot : Origin) (type : JType)
    → asked_next (asked_by bounds) world (answered world choice old (questions.Index x count)) ≡ Some (Reads slot type)
    → IsAsked world bounds (answered world choice old (questions.Index x count)) sound.typed slot type
element_asked world bounds old at x count is choice sound slot type e =
    let told : State = answered world choice old (questions.Index x count) in
    option_and_then_some (asked_by bounds world told) (instruction_next world told.method told.stage) (Reads slot type) e
    (λ instr there asks. next_asked world bounds told at.linked sound (ap (nat_le bounds.run.steps) (index_carried world choice old x count) ∙ is.by.within) (Reads slot type) instr there asks)

-- and its slot is none of an argument, so that the frames stay
pub int_stage : (world : World) (bounds : Bounds) (state : State) (frame : SymFrame) (callers : List SymFrame) (slot : Origin) (type : JType) → state.stage ≡ Runs frame callers → IsAskedAt world bounds state slot type
    → (first_int slot (kind_for (Some type)) state).stage ≡ state.stage
int_stage world bounds state frame callers (Arg number) type running from = absurd (never (sym from.begins ∙ running)) where
  never : Begins from.read ≡ Runs frame callers → ⊥
  never e = cc
int_stage world bounds state frame callers (Field object place) type running from = refl
int_stage world bounds state frame callers (Element array index) type running from = refl

within_most : (n most limit : ℕ) → n ≤ most → suc most < limit → n < limit
within_most n most limit up_to less = omega (arith, up_to, less)

module _ (world : World) (bounds : Bounds) (old : State) (at : IsAtReferences world old) where
  stays_to : (told : State) → IsKnown world told → Stays old told → argument_next world old.method old.stage ≡ None → KnownTo world old told
  stays_to told known stays none = record {
    known = known;
    method = stays.method;
    init = stays.init;
    receiver = subst (IsReceiverSeen world old.method) (sym stays.picture) (receiver_seen world old (sound_reached world old at.reached) none);
  }

  module _ (x : TermId) (count : ℕ) (is : IsAskedIndex world bounds old x count) (choice : Choice) (has : Has (alternatives world old bounds (questions.Index x count)) choice) where
    abbrev placed_state : State
    placed_state = answered world choice old (questions.Index x count)

    placed_to : KnownTo world old placed_state
    placed_to =
        stays_to placed_state (index_known world bounds old at x count is choice (index_is world bounds old at x count is choice has)) (index_stays world choice old x count)
        (ap (argument_next world old.method) is.by.running)

    placed_running : placed_state.stage ≡ Runs is.by.frame is.by.callers
    placed_running = index_stage world choice old x count ∙ is.by.running

    index_sized : IsSized choice
    index_sized n e = absurd (subst (IsIndexOf count) e (index_is world bounds old at x count is choice has))

    up_to : (state : State) → KnownTo world old state → state.stage ≡ Runs is.by.frame is.by.callers → KnownTo world old (takes_up plan_of world bounds choice state).state
    up_to state to running =
        known_to_on world old state (takes_up plan_of world bounds choice state).state to (takes_up_sound_by world bounds choice index_sized state is.by.frame is.by.callers running to.known.sound)

    read_to : (slot : Origin) (type : JType) → asked_next (asked_by bounds) world placed_state ≡ Some (Reads slot type) → is_reference_type type ≡ false
        → KnownTo world old (takes_up plan_of world bounds choice (first_int slot (kind_for (Some type)) placed_state)).state
    read_to slot type e plain =
        let is_asked : IsAsked world bounds placed_state placed_to.known.sound.typed slot type = element_asked world bounds old at x count is choice placed_to.known.sound slot type e in
        let tells = int_tells slot (kind_for (Some type)) placed_state in
        let seen : IsReceiverSeen world placed_state.method (after_int_read placed_state.picture slot) = int_receiver world bounds placed_state placed_to.known.sound slot type is_asked plain in
        up_to (first_int slot (kind_for (Some type)) placed_state)
        (record {
          known = int_known world placed_state slot type placed_to.known (int_sound world bounds placed_state placed_to.known.sound slot type is_asked plain);
          method = tells.method ∙ placed_to.method;
          init = tells.init ∙ placed_to.init;
          receiver = subst (IsReceiverSeen world old.method) (sym tells.picture) (subst (λ (m : MethodId). IsReceiverSeen world m (after_int_read placed_state.picture slot)) placed_to.method seen);
        })
        (int_stage world bounds placed_state is.by.frame is.by.callers slot type placed_running is_asked.from ∙ placed_running)

    pub index_take_known : KnownTo world old (answers (asked_by bounds) plan_of world bounds choice old (questions.Index x count)).state
    index_take_known = go (passed_by choice) where
      go : (bound : Option Bound) → KnownTo world old (cut_where bound placed_state (behind_index (asked_by bounds) plan_of world bounds choice placed_state)).state
      go None =
          index_has world bounds (λ (take : Take). KnownTo world old take.state) choice placed_state (λ place q chosen e. placed_to) (up_to placed_state placed_to placed_running)
          (λ place slot type chosen e plain. read_to slot type e plain)
      go (Some bound) = placed_to

  module _ (range : AreInRange bounds) (x : TermId) (most : ℕ) (is : IsAskedLength world bounds old x most) (choice : Choice) (has : Has (alternatives world old bounds (questions.Length x most)) choice) where
    abbrev sized_state : State
    sized_state = answered world choice old (questions.Length x most)

    sized_to : KnownTo world old sized_state
    sized_to = stays_to sized_state (length_known world bounds old at x most is choice) (length_stays world choice old x most) (ap (argument_next world old.method) is.by.running)

    -- a length up to the bound is an int
    length_sized : IsSized choice
    length_sized n e =
        let up : n ≤ most = subst (IsLengthUpTo most) e (length_is world bounds old at x most is choice has) in
        within_most n bounds.run.alloc (2 ^ 31) (subst (λ (m : ℕ). n ≤ m) is.most_is up) range.alloc

    pub length_take_known : KnownTo world old (answers (asked_by bounds) plan_of world bounds choice old (questions.Length x most)).state
    length_take_known = go (passed_by choice) where
      running : sized_state.stage ≡ Runs is.by.frame is.by.callers
      running = ap (λ (s : State). s.stage) (all_asked_grows (length_conditions x most choice) old).rest ∙ is.by.running

      go : (bound : Option Bound) → KnownTo world old (cut_where bound sized_state (takes_up plan_of world bounds choice sized_state)).state
      go None =
          known_to_on world old sized_state (takes_up plan_of world bounds choice sized_state).state sized_to
          (takes_up_sound_by world bounds choice length_sized sized_state is.by.frame is.by.callers running sized_to.known.sound)
      go (Some bound) = sized_to

-- ---- all takes

-- A take leaves a sound state, of the same runs, whose receiver was read.
pub record IsSoundTake (world : World) (old new : State) : Type 0 where
  pub sound : Sound world new
  pub method : new.method ≡ old.method
  pub init : new.init ≡ old.init
  pub receiver : IsReceiverSeen world old.method new.picture

of_known : (world : World) (old new : State) → KnownTo world old new → IsSoundTake world old new
of_known world old new h = record { sound = h.known.sound; method = h.method; init = h.init; receiver = h.receiver }

pub taken_sound : (world : World) (bounds : Bounds) (old : State) (choice : Choice) → AreInRange bounds → IsAtReferences world old → Has (choices_of world old bounds) choice
    → IsSoundTake world old (taken world bounds old choice).state
taken_sound world bounds old choice range at has = go (question_of world old bounds) refl has where
  sound : Sound world old
  sound = sound_reached world old at.reached

  go : (question : Option Question) → question_of world old bounds ≡ question → Has (option_map_or (alternatives world old bounds) question only) choice
      → IsSoundTake world old (option_map_or (answers (asked_by bounds) plan_of world bounds choice old) question (takes_next plan_of world bounds Only old)).state
  go None asks offered =
      let none = none_asked world bounds old asks in
      let to = takes_next_sound world bounds old sound none in
      record {
        sound = to.sound;
        method = to.method;
        init = to.init;
        receiver = subst (IsReceiverSeen world old.method) (sym to.picture) (receiver_seen world old sound none);
      }
  go (Some (Reads slot type)) asks offered =
      let to = answers_sound world bounds old at slot type asks choice range offered in
      record {
        sound = to.sound;
        method = to.method ∙ answered_method world choice old slot type;
        init = to.init ∙ answered_init world choice old slot type;
        receiver = subst (IsReceiverSeen world old.method) (sym to.picture)
            (answered_receiver world bounds old sound slot type (asked world bounds old at slot type asks) choice range offered);
      }
  go (Some (questions.Index x count)) asks offered =
      of_known world old (answers (asked_by bounds) plan_of world bounds choice old (questions.Index x count)).state
      (index_take_known world bounds old at x count (asked_at_references world bounds old at (questions.Index x count) asks) choice offered)
  go (Some (questions.Length x most)) asks offered =
      of_known world old (answers (asked_by bounds) plan_of world bounds choice old (questions.Length x most)).state
      (length_take_known world bounds old at range x most (asked_at_references world bounds old at (questions.Length x most) asks) choice offered)
