-- Each take of a state that is reached leaves one that is reached, and a picture of which an input can be made.
use Rattle.std.proofs.Common.{◌≡◌, Bool, true, false, Option, Some, None, refl, sym, subst, ◌∙◌, if◌then◌else◌}
use Rattle.std.specs.Option.{option_map_or}
use Rattle.kb_class.proofs.Lists.{all_has}
use Rattle.kb_class.specs.Naming.{Has}
use Rattle.kb_heap.specs.declared.bounds.Bound.{Bound}
use Rattle.kb_heap.specs.declared.bounds.Bounds.{Bounds}
use Rattle.kb_classes.specs.World.{World}
use Rattle.kb_names.specs.declared.types.JType.{JType}
use Rattle.kb_terms.specs.Terms.{IsPool}
use Rattle.kb_picture.specs.Growing.{is_receiver}
use Rattle.kb_picture.specs.declared.choice.Choice.{Choice}
use Rattle.kb_picture.specs.declared.choice.Init.{Init}
use Rattle.kb_picture.specs.declared.choice.Init.TheVariants.{Lazy}
use Rattle.kb_picture.specs.declared.picture.Origin.{Origin}
use Rattle.kb_picture.specs.declared.picture.Origin.TheVariants.{Arg, Field, Element}
use Rattle.kb_picture.specs.Queries.{kind_for}
use Rattle.kb_picture.specs.WellTyped.{IsReceiverSeen, is_reference_type}
use Rattle.kb_lazy.specs.Choices.{read_choices_of}
use Rattle.kb_lazy.specs.Laws.{AreInRange}
use Rattle.kb_frames.specs.declared.value.Outcome.{Outcome}
use Rattle.kb_frames.specs.declared.value.Outcome.TheVariants.{Asks, Goes, Ends, Cut}
use Rattle.kb_frames.specs.declared.value.SymValue.{SymValue}
use Rattle.kb_frames.specs.FirstReads.{first_int, first_reference, found_in}
use Rattle.kb_frames.specs.State.{State}
use Rattle.kb_ways.specs.Reached.{IsReached}
use Rattle.kb_ways.specs.Simulation.{HasInputOfState}
use Rattle.kb_ways.specs.Ways.{Take}
use Rattle.kb_ways.proofs.SoundLaws.{Sound, reached_sound, sound_reached}
use Rattle.kb_stepref.specs.Choices.{alternatives}
use Rattle.kb_ways.specs.Advancing.{only}
use Rattle.kb_stepref.specs.Laws.{IsAtReferences, OfTakes}
use Rattle.kb_ways.specs.declared.question.Question.{Question}
use Rattle.kb_ways.specs.declared.question.Question.TheVariants.{Reads}
use Rattle.kb_ways.specs.declared.question.Question.TheVariants as questions
use Rattle.kb_stepref.specs.Questions.{asked_by, question_of}
use Rattle.kb_ways.specs.Questions.{answered, answers, behind_read, cut_where, passed_by}
use Rattle.kb_stepref.specs.Takes.{taken}
use Rattle.kb_ways.specs.Plans.{takes_next}
use Rattle.kb_stepref.proofs.AnsweredLaws.{offered_fits, tells_reference}
use Rattle.kb_stepref.proofs.LazyLaws.{IsKnown as IsKnownChoice, known_choices, known_locs, known_counted, known_no_beyond}
use Rattle.kb_stepref.proofs.FirstReadLaws.{asked, asked_at_references}
use Rattle.kb_stepref.proofs.KnownTakes.{index_take_known, known_on, length_take_known, taken_sound}
use Rattle.kb_stepref.proofs.SoundLaws.{answered_init, goes_behind_sound, none_asked, takes_next_sound, told_sound}
pub use Rattle.kb_stepref.proofs.ChosenStates.{IsKnown, known_at}
pub use Rattle.kb_stepref.proofs.KnownTakes.{IsPlain, int_plain}
use Rattle.kb_picture.specs.declared.choice.Choice.TheVariants.{Only}
use Rattle.kb_stepref.specs.Effects.{plan_of}

-- ---- what is reached

pub is_reached : OfTakes (λ world bounds state take. IsPool take.state.nodes → IsReached world take.state)
is_reached world bounds state choice range at has pool =
    reached_sound world (taken world bounds state choice).state (taken_sound world bounds state choice range at has).sound pool

pub has_input : OfTakes (λ world bounds state take. HasInputOfState world take.state)
has_input world bounds state choice range at has =
    let to = taken_sound world bounds state choice range at has in
    record {
      typed = to.sound.typed;
      receiver = subst (λ m. IsReceiverSeen world m (taken world bounds state choice).state.picture) (sym to.method) to.receiver;
    }

-- ---- an answer

pub found_picture : (slot : Origin) (value : SymValue) (state : State) → (found_in slot value state).picture ≡ state.picture
found_picture (Arg number) value state = refl
found_picture (Field object place) value state = refl
found_picture (Element array index) value state = refl

module _ (world : World) (bounds : Bounds) (state : State) (at : IsAtReferences world state) (slot : Origin) (type : JType) (asks : question_of world state bounds ≡ Some (Reads slot type))
    (choice : Choice) (range : AreInRange bounds) (has : Has (alternatives world state bounds (Reads slot type)) choice) where
  abbrev now : State
  now = answered world choice state (Reads slot type)

  -- under lazy initialisation no location is offered
  known_here : is_reference_type type ≡ true → IsKnownChoice choice
  known_here reference = go (is_reference_type type) reference has where
    go : (b : Bool) → b ≡ true
        → Has (if b then read_choices_of state.init world state.picture slot type (is_receiver world state.method slot) bounds.k bounds.array else only) choice → IsKnownChoice choice
    go true is offered =
        all_has IsKnownChoice (read_choices_of Lazy world state.picture slot type (is_receiver world state.method slot) bounds.k bounds.array) choice
        (known_choices world state.picture slot type bounds.k bounds.array (is_receiver world state.method slot))
        (subst (λ (init : Init). Has (read_choices_of init world state.picture slot type (is_receiver world state.method slot) bounds.k bounds.array) choice) at.lazy offered)
    go false is offered = absurd cc

  now_plain : passed_by choice ≡ None → IsPlain now.picture
  now_plain passed = go (is_reference_type type) refl where
    go : (b : Bool) → is_reference_type type ≡ b → IsPlain (if b then first_reference world slot choice state else first_int slot (kind_for (Some type)) state).picture
    go true is =
        let sound : Sound world state = sound_reached world state at.reached in
        let is_asked = asked world bounds state at slot type asks in
        let tells = tells_reference world bounds state sound slot type is_asked choice (offered_fits world bounds state sound slot type is_asked choice range is has) in
        subst IsPlain (sym (found_picture slot _ _)) (
          known_locs state.picture slot choice (known_here is) ∙ at.known,
          known_no_beyond state.picture slot choice (known_here is) passed at.within,
          known_counted state.picture slot choice passed tells.typed.lengths at.bounded,
        )
    go false is = subst IsPlain (sym (found_picture slot _ _)) (int_plain state.picture slot (at.known, at.within, at.bounded))

  pub now_known : passed_by choice ≡ None → IsKnown world now
  now_known passed =
      let plain = now_plain passed in
      record {
        sound = told_sound world bounds state at slot type asks choice range has;
        lazy = answered_init world choice state slot type ∙ at.lazy;
        known = plain.0;
        within = plain.1;
        bounded = plain.2;
      }

-- ---- where it goes on

-- where the state goes on, it is such a one still
abbrev pub IsKnownUnlessCut : World → State → Outcome → Type 0
IsKnownUnlessCut world state Asks = IsKnown world state
IsKnownUnlessCut world state Goes = IsKnown world state
IsKnownUnlessCut world state (Ends ending) = IsKnown world state
IsKnownUnlessCut world state (Cut bound) = Unit {0}

known_unless_cut : (world : World) (state : State) (outcome : Outcome) → IsKnown world state → IsKnownUnlessCut world state outcome
known_unless_cut world state Asks h = h
known_unless_cut world state Goes h = h
known_unless_cut world state (Ends ending) h = h
known_unless_cut world state (Cut bound) h = tt

abbrev StaysKnown : World → Take → Type 0
StaysKnown world take = IsKnownUnlessCut world take.state take.outcome

pub goes_on_known : OfTakes (λ world bounds state take. IsKnownUnlessCut world take.state take.outcome)
goes_on_known world bounds state choice range at has = go (question_of world state bounds) refl has where
  stays : (take : Take) → IsKnown world take.state → StaysKnown world take
  stays take h = known_unless_cut world take.state take.outcome h

  -- a state that is cut by its answer goes on nowhere
  behind : (slot : Origin) (type : JType) → question_of world state bounds ≡ Some (Reads slot type) → Has (alternatives world state bounds (Reads slot type)) choice
      → (bound : Option Bound) → passed_by choice ≡ bound
      → StaysKnown world (cut_where bound (answered world choice state (Reads slot type)) (behind_read plan_of world bounds slot (answered world choice state (Reads slot type))))
  behind slot type asks offered None passed =
      stays (behind_read plan_of world bounds slot (answered world choice state (Reads slot type)))
      (known_on world (answered world choice state (Reads slot type)) (behind_read plan_of world bounds slot (answered world choice state (Reads slot type))).state
      (now_known world bounds state at slot type asks choice range offered passed) (goes_behind_sound world bounds state at slot type asks choice range offered))
  behind slot type asks offered (Some bound) passed = tt

  go : (question : Option Question) → question_of world state bounds ≡ question → Has (option_map_or (alternatives world state bounds) question only) choice
      → StaysKnown world (option_map_or (answers (asked_by bounds) plan_of world bounds choice state) question (takes_next plan_of world bounds Only state))
  go None asks offered =
      stays (takes_next plan_of world bounds Only state)
      (known_on world state (takes_next plan_of world bounds Only state).state (known_at world state at)
      (takes_next_sound world bounds state (sound_reached world state at.reached) (none_asked world bounds state asks)))
  go (Some (Reads slot type)) asks offered = behind slot type asks offered (passed_by choice) refl
  go (Some (questions.Index x count)) asks offered =
      stays (answers (asked_by bounds) plan_of world bounds choice state (questions.Index x count))
      (index_take_known world bounds state at x count (asked_at_references world bounds state at (questions.Index x count) asks) choice offered).known
  go (Some (questions.Length x most)) asks offered =
      stays (answers (asked_by bounds) plan_of world bounds choice state (questions.Length x most))
      (length_take_known world bounds state at range x most (asked_at_references world bounds state at (questions.Length x most) asks) choice offered).known
