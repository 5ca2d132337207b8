-- What holds of a piece holds behind each of its alternatives; and where the values of an answer meet what was added, of a
-- piece again.
use Rattle.std.proofs.Common.{◌≡◌, ◌⊎◌, ℕ, zero, suc, ◌<◌, ◌≤◌, Bool, List, [], ◌∷◌, length, take, Option, Some, None, slice_get, inl, inr, refl, sym, ◌∙◌, subst, arith, take_all}
use Rattle.kb_blast.specs.Meaning.{AreMetInPool}
use Rattle.kb_class.specs.Naming.{Has}
use Rattle.kb_class.specs.declared.ids.MethodId.{MethodId}
use Rattle.kb_heap.specs.declared.bounds.Bounds.{Bounds}
use Rattle.kb_heap.specs.declared.heap.Input.{Input}
use Rattle.kb_classes.specs.World.{World}
use Rattle.kb_semantics.specs.Comparisons.{Comparison}
use Rattle.kb_semantics.specs.Config.{Config}
use Rattle.kb_semantics.specs.Inputs.{IsTypeCorrect}
use Rattle.kb_semantics.specs.Looks.{reads}
use Rattle.kb_semantics.specs.Step.{config_at, start_of}
use Rattle.kb_terms.specs.declared.node.TermId.{TermId}
use Rattle.kb_picture.specs.declared.picture.Origin.{Origin}
use Rattle.kb_picture.specs.declared.picture.Origin.TheVariants.{Arg, Field, Element}
use Rattle.kb_picture.specs.Instances.{variable_values}
use Rattle.kb_picture.specs.Shapes.{HasShape}
use Rattle.kb_frames.specs.Cuts.{setting_of}
use Rattle.kb_frames.specs.StandsFor.{IsInstanceOf, StandsFor, written_by}
use Rattle.kb_frames.specs.State.{State}
use Rattle.kb_frames.specs.Comparing.{comparison_of}
use Rattle.kb_ways.specs.Simulation.{IsComparedBy as IsComparedByStep, IsRead as IsReadByStep, IsReadAt}
use Rattle.kb_ways.specs.Ways.{Take}
use Rattle.kb_drive.specs.declared.piece.Piece.{Piece}
use Rattle.kb_ways.specs.Reached.{IsReached}
use Rattle.kb_drive.specs.Compared.{IsComparisonMade, IsSuchComparison}
use Rattle.kb_drive.specs.Pieces.{AreMadeIn, AreValuesFor, HasOutcome, IsBehind, IsPiece}
use Rattle.kb_drive.specs.ReadFirst.{AreReadFirst, IsReadFirst, SomeReadsAt}
use Rattle.kb_drive.specs.Runs.{starts_of}
use Rattle.kb_frames_laws.specs.Meant.{with_first}
use Rattle.kb_drive.specs.Steps.{LeadsOn}
use Rattle.kb_drive.proofs.FrontLaws.{at_front, front_at, front_length, values_stay, within_or_not, condition_term}
use Rattle.kb_drive.proofs.GrowLaws.{comparison_stays, met_before, seen_argument}

module _ (world : World) (target : MethodId) (bounds : Bounds) (piece : Piece) (is : IsPiece world target bounds piece) (after : Take)
    (leads : LeadsOn world bounds piece.state after) where
  abbrev old : State
  old = piece.state

  abbrev new : State
  new = after.state

  same_method : new.method ≡ target
  same_method = leads.kept.method ∙ is.explored.method

  correct_before : (input : Input) → IsTypeCorrect world target input → IsTypeCorrect world old.method input
  correct_before input correct = subst (λ (m : MethodId). IsTypeCorrect world m input) (sym is.explored.method) correct

  -- an input with the shape behind the take that meets the conditions from before it is one of the piece
  before : (input : Input) → (shape : HasShape new.picture input)
      → AreMetInPool new.nodes (variable_values new.picture input shape.places.objects) old.when → IsInstanceOf old input
  before input shape met = record {
    shape = leads.kept.shapes input shape;
    conditions = met_before world old new input is.reached.reached.sound leads.kept.terms leads.stays (leads.kept.shapes input shape) shape met;
  }

  short_before : (input : Input) → (short : IsInstanceOf (with_first new (length old.when)) input) → IsInstanceOf old input
  short_before input short =
      before input short.shape (subst (AreMetInPool new.nodes (variable_values new.picture input short.shape.places.objects)) leads.kept.conditions short.conditions)

  pub instance_before : (input : Input) → IsInstanceOf new input → IsInstanceOf old input
  instance_before input instance_of = before input instance_of.shape (met_front new.when (length old.when) leads.kept.conditions instance_of.conditions)
    where
      met_front : (when : List (TermId × Bool)) (n : ℕ) → take n when ≡ old.when
          → AreMetInPool new.nodes (variable_values new.picture input instance_of.shape.places.objects) when
          → AreMetInPool new.nodes (variable_values new.picture input instance_of.shape.places.objects) old.when
      met_front when n same met = subst (AreMetInPool new.nodes (variable_values new.picture input instance_of.shape.places.objects)) same (front_met n when met)
        where
          front_met : (k : ℕ) (cs : List (TermId × Bool)) → AreMetInPool new.nodes (variable_values new.picture input instance_of.shape.places.objects) cs
              → AreMetInPool new.nodes (variable_values new.picture input instance_of.shape.places.objects) (take k cs)
          front_met zero cs h = tt
          front_met (suc k) [] h = tt
          front_met (suc k) (c ∷ cs) h = (h.0, front_met k cs h.1)

  -- the configuration of which the piece stands, as one of a run that counts
  made_there : (input : Input) (c : Config) (comparison : Option Comparison) → StandsFor (setting_of world bounds) old input c
      → IsComparedByStep (setting_of world bounds) c comparison → IsSuchComparison (IsComparisonMade world target bounds input) comparison
  made_there input c None stands never = never
  made_there input c (Some comparison) stands has = record {
    start = start_of world target input;
    counts = (0, refl);
    steps = old.carried;
    config = c;
    config_is = subst (λ (m : MethodId). config_at (setting_of world bounds) old.carried (start_of world m input) ≡ Some c) is.explored.method stands.run;
    such = has;
  }

  compared_behind : (input : Input) → IsTypeCorrect world target input → (short : IsInstanceOf (with_first new (length old.when)) input)
      → AreMadeIn world target bounds new input short.shape.places.objects
  compared_behind input correct short i condition at exempt = go (within_or_not i (length old.when))
    where
      was : IsInstanceOf old input
      was = short_before input short

      whole : IsInstanceOf (with_first old (length old.when)) input
      whole = record { shape = was.shape; conditions = subst (AreMetInPool old.nodes (variable_values old.picture input was.shape.places.objects)) (sym (take_all (length old.when) old.when (omega arith))) was.conditions }

      go : (i < length old.when) ⊎ (length old.when ≤ i)
          → IsSuchComparison (IsComparisonMade world target bounds input) (comparison_of new.nodes (variable_values new.picture input short.shape.places.objects) condition.0)
      go (inl less) =
          let there = at_front new.when old.when i condition leads.kept.conditions less at in
          subst (IsSuchComparison (IsComparisonMade world target bounds input))
          (comparison_stays world old new input is.reached.reached.sound leads.kept.terms leads.stays whole.shape short.shape condition.0
          (condition_term old.nodes old.when i condition is.reached.reached.sound.conditions there))
          (is.explored.compared input correct whole i condition there exempt)
      go (inr more) =
          let stands = is.stands input correct was in
          made_there input stands.0 (comparison_of new.nodes (variable_values new.picture input short.shape.places.objects) condition.0) stands.1
          (leads.compared input stands.0 (correct_before input correct) stands.1 short.shape i condition more at)

  read_there : (input : Input) (c : Config) (slot : ℕ) (place : Option ℕ) → StandsFor (setting_of world bounds) old input c
      → IsReadAt (setting_of world bounds) old input c slot place → SomeReadsAt (setting_of world bounds) (starts_of world target input) slot place
  read_there input c slot None stands never = never
  read_there input c slot (Some place) stands has = record {
    start = start_of world target input;
    counts = (0, refl);
    steps = old.carried;
    config = c;
    config_is = subst (λ (m : MethodId). config_at (setting_of world bounds) old.carried (start_of world m input) ≡ Some c) is.explored.method stands.run;
    such = subst (λ (m : MethodId). Has (reads (setting_of world bounds) c) (record { object = place; slot = slot })
        × (Has (written_by (setting_of world bounds) old.carried (start_of world m input)) (record { object = place; slot = slot }) → ⊥)) is.explored.method has;
  }

  -- a slot that was seen before has the place that it had
  read_still : (input : Input) (places now : List ℕ) → take (length places) now ≡ places → (slot : Origin)
      → IsReadFirst (setting_of world bounds) (starts_of world target input) input places slot
      → IsReadFirst (setting_of world bounds) (starts_of world target input) input now slot
  read_still input places now front (Arg number) read = read
  read_still input places now front (Field object slot) read = still (slice_get places object) refl read
    where
      still : (place : Option ℕ) → slice_get places object ≡ place → SomeReadsAt (setting_of world bounds) (starts_of world target input) slot place
          → SomeReadsAt (setting_of world bounds) (starts_of world target input) slot (slice_get now object)
      still None e never = absurd never
      still (Some place) e has = let there = front_at now places object place front e in rw there has
  read_still input places now front (Element array index) read = still (slice_get places array) refl read
    where
      still : (place : Option ℕ) → slice_get places array ≡ place → SomeReadsAt (setting_of world bounds) (starts_of world target input) index place
          → SomeReadsAt (setting_of world bounds) (starts_of world target input) index (slice_get now array)
      still None e never = absurd never
      still (Some place) e has = let there = front_at now places array place front e in rw there has

  read_behind : (input : Input) → IsTypeCorrect world target input → (instance_of : IsInstanceOf new input)
      → AreReadFirst (setting_of world bounds) (starts_of world target input) input instance_of.shape.places.objects new.picture.seen
  read_behind input correct instance_of i slot at = go (within_or_not i (length old.picture.seen))
    where
      was : IsInstanceOf old input
      was = instance_before input instance_of

      fresh : (origin : Origin) → slice_get new.picture.seen i ≡ Some (origin, slot.1)
          → IsReadByStep (setting_of world bounds) old input (is.stands input correct was).0 instance_of.shape.places.objects origin
          → IsReadFirst (setting_of world bounds) (starts_of world target input) input instance_of.shape.places.objects origin
      fresh (Arg number) there read = seen_argument new.picture input instance_of.shape i number slot.1 there
      fresh (Field object number) there read = read_there input (is.stands input correct was).0 number (slice_get instance_of.shape.places.objects object) (is.stands input correct was).1 read
      fresh (Element array index) there read = read_there input (is.stands input correct was).0 index (slice_get instance_of.shape.places.objects array) (is.stands input correct was).1 read

      go : (i < length old.picture.seen) ⊎ (length old.picture.seen ≤ i)
          → IsReadFirst (setting_of world bounds) (starts_of world target input) input instance_of.shape.places.objects slot.0
      go (inl less) =
          read_still input was.shape.places.objects instance_of.shape.places.objects (leads.stays.places input was.shape instance_of.shape) slot.0
          (is.explored.read input correct was i slot (at_front new.picture.seen old.picture.seen i slot leads.stays.seen less at))
      go (inr more) =
          let stands = is.stands input correct was in
          fresh slot.0 at ((leads.read input stands.0 (correct_before input correct) stands.1 instance_of).seen i slot more at)

  outcome_behind : (input : Input) → IsTypeCorrect world target input → (instance_of : IsInstanceOf new input) → HasOutcome world target bounds after input instance_of
  outcome_behind input correct instance_of =
      let stands = is.stands input correct (instance_before input instance_of) in
      record {
        steps = old.carried;
        config = stands.0;
        config_is = subst (λ (m : MethodId). config_at (setting_of world bounds) old.carried (start_of world m input) ≡ Some stands.0) is.explored.method stands.1.run;
        outcome = leads.outcome input stands.0 (correct_before input correct) stands.1 instance_of;
      }

  -- Behind an alternative of a piece, whatever becomes of it.
  pub behind_piece : IsReached world new → IsBehind world target bounds (length old.when) piece.values after
  behind_piece reached = record {
    explored = record {
      method = same_method;
      formed = reached.sound;
      within = front_length new.when old.when leads.kept.conditions;
      met = subst (λ (when : List (TermId × Bool)). AreValuesFor new.nodes when piece.values) (sym leads.kept.conditions)
          (values_stay old.nodes new.nodes old.when piece.values leads.kept.terms is.reached.reached.sound.conditions
          (subst (λ (when : List (TermId × Bool)). AreValuesFor old.nodes when piece.values) (take_all (length old.when) old.when (omega arith)) is.explored.met));
      compared = compared_behind;
      read = read_behind;
    };
    reached = reached;
    leads = leads.leads reached;
    picture = leads.picture;
    ending = leads.ending;
    outcomes = outcome_behind;
  }
