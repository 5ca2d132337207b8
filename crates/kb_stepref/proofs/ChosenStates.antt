-- The state behind an index or a length that was chosen: it is sound, its objects are known, and it stands for the configuration
-- for which the state stood, where the input meets what the alternative asks for. The index is then the place, or outside of the
-- array, and the length is the one that was chosen.
use Rattle.std.proofs.Common.{◌≡◌, ℕ, zero, suc, ◌+◌, ◌^◌, ◌<◌, ◌≤◌, ℤ, pos, negsuc, w32, FitsSigned, true, false, not, List, [], ◌∷◌, ◌++◌, length, map, slice_get, Option, Some, None, inl, inr, refl, sym, ap, subst, ◌∙◌, arith, ltb-true}
use Rattle.std.specs.Prelude.{int_lt}
use Rattle.std.specs.Option.{option_and_then, option_map}
use Rattle.std.proofs.lemmas.Bool.{not-true}
use Rattle.std.proofs.lemmas.Option.{same_Some}
use Rattle.kb_blast.specs.Meaning.{AreMetInPool}
use Rattle.kb_class.proofs.Lists.{has_cases, has_either, has_mapped, has_none}
use Rattle.kb_class.specs.Naming.{Has}
use Rattle.kb_heap.specs.declared.bounds.Bounds.{Bounds}
use Rattle.kb_heap.specs.declared.heap.Input.{Input}
use Rattle.kb_heap.specs.declared.heap.Value.TheVariants.{Int as IntValue}
use Rattle.kb_classes.specs.World.{World}
use Rattle.kb_names.specs.declared.types.ExactType.{ExactType}
use Rattle.kb_names.specs.declared.types.ExactType.TheVariants as exact
use Rattle.kb_semantics.specs.Config.{Config}
use Rattle.kb_semantics.specs.Inputs.{IsTypeCorrect}
use Rattle.kb_semantics.specs.Instructions.{place_in_array}
use Rattle.kb_semantics.specs.Looks.{numbers_below}
use Rattle.kb_semantics.specs.Step.{first_heap}
use Rattle.kb_terms.specs.declared.node.TermId.{TermId}
use Rattle.kb_terms.specs.Terms.{IsPool, IsTerm, int_at, value_of, values, variables_of}
use Rattle.kb_terms.proofs.Ranges.{value_of-fits}
use Rattle.kb_terms.proofs.Values.{value_of-extends}
use Rattle.kb_lazy.specs.Laws.{HasNoBeyond}
use Rattle.kb_picture.specs.declared.choice.Choice.{Choice}
use Rattle.kb_picture.specs.declared.choice.Choice.TheVariants.{Index, Outside, Negative, Size, TooLarge}
use Rattle.kb_picture.specs.declared.choice.Init.TheVariants.{Lazy}
use Rattle.kb_picture.specs.declared.picture.Length.{Length}
use Rattle.kb_picture.specs.declared.picture.Length.TheVariants.{Plain, Is, Above}
use Rattle.kb_picture.specs.declared.picture.PicObject.{PicObject}
use Rattle.kb_picture.specs.declared.picture.Picture.{Picture}
use Rattle.kb_picture.specs.declared.picture.PlaceLists.{PlaceLists}
use Rattle.kb_picture.specs.Endings.{Reading}
use Rattle.kb_picture.specs.Instances.{variable_values}
use Rattle.kb_picture.specs.WellFormed.{variables_seen}
use Rattle.kb_picture.specs.WellTyped.{IsIntLength}
use Rattle.kb_frames.specs.declared.state.Stage.{Stage}
use Rattle.kb_frames.specs.declared.state.SymObject.{SymObject}
use Rattle.kb_frames.specs.declared.value.SymValue.{SymValue}
use Rattle.kb_frames.specs.declared.value.SymValue.TheVariants.{Int, Null, Obj, Literal, New, Loc}
use Rattle.kb_frames.specs.Arrays.{IsPlaceAmong, IsPlaceNext, array_next, index_next, length_made, length_of, length_seen}
use Rattle.kb_frames.specs.Cuts.{setting_of}
use Rattle.kb_frames.specs.Lent.{placed, stack_of}
use Rattle.kb_frames.specs.StandsFor.{IsIndexNext, IsInstanceOf, StandsFor, reading_at, value_of_sym}
use Rattle.kb_frames.specs.State.{State}
use Rattle.kb_frames.specs.States.{IsCounted, IsStage}
use Rattle.kb_frames.proofs.AlikeLaws.{AreAlike, stage_alike}
use Rattle.kb_frames.proofs.ChosenLaws.{chosen_alike, index_there}
use Rattle.kb_frames.proofs.FormedPaths.{variables-same}
use Rattle.kb_ways.specs.Asked.{all_asked, is_refuted}
use Rattle.kb_ways.specs.Choosing.{index_choices, index_conditions, length_choices, length_conditions}
use Rattle.kb_ways.specs.Questions.{answered, with_place}
use Rattle.kb_ways.specs.declared.condition.Condition.{Condition}
use Rattle.kb_ways.specs.declared.question.Question.TheVariants as questions
use Rattle.kb_steparray.proofs.ChoosingLaws.{above_is, index_sides, length_sides, negative_is, outside_is, place_is, size_is}
use Rattle.kb_ways.proofs.GrowLaws.{Grows, all_asked_grows}
use Rattle.kb_steparray.proofs.HeldLaws.{index_held, length_held}
use Rattle.kb_ways.proofs.OfferLaws.{has_kept}
use Rattle.kb_ways.proofs.OneAsked.{AllHold, AllSides, IsReady, conditions_there}
use Rattle.kb_ways.proofs.OneDecided.{all_ready}
use Rattle.kb_ways.proofs.OneInstances.{same_variables}
use Rattle.kb_ways.proofs.OutcomeValues.{IsLater, heap_later, reading_later, value_later}
use Rattle.kb_ways.proofs.PlaceLaws.{instance_placed, placed_sound, placed_stands}
use Rattle.kb_ways.proofs.SoundLaws.{AllCompare, Sound, asked_sound, below, sound_reached}
use Rattle.kb_ways.proofs.ValueLaws.{IsOrdered, VariablesBelow, below_later, pool_below, pool_ordered}
use Rattle.kb_steparray.specs.Arrays.{AreCounted}
use Rattle.kb_steparray.proofs.OperandLaws.{int_there, int_value}
use Rattle.kb_stepref.specs.Choices.{alternatives}
use Rattle.kb_stepref.specs.Laws.{IsAtReferences}
use Rattle.kb_stepref.proofs.FirstReadLaws.{IsAskedIndex, IsAskedLength}
use Rattle.kb_stepref.proofs.RangeLaws.{variables_fit}

-- ---- with objects alone

-- beside its pool: every object was chosen when its reference was read, none is left open, and none is beyond
pub record IsKnown (world : World) (state : State) : Type 0 where
  pub sound : Sound world state
  pub lazy : state.init ≡ Lazy
  pub known : state.picture.locs ≡ []
  pub within : HasNoBeyond state.picture
  pub bounded : AreCounted state.picture

abbrev pub known_at : (world : World) (state : State) → IsAtReferences world state → IsKnown world state
known_at world state at = record { sound = sound_reached world state at.reached; lazy = at.lazy; known = at.known; within = at.within; bounded = at.bounded }

placed_known : (world : World) (state : State) (place : ℕ) → IsKnown world state → IsPlaceNext world (placed place state) place → IsKnown world (placed place state)
placed_known world state place h inside =
    record { sound = placed_sound world state place h.sound inside; lazy = h.lazy; known = h.known; within = h.within; bounded = h.bounded }

-- ---- the alternatives

abbrev pub IsIndexOf : ℕ → Choice → Type 0
IsIndexOf count (Index place) = place < count
IsIndexOf count Outside = Unit {0}
IsIndexOf count _ = ⊥

pub index_listed : (count : ℕ) (choice : Choice) → Has (index_choices count) choice → IsIndexOf count choice
index_listed count choice has = elim (has_either (map Index (numbers_below count)) (Outside ∷ []) choice has) [
  | inl front ↦ (let found = has_mapped Index (numbers_below count) choice front in subst (IsIndexOf count) found.2 (below count found.1.0 found.0 found.1.1))
  | inr last ↦ elim (has_cases Outside choice [] last) [ inl same ↦ subst (IsIndexOf count) same tt | inr none ↦ absurd (has_none choice none) ]
]

abbrev pub IsLengthUpTo : ℕ → Choice → Type 0
IsLengthUpTo most Negative = Unit {0}
IsLengthUpTo most (Size count) = count ≤ most
IsLengthUpTo most TooLarge = Unit {0}
IsLengthUpTo most _ = ⊥

pub length_listed : (most : ℕ) (choice : Choice) → Has (length_choices most) choice → IsLengthUpTo most choice
length_listed most choice has = elim (has_cases Negative choice (map Size (numbers_below (suc most)) ++ TooLarge ∷ []) has) [
  | inl same ↦ subst (IsLengthUpTo most) same tt
  | inr later ↦ elim (has_either (map Size (numbers_below (suc most))) (TooLarge ∷ []) choice later) [
    | inl front ↦ (
        let found = has_mapped Size (numbers_below (suc most)) choice front in
        subst (IsLengthUpTo most) found.2 (up_to found.0 (below (suc most) found.1.0 found.0 found.1.1)))
    | inr last ↦ elim (has_cases TooLarge choice [] last) [ inl same ↦ subst (IsLengthUpTo most) same tt | inr none ↦ absurd (has_none choice none) ]
  ]
] where
  up_to : (n : ℕ) → n < suc most → n ≤ most
  up_to n less = omega (arith, less)

index_compares : (x : TermId) (count : ℕ) (choice : Choice) → AllCompare (index_conditions x count choice)
index_compares x count (Index place) = (refl, tt)
index_compares x zero Outside = tt
index_compares x (suc n) Outside = (refl, tt)
index_compares x count _ = tt

length_compares : (x : TermId) (most : ℕ) (choice : Choice) → AllCompare (length_conditions x most choice)
length_compares x most Negative = (refl, tt)
length_compares x most (Size count) = (refl, tt)
length_compares x most TooLarge = (refl, (refl, tt))
length_compares x most _ = tt

-- ---- how long an array is

seen_small : (kind : ExactType) (len : Length) (count : ℕ) → IsIntLength len → length_seen kind len ≡ Some count → count < 2 ^ 31
seen_small (exact.Class name) len count small e = absurd cc
seen_small (exact.Array component) (Is n) count small e = subst (λ (m : ℕ). m < 2 ^ 31) (same_Some n count e) small
seen_small (exact.Array component) (Above n) count small e = absurd cc
seen_small (exact.Array component) Plain count small e = absurd cc

made_small : (kind : ExactType) (n count : ℕ) → IsCounted kind n → length_made kind n ≡ Some count → count < 2 ^ 31
made_small (exact.Class name) n count small e = absurd cc
made_small (exact.Array component) n count small e = subst (λ (m : ℕ). m < 2 ^ 31) (same_Some n count e) small

-- an int counts its elements
count_small : (world : World) (state : State) → Sound world state → (value : SymValue) (count : ℕ) → length_of state value ≡ Some count → count < 2 ^ 31
count_small world state sound (Obj number) count e = go (slice_get state.picture.objects number) refl e where
  go : (it : Option PicObject) → slice_get state.picture.objects number ≡ it → option_and_then (λ (o : PicObject). length_seen o.kind o.length) it ≡ Some count → count < 2 ^ 31
  go None at e = absurd cc
  go (Some object) at e = seen_small object.kind object.length count (sound.typed.lengths number object at) e
count_small world state sound (New number) count e = go (slice_get state.made number) refl e where
  go : (it : Option SymObject) → slice_get state.made number ≡ it → option_and_then (λ (o : SymObject). length_made o.kind (length o.values)) it ≡ Some count → count < 2 ^ 31
  go None at e = absurd cc
  go (Some object) at e = made_small object.kind (length object.values) count (sound.made number object at).counted e
count_small world state sound (Int term) count e = absurd cc
count_small world state sound Null count e = absurd cc
count_small world state sound (Literal number) count e = absurd cc
count_small world state sound (Loc number) count e = absurd cc

at_most : (n m : ℕ) → n < m → n ≤ m
at_most n m less = omega (arith, less)

-- an int below 0
negative_number : (z : ℤ) → int_lt z (pos 0) ≡ true → (n : ℕ) × (z ≡ negsuc n)
negative_number (pos i) e = absurd (never (ltb-true i 0 e)) where
  never : i < 0 → ⊥
  never less = omega (arith, less)
negative_number (negsuc n) e = (n, refl)

-- ---- behind an answer

module _ (world : World) (bounds : Bounds) (old : State) (at : IsAtReferences world old) where
  sound : Sound world old
  sound = sound_reached world old at.reached

  pool : IsPool old.nodes
  pool = at.reached.sound.pool

  pub asked_ready : IsReady old
  asked_ready = record { ordered = pool_ordered old.nodes pool; terms = conditions_there old.nodes old.when sound.conditions }

  -- an int of an input has 32 bits
  pub value_fits : (input : Input) → IsTypeCorrect world old.method input → (places : List ℕ) (x : TermId) → FitsSigned w32 (value_of old.nodes x (variable_values old.picture input places))
  value_fits input correct places x = value_of-fits old.nodes x (variable_values old.picture input places) pool (variables_fit world old.method input correct old.picture places)

  -- ---- with conditions

  module _ (cs : List Condition) (compare : AllCompare cs) (sides : AllSides old.nodes cs) where
    abbrev grown : State
    grown = all_asked old cs

    grows : Grows old grown
    grows = all_asked_grows cs old

    pub asked_picture : grown.picture ≡ old.picture
    asked_picture = ap (λ (s : State). s.picture) grows.rest

    pub asked_known : IsKnown world grown
    asked_known = record {
      sound = asked_sound world old cs compare sound;
      lazy = ap (λ (s : State). s.init) grows.rest ∙ at.lazy;
      known = ap (λ (s : State). s.picture.locs) grows.rest ∙ at.known;
      within = subst HasNoBeyond (sym asked_picture) at.within;
      bounded = subst AreCounted (sym asked_picture) at.bounded;
    }

    pub asked_ordered : IsOrdered grown.nodes
    asked_ordered = (all_ready cs old sides asked_ready).ordered

    pub asked_below : VariablesBelow (variables_of grown.nodes) grown.nodes
    asked_below =
        subst (λ (n : ℕ). VariablesBelow n grown.nodes) same
        (below_later old.nodes grown.nodes (variables_of old.nodes) (record { terms = grows.terms; kinds = grows.kinds }) (pool_below old.nodes pool))
      where
        same : variables_of old.nodes ≡ variables_of grown.nodes
        same =
            variables-same world old.method old.nodes old.picture sound.kinds ∙ ap (λ (p : Picture). length (variables_seen p)) (sym asked_picture)
            ∙ sym (variables-same world grown.method grown.nodes grown.picture asked_known.sound.kinds)

    -- ---- of an instance

    module _ (input : Input) (i : IsInstanceOf grown input) where
      abbrev variables_at : List ℤ
      variables_at = variable_values old.picture input i.shape.places.objects

      met_at : AreMetInPool grown.nodes variables_at grown.when
      met_at = subst (λ (p : Picture). AreMetInPool grown.nodes (variable_values p input i.shape.places.objects) grown.when) asked_picture i.conditions

      -- an earlier term has the value that it had
      value_at : (x : TermId) → IsTerm old.nodes x → int_value (reading_at world grown input i.shape.places) x ≡ value_of old.nodes x variables_at
      unfolding reading_at value_of
      value_at x is =
          ap (λ (p : Picture). int_at (values (variable_values p input i.shape.places.objects) grown.nodes) x.0) asked_picture
          ∙ value_of-extends old.nodes grown.nodes x variables_at grows.terms is

    -- ---- of a configuration

    module _ (input : Input) (c : Config) (stands : StandsFor (setting_of world bounds) old input c) where
      abbrev places : PlaceLists
      places = stands.instance_of.shape.places

      abbrev variables : List ℤ
      variables = variable_values old.picture input places.objects

      abbrev more : State
      more = record old { nodes = grown.nodes; when = grown.when }

      abbrev r : Reading
      r = reading_at world old input places

      abbrev later : Reading
      later = reading_at world more input places

      is_later : IsLater r later old.nodes
      is_later = reading_later world old more input places refl grows.terms

      alike : AreAlike world old r later
      alike = value_later world old r later is_later

      more_stands : AreMetInPool grown.nodes variables grown.when → StandsFor (setting_of world bounds) more input c
      unfolding reading_at
      more_stands met = record {
        run = stands.run;
        instance_of = record { shape = stands.instance_of.shape; conditions = met };
        stage = stage_alike world old r later alike input c old.stage sound.stage stands.stage;
        heap = heap_later world old more r later (first_heap world input.heap) c.heap is_later sound.cells sound.made refl refl stands.heap;
        written = λ slot inside. (
          (λ has. (let k = (stands.written slot inside).0 has in record { object = k.object; place = k.place; value = k.value; cell = k.cell })),
          (λ k. (stands.written slot inside).1 (record { object = k.object; place = k.place; value = k.value; cell = k.cell })),
        );
        chosen = chosen_alike world old r later alike old.method old.stage old.chosen sound.stage stands.chosen;
      }

      -- Where the input meets the conditions, the state stands for the same configuration.
      pub asked_stands : IsInstanceOf grown input → StandsFor (setting_of world bounds) grown input c
      asked_stands i =
          subst (λ (s : State). StandsFor (setting_of world bounds) s input c) (sym grows.rest)
          (more_stands (subst (λ (vs : List ℤ). AreMetInPool grown.nodes vs grown.when)
          (sym (same_variables old.picture input stands.instance_of.shape grown.picture asked_picture i.shape)) i.conditions))

  -- ---- an index

  module _ (x : TermId) (count : ℕ) (is : IsAskedIndex world bounds old x count) where
    pub index_term : IsTerm old.nodes x
    index_term = index_there world old old.method old.stage (Int x) sound.stage is.index_is

    pub index_few : count ≤ 2 ^ 31
    index_few = counted (array_next world old.method old.stage) is.length_is where
      counted : (it : Option SymValue) → option_and_then (length_of old) it ≡ Some count → count ≤ 2 ^ 31
      counted None e = absurd cc
      counted (Some array) e = at_most count (2 ^ 31) (count_small world old sound array count e)

    abbrev index_grown : Choice → State
    index_grown choice = all_asked old (index_conditions x count choice)

    abbrev sides_of : (choice : Choice) → AllSides old.nodes (index_conditions x count choice)
    sides_of choice = index_sides old.nodes x count choice index_term

    -- what was the next instruction's is so still
    pub index_now : (choice : Choice) → index_next world (index_grown choice).method (index_grown choice).stage ≡ Some (Int x)
    index_now choice = ap (λ (s : State). index_next world s.method s.stage) (all_asked_grows (index_conditions x count choice) old).rest ∙ is.index_is

    pub length_now : (choice : Choice) → option_and_then (length_of (index_grown choice)) (array_next world (index_grown choice).method (index_grown choice).stage) ≡ Some count
    length_now choice =
        ap (λ (s : State). option_and_then (length_of s) (array_next world s.method s.stage)) (all_asked_grows (index_conditions x count choice) old).rest ∙ is.length_is

    pub unchosen_now : (choice : Choice) → (index_grown choice).chosen ≡ None
    unchosen_now choice = ap (λ (s : State). s.chosen) (all_asked_grows (index_conditions x count choice) old).rest ∙ is.unchosen

    -- an alternative that is offered
    module _ (choice : Choice) (has : Has (alternatives world old bounds (questions.Index x count)) choice) where
      index_kept : Has (index_choices count) choice × (not (is_refuted old (index_conditions x count choice)) ≡ true)
      index_kept = has_kept (λ (c : Choice). not (is_refuted old (index_conditions x count c))) (index_choices count) choice has

      pub index_is : IsIndexOf count choice
      index_is = index_listed count choice index_kept.0

      pub index_unrefuted : is_refuted old (index_conditions x count choice) ≡ false
      index_unrefuted = not-true (is_refuted old (index_conditions x count choice)) index_kept.1

    pub index_known : (choice : Choice) → IsIndexOf count choice → IsKnown world (answered world choice old (questions.Index x count))
    index_known choice = go choice where
      asked : IsKnown world (index_grown choice)
      asked = asked_known (index_conditions x count choice) (index_compares x count choice) (sides_of choice)

      go : (it : Choice) → IsIndexOf count it → IsKnown world (with_place it (index_grown choice))
      go (Index place) less = placed_known world (index_grown choice) place asked (subst (λ (it : Option ℕ). IsPlaceAmong it place) (sym (length_now choice)) less)
      go Outside less = asked
      go _ less = absurd less

    pub index_sound : (choice : Choice) → Has (index_choices count) choice → Sound world (answered world choice old (questions.Index x count))
    index_sound choice listed = (index_known choice (index_listed count choice listed)).sound

    pub index_ordered : (choice : Choice) → IsOrdered (answered world choice old (questions.Index x count)).nodes
    index_ordered choice = go choice where
      go : (it : Choice) → IsOrdered (with_place it (index_grown choice)).nodes
      go (Index place) = asked_ordered (index_conditions x count choice) (index_compares x count choice) (sides_of choice)
      go _ = asked_ordered (index_conditions x count choice) (index_compares x count choice) (sides_of choice)

    pub index_below : (choice : Choice) → VariablesBelow (variables_of (answered world choice old (questions.Index x count)).nodes) (answered world choice old (questions.Index x count)).nodes
    index_below choice = go choice where
      go : (it : Choice) → VariablesBelow (variables_of (with_place it (index_grown choice)).nodes) (with_place it (index_grown choice)).nodes
      go (Index place) = asked_below (index_conditions x count choice) (index_compares x count choice) (sides_of choice)
      go _ = asked_below (index_conditions x count choice) (index_compares x count choice) (sides_of choice)

    -- ---- its value

    module _ (input : Input) (correct : IsTypeCorrect world old.method input) where
      abbrev values_at : (choice : Choice) → IsInstanceOf (index_grown choice) input → List ℤ
      values_at choice i = variables_at (index_conditions x count choice) (index_compares x count choice) (sides_of choice) input i

      fits_at : (choice : Choice) (i : IsInstanceOf (index_grown choice) input) → FitsSigned w32 (value_of old.nodes x (values_at choice i))
      fits_at choice i = value_fits input correct i.shape.places.objects x

      held_at : (choice : Choice) → Has (alternatives world old bounds (questions.Index x count)) choice → (i : IsInstanceOf (index_grown choice) input)
          → AllHold old.nodes (values_at choice i) (index_conditions x count choice)
      held_at choice has i =
          index_held old pool asked_ready.terms (values_at choice i) x index_term count choice (index_unrefuted choice has)
          (met_at (index_conditions x count choice) (index_compares x count choice) (sides_of choice) input i)

      same_value : (choice : Choice) (i : IsInstanceOf (index_grown choice) input) → int_value (reading_at world (index_grown choice) input i.shape.places) x ≡ value_of old.nodes x (values_at choice i)
      same_value choice i = value_at (index_conditions x count choice) (index_compares x count choice) (sides_of choice) input i x index_term

      -- The index is the place that was chosen.
      pub index_valued : (place : ℕ) → Has (alternatives world old bounds (questions.Index x count)) (Index place) → (i : IsInstanceOf (index_grown (Index place)) input)
          → int_value (reading_at world (index_grown (Index place)) input i.shape.places) x ≡ pos place
      index_valued place has i =
          same_value (Index place) i ∙ place_is old.nodes (values_at (Index place) i) x (fits_at (Index place) i) count index_few place (held_at (Index place) has i)

      -- Or it is outside of the array.
      pub index_outside : Has (alternatives world old bounds (questions.Index x count)) Outside → (i : IsInstanceOf (index_grown Outside) input)
          → place_in_array (int_value (reading_at world (index_grown Outside) input i.shape.places) x) count ≡ None
      index_outside has i =
          ap (λ (z : ℤ). place_in_array z count) (same_value Outside i)
          ∙ outside_is old.nodes (values_at Outside i) x (fits_at Outside i) count index_few (held_at Outside has i)

      module _ (c : Config) (stands : StandsFor (setting_of world bounds) old input c) where
        grown_stands : (choice : Choice) → IsInstanceOf (index_grown choice) input → StandsFor (setting_of world bounds) (index_grown choice) input c
        grown_stands choice i = asked_stands (index_conditions x count choice) (index_compares x count choice) (sides_of choice) input c stands i

        place_stands : (place : ℕ) → Has (alternatives world old bounds (questions.Index x count)) (Index place) → StandsFor (setting_of world bounds) (index_grown (Index place)) input c
            → StandsFor (setting_of world bounds) (placed place (index_grown (Index place))) input c
        place_stands place has there = placed_stands (setting_of world bounds) (index_grown (Index place)) place input c there indexed where
          indexed : IsIndexNext world (reading_at world (index_grown (Index place)) input there.instance_of.shape.places) (index_grown (Index place)) place
          indexed =
              ap (option_map (value_of_sym (reading_at world (index_grown (Index place)) input there.instance_of.shape.places))) (index_now (Index place))
              ∙ ap (λ (z : ℤ). Some (IntValue z)) (index_valued place has there.instance_of)

        -- Behind it the state stands for the same configuration.
        pub index_stands : (choice : Choice) → Has (alternatives world old bounds (questions.Index x count)) choice → IsInstanceOf (answered world choice old (questions.Index x count)) input
            → StandsFor (setting_of world bounds) (answered world choice old (questions.Index x count)) input c
        index_stands choice has i = go choice has (index_is choice has) i where
          go : (it : Choice) → Has (alternatives world old bounds (questions.Index x count)) it → IsIndexOf count it → IsInstanceOf (answered world it old (questions.Index x count)) input
              → StandsFor (setting_of world bounds) (answered world it old (questions.Index x count)) input c
          go (Index place) has less i = place_stands place has (grown_stands (Index place) (instance_placed world (index_grown (Index place)) place input i))
          go Outside has less i = grown_stands Outside i
          go _ has less i = absurd less

  -- ---- a length

  module _ (x : TermId) (most : ℕ) (is : IsAskedLength world bounds old x most) where
    pub length_term : IsTerm old.nodes x
    length_term =
        (subst (IsStage world old) is.by.running sound.stage).0.stack 0 (Int x)
        (ap (λ (stage : Stage). slice_get (stack_of stage) 0) (sym is.by.running) ∙ int_there (slice_get (stack_of old.stage) 0) x is.term)

    abbrev length_grown : Choice → State
    length_grown choice = all_asked old (length_conditions x most choice)

    abbrev length_sides_of : (choice : Choice) → AllSides old.nodes (length_conditions x most choice)
    length_sides_of choice = length_sides old.nodes x most choice length_term

    module _ (choice : Choice) (has : Has (alternatives world old bounds (questions.Length x most)) choice) where
      length_kept : Has (length_choices most) choice × (not (is_refuted old (length_conditions x most choice)) ≡ true)
      length_kept = has_kept (λ (c : Choice). not (is_refuted old (length_conditions x most c))) (length_choices most) choice has

      pub length_is : IsLengthUpTo most choice
      length_is = length_listed most choice length_kept.0

      pub length_unrefuted : is_refuted old (length_conditions x most choice) ≡ false
      length_unrefuted = not-true (is_refuted old (length_conditions x most choice)) length_kept.1

    pub length_known : (choice : Choice) → IsKnown world (length_grown choice)
    length_known choice = asked_known (length_conditions x most choice) (length_compares x most choice) (length_sides_of choice)

    pub length_ordered : (choice : Choice) → IsOrdered (length_grown choice).nodes
    length_ordered choice = asked_ordered (length_conditions x most choice) (length_compares x most choice) (length_sides_of choice)

    pub length_stands : (choice : Choice) (input : Input) (c : Config) → StandsFor (setting_of world bounds) old input c → IsInstanceOf (length_grown choice) input
        → StandsFor (setting_of world bounds) (length_grown choice) input c
    length_stands choice input c stands i = asked_stands (length_conditions x most choice) (length_compares x most choice) (length_sides_of choice) input c stands i

    -- ---- its value

    module _ (input : Input) (correct : IsTypeCorrect world old.method input) where
      abbrev lengths_at : (choice : Choice) → IsInstanceOf (length_grown choice) input → List ℤ
      lengths_at choice i = variables_at (length_conditions x most choice) (length_compares x most choice) (length_sides_of choice) input i

      length_fits : (choice : Choice) (i : IsInstanceOf (length_grown choice) input) → FitsSigned w32 (value_of old.nodes x (lengths_at choice i))
      length_fits choice i = value_fits input correct i.shape.places.objects x

      length_holds : (choice : Choice) → Has (alternatives world old bounds (questions.Length x most)) choice → (i : IsInstanceOf (length_grown choice) input)
          → AllHold old.nodes (lengths_at choice i) (length_conditions x most choice)
      length_holds choice has i =
          length_held old pool asked_ready.terms (lengths_at choice i) x length_term most choice (length_unrefuted choice has)
          (met_at (length_conditions x most choice) (length_compares x most choice) (length_sides_of choice) input i)

      same_length : (choice : Choice) (i : IsInstanceOf (length_grown choice) input) → int_value (reading_at world (length_grown choice) input i.shape.places) x ≡ value_of old.nodes x (lengths_at choice i)
      same_length choice i = value_at (length_conditions x most choice) (length_compares x most choice) (length_sides_of choice) input i x length_term

      pub length_size : (count : ℕ) → Has (alternatives world old bounds (questions.Length x most)) (Size count) → (i : IsInstanceOf (length_grown (Size count)) input)
          → int_value (reading_at world (length_grown (Size count)) input i.shape.places) x ≡ pos count
      length_size count has i =
          same_length (Size count) i ∙ size_is old.nodes (lengths_at (Size count) i) x (length_fits (Size count) i) most count (length_holds (Size count) has i)

      pub length_negative : Has (alternatives world old bounds (questions.Length x most)) Negative → (i : IsInstanceOf (length_grown Negative) input)
          → (n : ℕ) × (int_value (reading_at world (length_grown Negative) input i.shape.places) x ≡ negsuc n)
      length_negative has i =
          let below_0 = negative_number (value_of old.nodes x (lengths_at Negative i)) (negative_is old.nodes (lengths_at Negative i) x (length_fits Negative i) most (length_holds Negative has i)) in
          (below_0.0, same_length Negative i ∙ below_0.1)

      pub length_above : Has (alternatives world old bounds (questions.Length x most)) TooLarge → (i : IsInstanceOf (length_grown TooLarge) input)
          → (n : ℕ) × (int_value (reading_at world (length_grown TooLarge) input i.shape.places) x ≡ pos n) × (most < n)
      length_above has i =
          let above = above_is old.nodes (lengths_at TooLarge i) x (length_fits TooLarge i) most (length_holds TooLarge has i) in
          (above.0, same_length TooLarge i ∙ above.1, above.2)
