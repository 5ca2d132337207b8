-- Where a state stands for a configuration of an input's run, the input is an instance after the take of exactly one
-- alternative.
use Rattle.std.proofs.Common.{◌≡◌, ℕ, ℤ, Bool, true, false, not, List, [], ◌∷◌, filter, Option, Some, None, refl, sym, ap, subst, ◌∙◌, ◌⊎◌, inl, inr, if◌then◌else◌}
use Rattle.std.specs.Option.{option_map_or}
use Rattle.std.proofs.lemmas.Bool.{not-true}
use Rattle.kb_blast.specs.Meaning.{AreMetInPool}
use Rattle.kb_class.proofs.Lists.{has_first, has_later}
use Rattle.kb_class.specs.Naming.{Has}
use Rattle.kb_heap.specs.declared.bounds.Bounds.{Bounds}
use Rattle.kb_class.specs.declared.ids.MethodId.{MethodId}
use Rattle.kb_heap.specs.declared.heap.Input.{Input}
use Rattle.kb_heap.specs.declared.heap.Value.TheVariants.{Int as IntValue}
use Rattle.kb_lazy.proofs.TakesLaws.{one_taken}
use Rattle.kb_lazy.specs.Choices.{read_choices_of}
use Rattle.kb_lazy.specs.Laws.{Takes}
use Rattle.kb_classes.specs.World.{World}
use Rattle.kb_names.specs.declared.types.JType.{JType}
use Rattle.kb_semantics.specs.Config.{Config}
use Rattle.kb_semantics.specs.Inputs.{IsTypeCorrect}
use Rattle.kb_terms.specs.declared.node.TermId.{TermId}
use Rattle.kb_terms.specs.declared.node.VarKind.{VarKind}
use Rattle.kb_terms.specs.declared.node.Node.{Node}
use Rattle.kb_terms.specs.declared.node.Node.TheVariants.{Var}
use Rattle.kb_terms.specs.Op.{op_value}
use Rattle.kb_terms.specs.Terms.{Extends, IsTerm, value_of, variables_of}
use Rattle.kb_terms.proofs.Growth.{extends-more}
use Rattle.kb_terms.proofs.Values.{Extends-refl, Extends-trans}
use Rattle.kb_picture.specs.declared.choice.Choice.{Choice}
use Rattle.kb_picture.specs.declared.choice.Choice.TheVariants.{Only}
use Rattle.kb_picture.specs.declared.picture.Origin.{Origin}
use Rattle.kb_picture.specs.declared.picture.Picture.{Picture}
use Rattle.kb_picture.specs.Exactly.{ExactlyOneHas, NoneHas}
use Rattle.kb_picture.specs.Growing.{is_receiver, params_of}
use Rattle.kb_picture.specs.Growth.{after_int_read, after_read}
use Rattle.kb_picture.specs.Instances.{variable_values}
use Rattle.kb_picture.specs.Places.{slot_value}
use Rattle.kb_picture.specs.Queries.{kind_for}
use Rattle.kb_picture.specs.Shapes.{HasShape}
use Rattle.kb_picture.specs.WellTyped.{is_reference_type}
use Rattle.kb_frames.specs.Cuts.{setting_of}
use Rattle.kb_frames.specs.FirstReads.{first_int}
use Rattle.kb_frames.specs.StandsFor.{IsInstanceOf, StandsFor}
use Rattle.kb_frames.specs.State.{State}
use Rattle.kb_ways.specs.Simulation.{TakesOneWay}
use Rattle.kb_ways.specs.Ways.{Take}
use Rattle.kb_ways.specs.declared.condition.Condition.{Condition}
use Rattle.kb_ways.specs.declared.condition.Side.{Side}
use Rattle.kb_ways.specs.declared.condition.Side.TheVariants.{Number, Term}
use Rattle.kb_ways.specs.Asked.{all_asked, is_refuted}
use Rattle.kb_ways.specs.Choosing.{index_choices, index_conditions, length_choices, length_conditions, not_refuted}
use Rattle.kb_ways.proofs.AskedLaws.{side_value}
use Rattle.kb_steparray.proofs.ChoosingLaws.{index_one, index_sides, length_one, length_sides}
use Rattle.kb_ways.proofs.KeepLaws.{Stays}
use Rattle.kb_steparray.proofs.HeldLaws.{index_held, length_held}
use Rattle.kb_ways.proofs.OfferLaws.{has_kept, one_left}
use Rattle.kb_ways.proofs.OneAsked.{AllHold, AllSides, AreTermsOf, IsReady, conditions_there, met_earlier}
use Rattle.kb_ways.proofs.OneDecided.{all_met, all_ready, not_refuted as none_refuted}
use Rattle.kb_ways.proofs.OneInstances.{instance_of_met}
use Rattle.kb_ways.proofs.SoundLaws.{Sound, sound_reached}
use Rattle.kb_ways.proofs.ValueLaws.{VariablesBelow, pool_below}
use Rattle.kb_stepref.specs.Choices.{alternatives, choices_of}
use Rattle.kb_ways.specs.Advancing.{only}
use Rattle.kb_stepref.specs.Laws.{IsAtReferences}
use Rattle.kb_ways.specs.declared.question.Question.{Question}
use Rattle.kb_ways.specs.declared.question.Question.TheVariants.{Reads}
use Rattle.kb_ways.specs.declared.question.Question.TheVariants as questions
use Rattle.kb_stepref.specs.Questions.{asked_by, question_of}
use Rattle.kb_ways.specs.Questions.{answered, answers}
use Rattle.kb_stepref.specs.Takes.{taken}
use Rattle.kb_ways.specs.Plans.{takes_next}
use Rattle.kb_stepref.proofs.ChosenStates.{asked_ready, index_below, index_few, index_sound, index_term, length_term, value_fits}
use Rattle.kb_stepref.proofs.FirstReadLaws.{IsAsked, IsAskedIndex, IsAskedLength, asked, asked_at_references, first_read}
use Rattle.kb_stepref.proofs.KeepLaws.{IsBehindAsked, ReadsBehind, Untold, index_asked, index_stays, int_kept, int_tells, length_asked, length_behind, length_stays, placed_untold, reference_tells, take_by, take_untold, takes_next_untold, told_by}
use Rattle.kb_stepref.proofs.KnownTakes.{element_asked}
use Rattle.kb_stepref.proofs.ReadInstances.{choice_instance, int_held, int_instance, later_value}
use Rattle.kb_stepref.specs.Effects.{plan_of}

-- ---- one of some things

-- who has one of those in a list, in other words
module _ {A B : Type 0} (Had Is : A → B → Type 0) (it : B) where
  none_is : (xs : List A) → ((x : A) → Has xs x → Is x it → Had x it) → NoneHas Had xs it → NoneHas Is xs it
  none_is [] back none = tt
  none_is (x ∷ xs) back none = ((λ is. none.0 (back x (has_first x xs) is)), none_is xs (λ y has. back y (has_later x y xs has)) none.1)

  one_is : (xs : List A) → ((x : A) → Has xs x → Had x it → Is x it) → ((x : A) → Has xs x → Is x it → Had x it) → ExactlyOneHas Had xs it → ExactlyOneHas Is xs it
  one_is [] there back one = one
  one_is (x ∷ xs) there back one = elim one [
    | inl here ↦ inl (there x (has_first x xs) here.0, none_is xs (λ y has. back y (has_later x y xs has)) here.1)
    | inr later ↦ inr ((λ is. later.0 (back x (has_first x xs) is)), one_is xs (λ y has. there y (has_later x y xs has)) (λ y has. back y (has_later x y xs has)) later.1)
  ]

-- Of a list each of which has what it asks for at the values or not, one is left that an input has, where what is asked for is had
-- by those alone that are kept.
module _ {A B C : Type 0} (P : A → B → Type 0) (Q : A → C → Type 0) (values : B) (input : C) (keep : A → Bool) (xs : List A) (kept : (x : A) → P x values → keep x ≡ true)
    (there : (x : A) → Has xs x → P x values → Q x input) (back : (x : A) → Has xs x → keep x ≡ true → Q x input → P x values) where
  abbrev Listed : A → B → Type 0
  Listed x at = Has xs x × P x at

  abbrev Taken : A → C → Type 0
  Taken x at = Has xs x × Q x at

  one_listed : ExactlyOneHas P xs values → ExactlyOneHas Q (filter keep xs) input
  one_listed one =
      one_is Taken Q input (filter keep xs) (λ x has taken. taken.1) (λ x has q. ((has_kept keep xs x has).0, q))
      (one_left Listed Taken values input keep (λ x listed. kept x listed.1) (λ x listed. (listed.0, there x listed.0 listed.1)) (λ x e taken. (taken.0, back x taken.0 e taken.1)) xs
      (one_is P Listed values xs (λ x has p. (has, p)) (λ x has listed. listed.1) one))

-- ---- takes

module _ (world : World) (bounds : Bounds) (old : State) (at : IsAtReferences world old) (input : Input) (c : Config) (correct : IsTypeCorrect world old.method input)
    (stands : StandsFor (setting_of world bounds) old input c) where
  -- where nothing is asked
  next_instance : IsInstanceOf (takes_next plan_of world bounds Only old).state input
  next_instance =
      let new : State = (takes_next plan_of world bounds Only old).state in
      let untold : Untold old new = takes_next_untold world bounds old in
      instance_of_met old.picture old.nodes old.when (conditions_there old.nodes old.when at.reached.sound.conditions) new input untold.stays.picture untold.when untold.stays.terms
      stands.instance_of.shape stands.instance_of.conditions

  module _ (slot : Origin) (type : JType) (is : IsAsked world bounds old at.reached.typed slot type) where
    abbrev told : Bool → Choice → State
    told = told_by world bounds old slot type

    abbrev take : Bool → Choice → Take
    take = take_by world bounds old slot type

    untold_behind : (reference : Bool) (choice : Choice) → Untold (told reference choice) (take reference choice).state
    untold_behind = take_untold world bounds old slot type

    -- ---- a reference

    abbrev Chosen : Choice → Input → Type 0
    Chosen = Takes old.picture slot

    picture_is : (choice : Choice) → (take true choice).state.picture ≡ after_read old.picture slot choice
    picture_is choice = (untold_behind true choice).stays.picture ∙ (reference_tells world slot choice old).picture

    is_instance : (choice : Choice) → Chosen choice input → IsInstanceOf (take true choice).state input
    is_instance choice takes =
        let new : State = (take true choice).state in
        let tells = reference_tells world slot choice old in
        let untold : Untold (told true choice) new = untold_behind true choice in
        choice_instance world old (sound_reached world old at.reached) (pool_below old.nodes at.reached.sound.pool) (params_of world at.reached.typed.method) slot is.unread input stands.instance_of new
        (subst (λ (nodes : List Node). Extends nodes new.nodes) tells.nodes untold.stays.terms) (untold.when ∙ tells.when) choice (picture_is choice) takes

    takes_back : (choice : Choice) → IsInstanceOf (take true choice).state input → Chosen choice input
    takes_back choice i = subst (λ (p : Picture). HasShape p input) (picture_is choice) i.shape

    one_reference : is_reference_type type ≡ true
        → ExactlyOneHas (λ (choice : Choice) (i : Input). IsInstanceOf (take true choice).state i)
        (read_choices_of old.init world old.picture slot type (is_receiver world old.method slot) bounds.k bounds.array) input
    one_reference e =
        one_is Chosen (λ (choice : Choice) (i : Input). IsInstanceOf (take true choice).state i) input
        (read_choices_of old.init world old.picture slot type (is_receiver world old.method slot) bounds.k bounds.array) (λ choice has. is_instance choice) (λ choice has. takes_back choice)
        (one_taken world old.method old.picture slot type (is_receiver world old.method slot) bounds.k bounds.array input at.linked
        (first_read world bounds old at.reached.typed slot type is e) at.within correct stands.instance_of.shape old.init)

    -- ---- an int

    only_instance : is_reference_type type ≡ false → IsInstanceOf (take false Only).state input
    only_instance e =
        let new : State = (take false Only).state in
        let kind : VarKind = kind_for (Some type) in
        let tells = int_tells slot kind old in
        let untold : Untold (told false Only) new = untold_behind false Only in
        let more : Extends old.nodes (told false Only).nodes = subst (Extends old.nodes) (sym tells.nodes) (extends-more old.nodes (Var (variables_of old.nodes) kind)) in
        let held =
        int_held world old.method old.picture input correct stands.instance_of.shape (params_of world at.reached.typed.method) slot type is.unread.there is.declared e in
        int_instance world old (sound_reached world old at.reached) (pool_below old.nodes at.reached.sound.pool) (params_of world at.reached.typed.method) slot is.unread input stands.instance_of new
        (Extends-trans old.nodes (told false Only).nodes new.nodes more untold.stays.terms) (untold.when ∙ tells.when) held.0 (untold.stays.picture ∙ tells.picture) held.1

    one_answer : (b : Bool) → is_reference_type type ≡ b
        → ExactlyOneHas (λ (choice : Choice) (i : Input). IsInstanceOf (take b choice).state i)
        (if b then read_choices_of old.init world old.picture slot type (is_receiver world old.method slot) bounds.k bounds.array else only) input
    one_answer true e = one_reference e
    one_answer false e = inl (only_instance e, tt)

  -- ---- what is asked of an int

  abbrev variables : List ℤ
  variables = variable_values old.picture input stands.instance_of.shape.places.objects

  ready : IsReady old
  ready = asked_ready world bounds old at

  side_same : (values : List ℤ) → ((t : TermId) → value_of old.nodes t values ≡ value_of old.nodes t variables) → (side : Side) → side_value old.nodes values side ≡ side_value old.nodes variables side
  side_same values same (Term t) = same t
  side_same values same (Number z) = refl

  -- what holds of values that are those of the terms
  hold_same : (values : List ℤ) → ((t : TermId) → value_of old.nodes t values ≡ value_of old.nodes t variables) → (cs : List Condition) → AllHold old.nodes values cs → AllHold old.nodes variables cs
  hold_same values same [] hold = tt
  hold_same values same (c ∷ cs) hold = (
    ap (λ (z : ℤ). op_value c.op z (side_value old.nodes variables c.right)) (sym (side_same values same c.left))
        ∙ (ap (op_value c.op (side_value old.nodes values c.left)) (sym (side_same values same c.right)) ∙ hold.0),
    hold_same values same cs hold.1,
  )

  module _ (choice : Choice) (cs : List Condition) (sides : AllSides old.nodes cs) (told new : State) (behind : IsBehindAsked world bounds choice old cs told new) where
    abbrev grown : State
    grown = all_asked old cs

    met_now : AllHold old.nodes variables cs → AreMetInPool grown.nodes variables grown.when
    met_now hold = all_met cs old variables sides ready hold stands.instance_of.conditions

    grown_terms : AreTermsOf grown.nodes grown.when
    grown_terms = (all_ready cs old sides ready).terms

    -- an instance behind it has all that was asked for
    asked_held : ((values : List ℤ) → AreMetInPool grown.nodes values grown.when → AllHold old.nodes values cs) → IsInstanceOf new input → AllHold old.nodes variables cs
    asked_held held i =
        let values : List ℤ = variable_values new.picture input i.shape.places.objects in
        let met : AreMetInPool grown.nodes values grown.when =
        met_earlier grown.nodes new.nodes values grown.when behind.terms grown_terms (subst (AreMetInPool new.nodes values) behind.when i.conditions) in
        hold_same values (later_value world old at.reached.sound input stands.instance_of.shape new.picture i.shape (seen behind.picture)) cs (held values met)
      where
        seen : (new.picture ≡ old.picture) ⊎ ((it : ReadsBehind world bounds choice told new) × (new.picture ≡ after_int_read old.picture it.slot))
            → (new.picture ≡ old.picture) ⊎ ((slot : Origin) × (new.picture ≡ after_int_read old.picture slot))
        seen (inl same) = inl same
        seen (inr read) = inr (read.0.slot, read.1)

    -- and an input that has it is an instance, where the int that is read is one
    held_same : AllHold old.nodes variables cs → new.picture ≡ old.picture → IsInstanceOf new input
    held_same hold same = instance_of_met old.picture grown.nodes grown.when grown_terms new input same behind.when behind.terms stands.instance_of.shape (met_now hold)

    held_instance : AllHold old.nodes variables cs → ((it : ReadsBehind world bounds choice told new) → IsInstanceOf new input) → IsInstanceOf new input
    held_instance hold read = elim behind.picture [
      | inl same ↦ held_same hold same
      | inr it ↦ read it.0
    ]

  -- ---- an index

  module _ (x : TermId) (count : ℕ) (is : IsAskedIndex world bounds old x count) where
    abbrev index_told : Choice → State
    index_told choice = answered world choice old (questions.Index x count)

    abbrev behind_index : Choice → State
    behind_index choice = (answers (asked_by bounds) plan_of world bounds choice old (questions.Index x count)).state

    abbrev index_grown : Choice → State
    index_grown choice = all_asked old (index_conditions x count choice)

    index_all : (choice : Choice) → AllSides old.nodes (index_conditions x count choice)
    index_all choice = index_sides old.nodes x count choice (index_term world bounds old at x count is)

    -- an input that has it is an instance of the state that was told
    index_instance : (choice : Choice) → AllHold old.nodes variables (index_conditions x count choice) → IsInstanceOf (index_told choice) input
    index_instance choice hold =
        let placed : Untold (index_grown choice) (index_told choice) = placed_untold choice (index_grown choice) in
        instance_of_met old.picture (index_grown choice).nodes (index_grown choice).when (all_ready (index_conditions x count choice) old (index_all choice) ready).terms (index_told choice) input
        (index_stays world choice old x count).picture placed.when placed.stays.terms stands.instance_of.shape
        (all_met (index_conditions x count choice) old variables (index_all choice) ready hold stands.instance_of.conditions)

    -- the element at the place is an int of the input
    index_read : (choice : Choice) → Has (index_choices count) choice → AllHold old.nodes variables (index_conditions x count choice)
        → ReadsBehind world bounds choice (index_told choice) (behind_index choice) → IsInstanceOf (behind_index choice) input
    index_read choice listed hold it =
        let tells = int_tells it.slot kind told in
        int_instance world told sound below (params_of world sound.typed.method) it.slot element.unread input instance new
        (Extends-trans told.nodes seen.nodes new.nodes (int_kept told it.slot kind).terms it.untold.stays.terms) (it.untold.when ∙ tells.when) int.0 (it.untold.stays.picture ∙ tells.picture) int.1
      where
        told : State
        told = index_told choice

        new : State
        new = behind_index choice

        kind : VarKind
        kind = kind_for (Some it.type)

        seen : State
        seen = first_int it.slot kind told

        stays : Stays old told
        stays = index_stays world choice old x count

        sound : Sound world told
        sound = index_sound world bounds old at x count is choice listed

        below : VariablesBelow (variables_of told.nodes) told.nodes
        below = index_below world bounds old at x count is choice

        instance : IsInstanceOf told input
        instance = index_instance choice hold

        element : IsAsked world bounds told sound.typed it.slot it.type
        element = element_asked world bounds old at x count is choice sound it.slot it.type it.asks

        int : (z : ℤ) × (slot_value input instance.shape.places.objects it.slot ≡ Some (IntValue z))
        int =
            int_held world told.method told.picture input (subst (λ (m : MethodId). IsTypeCorrect world m input) (sym stays.method) correct) instance.shape (params_of world sound.typed.method) it.slot it.type
            element.unread.there element.declared it.plain

    -- an instance behind it has all that its alternative asks for
    pub index_has_all : (choice : Choice) → is_refuted old (index_conditions x count choice) ≡ false → IsInstanceOf (behind_index choice) input → AllHold old.nodes variables (index_conditions x count choice)
    index_has_all choice kept =
        asked_held choice (index_conditions x count choice) (index_all choice) (index_told choice) (behind_index choice) (index_asked world bounds choice old x count)
        (λ values met. index_held old at.reached.sound.pool ready.terms values x (index_term world bounds old at x count is) count choice kept met)

    -- and so one of the state that was told
    pub index_before : (choice : Choice) → is_refuted old (index_conditions x count choice) ≡ false → IsInstanceOf (behind_index choice) input → IsInstanceOf (index_told choice) input
    index_before choice kept i = index_instance choice (index_has_all choice kept i)

    one_index : ExactlyOneHas (λ (choice : Choice) (i : Input). IsInstanceOf (behind_index choice) i) (not_refuted old (index_conditions x count) (index_choices count)) input
    one_index =
        one_listed (λ (choice : Choice) (values : List ℤ). AllHold old.nodes values (index_conditions x count choice)) (λ (choice : Choice) (i : Input). IsInstanceOf (behind_index choice) i) variables input
        (λ (choice : Choice). not (is_refuted old (index_conditions x count choice))) (index_choices count)
        (λ choice hold. ap not (none_refuted old ready.ordered variables stands.instance_of.conditions (index_conditions x count choice) hold))
        (λ choice listed hold. held_instance choice (index_conditions x count choice) (index_all choice) (index_told choice) (behind_index choice) (index_asked world bounds choice old x count) hold (index_read choice listed hold))
        (λ choice listed kept i. index_has_all choice (not-true (is_refuted old (index_conditions x count choice)) kept) i)
        (index_one old.nodes variables x (value_fits world bounds old at input correct stands.instance_of.shape.places.objects x) count (index_few world bounds old at x count is))

  -- ---- a length

  module _ (x : TermId) (most : ℕ) (is : IsAskedLength world bounds old x most) where
    abbrev length_told : Choice → State
    length_told choice = answered world choice old (questions.Length x most)

    abbrev behind_length : Choice → State
    behind_length choice = (answers (asked_by bounds) plan_of world bounds choice old (questions.Length x most)).state

    length_all : (choice : Choice) → AllSides old.nodes (length_conditions x most choice)
    length_all choice = length_sides old.nodes x most choice (length_term world bounds old at x most is)

    pub length_has_all : (choice : Choice) → is_refuted old (length_conditions x most choice) ≡ false → IsInstanceOf (behind_length choice) input → AllHold old.nodes variables (length_conditions x most choice)
    length_has_all choice kept =
        asked_held choice (length_conditions x most choice) (length_all choice) (length_told choice) (behind_length choice) (length_asked world bounds choice old x most)
        (λ values met. length_held old at.reached.sound.pool ready.terms values x (length_term world bounds old at x most is) most choice kept met)

    pub length_before : (choice : Choice) → is_refuted old (length_conditions x most choice) ≡ false → IsInstanceOf (behind_length choice) input → IsInstanceOf (length_told choice) input
    length_before choice kept i =
        instance_of_met old.picture (length_told choice).nodes (length_told choice).when (all_ready (length_conditions x most choice) old (length_all choice) ready).terms (length_told choice) input
        (length_stays world choice old x most).picture refl (Extends-refl (length_told choice).nodes) stands.instance_of.shape
        (all_met (length_conditions x most choice) old variables (length_all choice) ready (length_has_all choice kept i) stands.instance_of.conditions)

    one_length : ExactlyOneHas (λ (choice : Choice) (i : Input). IsInstanceOf (behind_length choice) i) (not_refuted old (length_conditions x most) (length_choices most)) input
    one_length =
        one_listed (λ (choice : Choice) (values : List ℤ). AllHold old.nodes values (length_conditions x most choice)) (λ (choice : Choice) (i : Input). IsInstanceOf (behind_length choice) i) variables input
        (λ (choice : Choice). not (is_refuted old (length_conditions x most choice))) (length_choices most)
        (λ choice hold. ap not (none_refuted old ready.ordered variables stands.instance_of.conditions (length_conditions x most choice) hold))
        (λ choice listed hold. held_same choice (length_conditions x most choice) (length_all choice) (length_told choice) (behind_length choice) (length_asked world bounds choice old x most) hold
        ((length_behind world bounds choice old x most).stays.picture ∙ (length_stays world choice old x most).picture))
        (λ choice listed kept i. length_has_all choice (not-true (is_refuted old (length_conditions x most choice)) kept) i)
        (length_one old.nodes variables x (value_fits world bounds old at input correct stands.instance_of.shape.places.objects x) most)

  -- ---- all of them

  pub one_way : ExactlyOneHas (λ (choice : Choice) (i : Input). IsInstanceOf (taken world bounds old choice).state i) (choices_of world old bounds) input
  one_way = go (question_of world old bounds) refl where
    go : (q : Option Question) → question_of world old bounds ≡ q
        → ExactlyOneHas (λ (choice : Choice) (i : Input). IsInstanceOf (option_map_or (answers (asked_by bounds) plan_of world bounds choice old) q (takes_next plan_of world bounds Only old)).state i) (option_map_or (alternatives world old bounds) q only) input
    go None e = inl (next_instance, tt)
    go (Some (Reads slot type)) e = one_answer slot type (asked world bounds old at slot type e) (is_reference_type type) refl
    go (Some (questions.Index x count)) e = one_index x count (asked_at_references world bounds old at (questions.Index x count) e)
    go (Some (questions.Length x most)) e = one_length x most (asked_at_references world bounds old at (questions.Length x most) e)

pub one : (world : World) (bounds : Bounds) (state : State) → IsAtReferences world state → TakesOneWay world bounds state (choices_of world state bounds) (taken world bounds state)
one world bounds state at input c correct stands = one_way world bounds state at input c correct stands
