-- Where a reference is read for the first time, an index or a length is asked for, the list is never that of the only way on, and
-- else it is.
use Rattle.std.proofs.Common.{◌≡◌, ℕ, suc, Bool, true, false, not, List, [], ◌∷◌, ◌++◌, filter, map, Option, Some, None, refl, sym, ap, subst, ◌∙◌, inl, inr}
use Rattle.std.specs.List.{AllByRecursion}
use Rattle.std.specs.Option.{option_map_or}
use Rattle.kb_class.proofs.Lists.{has_cases, has_either, has_first, has_mapped, has_none}
use Rattle.kb_class.specs.Naming.{Has}
use Rattle.kb_heap.specs.declared.bounds.Bounds.{Bounds}
use Rattle.kb_classes.specs.World.{World}
use Rattle.kb_lazy.specs.Choices.{read_choices_of}
use Rattle.kb_names.specs.declared.types.JType.{JType}
use Rattle.kb_semantics.specs.Looks.{numbers_below}
use Rattle.kb_picture.specs.declared.choice.Choice.{Choice}
use Rattle.kb_picture.specs.declared.choice.Choice.TheVariants.{Index, Negative, Only, Outside, Size, TooLarge}
use Rattle.kb_picture.specs.declared.choice.Init.{Init}
use Rattle.kb_picture.specs.declared.choice.Init.TheVariants.{Lazy}
use Rattle.kb_picture.specs.declared.picture.Origin.{Origin}
use Rattle.kb_picture.specs.Growing.{is_receiver}
use Rattle.kb_picture.specs.WellTyped.{is_reference_type}
use Rattle.kb_frames.specs.State.{State}
use Rattle.kb_ways.specs.declared.question.Question.{Question}
use Rattle.kb_ways.specs.declared.question.Question.TheVariants.{Reads}
use Rattle.kb_ways.specs.declared.question.Question.TheVariants as questions
use Rattle.kb_ways.specs.Advancing.{only}
use Rattle.kb_ways.specs.Asked.{is_refuted}
use Rattle.kb_ways.specs.Choosing.{index_choices, index_conditions, length_choices, length_conditions}
use Rattle.kb_ways.proofs.OfferLaws.{has_kept}
use Rattle.kb_stepref.specs.Choices.{alternatives, choices_of}
use Rattle.kb_stepref.specs.Questions.{is_choice, question_of}
use Rattle.kb_stepref.proofs.LazyLaws.{IsKnown, known_choices}

module _ (world : World) (bounds : Bounds) (state : State) where
  only_where : (question : Option Question) → is_choice question ≡ false → option_map_or (alternatives world state bounds) question only ≡ only
  only_where None none = refl
  only_where (Some (Reads slot type)) none =
      let int : is_reference_type type ≡ false = none in
      rw int refl
  only_where (Some (questions.Index x count)) none = absurd cc
  only_where (Some (questions.Length x most)) none = absurd cc

  -- those of an index and of a length are none of it
  no_only : (keep : Choice → Bool) (choices : List Choice) → (Has choices Only → ⊥) → filter keep choices ≡ only → ⊥
  no_only keep choices never is = never (has_kept keep choices Only (subst (λ (l : List Choice). Has l Only) (sym is) (has_first Only []))).0

  never_numbered : (f : ℕ → Choice) → ((i : ℕ) → f i ≡ Only → ⊥) → (numbers : List ℕ) → Has (map f numbers) Only → ⊥
  never_numbered f other numbers has = (let found = has_mapped f numbers Only has in other found.0 found.2)

  never_last : (choice : Choice) → (choice ≡ Only → ⊥) → Has (choice ∷ []) Only → ⊥
  never_last choice other has = elim (has_cases choice Only [] has) [
    | inl same ↦ other same
    | inr none ↦ has_none Only none
  ]

  index_not_only : (count : ℕ) → Has (index_choices count) Only → ⊥
  index_not_only count has = elim (has_either (map Index (numbers_below count)) (Outside ∷ []) Only has) [
    | inl place ↦ never_numbered Index one_place (numbers_below count) place
    | inr last ↦ never_last Outside none last
  ] where
    one_place : (i : ℕ) → Index i ≡ Only → ⊥
    one_place i e = cc

    none : Outside ≡ Only → ⊥
    none e = cc

  length_not_only : (most : ℕ) → Has (length_choices most) Only → ⊥
  length_not_only most has = elim (has_cases Negative Only (map Size (numbers_below (suc most)) ++ TooLarge ∷ []) has) [
    | inl first ↦ negative first
    | inr later ↦ elim (has_either (map Size (numbers_below (suc most))) (TooLarge ∷ []) Only later) [
      | inl size ↦ never_numbered Size one_size (numbers_below (suc most)) size
      | inr last ↦ never_last TooLarge above last
    ]
  ] where
    negative : Negative ≡ Only → ⊥
    negative e = cc

    one_size : (i : ℕ) → Size i ≡ Only → ⊥
    one_size i e = cc

    above : TooLarge ≡ Only → ⊥
    above e = cc

  -- the alternatives of a reference
  abbrev read : Origin → JType → Init → List Choice
  read slot type init = read_choices_of init world state.picture slot type (is_receiver world state.method slot) bounds.k bounds.array

  -- also where there is one alternative
  chosen_not_only : state.init ≡ Lazy → (question : Option Question) → is_choice question ≡ true → option_map_or (alternatives world state bounds) question only ≡ only → ⊥
  chosen_not_only lazy None chosen is = absurd cc
  chosen_not_only lazy (Some (Reads slot type)) chosen is =
      let reference : is_reference_type type ≡ true = chosen in
      let here : alternatives world state bounds (Reads slot type) ≡ read slot type state.init = rw reference refl in
      let known : AllByRecursion IsKnown (read slot type Lazy) = known_choices world state.picture slot type bounds.k bounds.array (is_receiver world state.method slot) in
      (subst (AllByRecursion IsKnown) (sym (here ∙ ap (read slot type) lazy) ∙ is) known).0
  chosen_not_only lazy (Some (questions.Index x count)) chosen is =
      no_only (λ (choice : Choice). not (is_refuted state (index_conditions x count choice))) (index_choices count) (index_not_only count) is
  chosen_not_only lazy (Some (questions.Length x most)) chosen is =
      no_only (λ (choice : Choice). not (is_refuted state (length_conditions x most choice))) (length_choices most) (length_not_only most) is

  -- ---- of what the next step must be told

  pub only_at : (question : Option Question) → question ≡ question_of world state bounds → is_choice question ≡ false → choices_of world state bounds ≡ only
  only_at question is none = ap (λ (q : Option Question). option_map_or (alternatives world state bounds) q only) (sym is) ∙ only_where question none

  pub chosen_at : state.init ≡ Lazy → (question : Option Question) → question ≡ question_of world state bounds → is_choice question ≡ true → choices_of world state bounds ≡ only → ⊥
  chosen_at lazy question is chosen alone = chosen_not_only lazy question chosen (ap (λ (q : Option Question). option_map_or (alternatives world state bounds) q only) is ∙ alone)
