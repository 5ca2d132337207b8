-- An answer that goes beyond a bound on inputs is one that every instance of it goes beyond: what is offered as beyond lies
-- deeper than k, and an array that is longer is longer than the bound.
use Rattle.std.proofs.Common.{◌≡◌, ℕ, suc, ◌<◌, inl, inr, Bool, true, false, cond, nat_lt, List, [], ◌∷◌, ◌++◌, length, map, filter, Some, None, refl, sym, ap, subst, ◌∙◌, if◌then◌else◌}
use Rattle.std.specs.List.{flat_map}
use Rattle.std.proofs.lemmas.Bool.{ltb-true}
use Rattle.std.proofs.lemmas.Option.{same_Some}
use Rattle.kb_class.proofs.Lists.{has_cases, has_either, has_none}
use Rattle.kb_class.specs.Naming.{Has}
use Rattle.kb_class.specs.declared.ids.MethodId.{MethodId}
use Rattle.kb_heap.specs.declared.bounds.Bound.{Bound}
use Rattle.kb_heap.specs.declared.bounds.Bound.TheVariants.{K, Array}
use Rattle.kb_heap.specs.declared.bounds.Bounds.{Bounds}
use Rattle.kb_heap.specs.declared.heap.Input.{Input}
use Rattle.kb_lazy.proofs.FitLaws.{fitting_choice}
use Rattle.kb_lazy.specs.Choices.{aliases, aliases_from, all_new, beyond_where, fresh_objects, has_fitting, location_where, new_objects, null_unless, read_choices_of}
use Rattle.kb_lazy.specs.Laws.{IsFirstRead, AreInRange}
use Rattle.kb_classes.proofs.Places.{get_last}
use Rattle.kb_classes.specs.Subtypes.{fits}
use Rattle.kb_classes.specs.World.{World}
use Rattle.kb_names.specs.declared.types.ExactType.{ExactType}
use Rattle.kb_names.specs.declared.types.ExactType.TheVariants as exact
use Rattle.kb_names.specs.declared.types.JType.{JType}
use Rattle.kb_semantics.specs.Looks.{numbers_below}
use Rattle.kb_semantics.specs.Past.{IsPastArray}
use Rattle.kb_picture.specs.Growing.{is_receiver}
use Rattle.kb_picture.specs.declared.choice.Choice.{Choice}
use Rattle.kb_picture.specs.declared.choice.Choice.TheVariants as choices
use Rattle.kb_picture.specs.declared.choice.Init.{Init}
use Rattle.kb_picture.specs.declared.choice.Init.TheVariants.{Lazy, Lazier}
use Rattle.kb_picture.specs.declared.picture.Length.{Length}
use Rattle.kb_picture.specs.declared.picture.Length.TheVariants.{Plain, Is, Above}
use Rattle.kb_picture.specs.declared.picture.Origin.{Origin}
use Rattle.kb_picture.specs.declared.picture.PicObject.{PicObject}
use Rattle.kb_picture.specs.declared.picture.Picture.{Picture}
use Rattle.kb_picture.specs.declared.picture.Seen.TheVariants as seens
use Rattle.kb_picture.specs.Depths.{IsBeyondK, depth_at}
use Rattle.kb_picture.specs.Growth.{after_read}
use Rattle.kb_picture.specs.Shapes.{HasShape}
use Rattle.kb_picture.specs.WellFormed.{IsLengthOf}
use Rattle.kb_picture.proofs.ChainLaws.{past_array, past_k}
use Rattle.kb_frames.specs.Cuts.{HasLonger, IsLicensed}
use Rattle.kb_frames.specs.FirstReads.{first_int, first_reference}
use Rattle.kb_picture.specs.WellTyped.{is_reference_type}
use Rattle.kb_frames.specs.StandsFor.{IsInstanceOf}
use Rattle.kb_frames.specs.State.{State}
use Rattle.kb_picture.specs.Queries.{kind_for}
use Rattle.kb_stepref.specs.Choices.{alternatives}
use Rattle.kb_ways.specs.Advancing.{only}
use Rattle.kb_stepref.specs.Laws.{IsAtReferences}
use Rattle.kb_ways.specs.declared.question.Question.TheVariants.{Reads}
use Rattle.kb_stepref.specs.Questions.{question_of}
use Rattle.kb_ways.specs.Questions.{answered, passed_by}
use Rattle.kb_stepref.proofs.FirstReadLaws.{asked, first_read}
use Rattle.kb_stepref.proofs.KeepLaws.{reference_tells}

-- ---- what is offered

-- an array that is longer than a number is longer than the bound
abbrev IsBoundOf : ℕ → Length → Type 0
IsBoundOf array Plain = Unit {0}
IsBoundOf array (Is n) = Unit {0}
IsBoundOf array (Above n) = n ≡ array

-- what goes beyond a bound goes beyond this one, where a new object would lie at the depth
abbrev GoesBeyond : ℕ → ℕ → ℕ → Choice → Type 0
GoesBeyond k array depth choices.Beyond = k < depth
GoesBeyond k array depth (choices.Fresh kind len) = IsBoundOf array len
GoesBeyond k array depth _ = Unit {0}

module _ (k array depth : ℕ) where
  abbrev Right : Choice → Type 0
  Right = GoesBeyond k array depth

  abbrev EachRight : List Choice → Type 0
  EachRight xs = (x : Choice) → Has xs x → Right x

  each_none : EachRight []
  each_none x h = absurd (has_none x h)

  each_more : (first : Choice) (xs : List Choice) → Right first → EachRight xs → EachRight (first ∷ xs)
  each_more first xs one others x h = elim (has_cases first x xs h) [ inl same ↦ subst Right same one | inr later ↦ others x later ]

  each_joined : (xs ys : List Choice) → EachRight xs → EachRight ys → EachRight (xs ++ ys)
  each_joined xs ys one other x h = elim (has_either xs ys x h) [ inl g ↦ one x g | inr g ↦ other x g ]

  right_null : (b : Bool) → EachRight (null_unless b)
  right_null true = each_none
  right_null false = each_more choices.Null [] tt each_none

  right_location : (b : Bool) → EachRight (location_where b)
  right_location true = each_more choices.Location [] tt each_none
  right_location false = each_none

  right_aliases : (world : World) (type : JType) (number : ℕ) (objects : List PicObject) → EachRight (aliases_from world type number objects)
  right_aliases world type number [] = each_none
  right_aliases world type number (object ∷ objects) = go (right_aliases world type (suc number) objects) (fits world object.kind type) where
    go : EachRight (aliases_from world type (suc number) objects) → (b : Bool)
        → EachRight (cond b (choices.Alias number ∷ aliases_from world type (suc number) objects) (aliases_from world type (suc number) objects))
    go later false = later
    go later true = each_more (choices.Alias number) (aliases_from world type (suc number) objects) tt later

  right_lengths : (component : JType) (numbers : List ℕ) → EachRight (map (λ count. choices.Fresh (exact.Array component) (Is count)) numbers)
  right_lengths component [] = each_none
  right_lengths component (n ∷ numbers) =
      each_more (choices.Fresh (exact.Array component) (Is n)) (map (λ count. choices.Fresh (exact.Array component) (Is count)) numbers) tt (right_lengths component numbers)

  right_of : (kind : ExactType) → EachRight (new_objects array kind)
  right_of (exact.Class name) = each_more (choices.Fresh (exact.Class name) Plain) [] tt each_none
  right_of (exact.Array component) =
      each_joined (map (λ count. choices.Fresh (exact.Array component) (Is count)) (numbers_below (suc array))) (choices.Fresh (exact.Array component) (Above array) ∷ [])
      (right_lengths component (numbers_below (suc array))) (each_more (choices.Fresh (exact.Array component) (Above array)) [] refl each_none)

  right_new : (kinds : List ExactType) → EachRight (flat_map (new_objects array) kinds)
  right_new [] = each_none
  right_new (kind ∷ kinds) = each_joined (new_objects array kind) (flat_map (new_objects array) kinds) (right_of kind) (right_new kinds)

module _ (world : World) (picture : Picture) (slot : Origin) (type : JType) (k array : ℕ) where
  abbrev depth : ℕ
  depth = depth_at picture slot

  right_fresh : EachRight k array depth (fresh_objects world picture slot type k array)
  unfolding fresh_objects
  right_fresh = go (nat_lt k depth) refl where
    beyond : k < depth → (b : Bool) → EachRight k array depth (beyond_where b)
    beyond deeper true = each_more k array depth choices.Beyond [] deeper (each_none k array depth)
    beyond deeper false = each_none k array depth

    go : (b : Bool) → nat_lt k depth ≡ b → EachRight k array depth (cond b (beyond_where (has_fitting world type)) (all_new world type array))
    go true e = beyond (ltb-true k depth e) (has_fitting world type)
    go false e = right_new k array depth (filter (λ kind. fits world kind type) world.universe)

  offered_right : (init : Init) (receiver : Bool) → EachRight k array depth (read_choices_of init world picture slot type receiver k array)
  unfolding read_choices_of aliases
  offered_right Lazy receiver =
      each_joined k array depth (null_unless receiver) (aliases_from world type 0 picture.objects ++ fresh_objects world picture slot type k array) (right_null k array depth receiver)
      (each_joined k array depth (aliases_from world type 0 picture.objects) (fresh_objects world picture slot type k array) (right_aliases k array depth world type 0 picture.objects) right_fresh)
  offered_right Lazier receiver =
      each_joined k array depth (null_unless receiver) (location_where (has_fitting world type)) (right_null k array depth receiver) (right_location k array depth (has_fitting world type))

-- ---- what the picture shows

-- a slot that is seen as beyond, and deeper than k
shown_beyond : (picture : Picture) (slot : Origin) (k : ℕ) → k < depth_at picture slot → IsBeyondK (after_read picture slot choices.Beyond) k
unfolding after_read
shown_beyond picture slot k deeper = record {
  slot = slot;
  beyond = inl (length picture.seen, get_last picture.seen (slot, seens.Beyond));
  deeper = deeper;
}

-- an array that is longer than the bound
abbrev longer_object : Origin → ExactType → ℕ → PicObject
longer_object slot kind n = record { kind = kind; length = Above n; origin = slot }

shown_longer : (picture : Picture) (slot : Origin) (kind : ExactType) (n : ℕ) → HasLonger (after_read picture slot (choices.Fresh kind (Above n))) n
unfolding after_read
shown_longer picture slot kind n =
    record { object = longer_object slot kind n; there = (length picture.objects, get_last picture.objects (longer_object slot kind n)); longer = refl }

past_longer : (picture : Picture) (slot : Origin) (kind : ExactType) (n : ℕ) (input : Input) → IsLengthOf kind (Above n) → HasShape (after_read picture slot (choices.Fresh kind (Above n))) input
    → IsPastArray input n
unfolding after_read
past_longer picture slot kind n input of shape =
    past_array (after_read picture slot (choices.Fresh kind (Above n))) input (length picture.objects) n (longer_object slot kind n) shape (get_last picture.objects (longer_object slot kind n)) of refl

-- ---- cuts

module _ (world : World) (bounds : Bounds) (old : State) (in_range : AreInRange bounds) (at : IsAtReferences world old) (slot : Origin) (type : JType)
    (asks : question_of world old bounds ≡ Some (Reads slot type)) (input : Input) where
  abbrev receiver : Bool
  receiver = is_receiver world old.method slot

  -- a reference
  module _ (reference : is_reference_type type ≡ true) where
    abbrev offered : List Choice
    offered = read_choices_of old.init world old.picture slot type receiver bounds.k bounds.array

    first : IsFirstRead world old.method old.picture slot type receiver
    first = first_read world bounds old at.reached.typed slot type (asked world bounds old at slot type asks) reference

    right : (choice : Choice) → Has offered choice → GoesBeyond bounds.k bounds.array (depth_at old.picture slot) choice
    right = offered_right world old.picture slot type bounds.k bounds.array old.init receiver

    speaks : (kind : ExactType) (len : Length) → Has offered (choices.Fresh kind len) → IsLengthOf kind len
    speaks kind len has =
        (fitting_choice old.init world old.method old.picture slot type receiver bounds.k bounds.array has.0 (choices.Fresh kind len) first in_range.array has.1).speaks

    cut_reference : (choice : Choice) (bound : Bound) (method : MethodId) → Has offered choice → passed_by choice ≡ Some bound → HasShape (after_read old.picture slot choice) input
        → IsLicensed world method bounds (after_read old.picture slot choice) bound input
    cut_reference choices.Beyond bound method has passed shape =
        let shown : IsBeyondK (after_read old.picture slot choices.Beyond) bounds.k = shown_beyond old.picture slot bounds.k (right choices.Beyond has) in
        let past = past_k (after_read old.picture slot choices.Beyond) input bounds.k shape shown in
        subst (λ (b : Bound). IsLicensed world method bounds (after_read old.picture slot choices.Beyond) b input) (same_Some K bound passed) (past, shown)
    cut_reference (choices.Fresh kind Plain) bound method has passed shape = absurd cc
    cut_reference (choices.Fresh kind (Is n)) bound method has passed shape = absurd cc
    cut_reference (choices.Fresh kind (Above n)) bound method has passed shape =
        let same : n ≡ bounds.array = right (choices.Fresh kind (Above n)) has in
        let after : Picture = after_read old.picture slot (choices.Fresh kind (Above n)) in
        let past : IsPastArray input bounds.array = subst (IsPastArray input) same (past_longer old.picture slot kind n input (speaks kind (Above n) has) shape) in
        let shown : HasLonger after bounds.array = subst (HasLonger after) same (shown_longer old.picture slot kind n) in
        subst (λ (b : Bound). IsLicensed world method bounds after b input) (same_Some Array bound passed) (past, shown)
    cut_reference choices.TooLarge bound method has passed shape =
        absurd ((fitting_choice old.init world old.method old.picture slot type receiver bounds.k bounds.array has.0 choices.TooLarge first in_range.array has.1).speaks)
    cut_reference _ bound method has passed shape = absurd cc

  -- either
  module _ (choice : Choice) (bound : Bound) (passed : passed_by choice ≡ Some bound) where
    abbrev told : Bool → State
    told reference = if reference then first_reference world slot choice old else first_int slot (kind_for (Some type)) old

    no_only : Has only choice → ⊥
    no_only has = elim (has_cases choices.Only choice [] has) [
      | inl same ↦ (let none : None ≡ Some bound = ap passed_by same ∙ passed in cc)
      | inr none ↦ has_none choice none
    ]

    cut_told : (b : Bool) → is_reference_type type ≡ b → Has (if b then read_choices_of old.init world old.picture slot type receiver bounds.k bounds.array else only) choice
        → (i : IsInstanceOf (told b) input) → IsLicensed world (told b).method bounds (told b).picture bound input
    cut_told true e has i =
        let tells = reference_tells world slot choice old in
        let new : State = first_reference world slot choice old in
        let shape : HasShape (after_read old.picture slot choice) input = subst (λ (p : Picture). HasShape p input) tells.picture i.shape in
        subst (λ (p : Picture). IsLicensed world new.method bounds p bound input) (sym tells.picture) (cut_reference e choice bound new.method has passed shape)
    cut_told false e has i = absurd (no_only has)

    pub cut_licensed : Has (alternatives world old bounds (Reads slot type)) choice → (i : IsInstanceOf (answered world choice old (Reads slot type)) input)
        → IsLicensed world (answered world choice old (Reads slot type)).method bounds (answered world choice old (Reads slot type)).picture bound input
    cut_licensed has i = cut_told (is_reference_type type) refl has i
