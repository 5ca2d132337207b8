-- Each input that has the shape of a picture takes exactly one of the alternatives of a slot that is read for the first time.
use Rattle.std.proofs.Common.{◌≡◌, ℕ, ◌+◌, ◌<◌, ◌⊎◌, inl, inr, Bool, true, false, List, [], ◌∷◌, ◌++◌, length, Option, Some, slice_get, refl, sym, ap, subst, ◌∙◌}
use Rattle.std.proofs.lemmas.Option.{same_Some, slice_get_within}
use Rattle.kb_class.specs.declared.ids.MethodId.{MethodId}
use Rattle.kb_class.specs.declared.members.MethodInfo.{MethodInfo}
use Rattle.kb_class.specs.Members.{is_static}
use Rattle.kb_heap.specs.declared.heap.Value.{Value}
use Rattle.kb_heap.specs.declared.heap.Value.TheVariants.{Int as IntValue, Null as NullValue, Ref}
use Rattle.kb_heap.specs.declared.heap.Heap.{Heap}
use Rattle.kb_heap.specs.declared.heap.Input.{Input}
use Rattle.kb_heap.specs.Heap.{object_at}
use Rattle.kb_link.specs.Links.{IsLinked}
use Rattle.kb_classes.specs.Subtypes.{fits}
use Rattle.kb_classes.specs.World.{World}
use Rattle.kb_names.specs.declared.types.ExactType.{ExactType}
use Rattle.kb_names.specs.declared.types.JType.{JType}
use Rattle.kb_names.specs.declared.types.JType.TheVariants as types
use Rattle.kb_semantics.specs.Inputs.{IsTypeCorrect, HasReceiver}
use Rattle.kb_semantics.specs.Values.{IsValueOf, IsObjectOf}
use Rattle.kb_picture.proofs.HeldLaws.{HeldValue, held_value}
use Rattle.kb_picture.proofs.ReceiverLaws.{receiver_is_first}
use Rattle.kb_picture.proofs.Taking.{HoldsNew, seen_back, seen_forth, fresh_back, fresh_forth, location_back, location_forth}
use Rattle.kb_picture.specs.declared.choice.Choice.TheVariants.{Null, Location, Alias, Fresh, Beyond}
use Rattle.kb_picture.specs.declared.choice.Init.{Init}
use Rattle.kb_picture.specs.declared.choice.Init.TheVariants.{Lazy, Lazier}
use Rattle.kb_picture.specs.declared.picture.Length.{Length}
use Rattle.kb_picture.specs.declared.picture.Origin.{Origin}
use Rattle.kb_picture.specs.declared.picture.Picture.{Picture}
use Rattle.kb_picture.specs.declared.picture.Seen.TheVariants as seens
use Rattle.kb_picture.specs.Exactly.{NoneHas, ExactlyOneHas}
use Rattle.kb_picture.specs.Growing.{params_of}
use Rattle.kb_picture.specs.Growth.{after_read}
use Rattle.kb_picture.specs.Places.{slot_value}
use Rattle.kb_picture.specs.Shapes.{HasShape, IsNoPlace, IsSuch}
use Rattle.kb_picture.specs.WellTyped.{is_reference_type}
use Rattle.kb_lazy.proofs.AlternativeLaws.{IsThere, TellsObject, any_there, kind_there, none_aliases, none_fresh, object_there, one_of_objects}
use Rattle.kb_lazy.proofs.Exactness.{none_joined, one_second, one_alone}
use Rattle.kb_lazy.specs.Choices.{aliases, aliases_from, has_fitting, fresh_objects, objects_for, null_unless, location_where, read_choices_of}
use Rattle.kb_lazy.specs.Laws.{HasNoBeyond, IsFirstRead, Takes}

-- ---- references

null_or_object : (world : World) (heap : Heap) (type : JType) (value : Value) → is_reference_type type ≡ true → IsValueOf world heap type value
    → (value ≡ NullValue) ⊎ ((p : ℕ) × (value ≡ Ref p) × IsObjectOf world type (object_at heap p))
null_or_object world heap (types.Class name) NullValue reference of = inl refl
null_or_object world heap (types.Class name) (Ref p) reference of = inr (p, refl, of)
null_or_object world heap (types.Class name) (IntValue z) reference of = absurd of
null_or_object world heap (types.Array component) NullValue reference of = inl refl
null_or_object world heap (types.Array component) (Ref p) reference of = inr (p, refl, of)
null_or_object world heap (types.Array component) (IntValue z) reference of = absurd of
null_or_object world heap types.Bool value reference of = absurd cc
null_or_object world heap types.Byte value reference of = absurd cc
null_or_object world heap types.Char value reference of = absurd cc
null_or_object world heap types.Short value reference of = absurd cc
null_or_object world heap types.Int value reference of = absurd cc
null_or_object world heap types.Long value reference of = absurd cc
null_or_object world heap types.Float value reference of = absurd cc
null_or_object world heap types.Double value reference of = absurd cc

receiver_held : (args : List Value) → HasReceiver false args → slice_get args 0 ≡ Some NullValue → ⊥
receiver_held [] h at = absurd h
receiver_held (NullValue ∷ args) h at = absurd h
receiver_held (IntValue z ∷ args) h at = absurd h
receiver_held (Ref o ∷ args) h at = absurd cc

module _ (world : World) (id : MethodId) (picture : Picture) (slot : Origin) (type : JType) (receiver : Bool) (k array : ℕ) (input : Input)
    (linked : IsLinked world) (first : IsFirstRead world id picture slot type receiver) (inside : HasNoBeyond picture) (correct : IsTypeCorrect world id input) (shape : HasShape picture input) where
  abbrev params : ℕ
  params = params_of world first.method

  abbrev held : Option Value
  held = slot_value input shape.places.objects slot

  no_receiver : held ≡ Some NullValue → receiver ≡ true → ⊥
  no_receiver null is =
      let r = receiver_is_first world id slot (first.receives.0 is) in
      let same : r.0 ≡ correct.method = same_Some r.0 correct.method (sym r.1 ∙ correct.method_is) in
      let dynamic : is_static correct.method.access ≡ false = ap (λ (m : MethodInfo). is_static m.access) (sym same) ∙ r.2 in
      let has : HasReceiver false input.args = subst (λ (b : Bool). HasReceiver b input.args) dynamic correct.receiver in
      receiver_held input.args has (ap (slot_value input shape.places.objects) (sym r.3) ∙ null)

  alias_means : (n : ℕ) → Takes picture slot (Alias n) input → (place : ℕ) × (slice_get shape.places.objects n ≡ Some place) × (held ≡ Some (Ref place))
  unfolding after_read
  alias_means n t = seen_back world params picture slot input first.unread shape (seens.Obj n) t

  null_means : Takes picture slot Null input → held ≡ Some NullValue
  unfolding after_read
  null_means t = seen_back world params picture slot input first.unread shape seens.Null t

  beyond_means : Takes picture slot Beyond input → (p : ℕ) × (held ≡ Some (Ref p)) × (p < length input.heap.objects) × IsNoPlace shape.places.objects p
  unfolding after_read
  beyond_means t = seen_back world params picture slot input first.unread shape seens.Beyond t

  fresh_means : (kind : ExactType) (len : Length) → Takes picture slot (Fresh kind len) input → HoldsNew input shape.places.objects slot kind len
  fresh_means kind len t = fresh_back world params picture slot input first.unread shape kind len t

  -- ---- null

  null_taken : held ≡ Some NullValue → Takes picture slot Null input
  unfolding after_read
  null_taken null = seen_forth world params picture slot input first.unread shape seens.Null null

  rest_at_null : held ≡ Some NullValue → NoneHas (Takes picture slot) (objects_for world picture slot type k array) input
  unfolding aliases
  rest_at_null null =
      none_joined (Takes picture slot) input (aliases_from world type 0 picture.objects) (fresh_objects world picture slot type k array)
      (none_aliases (Takes picture slot) world type input 0 picture.objects (λ n above t. not_ref (alias_means n t).0 (alias_means n t).2))
      (none_fresh (Takes picture slot) world picture slot type k array input (λ kind len t. not_ref (fresh_means kind len t).place (fresh_means kind len t).value) (λ t. not_ref (beyond_means t).0 (beyond_means t).1))
    where
      not_ref : (p : ℕ) → held ≡ Some (Ref p) → ⊥
      not_ref p at = let same : Some NullValue ≡ Some (Ref p) = sym null ∙ at in absurd cc

  one_at_null : held ≡ Some NullValue → ExactlyOneHas (Takes picture slot) (read_choices_of Lazy world picture slot type receiver k array) input
  unfolding read_choices_of
  one_at_null null = go receiver refl
    where
      go : (b : Bool) → receiver ≡ b → ExactlyOneHas (Takes picture slot) (null_unless b ++ objects_for world picture slot type k array) input
      go true e = absurd (no_receiver null e)
      go false e = inl (null_taken null, rest_at_null null)

  -- ---- an object

  module _ (p : ℕ) (at : held ≡ Some (Ref p)) (there : IsThere world input.heap type p) where
    no_null : (b : Bool) → NoneHas (Takes picture slot) (null_unless b) input
    no_null true = tt
    no_null false = ((λ t. (let same : Some NullValue ≡ Some (Ref p) = sym (null_means t) ∙ at in absurd cc)), tt)

    same_object : (q : ℕ) → held ≡ Some (Ref q) → q ≡ p
    same_object q e = let same : Some (Ref q) ≡ Some (Ref p) = sym e ∙ at in cc

    inside_heap : p < length input.heap.objects
    inside_heap = slice_get_within input.heap.objects p there.object there.at

    told : TellsObject (Takes picture slot) input shape.places.objects slot p
    unfolding after_read
    told = record {
      alias = λ n. (
        (λ t. (let means = alias_means n t in means.1 ∙ ap (λ (q : ℕ). Some q) (same_object means.0 means.2))),
        (λ here. seen_forth world params picture slot input first.unread shape (seens.Obj n) (p, here, at)),
      );
      fresh = λ kind len. (
        (λ t. (let means = fresh_means kind len t in
            let same = same_object means.place means.value in
            (subst (IsNoPlace shape.places.objects) same means.no_place, subst (IsSuch input.heap (record { kind = kind; length = len; origin = slot })) same means.such))),
        (λ h. fresh_forth world params picture slot input first.unread shape kind len inside (record { place = p; value = at; no_place = h.0; such = h.1 })),
      );
      beyond = (
        (λ t. (let means = beyond_means t in subst (IsNoPlace shape.places.objects) (same_object means.0 means.1) means.3)),
        (λ elsewhere. seen_forth world params picture slot input first.unread shape seens.Beyond (p, at, inside_heap, elsewhere)),
      );
    }

    one_of_lazy : ExactlyOneHas (Takes picture slot) (read_choices_of Lazy world picture slot type receiver k array) input
    unfolding read_choices_of
    one_of_lazy =
        one_second (Takes picture slot) input (null_unless receiver) (objects_for world picture slot type k array) (no_null receiver)
        (one_of_objects (Takes picture slot) world id picture slot type k array input linked correct shape p there told)

    one_of_lazier : ExactlyOneHas (Takes picture slot) (read_choices_of Lazier world picture slot type receiver k array) input
    unfolding read_choices_of
    one_of_lazier =
        one_second (Takes picture slot) input (null_unless receiver) (location_where (has_fitting world type)) (no_null receiver)
        (subst (λ (b : Bool). ExactlyOneHas (Takes picture slot) (location_where b) input) (sym some) (one_alone (Takes picture slot) input Location location_taken))
      where
        some : has_fitting world type ≡ true
        some = any_there (λ kind. fits world kind type) world.universe there.object.kind (kind_there world id input correct type p there) there.fit

        location_taken : Takes picture slot Location input
        location_taken = location_forth world params picture slot input first.unread shape p at inside_heap

  location_at_null : held ≡ Some NullValue → ExactlyOneHas (Takes picture slot) (read_choices_of Lazier world picture slot type receiver k array) input
  unfolding read_choices_of
  location_at_null null = go receiver refl
    where
      none : (b : Bool) → NoneHas (Takes picture slot) (location_where b) input
      none true = ((λ t. (let back = location_back world params picture slot input first.unread shape t in let same : Some NullValue ≡ Some (Ref back.0) = sym null ∙ back.1 in absurd cc)), tt)
      none false = tt

      go : (b : Bool) → receiver ≡ b → ExactlyOneHas (Takes picture slot) (null_unless b ++ location_where (has_fitting world type)) input
      go true e = absurd (no_receiver null e)
      go false e = inl (null_taken null, none (has_fitting world type))

  one_choice : (init : Init) → HeldValue world input shape.places.objects slot type → ExactlyOneHas (Takes picture slot) (read_choices_of init world picture slot type receiver k array) input
  one_choice init value = go init (null_or_object world input.heap type value.value first.reference value.of_type)
    where
      go : (mode : Init) → (value.value ≡ NullValue) ⊎ ((p : ℕ) × (value.value ≡ Ref p) × IsObjectOf world type (object_at input.heap p))
          → ExactlyOneHas (Takes picture slot) (read_choices_of mode world picture slot type receiver k array) input
      go Lazy (inl null) = one_at_null (value.there ∙ ap (λ (v : Value). Some v) null)
      go Lazier (inl null) = location_at_null (value.there ∙ ap (λ (v : Value). Some v) null)
      go Lazy (inr o) = one_of_lazy o.0 (value.there ∙ ap (λ (v : Value). Some v) o.1) (object_there world input.heap type o.0 o.2)
      go Lazier (inr o) = one_of_lazier o.0 (value.there ∙ ap (λ (v : Value). Some v) o.1) (object_there world input.heap type o.0 o.2)

  pub one_taken : (init : Init) → ExactlyOneHas (Takes picture slot) (read_choices_of init world picture slot type receiver k array) input
  one_taken init = one_choice init (held_value world id picture input correct shape params slot type first.unread.there first.declared)
