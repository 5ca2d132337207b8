-- Of the objects that a reference can be exactly one is taken, where it is told which object is there: one of the picture's, or one
-- of its own exact type and length.
use Rattle.std.proofs.Common.{◌≡◌, ◌≢◌, ◌↔◌, ℕ, zero, suc, ◌+◌, ◌<◌, ◌≤◌, ◌⊎◌, inl, inr, Bool, true, false, ◌||◌, cond, nat_lt, List, [], ◌∷◌, ◌++◌, length, map, filter, Option, Some, None, slice_get, refl, sym, ap, subst, ◌∙◌, arith}
use Rattle.std.proofs.lemmas.Bool.{cases_eq, cases_lt}
use Rattle.std.proofs.lemmas.List.{map-append}
use Rattle.std.proofs.lemmas.Option.{same_Some, slice_get_within}
use Rattle.std.specs.List.{list_any, flat_map}
use Rattle.kb_class.proofs.Lists.{has_none, has_cases}
use Rattle.kb_class.specs.Naming.{Has}
use Rattle.kb_class.specs.declared.ids.MethodId.{MethodId}
use Rattle.kb_heap.specs.declared.heap.Object.{Object}
use Rattle.kb_heap.specs.declared.heap.Heap.{Heap}
use Rattle.kb_heap.specs.declared.heap.Input.{Input}
use Rattle.kb_heap.specs.Heap.{object_at}
use Rattle.kb_link.specs.Links.{IsLinked}
use Rattle.kb_classes.specs.Subtypes.{fits}
use Rattle.kb_classes.specs.World.{World}
use Rattle.kb_names.specs.declared.types.ExactType.{ExactType}
use Rattle.kb_names.specs.declared.types.ExactType.TheVariants as exact
use Rattle.kb_names.specs.declared.types.JType.{JType}
use Rattle.kb_semantics.specs.Inputs.{IsTypeCorrect, IsInputObject}
use Rattle.kb_semantics.specs.Looks.{numbers_below}
use Rattle.kb_semantics.specs.Values.{IsObjectOf}
use Rattle.kb_picture.proofs.GrownPictures.{item_there}
use Rattle.kb_picture.proofs.GrownShapes.{at_no_place, as_many}
use Rattle.kb_picture.proofs.HeldLaws.{all_at}
use Rattle.kb_picture.specs.declared.choice.Choice.{Choice}
use Rattle.kb_picture.specs.declared.choice.Choice.TheVariants.{Alias, Fresh, Beyond}
use Rattle.kb_picture.specs.declared.picture.Length.{Length}
use Rattle.kb_picture.specs.declared.picture.Length.TheVariants.{Plain, Is, Above}
use Rattle.kb_picture.specs.declared.picture.Origin.{Origin}
use Rattle.kb_picture.specs.declared.picture.PicObject.{PicObject}
use Rattle.kb_picture.specs.declared.picture.Picture.{Picture}
use Rattle.kb_picture.specs.Depths.{depth_at}
use Rattle.kb_picture.specs.Exactly.{NoneHas, ExactlyOneHas}
use Rattle.kb_picture.specs.Shapes.{HasShape, IsNoPlace, IsSuch, HasLength}
use Rattle.kb_lazy.proofs.Exactness.{none_joined, one_first, one_second, one_alone}
use Rattle.kb_lazy.proofs.OneTypes.{AreDifferent, universe_different}
use Rattle.kb_lazy.specs.Choices.{aliases, aliases_from, new_objects, all_new, has_fitting, beyond_where, fresh_objects, objects_for}

-- ---- lists

-- the object is at some place, or at none
pub place_or_none : (places : List ℕ) (p : ℕ) → ((n : ℕ) × (slice_get places n ≡ Some p)) ⊎ IsNoPlace places p
place_or_none [] p = inr tt
place_or_none (first ∷ places) p = go (place_or_none places p) (cases_eq p first)
  where
    go : ((n : ℕ) × (slice_get places n ≡ Some p)) ⊎ IsNoPlace places p → (p ≡ first) ⊎ (p ≢ first) → ((n : ℕ) × (slice_get (first ∷ places) n ≡ Some p)) ⊎ IsNoPlace (first ∷ places) p
    go later (inl same) = inl (zero, ap (λ (q : ℕ). Some q) (sym same))
    go (inl h) (inr other) = inl (suc h.0, h.1)
    go (inr h) (inr other) = inr (other, h)

pub any_there : {A : Type 0} (test : A → Bool) (xs : List A) (x : A) → Has xs x → test x ≡ true → list_any test xs ≡ true
any_there test [] x h yes_ = absurd (has_none x h)
any_there test (y ∷ xs) x h yes_ = go (any_there test xs x) (has_cases y x xs h)
  where
    or_true : (b : Bool) → (b || true) ≡ true
    or_true true = refl
    or_true false = refl

    go : (Has xs x → test x ≡ true → list_any test xs ≡ true) → (y ≡ x) ⊎ Has xs x → (test y || list_any test xs) ≡ true
    go again (inl same) = ap (λ (b : Bool). b || list_any test xs) (ap test same ∙ yes_)
    go again (inr later) = ap (λ (b : Bool). test y || b) (again later yes_) ∙ or_true (test y)

-- ---- aliases

module _ (Taken : Choice → Input → Type 0) (world : World) (type : JType) (input : Input) where
  pub none_aliases : (number : ℕ) (objects : List PicObject) → ((n : ℕ) → number ≤ n → Taken (Alias n) input → ⊥) → NoneHas Taken (aliases_from world type number objects) input
  none_aliases number [] none = tt
  none_aliases number (object ∷ objects) none =
      go (none_aliases (suc number) objects (λ n above. none n (omega (arith, above)))) (fits world object.kind type)
    where
      go : NoneHas Taken (aliases_from world type (suc number) objects) input → (b : Bool)
          → NoneHas Taken (cond b (Alias number ∷ aliases_from world type (suc number) objects) (aliases_from world type (suc number) objects)) input
      go later false = later
      go later true = (none number (omega arith), later)

  one_alias : (number i : ℕ) (objects : List PicObject) (object : PicObject) → slice_get objects i ≡ Some object → fits world object.kind type ≡ true
      → ((n : ℕ) → Taken (Alias n) input → n ≡ number + i) → Taken (Alias (number + i)) input → ExactlyOneHas Taken (aliases_from world type number objects) input
  one_alias number i [] object at fit only taken = absurd cc
  one_alias number zero (first ∷ objects) object at fit only taken =
      let same : first ≡ object = same_Some first object at in
      let yes_ : fits world first.kind type ≡ true = ap (λ (o : PicObject). fits world o.kind type) same ∙ fit in
      let here : number + 0 ≡ number = omega arith in
      let none : NoneHas Taken (aliases_from world type (suc number) objects) input =
      none_aliases (suc number) objects (λ n above t. (let e : n ≡ number + 0 = only n t in absurd (omega (arith, above, e)))) in
      subst (λ (b : Bool). ExactlyOneHas Taken (cond b (Alias number ∷ aliases_from world type (suc number) objects) (aliases_from world type (suc number) objects)) input) (sym yes_)
      (inl (subst (λ (n : ℕ). Taken (Alias n) input) here taken, none))
  one_alias number (suc i) (first ∷ objects) object at fit only taken =
      let next : number + suc i ≡ suc number + i = omega arith in
      go (one_alias (suc number) i objects object at fit (λ n t. only n t ∙ next) (subst (λ (n : ℕ). Taken (Alias n) input) next taken)) (fits world first.kind type)
    where
      not_here : Taken (Alias number) input → ⊥
      not_here t = let e : number ≡ number + suc i = only number t in absurd (omega (arith, e))

      go : ExactlyOneHas Taken (aliases_from world type (suc number) objects) input → (b : Bool)
          → ExactlyOneHas Taken (cond b (Alias number ∷ aliases_from world type (suc number) objects) (aliases_from world type (suc number) objects)) input
      go later false = later
      go later true = inr (not_here, later)

-- ---- new objects

-- none of them is taken where no new object and none beyond is
module _ (Taken : Choice → Input → Type 0) (world : World) (picture : Picture) (slot : Origin) (type : JType) (k array : ℕ) (input : Input)
    (no_fresh : (kind : ExactType) (len : Length) → Taken (Fresh kind len) input → ⊥) where
  none_lengths : (component : JType) (numbers : List ℕ) → NoneHas Taken (map (λ count. Fresh (exact.Array component) (Is count)) numbers) input
  none_lengths component [] = tt
  none_lengths component (n ∷ numbers) = (no_fresh (exact.Array component) (Is n), none_lengths component numbers)

  none_of_kind : (kind : ExactType) → NoneHas Taken (new_objects array kind) input
  none_of_kind (exact.Class name) = (no_fresh (exact.Class name) Plain, tt)
  none_of_kind (exact.Array component) =
      none_joined Taken input (map (λ count. Fresh (exact.Array component) (Is count)) (numbers_below (suc array))) (Fresh (exact.Array component) (Above array) ∷ [])
      (none_lengths component (numbers_below (suc array))) (no_fresh (exact.Array component) (Above array), tt)

  none_new : (kinds : List ExactType) → NoneHas Taken (flat_map (new_objects array) (filter (λ kind. fits world kind type) kinds)) input
  none_new [] = tt
  none_new (kind ∷ kinds) = go (none_new kinds) (fits world kind type)
    where
      go : NoneHas Taken (flat_map (new_objects array) (filter (λ other. fits world other type) kinds)) input → (b : Bool)
          → NoneHas Taken (flat_map (new_objects array) (cond b (kind ∷ filter (λ other. fits world other type) kinds) (filter (λ other. fits world other type) kinds))) input
      go later false = later
      go later true = none_joined Taken input (new_objects array kind) (flat_map (new_objects array) (filter (λ other. fits world other type) kinds)) (none_of_kind kind) later

  pub none_fresh : (Taken Beyond input → ⊥) → NoneHas Taken (fresh_objects world picture slot type k array) input
  unfolding fresh_objects
  none_fresh no_beyond = go (nat_lt k (depth_at picture slot))
    where
      beyond : (b : Bool) → NoneHas Taken (beyond_where b) input
      beyond true = (no_beyond, tt)
      beyond false = tt

      go : (b : Bool) → NoneHas Taken (cond b (beyond_where (has_fitting world type)) (all_new world type array)) input
      go true = beyond (has_fitting world type)
      go false = none_new world.universe

-- exactly one is taken by an input whose slot holds an object of one's own
module _ (Taking : Choice → Input → Type 0) (world : World) (picture : Picture) (slot : Origin) (type : JType) (k array : ℕ) (input : Input) (object : Object)
    (means : (kind : ExactType) (len : Length) → Taking (Fresh kind len) input → (object.kind ≡ kind) × HasLength len object.values)
    (taken : (len : Length) → HasLength len object.values → Taking (Fresh object.kind len) input) where
  other_kind : (kind : ExactType) → (object.kind ≡ kind → ⊥) → (len : Length) → Taking (Fresh kind len) input → ⊥
  other_kind kind other len t = other (means kind len t).0

  none_of_other : (kind : ExactType) → (object.kind ≡ kind → ⊥) → NoneHas Taking (new_objects array kind) input
  none_of_other (exact.Class name) other = (other_kind (exact.Class name) other Plain, tt)
  none_of_other (exact.Array component) other =
      none_joined Taking input (map (λ count. Fresh (exact.Array component) (Is count)) (numbers_below (suc array))) (Fresh (exact.Array component) (Above array) ∷ [])
      (lengths (numbers_below (suc array))) (other_kind (exact.Array component) other (Above array), tt)
    where
      lengths : (numbers : List ℕ) → NoneHas Taking (map (λ count. Fresh (exact.Array component) (Is count)) numbers) input
      lengths [] = tt
      lengths (n ∷ numbers) = (other_kind (exact.Array component) other (Is n), lengths numbers)

  abbrev of_length : ℕ → Choice
  of_length count = Fresh object.kind (Is count)

  only_length : (n : ℕ) → Taking (of_length n) input → length object.values ≡ n
  only_length n t = (means object.kind (Is n) t).1

  none_shorter : (m : ℕ) → m ≤ length object.values → NoneHas Taking (map of_length (numbers_below m)) input
  none_shorter zero within = tt
  none_shorter (suc m) within =
      subst (λ (xs : List Choice). NoneHas Taking xs input) (sym (map-append of_length (numbers_below m) (m ∷ [])))
      (none_joined Taking input (map of_length (numbers_below m)) (of_length m ∷ []) (none_shorter m (omega (arith, within)))
      ((λ t. (let e : length object.values ≡ m = only_length m t in absurd (omega (arith, within, e)))), tt))

  one_length : (m : ℕ) → length object.values < m → ExactlyOneHas Taking (map of_length (numbers_below m)) input
  one_length zero inside = absurd (omega (arith, inside))
  one_length (suc m) inside = subst (λ (xs : List Choice). ExactlyOneHas Taking xs input) (sym (map-append of_length (numbers_below m) (m ∷ []))) (go (λ (below : length object.values < m). one_length m below) (cases_eq (length object.values) m))
    where
      go : (length object.values < m → ExactlyOneHas Taking (map of_length (numbers_below m)) input) → (length object.values ≡ m) ⊎ (length object.values ≢ m)
          → ExactlyOneHas Taking (map of_length (numbers_below m) ++ of_length m ∷ []) input
      go again (inl same) =
          one_second Taking input (map of_length (numbers_below m)) (of_length m ∷ []) (none_shorter m (omega (arith, same))) (one_alone Taking input (of_length m) (taken (Is m) same))
      go again (inr other) =
          one_first Taking input (map of_length (numbers_below m)) (of_length m ∷ []) (again (omega (arith, inside, other))) ((λ t. other (only_length m t)), tt)

  one_array : ExactlyOneHas Taking (map of_length (numbers_below (suc array)) ++ Fresh object.kind (Above array) ∷ []) input
  one_array = elim (cases_lt (length object.values) (suc array)) [
    | inl within ↦ one_first Taking input (map of_length (numbers_below (suc array))) (Fresh object.kind (Above array) ∷ []) (one_length (suc array) within)
        ((λ t. (let more : array < length object.values = (means object.kind (Above array) t).1 in absurd (omega (arith, within, more)))), tt)
    | inr above ↦ one_second Taking input (map of_length (numbers_below (suc array))) (Fresh object.kind (Above array) ∷ []) (none_shorter (suc array) above)
        (one_alone Taking input (Fresh object.kind (Above array)) (taken (Above array) (omega (arith, above))))
  ]

  one_of_kind : (kind : ExactType) → object.kind ≡ kind → ExactlyOneHas Taking (new_objects array kind) input
  one_of_kind (exact.Class name) same = one_alone Taking input (Fresh (exact.Class name) Plain) (subst (λ (kind : ExactType). Taking (Fresh kind Plain) input) same (taken Plain tt))
  one_of_kind (exact.Array component) same =
      subst (λ (kind : ExactType). ExactlyOneHas Taking (map (λ count. Fresh kind (Is count)) (numbers_below (suc array)) ++ Fresh kind (Above array) ∷ []) input) same one_array

  none_of_others : (kinds : List ExactType) → (Has kinds object.kind → ⊥) → NoneHas Taking (flat_map (new_objects array) (filter (λ kind. fits world kind type) kinds)) input
  none_of_others [] none = tt
  none_of_others (kind ∷ kinds) none = go (none_of_others kinds (λ h. none (suc h.0, h.1))) (fits world kind type)
    where
      apart : object.kind ≡ kind → ⊥
      apart same = none (zero, ap (λ (x : ExactType). Some x) (sym same))

      go : NoneHas Taking (flat_map (new_objects array) (filter (λ other. fits world other type) kinds)) input → (b : Bool)
          → NoneHas Taking (flat_map (new_objects array) (cond b (kind ∷ filter (λ other. fits world other type) kinds) (filter (λ other. fits world other type) kinds))) input
      go later false = later
      go later true = none_joined Taking input (new_objects array kind) (flat_map (new_objects array) (filter (λ other. fits world other type) kinds)) (none_of_other kind apart) later

  one_new : (kinds : List ExactType) → AreDifferent kinds → Has kinds object.kind → fits world object.kind type ≡ true
      → ExactlyOneHas Taking (flat_map (new_objects array) (filter (λ kind. fits world kind type) kinds)) input
  one_new [] different h fit = absurd (has_none object.kind h)
  one_new (kind ∷ kinds) different h fit = go (λ (g : Has kinds object.kind). one_new kinds different.1 g fit) (has_cases kind object.kind kinds h)
    where
      skip : ExactlyOneHas Taking (flat_map (new_objects array) (filter (λ other. fits world other type) kinds)) input → (object.kind ≡ kind → ⊥) → (b : Bool)
          → ExactlyOneHas Taking (flat_map (new_objects array) (cond b (kind ∷ filter (λ other. fits world other type) kinds) (filter (λ other. fits world other type) kinds))) input
      skip later apart false = later
      skip later apart true = one_second Taking input (new_objects array kind) (flat_map (new_objects array) (filter (λ other. fits world other type) kinds)) (none_of_other kind apart) later

      go : (Has kinds object.kind → ExactlyOneHas Taking (flat_map (new_objects array) (filter (λ other. fits world other type) kinds)) input) → (kind ≡ object.kind) ⊎ Has kinds object.kind
          → ExactlyOneHas Taking (flat_map (new_objects array) (filter (λ other. fits world other type) (kind ∷ kinds))) input
      go again (inl same) =
          let yes_ : fits world kind type ≡ true = ap (λ (x : ExactType). fits world x type) same ∙ fit in
          subst (λ (b : Bool). ExactlyOneHas Taking (flat_map (new_objects array) (cond b (kind ∷ filter (λ other. fits world other type) kinds) (filter (λ other. fits world other type) kinds))) input) (sym yes_)
          (one_first Taking input (new_objects array kind) (flat_map (new_objects array) (filter (λ other. fits world other type) kinds)) (one_of_kind kind (sym same))
          (none_of_others kinds (λ g. different.0 (subst (λ (x : ExactType). Has kinds x) (sym same) g))))
      go again (inr g) = skip (again g) (λ same. different.0 (subst (λ (x : ExactType). Has kinds x) same g)) (fits world kind type)

  one_fresh : AreDifferent world.universe → Has world.universe object.kind → fits world object.kind type ≡ true → Taking Beyond input
      → ExactlyOneHas Taking (fresh_objects world picture slot type k array) input
  unfolding fresh_objects
  one_fresh different there fit beyond = go (nat_lt k (depth_at picture slot))
    where
      some : has_fitting world type ≡ true
      some = any_there (λ kind. fits world kind type) world.universe object.kind there fit

      go : (b : Bool) → ExactlyOneHas Taking (cond b (beyond_where (has_fitting world type)) (all_new world type array)) input
      go true = subst (λ (b : Bool). ExactlyOneHas Taking (beyond_where b) input) (sym some) (one_alone Taking input Beyond beyond)
      go false = one_new world.universe different there fit

-- ---- objects

-- the object that is there, of the type
pub record IsThere (world : World) (heap : Heap) (type : JType) (p : ℕ) : Type 0 where
  pub object : Object
  pub at : object_at heap p ≡ Some object
  pub fit : fits world object.kind type ≡ true

pub object_there : (world : World) (heap : Heap) (type : JType) (p : ℕ) → IsObjectOf world type (object_at heap p) → IsThere world heap type p
object_there world heap type p of = go (object_at heap p) refl of
  where
    go : (o : Option Object) → object_at heap p ≡ o → IsObjectOf world type o → IsThere world heap type p
    go None at h = absurd h
    go (Some object) at h = record { object = object; at = at; fit = h }

-- its exact type is one of the universe
pub kind_there : (world : World) (id : MethodId) (input : Input) → IsTypeCorrect world id input → (type : JType) (p : ℕ) (there : IsThere world input.heap type p) → Has world.universe there.object.kind
kind_there world id input correct type p there = (all_at (IsInputObject world input.heap) input.heap.objects p there.object correct.objects there.at).universe

-- Which choice an input takes is told by the object at the place: by its number, where it is one of the picture's, and else by its
-- exact type and its length.
pub record TellsObject (Taken : Choice → Input → Type 0) (input : Input) (places : List ℕ) (slot : Origin) (p : ℕ) : Type 0 where
  pub alias : (n : ℕ) → Taken (Alias n) input ↔ (slice_get places n ≡ Some p)
  pub fresh : (kind : ExactType) (len : Length) → Taken (Fresh kind len) input ↔ (IsNoPlace places p × IsSuch input.heap (record { kind = kind; length = len; origin = slot }) p)
  pub beyond : Taken Beyond input ↔ IsNoPlace places p

module _ (Taken : Choice → Input → Type 0) (world : World) (id : MethodId) (picture : Picture) (slot : Origin) (type : JType) (k array : ℕ) (input : Input)
    (linked : IsLinked world) (correct : IsTypeCorrect world id input) (shape : HasShape picture input) (p : ℕ) (there : IsThere world input.heap type p)
    (tells : TellsObject Taken input shape.places.objects slot p) where
  -- it is the picture's object of that number
  module _ (n : ℕ) (here : slice_get shape.places.objects n ≡ Some p) where
    within : n < length picture.objects
    within = omega (arith, slice_get_within shape.places.objects n p here, as_many picture input shape.places shape.placed)

    expected : (object : PicObject) × (slice_get picture.objects n ≡ Some object)
    expected = item_there picture.objects n within

    expected_fits : fits world expected.0.kind type ≡ true
    expected_fits =
        let such : IsSuch input.heap expected.0 p = shape.such n p expected.0 expected.1 here in
        let same : such.object ≡ there.object = same_Some such.object there.object (sym such.object_is ∙ there.at) in
        ap (λ (kind : ExactType). fits world kind type) (sym such.kind ∙ ap (λ (o : Object). o.kind) same) ∙ there.fit

    alias_only : (m : ℕ) → Taken (Alias m) input → m ≡ n
    alias_only m t = shape.apart m n p ((tells.alias m).0 t) here

    no_place_here : IsNoPlace shape.places.objects p → ⊥
    no_place_here elsewhere = at_no_place shape.places.objects p n elsewhere here

    one_at_place : ExactlyOneHas Taken (objects_for world picture slot type k array) input
    unfolding aliases
    one_at_place =
        one_first Taken input (aliases_from world type 0 picture.objects) (fresh_objects world picture slot type k array)
        (one_alias Taken world type input 0 n picture.objects expected.0 expected.1 expected_fits
        (λ m t. alias_only m t ∙ number_is) (subst (λ (m : ℕ). Taken (Alias m) input) number_is ((tells.alias n).1 here)))
        (none_fresh Taken world picture slot type k array input (λ kind len t. no_place_here ((tells.fresh kind len).0 t).0) (λ t. no_place_here (tells.beyond.0 t)))
      where
        number_is : n ≡ 0 + n
        number_is = omega arith

  -- it is none of the picture's
  module _ (elsewhere : IsNoPlace shape.places.objects p) where
    kind_means : (kind : ExactType) (len : Length) → Taken (Fresh kind len) input → (there.object.kind ≡ kind) × HasLength len there.object.values
    kind_means kind len t =
        let such = ((tells.fresh kind len).0 t).1 in
        let same : such.object ≡ there.object = same_Some such.object there.object (sym such.object_is ∙ there.at) in
        (ap (λ (o : Object). o.kind) (sym same) ∙ such.kind, subst (λ (o : Object). HasLength len o.values) same such.length)

    kind_taken : (len : Length) → HasLength len there.object.values → Taken (Fresh there.object.kind len) input
    kind_taken len has = (tells.fresh there.object.kind len).1 (elsewhere, record { object = there.object; object_is = there.at; kind = refl; length = has })

    alias_nowhere : (n : ℕ) → 0 ≤ n → Taken (Alias n) input → ⊥
    alias_nowhere n above t = at_no_place shape.places.objects p n elsewhere ((tells.alias n).0 t)

    one_elsewhere : ExactlyOneHas Taken (objects_for world picture slot type k array) input
    unfolding aliases
    one_elsewhere =
        one_second Taken input (aliases_from world type 0 picture.objects) (fresh_objects world picture slot type k array)
        (none_aliases Taken world type input 0 picture.objects alias_nowhere)
        (one_fresh Taken world picture slot type k array input there.object kind_means kind_taken (universe_different world linked) (kind_there world id input correct type p there) there.fit (tells.beyond.1 elsewhere))

  pub one_of_objects : ExactlyOneHas Taken (objects_for world picture slot type k array) input
  one_of_objects = elim (place_or_none shape.places.objects p) [ inl h ↦ one_at_place h.0 h.1 | inr elsewhere ↦ one_elsewhere elsewhere ]
