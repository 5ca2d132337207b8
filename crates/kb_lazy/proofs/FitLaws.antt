-- Each alternative is a choice for its slot, or for its location.
use Rattle.std.proofs.Common.{◌≡◌, ℕ, zero, suc, ◌+◌, ◌<◌, ◌^◌, ◌⊎◌, inl, inr, Bool, true, false, true≢false, ◌||◌, cond, nat_lt, List, [], ◌∷◌, ◌++◌, map, filter, Option, Some, slice_get, refl, sym, ap, subst, ◌∙◌, arith}
use Rattle.std.specs.List.{list_any, flat_map}
use Rattle.std.specs.Option.{option_map_or}
use Rattle.kb_class.proofs.Lists.{has_none, has_cases, has_either}
use Rattle.kb_class.specs.Naming.{Has}
use Rattle.kb_class.specs.declared.ids.MethodId.{MethodId}
use Rattle.kb_classes.specs.Subtypes.{fits}
use Rattle.kb_classes.specs.World.{World}
use Rattle.kb_names.specs.declared.types.ExactType.{ExactType}
use Rattle.kb_names.specs.declared.types.ExactType.TheVariants as exact
use Rattle.kb_names.specs.declared.types.JType.{JType}
use Rattle.kb_semantics.specs.Looks.{numbers_below}
use Rattle.kb_picture.specs.declared.choice.Choice.{Choice}
use Rattle.kb_picture.specs.declared.choice.Choice.TheVariants.{Null, Location, Alias, Fresh, Beyond}
use Rattle.kb_picture.specs.declared.choice.Init.{Init}
use Rattle.kb_picture.specs.declared.choice.Init.TheVariants.{Lazy, Lazier}
use Rattle.kb_picture.specs.declared.picture.Length.{Length}
use Rattle.kb_picture.specs.declared.picture.Length.TheVariants.{Plain, Is, Above}
use Rattle.kb_picture.specs.declared.picture.Origin.{Origin}
use Rattle.kb_picture.specs.declared.picture.PicLoc.{PicLoc}
use Rattle.kb_picture.specs.declared.picture.PicObject.{PicObject}
use Rattle.kb_picture.specs.declared.picture.Picture.{Picture}
use Rattle.kb_picture.specs.Accesses.{IsOfObject, IsObjectFor}
use Rattle.kb_picture.specs.Depths.{depth_at}
use Rattle.kb_picture.specs.Growing.{IsReceiver, IsChoiceIn, ChoiceFits, IsChoiceFor}
use Rattle.kb_picture.specs.WellFormed.{IsLengthOf}
use Rattle.kb_picture.specs.WellTyped.{IsIntLength, SomeFits}
use Rattle.kb_lazy.specs.Choices.{aliases, aliases_from, new_objects, all_new, has_fitting, beyond_where, fresh_objects, objects_for, null_unless, location_where, read_choices_of, resolve_choices_of}
use Rattle.kb_lazy.specs.Laws.{IsFirstRead, IsAccess}

-- it holds of each item
abbrev pub EachOf : {A : Type 0} → (A → Type 0) → List A → Type 0
EachOf {A} P xs = (x : A) → Has xs x → P x

module _ {A : Type 0} (P : A → Type 0) where
  each_none : EachOf P []
  each_none x h = absurd (has_none x h)

  each_more : (first : A) (xs : List A) → P first → EachOf P xs → EachOf P (first ∷ xs)
  each_more first xs one others x h = elim (has_cases first x xs h) [ inl same ↦ subst P same one | inr g ↦ others x g ]

  each_joined : (xs ys : List A) → EachOf P xs → EachOf P ys → EachOf P (xs ++ ys)
  each_joined xs ys one other x h = elim (has_either xs ys x h) [ inl g ↦ one x g | inr g ↦ other x g ]

-- a kind of which the test is true
any_found : {A : Type 0} (test : A → Bool) (xs : List A) → list_any test xs ≡ true → (x : A) × Has xs x × (test x ≡ true)
any_found test [] e = absurd cc
any_found {A = A} test (y ∷ xs) e = go (λ (g : list_any test xs ≡ true). any_found test xs g) (test y) refl e
  where
    go : (list_any test xs ≡ true → (x : A) × Has xs x × (test x ≡ true)) → (b : Bool) → test y ≡ b → (b || list_any test xs) ≡ true → (x : A) × Has (y ∷ xs) x × (test x ≡ true)
    go again true is f = (y, (zero, refl), is)
    go again false is f = let found = again f in (found.0, (suc found.1.0, found.1.1), found.2)

below_number : (m n : ℕ) → Has (numbers_below m) n → n < m
below_number zero n h = absurd (has_none n h)
below_number (suc m) n h = go (λ (g : Has (numbers_below m) n). below_number m n g) (has_either (numbers_below m) (m ∷ []) n h)
  where
    go : (Has (numbers_below m) n → n < m) → Has (numbers_below m) n ⊎ Has (m ∷ []) n → n < suc m
    go again (inl g) = let below : n < m = again g in omega (arith, below)
    go again (inr g) = elim (has_cases m n [] g) [ inl same ↦ omega (arith, same) | inr none ↦ absurd (has_none n none) ]

-- ---- objects

some_fits : (world : World) (type : JType) → has_fitting world type ≡ true → SomeFits world type
some_fits world type e = any_found (λ kind. fits world kind type) world.universe e

module _ (world : World) (picture : Picture) (slot : Origin) (type : JType) where
  -- the choice is of an object, speaks of what is there, and fits
  abbrev IsGood : Choice → Type 0
  IsGood choice = IsChoiceIn picture choice × ChoiceFits world picture type choice × IsOfObject choice

  good_aliases : (number : ℕ) (objects : List PicObject) → ((i : ℕ) (object : PicObject) → slice_get objects i ≡ Some object → slice_get picture.objects (number + i) ≡ Some object)
      → EachOf IsGood (aliases_from world type number objects)
  good_aliases number [] there = each_none IsGood
  good_aliases number (object ∷ objects) there =
      go (good_aliases (suc number) objects (λ i o at. (let next : suc number + i ≡ number + suc i = omega arith in ap (slice_get picture.objects) next ∙ there (suc i) o at)))
      (fits world object.kind type) refl
    where
      here : slice_get picture.objects number ≡ Some object
      here = (let first : number ≡ number + 0 = omega arith in ap (slice_get picture.objects) first ∙ there zero object refl)

      go : EachOf IsGood (aliases_from world type (suc number) objects) → (b : Bool) → fits world object.kind type ≡ b
          → EachOf IsGood (cond b (Alias number ∷ aliases_from world type (suc number) objects) (aliases_from world type (suc number) objects))
      go later false fit = later
      go later true fit = each_more IsGood (Alias number) (aliases_from world type (suc number) objects) ((object, here), (object, here, fit), tt) later

  module _ (k array : ℕ) (small : suc array < 2 ^ 31) where
    good_fresh : (kind : ExactType) (len : Length) → Has world.universe kind → fits world kind type ≡ true → IsLengthOf kind len → IsIntLength len → IsGood (Fresh kind len)
    good_fresh kind len there fit of short = (of, (there, fit, short), tt)

    good_of : (kind : ExactType) → Has world.universe kind → fits world kind type ≡ true → EachOf IsGood (new_objects array kind)
    good_of (exact.Class name) there fit = each_more IsGood (Fresh (exact.Class name) Plain) [] (good_fresh (exact.Class name) Plain there fit tt tt) (each_none IsGood)
    good_of (exact.Array component) there fit =
        each_joined IsGood (map (λ count. Fresh (exact.Array component) (Is count)) (numbers_below (suc array))) (Fresh (exact.Array component) (Above array) ∷ [])
        (lengths (numbers_below (suc array)) (λ n h. below_number (suc array) n h))
        (each_more IsGood (Fresh (exact.Array component) (Above array)) [] (good_fresh (exact.Array component) (Above array) there fit tt small) (each_none IsGood))
      where
        lengths : (numbers : List ℕ) → ((n : ℕ) → Has numbers n → n < suc array) → EachOf IsGood (map (λ count. Fresh (exact.Array component) (Is count)) numbers)
        lengths [] below = each_none IsGood
        lengths (n ∷ numbers) below =
            let within : n < suc array = below n (zero, refl) in
            each_more IsGood (Fresh (exact.Array component) (Is n)) (map (λ count. Fresh (exact.Array component) (Is count)) numbers)
            (good_fresh (exact.Array component) (Is n) there fit tt (omega (arith, within, small))) (lengths numbers (λ m h. below m (suc h.0, h.1)))

    good_new : (kinds : List ExactType) → ((kind : ExactType) → Has kinds kind → Has world.universe kind) → EachOf IsGood (flat_map (new_objects array) (filter (λ kind. fits world kind type) kinds))
    good_new [] there = each_none IsGood
    good_new (kind ∷ kinds) there = go (good_new kinds (λ x h. there x (suc h.0, h.1))) (fits world kind type) refl
      where
        go : EachOf IsGood (flat_map (new_objects array) (filter (λ other. fits world other type) kinds)) → (b : Bool) → fits world kind type ≡ b
            → EachOf IsGood (flat_map (new_objects array) (cond b (kind ∷ filter (λ other. fits world other type) kinds) (filter (λ other. fits world other type) kinds)))
        go later false fit = later
        go later true fit =
            each_joined IsGood (new_objects array kind) (flat_map (new_objects array) (filter (λ other. fits world other type) kinds)) (good_of kind (there kind (zero, refl)) fit) later

    good_fresh_objects : EachOf IsGood (fresh_objects world picture slot type k array)
    unfolding fresh_objects
    good_fresh_objects = go (nat_lt k (depth_at picture slot))
      where
        beyond : (b : Bool) → has_fitting world type ≡ b → EachOf IsGood (beyond_where b)
        beyond false e = each_none IsGood
        beyond true e = each_more IsGood Beyond [] (tt, some_fits world type e, tt) (each_none IsGood)

        go : (b : Bool) → EachOf IsGood (cond b (beyond_where (has_fitting world type)) (all_new world type array))
        go true = beyond (has_fitting world type) refl
        go false = good_new world.universe (λ kind h. h)

    good_objects : EachOf IsGood (objects_for world picture slot type k array)
    unfolding aliases
    good_objects =
        each_joined IsGood (aliases_from world type 0 picture.objects) (fresh_objects world picture slot type k array)
        (good_aliases 0 picture.objects (λ i object at. (let same : 0 + i ≡ i = omega arith in ap (slice_get picture.objects) same ∙ at))) good_fresh_objects

-- ---- references that are read

-- an object is not null
not_null : (choice : Choice) → IsOfObject choice → choice ≡ Null → ⊥
not_null choice is e = subst IsOfObject e is

module _ (world : World) (id : MethodId) (picture : Picture) (slot : Origin) (type : JType) (k array : ℕ) (small : suc array < 2 ^ 31) (receiver : Bool)
    (receives : IsReceiver world id slot → receiver ≡ true) where
  -- the choice speaks of what is there, and fits; null is none for a receiver
  abbrev IsGoodRead : Choice → Type 0
  IsGoodRead choice = IsChoiceIn picture choice × ChoiceFits world picture type choice × (IsReceiver world id slot → choice ≡ Null → ⊥)

  good_null : (b : Bool) → receiver ≡ b → EachOf IsGoodRead (null_unless b)
  good_null true e = each_none IsGoodRead
  good_null false e = each_more IsGoodRead Null [] (tt, tt, λ r f. true≢false (sym (receives r) ∙ e)) (each_none IsGoodRead)

  good_location : (b : Bool) → has_fitting world type ≡ b → EachOf IsGoodRead (location_where b)
  good_location false e = each_none IsGoodRead
  good_location true e = each_more IsGoodRead Location [] (tt, some_fits world type e, λ r f. absurd cc) (each_none IsGoodRead)

  read_objects : EachOf IsGoodRead (objects_for world picture slot type k array)
  read_objects choice h =
      let good = good_objects world picture slot type k array small choice h in
      (good.0, good.1, λ r e. not_null choice good.2 e)

  good_choices : (init : Init) → EachOf IsGoodRead (read_choices_of init world picture slot type receiver k array)
  unfolding read_choices_of
  good_choices Lazy = each_joined IsGoodRead (null_unless receiver) (objects_for world picture slot type k array) (good_null receiver refl) read_objects
  good_choices Lazier =
      each_joined IsGoodRead (null_unless receiver) (location_where (has_fitting world type)) (good_null receiver refl) (good_location (has_fitting world type) refl)

pub fitting_choice : (init : Init) (world : World) (id : MethodId) (picture : Picture) (slot : Origin) (type : JType) (receiver : Bool) (k array i : ℕ) (choice : Choice)
    → IsFirstRead world id picture slot type receiver → suc array < 2 ^ 31 → slice_get (read_choices_of init world picture slot type receiver k array) i ≡ Some choice
    → IsChoiceFor world id picture slot choice
fitting_choice init world id picture slot type receiver k array i choice first small at =
    let good = good_choices world id picture slot type k array small receiver first.receives.1 init choice (i, at) in
    record { type = type; declared = first.declared; reference = first.reference; speaks = good.0; of_type = good.1; receiver = good.2 }

-- ---- locations

pub fitting_object : (world : World) (id : MethodId) (picture : Picture) (number : ℕ) (origin : Origin) (type : JType) (k array i : ℕ) (choice : Choice)
    → IsAccess world id picture number origin type → suc array < 2 ^ 31 → slice_get (resolve_choices_of world picture number type k array) i ≡ Some choice
    → IsObjectFor world id picture origin choice
unfolding resolve_choices_of
fitting_object world id picture number origin type k array i choice access small at =
    let offered : slice_get (objects_for world picture origin type k array) i ≡ Some choice =
    ap (λ (o : Option PicLoc). slice_get (option_map_or (λ (loc : PicLoc). objects_for world picture loc.origin type k array) o []) i) (sym access.is_open.open_there) ∙ at in
    let good = good_objects world picture origin type k array small choice (i, offered) in
    record { type = type; declared = access.declared; object = good.2; speaks = good.0; of_type = good.1 }
