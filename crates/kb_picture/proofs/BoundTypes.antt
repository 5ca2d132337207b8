-- Pictures in which it was chosen which object a location is keep the types of the method and of the world.
use Rattle.std.proofs.Common.{◌≡◌, ℕ, ◌<◌, ◌⊎◌, inl, inr, true, List, [], ◌∷◌, ◌++◌, length, Option, Some, None, option_map, slice_get, refl, sym, ap, subst, ◌∙◌}
use Rattle.std.proofs.lemmas.Option.{same_Some, slice_get_within, slice_get-map}
use Rattle.kb_class.specs.Naming.{Has}
use Rattle.kb_class.specs.declared.ids.MethodId.{MethodId}
use Rattle.kb_classes.proofs.Places.{get_last, get_pushed}
use Rattle.kb_classes.specs.Subtypes.{fits}
use Rattle.kb_classes.specs.World.{World}
use Rattle.kb_names.specs.declared.types.JType.{JType}
use Rattle.kb_picture.proofs.BoundPictures.{Binds, binds_formed, bound_picture, fresh_is, has_before, is_fresh, loc_at_slot, loc_cases, read_there, standing_is, stands_so}
use Rattle.kb_picture.proofs.GrownPictures.{item_there, leads_seen}
use Rattle.kb_picture.proofs.GrownTypes.{object_before, type_before, type_more}
use Rattle.kb_picture.specs.declared.choice.Choice.{Choice}
use Rattle.kb_picture.specs.declared.choice.Choice.TheVariants as choices
use Rattle.kb_picture.specs.declared.picture.Origin.{Origin}
use Rattle.kb_picture.specs.declared.picture.Origin.TheVariants.{Arg}
use Rattle.kb_picture.specs.declared.picture.PicLoc.{PicLoc}
use Rattle.kb_picture.specs.declared.picture.PicObject.{PicObject}
use Rattle.kb_picture.specs.declared.picture.Picture.{Picture}
use Rattle.kb_picture.specs.declared.picture.Seen.{Seen}
use Rattle.kb_picture.specs.declared.picture.Seen.TheVariants as seens
use Rattle.kb_picture.specs.declared.picture.Standing.{Standing}
use Rattle.kb_picture.specs.declared.picture.Standing.TheVariants as standings
use Rattle.kb_picture.specs.Accesses.{IsOpenAt, IsObjectFor}
use Rattle.kb_picture.specs.Growing.{params_of}
use Rattle.kb_picture.specs.Growth.{after_access, with_fresh}
use Rattle.kb_picture.specs.Queries.{type_of_slot}
use Rattle.kb_picture.specs.WellFormed.{IsBound, IsPicture, IsSeenAs, LeadsTo, slots_seen}
use Rattle.kb_picture.specs.WellTyped.{IsWellTyped, SeenFits, SeenFitsDeclared, StandingFits, LocFits, SomeFits, IsIntLength}

module _ (world : World) (id : MethodId) (old new : Picture) (number : ℕ) (origin : Origin) (standing : Standing) (typed : IsWellTyped world id old)
    (binds : Binds world (params_of world typed.method) old new number origin standing) where
  abbrev params : ℕ
  params = params_of world typed.method

  -- ---- what is seen

  standing_fits : (type : JType) (s : Standing) → SomeFits world type → StandingFits world type s
  standing_fits type standings.Open some = some
  standing_fits type standings.Beyond some = some
  standing_fits type (standings.Obj n) some = tt

  -- an open location is of a type that some object has
  some_fits : (type : JType) → LocFits world type (slice_get old.locs number) → SomeFits world type
  some_fits type fit = subst (LocFits world type) binds.was fit

  loc_still : (type : JType) (n : ℕ) → LocFits world type (slice_get old.locs n) → n < length new.locs → LocFits world type (slice_get new.locs n)
  loc_still type n fit inside = from (item_there new.locs n inside)
    where
      from : ((loc : PicLoc) × (slice_get new.locs n ≡ Some loc)) → LocFits world type (slice_get new.locs n)
      from found = subst (LocFits world type) (sym found.1) (elim (loc_cases world params old new number origin standing binds n found.0 found.1) [
        | inl h ↦ subst (λ (l : PicLoc). StandingFits world type l.standing) h.1
            (standing_fits type standing (some_fits type (subst (λ (m : ℕ). LocFits world type (slice_get old.locs m)) (sym h.0) fit)))
        | inr h ↦ subst (LocFits world type) h fit
      ])

  seen_still : (type : JType) (seen : Seen) → IsSeenAs new seen → SeenFits world old type seen → SeenFits world new type seen
  seen_still type (seens.Int n) there fit = fit
  seen_still type seens.Null there fit = fit
  seen_still type (seens.Loc n) there fit = (fit.0, loc_still type n fit.1 there)
  seen_still type (seens.Obj n) there fit = fit
  seen_still type seens.Beyond there fit = fit

  declared_still : (slot : Origin) (seen : Seen) → IsSeenAs new seen → SeenFitsDeclared world old (type_of_slot world id old.objects slot) seen
      → SeenFitsDeclared world new (type_of_slot world id new.objects slot) seen
  declared_still slot seen there fit = go (type_of_slot world id old.objects slot) refl fit
    where
      go : (type : Option JType) → type_of_slot world id old.objects slot ≡ type → SeenFitsDeclared world old type seen → SeenFitsDeclared world new (type_of_slot world id new.objects slot) seen
      go None at f = absurd f
      go (Some type) at f =
          subst (λ (t : Option JType). SeenFitsDeclared world new t seen) (sym (type_more world id old.objects new.objects slot type binds.more at)) (seen_still type seen there f)

  -- ---- what leads to an object

  formed_new : IsPicture world params new
  formed_new = binds_formed world params old new number origin standing binds typed.formed

  -- a slot that leads to an object led there, or the location that was read from it is that object
  abbrev LedBefore : Origin → ℕ → PicObject → Type 0
  LedBefore slot n object = ((slice_get old.objects n ≡ Some object) × LeadsTo old slot n) ⊎ ((origin ≡ slot) × (standing ≡ standings.Obj n))

  led : (slot : Origin) (n : ℕ) (object : PicObject) → slice_get new.objects n ≡ Some object → LeadsTo new slot n → LedBefore slot n object
  led slot n object at leads = elim leads [
    | inl a ↦ by_object (has_before world params old new number origin standing binds (slot, seens.Obj n) a)
    | inr b ↦ by_loc b
  ]
    where
      by_object : Has old.seen (slot, seens.Obj n) → LedBefore slot n object
      by_object h = inl (object_before old.objects new.objects n object binds.more (typed.formed.seen h.0 (slot, seens.Obj n) h.1) at, inl h)

      by_loc : IsBound new slot n → LedBefore slot n object
      by_loc b = elim (loc_cases world params old new number origin standing binds b.loc (loc_at_slot slot (standings.Obj n)) b.standing) [
        | inl h ↦ inr (ap (λ (l : PicLoc). l.origin) h.1, ap (λ (l : PicLoc). l.standing) h.1)
        | inr h ↦
            let before = typed.formed.locs b.loc (loc_at_slot slot (standings.Obj n)) h in
            inl (object_before old.objects new.objects n object binds.more before.1 at, inr (record { loc = b.loc; seen = before.0; standing = h }))
      ]

  origin_read : Has (slots_seen old) origin
  origin_read =
      let read = read_there world params old new number origin standing binds typed.formed in
      (read.0, slice_get-map (λ (x : Origin × Seen). x.0) old.seen read.0 ∙ ap (option_map (λ (x : Origin × Seen). x.0)) read.1)

  pub binds_typed : ((n : ℕ) (object : PicObject) → slice_get new.objects n ≡ Some object → (slice_get old.objects n ≡ Some object) ⊎ (Has world.universe object.kind × IsIntLength object.length))
      → ((n : ℕ) (object : PicObject) (type : JType) → slice_get new.objects n ≡ Some object → standing ≡ standings.Obj n → type_of_slot world id old.objects origin ≡ Some type → fits world object.kind type ≡ true)
      → IsWellTyped world id new
  binds_typed objects led_fits = record {
    method = typed.method;
    method_is = typed.method_is;
    formed = formed_new;
    seen = λ i x at. declared_still x.0 x.1 (formed_new.seen i x at) (typed.seen i x (ap (λ (all : List (Origin × Seen)). slice_get all i) (sym binds.seen_is) ∙ at));
    receiver = λ instance_method h. typed.receiver instance_method (has_before world params old new number origin standing binds (Arg 0, seens.Null) h);
    universe = λ n object at. elim (objects n object at) [ inl h ↦ typed.universe n object h | inr h ↦ h.0 ];
    objects = λ n object slot type at leads declared. elim (led slot n object at leads) [
      | inl h ↦ typed.objects n object slot type h.0 h.1 (type_before world id old new.objects typed binds.more slot type (leads_seen old slot n h.1) declared)
      | inr h ↦ led_fits n object type at h.1
          (type_before world id old new.objects typed binds.more origin type origin_read (subst (λ (o : Origin). type_of_slot world id new.objects o ≡ Some type) (sym h.0) declared))
    ];
    lengths = λ n object at. elim (objects n object at) [ inl h ↦ typed.lengths n object h | inr h ↦ h.1 ];
  }

-- ---- the choices

module _ (world : World) (id : MethodId) (old : Picture) (number : ℕ) (origin : Origin) (typed : IsWellTyped world id old) (is_open : IsOpenAt world (params_of world typed.method) old number origin) where
  abbrev many : ℕ
  many = params_of world typed.method

  pub binding_typed : (choice : Choice) → IsObjectFor world id old origin choice → IsWellTyped world id (after_access old number choice)
  unfolding after_access
  binding_typed (choices.Alias of) c =
      subst (IsWellTyped world id) (sym (standing_is old number origin standings.Open (standings.Obj of) is_open.open_there))
      (binds_typed world id old (bound_picture old number origin (standings.Obj of)) number origin (standings.Obj of) typed
      (stands_so world many old number origin is_open (standings.Obj of) (slice_get_within old.objects of c.speaks.0 c.speaks.1)) (λ n object at. inl at) led_fits)
    where
      led_fits : (n : ℕ) (object : PicObject) (type : JType) → slice_get old.objects n ≡ Some object → standings.Obj of ≡ standings.Obj n → type_of_slot world id old.objects origin ≡ Some type
          → fits world object.kind type ≡ true
      led_fits n object type at e declared =
          let same : of ≡ n = cc in
          let it : c.of_type.0 ≡ object = same_Some c.of_type.0 object (sym c.of_type.1 ∙ (ap (slice_get old.objects) same ∙ at)) in
          let types : c.type ≡ type = same_Some c.type type (sym c.declared ∙ declared) in
          subst (λ (t : JType). fits world object.kind t ≡ true) types (subst (λ (o : PicObject). fits world o.kind c.type ≡ true) it c.of_type.2)
  binding_typed (choices.Fresh kind len) c =
      subst (IsWellTyped world id) (sym (fresh_is old number origin standings.Open (standings.Obj (length old.objects)) kind len is_open.open_there))
      (binds_typed world id old (bound_picture (with_fresh old origin kind len) number origin (standings.Obj (length old.objects))) number origin (standings.Obj (length old.objects)) typed
      (is_fresh world many old number origin is_open kind len c.speaks) objects led_fits)
    where
      object : PicObject
      object = record { kind = kind; length = len; origin = origin }

      objects : (n : ℕ) (o : PicObject) → slice_get (old.objects ++ object ∷ []) n ≡ Some o → (slice_get old.objects n ≡ Some o) ⊎ (Has world.universe o.kind × IsIntLength o.length)
      objects n o at = elim (get_pushed old.objects object n o at) [
        | inl h ↦ inl h
        | inr h ↦ inr (subst (λ (x : PicObject). Has world.universe x.kind × IsIntLength x.length) h.1 (c.of_type.0, c.of_type.2))
      ]

      led_fits : (n : ℕ) (o : PicObject) (type : JType) → slice_get (old.objects ++ object ∷ []) n ≡ Some o → standings.Obj (length old.objects) ≡ standings.Obj n
          → type_of_slot world id old.objects origin ≡ Some type → fits world o.kind type ≡ true
      led_fits n o type at e declared =
          let same : length old.objects ≡ n = cc in
          let it : object ≡ o = same_Some object o (sym (get_last old.objects object) ∙ (ap (slice_get (old.objects ++ object ∷ [])) same ∙ at)) in
          let types : c.type ≡ type = same_Some c.type type (sym c.declared ∙ declared) in
          subst (λ (t : JType). fits world o.kind t ≡ true) types (subst (λ (x : PicObject). fits world x.kind c.type ≡ true) it c.of_type.1)
  binding_typed choices.Beyond c =
      subst (IsWellTyped world id) (sym (standing_is old number origin standings.Open standings.Beyond is_open.open_there))
      (binds_typed world id old (bound_picture old number origin standings.Beyond) number origin standings.Beyond typed (stands_so world many old number origin is_open standings.Beyond tt)
      (λ n object at. inl at) (λ n object type at e declared. absurd cc))
  binding_typed _ c = absurd c.object
