-- Pictures that grow keep the types of the method and of the world.
use Rattle.std.proofs.Common.{◌≡◌, ℕ, ◌<◌, ◌⊎◌, inl, inr, true, false, List, length, Option, Some, None, slice_get, refl, sym, ap, subst, ◌∙◌, arith, option_map, option_and_then}
use Rattle.std.proofs.lemmas.Option.{same_Some, slice_get_cases, slice_get_within, slice_get-map}
use Rattle.kb_class.specs.Naming.{Has}
use Rattle.kb_class.specs.declared.ids.MethodId.{MethodId}
use Rattle.kb_class.specs.Members.{is_static}
use Rattle.kb_classes.proofs.Places.{get_kept, get_last, get_pushed}
use Rattle.kb_classes.specs.Subtypes.{fits}
use Rattle.kb_classes.specs.World.{World}
use Rattle.kb_names.specs.declared.types.ExactType.{ExactType}
use Rattle.kb_names.specs.declared.types.JType.{JType}
use Rattle.kb_picture.proofs.GrownPictures.{IsFrontOf, Extends, GrowsBy, grown_formed, by_seen, by_int, by_location, by_fresh, leads_seen}
use Rattle.kb_picture.proofs.ReceiverLaws.{first_is_receiver}
use Rattle.kb_picture.specs.declared.choice.Choice.{Choice}
use Rattle.kb_picture.specs.declared.choice.Choice.TheVariants as choices
use Rattle.kb_picture.specs.declared.picture.Length.{Length}
use Rattle.kb_picture.specs.declared.picture.Origin.{Origin}
use Rattle.kb_picture.specs.declared.picture.Origin.TheVariants.{Arg, Field, Element}
use Rattle.kb_picture.specs.declared.picture.PicLoc.{PicLoc}
use Rattle.kb_picture.specs.declared.picture.PicObject.{PicObject}
use Rattle.kb_picture.specs.declared.picture.Picture.{Picture}
use Rattle.kb_picture.specs.declared.picture.Seen.{Seen}
use Rattle.kb_picture.specs.declared.picture.Seen.TheVariants as seens
use Rattle.kb_picture.specs.declared.picture.Standing.TheVariants as standings
use Rattle.kb_picture.specs.Growing.{IsUnread, IsReceiver, IsChoiceFor, HoldsInt, params_of}
use Rattle.kb_picture.specs.Growth.{after_read, after_int_read, with_open_loc, with_fresh}
use Rattle.kb_picture.specs.Laws.{with_seen}
use Rattle.kb_picture.specs.Queries.{type_of_slot, slot_of_class, component_of}
use Rattle.kb_picture.specs.WellFormed.{LeadsTo, IsBound, slots_seen, variables_seen}
use Rattle.kb_picture.specs.WellTyped.{IsWellTyped, SeenFits, SeenFitsDeclared, LocFits, IsIntLength}

-- a slot that has a type keeps it
pub type_more : (world : World) (id : MethodId) (old new : List PicObject) (slot : Origin) (type : JType) → IsFrontOf old new
    → type_of_slot world id old slot ≡ Some type → type_of_slot world id new slot ≡ Some type
type_more world id old new (Arg number) type more e = e
type_more world id old new (Field object slot) type more e = go (slice_get old object) refl e
  where
    go : (found : Option PicObject) → slice_get old object ≡ found → option_and_then (λ (o : PicObject). slot_of_class world slot o.kind) found ≡ Some type
        → option_and_then (λ (o : PicObject). slot_of_class world slot o.kind) (slice_get new object) ≡ Some type
    go None at f = absurd cc
    go (Some o) at f = ap (option_and_then (λ (o : PicObject). slot_of_class world slot o.kind)) (more object o at) ∙ f
type_more world id old new (Element array index) type more e = go (slice_get old array) refl e
  where
    go : (found : Option PicObject) → slice_get old array ≡ found → option_and_then (λ (o : PicObject). component_of o.kind) found ≡ Some type
        → option_and_then (λ (o : PicObject). component_of o.kind) (slice_get new array) ≡ Some type
    go None at f = absurd cc
    go (Some o) at f = ap (option_and_then (λ (o : PicObject). component_of o.kind)) (more array o at) ∙ f

loc_more : (world : World) (type : JType) (old new : List PicLoc) (number : ℕ) → IsFrontOf old new → LocFits world type (slice_get old number) → LocFits world type (slice_get new number)
loc_more world type old new number more h = go (slice_get old number) refl h
  where
    go : (found : Option PicLoc) → slice_get old number ≡ found → LocFits world type found → LocFits world type (slice_get new number)
    go None at f = absurd f
    go (Some loc) at f = subst (LocFits world type) (sym (more number loc at)) f

seen_fits_more : (world : World) (old new : Picture) (type : JType) (seen : Seen) → Extends old new → SeenFits world old type seen → SeenFits world new type seen
seen_fits_more world old new type (seens.Int number) more h = h
seen_fits_more world old new type seens.Null more h = h
seen_fits_more world old new type (seens.Loc number) more h = (h.0, loc_more world type old.locs new.locs number more.locs h.1)
seen_fits_more world old new type (seens.Obj number) more h = h
seen_fits_more world old new type seens.Beyond more h = h

declared_more : (world : World) (id : MethodId) (old new : Picture) (slot : Origin) (seen : Seen) → Extends old new
    → SeenFitsDeclared world old (type_of_slot world id old.objects slot) seen → SeenFitsDeclared world new (type_of_slot world id new.objects slot) seen
declared_more world id old new slot seen more h = go (type_of_slot world id old.objects slot) refl h
  where
    go : (type : Option JType) → type_of_slot world id old.objects slot ≡ type → SeenFitsDeclared world old type seen → SeenFitsDeclared world new (type_of_slot world id new.objects slot) seen
    go None at f = absurd f
    go (Some type) at f = subst (λ (t : Option JType). SeenFitsDeclared world new t seen) (sym (type_more world id old.objects new.objects slot type more.objects at)) (seen_fits_more world old new type seen more f)

-- an object that was there is the one that is there
pub object_before : (old new : List PicObject) (number : ℕ) (object : PicObject) → IsFrontOf old new → number < length old → slice_get new number ≡ Some object → slice_get old number ≡ Some object
object_before old new number object more inside at = elim (slice_get_cases old number).1 [
  | inl h ↦
      let same : Some h.0 ≡ Some object = sym (more number h.0 h.2) ∙ at in
      h.2 ∙ same
  | inr h ↦ absurd (omega (arith, inside, h.0))
]

-- a slot that was read has the type that it had
module _ (world : World) (id : MethodId) (old : Picture) (objects : List PicObject) (typed : IsWellTyped world id old) (more : IsFrontOf old.objects objects) where
  typed_slot : (of : Origin) → Has (slots_seen old) of → (t : JType) × (type_of_slot world id old.objects of ≡ Some t)
  typed_slot of h = from (slice_get old.seen h.0) refl (sym (slice_get-map (λ (x : Origin × Seen). x.0) old.seen h.0) ∙ h.1)
    where
      is_some_type : (x : Origin × Seen) (t : Option JType) → type_of_slot world id old.objects x.0 ≡ t → SeenFitsDeclared world old t x.1 → (u : JType) × (type_of_slot world id old.objects x.0 ≡ Some u)
      is_some_type x None there g = absurd g
      is_some_type x (Some u) there g = (u, there)

      from : (x : Option (Origin × Seen)) → slice_get old.seen h.0 ≡ x → option_map (λ (y : Origin × Seen). y.0) x ≡ Some of → (t : JType) × (type_of_slot world id old.objects of ≡ Some t)
      from None at f = absurd cc
      from (Some x) at f =
          let same : x.0 ≡ of = cc in
          subst (λ (o : Origin). (t : JType) × (type_of_slot world id old.objects o ≡ Some t)) same (is_some_type x (type_of_slot world id old.objects x.0) refl (typed.seen h.0 x at))

  pub type_before : (of : Origin) (type : JType) → Has (slots_seen old) of → type_of_slot world id objects of ≡ Some type → type_of_slot world id old.objects of ≡ Some type
  type_before of type read e =
      let u = typed_slot of read in
      u.1 ∙ sym (type_more world id old.objects objects of u.0 more u.1) ∙ e

module _ (world : World) (id : MethodId) (old new : Picture) (slot : Origin) (how : Seen) (typed : IsWellTyped world id old)
    (unread : IsUnread world (params_of world typed.method) old slot) (grows : GrowsBy world (params_of world typed.method) old new slot how)
    (opens : (number : ℕ) (loc : PicLoc) → slice_get new.locs number ≡ Some loc → (slice_get old.locs number ≡ Some loc) ⊎ (loc.standing ≡ standings.Open)) where
  old_object : (number : ℕ) (object : PicObject) → number < length old.objects → slice_get new.objects number ≡ Some object → slice_get old.objects number ≡ Some object
  old_object number object inside at = object_before old.objects new.objects number object grows.more.objects inside at

  -- a slot that leads to an object led there, or it is the new one
  abbrev LedBefore : Origin → ℕ → PicObject → Type 0
  LedBefore of number object = ((slice_get old.objects number ≡ Some object) × LeadsTo old of number) ⊎ ((slot ≡ of) × (how ≡ seens.Obj number))

  by_seen_object : (of : Origin) (number : ℕ) (object : PicObject) → slice_get new.objects number ≡ Some object → Has new.seen (of, seens.Obj number) → LedBefore of number object
  by_seen_object of number object at h =
      elim (get_pushed old.seen (slot, how) h.0 (of, seens.Obj number) (ap (λ (xs : List (Origin × Seen)). slice_get xs h.0) (sym grows.seen_is) ∙ h.1)) [
        | inl a ↦ inl (old_object number object (unread.formed.seen h.0 (of, seens.Obj number) a) at, inl (h.0, a))
        | inr b ↦ inr (ap (λ (x : Origin × Seen). x.0) b.1, ap (λ (x : Origin × Seen). x.1) b.1)
      ]

  by_bound_loc : (of : Origin) (number : ℕ) (object : PicObject) → slice_get new.objects number ≡ Some object → IsBound new of number → LedBefore of number object
  by_bound_loc of number object at b = elim (opens b.loc (record { origin = of; standing = standings.Obj number }) b.standing) [
    | inl a ↦
        let before = unread.formed.locs b.loc (record { origin = of; standing = standings.Obj number }) a in
        inl (old_object number object before.1 at, inr (record { loc = b.loc; seen = before.0; standing = a }))
    | inr a ↦ absurd cc
  ]

  led : (of : Origin) (number : ℕ) (object : PicObject) → slice_get new.objects number ≡ Some object → LeadsTo new of number → LedBefore of number object
  led of number object at leads = elim leads [
    | inl a ↦ by_seen_object of number object at a
    | inr b ↦ by_bound_loc of number object at b
  ]

  pub grown_typed : SeenFitsDeclared world new (type_of_slot world id new.objects slot) how
      → (IsReceiver world id slot → how ≡ seens.Null → ⊥)
      → ((number : ℕ) (object : PicObject) → slice_get new.objects number ≡ Some object → (slice_get old.objects number ≡ Some object) ⊎ (Has world.universe object.kind × IsIntLength object.length))
      → ((number : ℕ) (object : PicObject) (type : JType) → slice_get new.objects number ≡ Some object → how ≡ seens.Obj number → type_of_slot world id new.objects slot ≡ Some type → fits world object.kind type ≡ true)
      → IsWellTyped world id new
  grown_typed fits_seen not_null objects led_fits = record {
    method = typed.method;
    method_is = typed.method_is;
    formed = grown_formed world (params_of world typed.method) old new slot how grows unread;
    seen = λ i x at. seen_at i x at;
    receiver = λ instance_method h. not_null_there instance_method h;
    universe = λ number object at. elim (objects number object at) [ inl h ↦ typed.universe number object h | inr h ↦ h.0 ];
    objects = λ number object of type at leads declared. elim (led of number object at leads) [
      | inl h ↦ typed.objects number object of type h.0 h.1 (type_before world id old new.objects typed grows.more.objects of type (leads_seen old of number h.1) declared)
      | inr h ↦ led_fits number object type at h.1 (subst (λ (o : Origin). type_of_slot world id new.objects o ≡ Some type) (sym h.0) declared)
    ];
    lengths = λ number object at. elim (objects number object at) [ inl h ↦ typed.lengths number object h | inr h ↦ h.1 ];
  }
    where
      seen_at : (i : ℕ) (x : Origin × Seen) → slice_get new.seen i ≡ Some x → SeenFitsDeclared world new (type_of_slot world id new.objects x.0) x.1
      seen_at i x at = elim (get_pushed old.seen (slot, how) i x (ap (λ (xs : List (Origin × Seen)). slice_get xs i) (sym grows.seen_is) ∙ at)) [
        | inl h ↦ declared_more world id old new x.0 x.1 grows.more (typed.seen i x h)
        | inr h ↦ subst (λ (y : Origin × Seen). SeenFitsDeclared world new (type_of_slot world id new.objects y.0) y.1) h.1 fits_seen
      ]

      not_null_there : is_static typed.method.access ≡ false → Has new.seen (Arg 0, seens.Null) → ⊥
      not_null_there instance_method h =
          elim (get_pushed old.seen (slot, how) h.0 (Arg 0, seens.Null) (ap (λ (xs : List (Origin × Seen)). slice_get xs h.0) (sym grows.seen_is) ∙ h.1)) [
            | inl a ↦ typed.receiver instance_method (h.0, a)
            | inr b ↦ not_null (first_is_receiver world id typed.method typed.method_is instance_method slot (ap (λ (x : Origin × Seen). x.0) b.1)) (ap (λ (x : Origin × Seen). x.1) b.1)
          ]

-- ---- the choices

module _ (world : World) (id : MethodId) (picture : Picture) (slot : Origin) (typed : IsWellTyped world id picture) (unread : IsUnread world (params_of world typed.method) picture slot) where
  abbrev params : ℕ
  params = params_of world typed.method

  abbrev seen_as : Seen → Picture
  seen_as how = with_seen picture (slot, how)

  -- a slot that is seen as nothing new
  typed_seen : (how : Seen) → GrowsBy world params picture (seen_as how) slot how → SeenFitsDeclared world (seen_as how) (type_of_slot world id picture.objects slot) how
      → (IsReceiver world id slot → how ≡ seens.Null → ⊥)
      → ((number : ℕ) (object : PicObject) (type : JType) → slice_get picture.objects number ≡ Some object → how ≡ seens.Obj number → type_of_slot world id picture.objects slot ≡ Some type → fits world object.kind type ≡ true)
      → IsWellTyped world id (seen_as how)
  typed_seen how grows seen_fits receiver led_fits =
      grown_typed world id picture (seen_as how) slot how typed unread grows (λ number loc at. inl at) seen_fits receiver (λ number object at. inl at) led_fits

  -- what the declared type allows
  allowed : (new : Picture) (objects : List PicObject) (how : Seen) (type : JType) → type_of_slot world id objects slot ≡ Some type → SeenFits world new type how
      → SeenFitsDeclared world new (type_of_slot world id objects slot) how
  allowed new objects how type declared h = subst (λ (t : Option JType). SeenFitsDeclared world new t how) (sym declared) h

  pub int_typed : HoldsInt world id picture slot → IsWellTyped world id (after_int_read picture slot)
  unfolding after_int_read
  int_typed holds =
      typed_seen how (by_int world params picture slot unread) (allowed (seen_as how) picture.objects how holds.type holds.declared holds.int)
      (λ r e. absurd cc) (λ number object type at e declared. absurd cc)
    where
      how : Seen
      how = seens.Int (length (variables_seen picture))

  null_typed : IsChoiceFor world id picture slot choices.Null → IsWellTyped world id (seen_as seens.Null)
  null_typed c =
      typed_seen seens.Null (by_seen world params picture slot unread seens.Null refl refl tt) (allowed (seen_as seens.Null) picture.objects seens.Null c.type c.declared c.reference)
      (λ r e. c.receiver r refl) (λ number object type at e declared. absurd cc)

  beyond_typed : IsChoiceFor world id picture slot choices.Beyond → IsWellTyped world id (seen_as seens.Beyond)
  beyond_typed c =
      typed_seen seens.Beyond (by_seen world params picture slot unread seens.Beyond refl refl tt)
      (allowed (seen_as seens.Beyond) picture.objects seens.Beyond c.type c.declared (c.reference, c.of_type))
      (λ r e. absurd cc) (λ number object type at e declared. absurd cc)

  alias_typed : (number : ℕ) → IsChoiceFor world id picture slot (choices.Alias number) → IsWellTyped world id (seen_as (seens.Obj number))
  alias_typed number c =
      typed_seen (seens.Obj number) (by_seen world params picture slot unread (seens.Obj number) refl refl (slice_get_within picture.objects number c.speaks.0 c.speaks.1))
      (allowed (seen_as (seens.Obj number)) picture.objects (seens.Obj number) c.type c.declared c.reference)
      (λ r e. absurd cc) led_fits
    where
      led_fits : (n : ℕ) (object : PicObject) (type : JType) → slice_get picture.objects n ≡ Some object → seens.Obj number ≡ seens.Obj n
          → type_of_slot world id picture.objects slot ≡ Some type → fits world object.kind type ≡ true
      led_fits n object type at e declared =
          let same : number ≡ n = cc in
          let it : c.of_type.0 ≡ object = same_Some c.of_type.0 object (sym c.of_type.1 ∙ ap (slice_get picture.objects) same ∙ at) in
          let types : c.type ≡ type = same_Some c.type type (sym c.declared ∙ declared) in
          subst (λ (t : JType). fits world object.kind t ≡ true) types (subst (λ (o : PicObject). fits world o.kind c.type ≡ true) it c.of_type.2)

  location_typed : IsChoiceFor world id picture slot choices.Location → IsWellTyped world id (with_seen (with_open_loc picture slot) (slot, seens.Loc (length picture.locs)))
  location_typed c =
      grown_typed world id picture new slot how typed unread (by_location world params picture slot unread) opens
      (allowed new picture.objects how c.type c.declared (c.reference, subst (LocFits world c.type) (sym (get_last picture.locs loc)) c.of_type))
      (λ r e. absurd cc) (λ number object at. inl at) (λ number object type at e declared. absurd cc)
    where
      how : Seen
      how = seens.Loc (length picture.locs)

      loc : PicLoc
      loc = record { origin = slot; standing = standings.Open }

      new : Picture
      new = with_seen (with_open_loc picture slot) (slot, how)

      opens : (number : ℕ) (l : PicLoc) → slice_get new.locs number ≡ Some l → (slice_get picture.locs number ≡ Some l) ⊎ (l.standing ≡ standings.Open)
      opens number l at = elim (get_pushed picture.locs loc number l at) [ inl h ↦ inl h | inr h ↦ inr (ap (λ (x : PicLoc). x.standing) (sym h.1)) ]

  fresh_typed : (kind : ExactType) (len : Length) → IsChoiceFor world id picture slot (choices.Fresh kind len)
      → IsWellTyped world id (with_seen (with_fresh picture slot kind len) (slot, seens.Obj (length picture.objects)))
  fresh_typed kind len c =
      grown_typed world id picture new slot how typed unread (by_fresh world params picture slot unread kind len c.speaks) (λ number loc at. inl at)
      (allowed new new.objects how c.type declared c.reference)
      (λ r e. absurd cc) objects led_fits
    where
      how : Seen
      how = seens.Obj (length picture.objects)

      object : PicObject
      object = record { kind = kind; length = len; origin = slot }

      new : Picture
      new = with_seen (with_fresh picture slot kind len) (slot, how)

      declared : type_of_slot world id new.objects slot ≡ Some c.type
      declared = type_more world id picture.objects new.objects slot c.type (λ i x at. get_kept picture.objects object i x at) c.declared

      objects : (number : ℕ) (o : PicObject) → slice_get new.objects number ≡ Some o → (slice_get picture.objects number ≡ Some o) ⊎ (Has world.universe o.kind × IsIntLength o.length)
      objects number o at = elim (get_pushed picture.objects object number o at) [
        | inl h ↦ inl h
        | inr h ↦ inr (subst (λ (x : PicObject). Has world.universe x.kind × IsIntLength x.length) h.1 (c.of_type.0, c.of_type.2))
      ]

      led_fits : (n : ℕ) (o : PicObject) (type : JType) → slice_get new.objects n ≡ Some o → how ≡ seens.Obj n → type_of_slot world id new.objects slot ≡ Some type → fits world o.kind type ≡ true
      led_fits n o type at e declared_so =
          let same : length picture.objects ≡ n = cc in
          let it : object ≡ o = same_Some object o (sym (get_last picture.objects object) ∙ ap (slice_get new.objects) same ∙ at) in
          let types : c.type ≡ type = same_Some c.type type (sym declared ∙ declared_so) in
          subst (λ (t : JType). fits world o.kind t ≡ true) types (subst (λ (x : PicObject). fits world x.kind c.type ≡ true) it c.of_type.1)

  pub choice_typed : (choice : Choice) → IsChoiceFor world id picture slot choice → IsWellTyped world id (after_read picture slot choice)
  unfolding after_read
  choice_typed choices.Null c = null_typed c
  choice_typed choices.Location c = location_typed c
  choice_typed (choices.Alias number) c = alias_typed number c
  choice_typed (choices.Fresh kind len) c = fresh_typed kind len c
  choice_typed choices.Beyond c = beyond_typed c
  choice_typed _ c = absurd c.speaks
