-- Pictures that grow stay well-formed: they have all that they had, at the same numbers, and what is new stands in its order.
use Rattle.std.proofs.Common.{◌≡◌, ℕ, suc, ◌<◌, ◌≤◌, ◌⊎◌, inl, inr, List, [], ◌∷◌, ◌++◌, length, map, filter_map, take, Some, None, slice_get, refl, sym, ap, subst, ◌∙◌, arith, length-append}
use Rattle.std.proofs.lemmas.List.{map-append, append-nil, take-append-le, take_all}
use Rattle.std.proofs.lemmas.List.Elements.{filter_map-append}
use Rattle.std.proofs.lemmas.Option.{slice_get_cases, slice_get_within, slice_get-map}
use Rattle.std.specs.Option.{option_map}
use Rattle.kb_class.specs.Naming.{Has}
use Rattle.kb_classes.proofs.Places.{get_kept, get_last, get_pushed}
use Rattle.kb_classes.specs.World.{World}
use Rattle.kb_names.specs.declared.types.ExactType.{ExactType}
use Rattle.kb_semantics.specs.Looks.{numbers_below}
use Rattle.kb_picture.specs.declared.choice.Choice.{Choice}
use Rattle.kb_picture.specs.declared.choice.Choice.TheVariants as choices
use Rattle.kb_picture.specs.declared.picture.Length.{Length}
use Rattle.kb_picture.specs.declared.picture.Origin.{Origin}
use Rattle.kb_picture.specs.declared.picture.Origin.TheVariants.{Arg, Field, Element}
use Rattle.kb_picture.specs.declared.picture.PicLoc.{PicLoc}
use Rattle.kb_picture.specs.declared.picture.PicObject.{PicObject}
use Rattle.kb_picture.specs.declared.picture.Picture.{Picture}
use Rattle.kb_picture.specs.declared.picture.Seen.{Seen}
use Rattle.kb_picture.specs.declared.picture.Seen.TheVariants as seens
use Rattle.kb_picture.specs.declared.picture.Standing.{Standing}
use Rattle.kb_picture.specs.declared.picture.Standing.TheVariants as standings
use Rattle.kb_picture.specs.Growing.{IsUnread, IsChoiceIn}
use Rattle.kb_picture.specs.Growth.{after_read, after_int_read, with_open_loc, with_fresh}
use Rattle.kb_picture.specs.Laws.{with_seen}
use Rattle.kb_picture.specs.WellFormed.{IsPicture, IsSlot, IsSeenAs, IsStanding, LeadsTo, IsLengthOf, slots_seen, variable_seen, variables_seen, location_seen, locations_seen}

-- ---- more of everything

-- the second list has all that the first one has, at the same places
abbrev pub IsFrontOf : {A : Type 0} → List A → List A → Type 0
IsFrontOf {A} old new = (i : ℕ) (x : A) → slice_get old i ≡ Some x → slice_get new i ≡ Some x

pub same_front : {A : Type 0} (xs : List A) → IsFrontOf xs xs
same_front xs i x at = at

pub longer_front : {A : Type 0} (xs : List A) (y : A) → IsFrontOf xs (xs ++ y ∷ [])
longer_front xs y i x at = get_kept xs y i x at

pub inside_more : {A : Type 0} (old new : List A) (n : ℕ) → IsFrontOf old new → n < length old → n < length new
inside_more old new n more l = elim (slice_get_cases old n).1 [
  | inl h ↦ slice_get_within new n h.0 (more n h.0 h.2)
  | inr h ↦ absurd (omega (arith, l, h.0))
]

-- an item below the length is there
pub item_there : {A : Type 0} (xs : List A) (i : ℕ) → i < length xs → (x : A) × (slice_get xs i ≡ Some x)
item_there xs i inside = elim (slice_get_cases xs i).1 [ inl h ↦ (h.0, h.2) | inr h ↦ absurd (omega (arith, inside, h.0)) ]

pub has_more : {A : Type 0} (old new : List A) (x : A) → IsFrontOf old new → Has old x → Has new x
has_more old new x more h = (h.0, more h.0 x h.1)

-- the second picture has all that the first one has, at the same numbers
pub record Extends (old new : Picture) : Type 0 where
  pub seen : IsFrontOf old.seen new.seen
  pub locs : IsFrontOf old.locs new.locs
  pub objects : IsFrontOf old.objects new.objects

pub slot_more : (world : World) (params : ℕ) (old new : List PicObject) (slot : Origin) → IsFrontOf old new → IsSlot world params old slot → IsSlot world params new slot
slot_more world params old new (Arg number) more s = s
slot_more world params old new (Field number slot) more s = (s.0, more number s.0 s.1, s.2)
slot_more world params old new (Element number index) more s = (s.0, more number s.0 s.1, s.2)

pub leads_more : (old new : Picture) (slot : Origin) (number : ℕ) → Extends old new → LeadsTo old slot number → LeadsTo new slot number
leads_more old new slot number more leads = elim leads [
  | inl a ↦ inl (has_more old.seen new.seen (slot, seens.Obj number) more.seen a)
  | inr b ↦ inr (record {
    loc = b.loc;
    seen = has_more old.seen new.seen (slot, seens.Loc b.loc) more.seen b.seen;
    standing = more.locs b.loc (record { origin = slot; standing = standings.Obj number }) b.standing;
  })
]

pub seen_as_more : (old new : Picture) (seen : Seen) → Extends old new → IsSeenAs old seen → IsSeenAs new seen
seen_as_more old new (seens.Int number) more s = tt
seen_as_more old new seens.Null more s = tt
seen_as_more old new (seens.Loc number) more s = inside_more old.locs new.locs number more.locs s
seen_as_more old new (seens.Obj number) more s = inside_more old.objects new.objects number more.objects s
seen_as_more old new seens.Beyond more s = tt

standing_more : (old new : Picture) (standing : Standing) → Extends old new → IsStanding old standing → IsStanding new standing
standing_more old new standings.Open more s = tt
standing_more old new standings.Beyond more s = tt
standing_more old new (standings.Obj number) more s = inside_more old.objects new.objects number more.objects s

-- ---- one more slot

-- The new picture has one slot more that is seen, and maybe a location or an object that it leads to.
pub record GrowsBy (world : World) (params : ℕ) (old new : Picture) (slot : Origin) (how : Seen) : Type 0 where
  pub more : Extends old new
  pub seen_is : new.seen ≡ old.seen ++ (slot, how) ∷ []
  pub seen_as : IsSeenAs new how
  pub variables : variables_seen new ≡ numbers_below (length (variables_seen new))
  pub locations : locations_seen new ≡ numbers_below (length new.locs)
  pub locs : (number : ℕ) (loc : PicLoc) → slice_get new.locs number ≡ Some loc
      → (slice_get old.locs number ≡ Some loc) ⊎ (Has new.seen (loc.origin, seens.Loc number) × IsStanding new loc.standing)
  pub fronts : (number : ℕ) → number ≤ length old.objects → take number new.objects ≡ take number old.objects
  pub objects : (number : ℕ) (object : PicObject) → slice_get new.objects number ≡ Some object
      → (slice_get old.objects number ≡ Some object)
      ⊎ (IsSlot world params (take number new.objects) object.origin × LeadsTo new object.origin number × IsLengthOf object.kind object.length)

abbrev origin_seen : Origin × Seen → Origin
origin_seen x = x.0

pub slots_grown : (old new : Picture) (slot : Origin) (how : Seen) → new.seen ≡ old.seen ++ (slot, how) ∷ [] → slots_seen new ≡ slots_seen old ++ slot ∷ []
slots_grown old new slot how is = ap (map origin_seen) is ∙ map-append origin_seen old.seen ((slot, how) ∷ [])

-- a slot that leads somewhere was read
pub leads_seen : (picture : Picture) (slot : Origin) (number : ℕ) → LeadsTo picture slot number → Has (slots_seen picture) slot
leads_seen picture slot number leads = elim leads [
  | inl a ↦ read (seens.Obj number) a
  | inr b ↦ read (seens.Loc b.loc) b.seen
]
  where
    read : (seen : Seen) → Has picture.seen (slot, seen) → Has (slots_seen picture) slot
    read seen h = (h.0, slice_get-map origin_seen picture.seen h.0 ∙ ap (option_map origin_seen) h.1)

module _ (world : World) (params : ℕ) (old new : Picture) (slot : Origin) (how : Seen) (grows : GrowsBy world params old new slot how) (unread : IsUnread world params old slot) where
  slots : (i : ℕ) (of : Origin) → slice_get (slots_seen new) i ≡ Some of → IsSlot world params new.objects of
  slots i of at = elim (get_pushed (slots_seen old) slot i of (ap (λ (seen : List Origin). slice_get seen i) (sym is) ∙ at)) [
    | inl h ↦ slot_more world params old.objects new.objects of grows.more.objects (unread.formed.slots i of h)
    | inr h ↦ subst (IsSlot world params new.objects) h.1 (slot_more world params old.objects new.objects slot grows.more.objects unread.there)
  ]
    where
      is : slots_seen new ≡ slots_seen old ++ slot ∷ []
      is = slots_grown old new slot how grows.seen_is

  once : (i j : ℕ) (of : Origin) → slice_get (slots_seen new) i ≡ Some of → slice_get (slots_seen new) j ≡ Some of → i ≡ j
  once i j of one other =
      go (get_pushed (slots_seen old) slot i of (ap (λ (seen : List Origin). slice_get seen i) (sym is) ∙ one))
      (get_pushed (slots_seen old) slot j of (ap (λ (seen : List Origin). slice_get seen j) (sym is) ∙ other))
    where
      is : slots_seen new ≡ slots_seen old ++ slot ∷ []
      is = slots_grown old new slot how grows.seen_is

      read : (k : ℕ) → slice_get (slots_seen old) k ≡ Some of → slot ≡ of → ⊥
      read k at same = unread.unread (k, at ∙ ap (λ (o : Origin). Some o) (sym same))

      go : (slice_get (slots_seen old) i ≡ Some of) ⊎ ((i ≡ length (slots_seen old)) × (slot ≡ of))
          → (slice_get (slots_seen old) j ≡ Some of) ⊎ ((j ≡ length (slots_seen old)) × (slot ≡ of)) → i ≡ j
      go (inl a) (inl b) = unread.formed.once i j of a b
      go (inl a) (inr b) = absurd (read i a b.1)
      go (inr a) (inl b) = absurd (read j b a.1)
      go (inr a) (inr b) = a.0 ∙ sym b.0

  seen : (i : ℕ) (x : Origin × Seen) → slice_get new.seen i ≡ Some x → IsSeenAs new x.1
  seen i x at = elim (get_pushed old.seen (slot, how) i x (ap (λ (xs : List (Origin × Seen)). slice_get xs i) (sym grows.seen_is) ∙ at)) [
    | inl h ↦ seen_as_more old new x.1 grows.more (unread.formed.seen i x h)
    | inr h ↦ subst (λ (y : Origin × Seen). IsSeenAs new y.1) h.1 grows.seen_as
  ]

  locs : (number : ℕ) (loc : PicLoc) → slice_get new.locs number ≡ Some loc → Has new.seen (loc.origin, seens.Loc number) × IsStanding new loc.standing
  locs number loc at = elim (grows.locs number loc at) [
    | inl h ↦ earlier (unread.formed.locs number loc h)
    | inr h ↦ h
  ]
    where
      earlier : Has old.seen (loc.origin, seens.Loc number) × IsStanding old loc.standing → Has new.seen (loc.origin, seens.Loc number) × IsStanding new loc.standing
      earlier h = (has_more old.seen new.seen (loc.origin, seens.Loc number) grows.more.seen h.0, standing_more old new loc.standing grows.more h.1)

  origins : (number : ℕ) (object : PicObject) → slice_get new.objects number ≡ Some object
      → IsSlot world params (take number new.objects) object.origin × LeadsTo new object.origin number
  origins number object at = elim (grows.objects number object at) [
    | inl h ↦ earlier h (unread.formed.origins number object h)
    | inr h ↦ (h.0, h.1)
  ]
    where
      earlier : slice_get old.objects number ≡ Some object → IsSlot world params (take number old.objects) object.origin × LeadsTo old object.origin number
          → IsSlot world params (take number new.objects) object.origin × LeadsTo new object.origin number
      earlier h before =
          let within : number < length old.objects = slice_get_within old.objects number object h in
          let front : take number new.objects ≡ take number old.objects = grows.fronts number (omega (arith, within)) in (
            subst (λ (objects : List PicObject). IsSlot world params objects object.origin) (sym front) before.0,
            leads_more old new object.origin number grows.more before.1,
          )

  lengths : (number : ℕ) (object : PicObject) → slice_get new.objects number ≡ Some object → IsLengthOf object.kind object.length
  lengths number object at = elim (grows.objects number object at) [
    | inl h ↦ unread.formed.lengths number object h
    | inr h ↦ h.2
  ]

  pub grown_formed : IsPicture world params new
  grown_formed = record {
    slots = slots;
    once = once;
    seen = seen;
    variables = grows.variables;
    locations = grows.locations;
    locs = locs;
    origins = origins;
    lengths = lengths;
  }

-- ---- variables and locations

kept_variables : (seen : List (Origin × Seen)) (slot : Origin) (how : Seen) → variable_seen how ≡ None
    → filter_map (λ (x : Origin × Seen). variable_seen x.1) (seen ++ (slot, how) ∷ []) ≡ filter_map (λ (x : Origin × Seen). variable_seen x.1) seen
kept_variables seen slot how none =
    filter_map-append (λ (x : Origin × Seen). variable_seen x.1) seen ((slot, how) ∷ [])
    ∙ rw none (append-nil (filter_map (λ (x : Origin × Seen). variable_seen x.1) seen))

kept_locations : (seen : List (Origin × Seen)) (slot : Origin) (how : Seen) → location_seen how ≡ None
    → filter_map (λ (x : Origin × Seen). location_seen x.1) (seen ++ (slot, how) ∷ []) ≡ filter_map (λ (x : Origin × Seen). location_seen x.1) seen
kept_locations seen slot how none =
    filter_map-append (λ (x : Origin × Seen). location_seen x.1) seen ((slot, how) ∷ [])
    ∙ rw none (append-nil (filter_map (λ (x : Origin × Seen). location_seen x.1) seen))

-- the numbers below one more
next_numbers : (numbers : List ℕ) (count : ℕ) → numbers ≡ numbers_below count → numbers ++ count ∷ [] ≡ numbers_below (suc count)
next_numbers numbers count is = ap (λ (ns : List ℕ). ns ++ count ∷ []) is

numbered : (numbers : List ℕ) → numbers ≡ numbers_below (length numbers) → numbers ++ length numbers ∷ [] ≡ numbers_below (length (numbers ++ length numbers ∷ []))
numbered numbers is =
    let longer : length (numbers ++ length numbers ∷ []) ≡ suc (length numbers) = omega (arith, length-append numbers (length numbers ∷ [])) in
    next_numbers numbers (length numbers) is ∙ ap numbers_below (sym longer)

-- ---- each way to grow

module _ (world : World) (params : ℕ) (old : Picture) (slot : Origin) (unread : IsUnread world params old slot) where
  abbrev seen_more : Seen → Picture
  seen_more how = with_seen old (slot, how)

  seen_extends : (how : Seen) → Extends old (seen_more how)
  seen_extends how = record { seen = longer_front old.seen (slot, how); locs = same_front old.locs; objects = same_front old.objects }

  -- a slot that is seen as nothing new
  pub by_seen : (how : Seen) → variable_seen how ≡ None → location_seen how ≡ None → IsSeenAs old how → GrowsBy world params old (seen_more how) slot how
  by_seen how variable location seen_ok = record {
    more = seen_extends how;
    seen_is = refl;
    seen_as = seen_as_more old (seen_more how) how (seen_extends how) seen_ok;
    variables = rw (kept_variables old.seen slot how variable) unread.formed.variables;
    locations = rw (kept_locations old.seen slot how location) unread.formed.locations;
    locs = λ number loc at. inl at;
    fronts = λ number within. refl;
    objects = λ number object at. inl at;
  }

  pub by_int : GrowsBy world params old (after_int_read old slot) slot (seens.Int (length (variables_seen old)))
  unfolding after_int_read
  by_int = record {
    more = seen_extends (seens.Int (length (variables_seen old)));
    seen_is = refl;
    seen_as = tt;
    variables = rw (filter_map-append (λ (x : Origin × Seen). variable_seen x.1) old.seen ((slot, seens.Int (length (variables_seen old))) ∷ [])) (numbered (variables_seen old) unread.formed.variables);
    locations = rw (kept_locations old.seen slot (seens.Int (length (variables_seen old))) refl) unread.formed.locations;
    locs = λ number loc at. inl at;
    fronts = λ number within. refl;
    objects = λ number object at. inl at;
  }

  -- a new location
  abbrev open_loc : PicLoc
  open_loc = record { origin = slot; standing = standings.Open }

  pub by_location : GrowsBy world params old (with_seen (with_open_loc old slot) (slot, seens.Loc (length old.locs))) slot (seens.Loc (length old.locs))
  by_location = record {
    more = record { seen = longer_front old.seen (slot, how); locs = longer_front old.locs open_loc; objects = same_front old.objects };
    seen_is = refl;
    seen_as = slice_get_within (old.locs ++ open_loc ∷ []) (length old.locs) open_loc (get_last old.locs open_loc);
    variables = rw (kept_variables old.seen slot how refl) unread.formed.variables;
    locations = locations;
    locs = λ number loc at. elim (get_pushed old.locs open_loc number loc at) [ inl h ↦ inl h | inr h ↦ inr (last number loc h.0 h.1) ];
    fronts = λ number within. refl;
    objects = λ number object at. inl at;
  }
    where
      how : Seen
      how = seens.Loc (length old.locs)

      new : Picture
      new = with_seen (with_open_loc old slot) (slot, how)

      locations : locations_seen new ≡ numbers_below (length (old.locs ++ open_loc ∷ []))
      locations =
          let longer : length (old.locs ++ open_loc ∷ []) ≡ suc (length old.locs) = omega (arith, length-append old.locs (open_loc ∷ [])) in
          filter_map-append (λ (x : Origin × Seen). location_seen x.1) old.seen ((slot, how) ∷ [])
          ∙ next_numbers (locations_seen old) (length old.locs) unread.formed.locations ∙ ap numbers_below (sym longer)

      last : (number : ℕ) (loc : PicLoc) → number ≡ length old.locs → open_loc ≡ loc → Has new.seen (loc.origin, seens.Loc number) × IsStanding new loc.standing
      last number loc end same =
          subst (λ (l : PicLoc). Has new.seen (l.origin, seens.Loc number) × IsStanding new l.standing) same
          (subst (λ (n : ℕ). Has new.seen (slot, seens.Loc n)) (sym end) (length old.seen, get_last old.seen (slot, how)), tt)

  -- a new object
  pub by_fresh : (kind : ExactType) (len : Length) → IsLengthOf kind len
      → GrowsBy world params old (with_seen (with_fresh old slot kind len) (slot, seens.Obj (length old.objects))) slot (seens.Obj (length old.objects))
  by_fresh kind len fits = record {
    more = record { seen = longer_front old.seen (slot, how); locs = same_front old.locs; objects = longer_front old.objects object };
    seen_is = refl;
    seen_as = slice_get_within (old.objects ++ object ∷ []) (length old.objects) object (get_last old.objects object);
    variables = rw (kept_variables old.seen slot how refl) unread.formed.variables;
    locations = rw (kept_locations old.seen slot how refl) unread.formed.locations;
    locs = λ number loc at. inl at;
    fronts = λ number within. take-append-le number old.objects (object ∷ []) within;
    objects = λ number other at. elim (get_pushed old.objects object number other at) [ inl h ↦ inl h | inr h ↦ inr (last number other h.0 h.1) ];
  }
    where
      how : Seen
      how = seens.Obj (length old.objects)

      object : PicObject
      object = record { kind = kind; length = len; origin = slot }

      new : Picture
      new = with_seen (with_fresh old slot kind len) (slot, how)

      last : (number : ℕ) (other : PicObject) → number ≡ length old.objects → object ≡ other
          → IsSlot world params (take number new.objects) other.origin × LeadsTo new other.origin number × IsLengthOf other.kind other.length
      last number other end same =
          let front : take number (old.objects ++ object ∷ []) ≡ old.objects =
          take-append-le number old.objects (object ∷ []) (omega (arith, end)) ∙ take_all number old.objects (omega (arith, end)) in
          subst (λ (o : PicObject). IsSlot world params (take number new.objects) o.origin × LeadsTo new o.origin number × IsLengthOf o.kind o.length) same (
            subst (λ (objects : List PicObject). IsSlot world params objects slot) (sym front) unread.there,
            inl (subst (λ (n : ℕ). Has new.seen (slot, seens.Obj n)) (sym end) (length old.seen, get_last old.seen (slot, how))),
            fits,
          )

pub int_formed : (world : World) (params : ℕ) (picture : Picture) (slot : Origin) → IsUnread world params picture slot → IsPicture world params (after_int_read picture slot)
int_formed world params picture slot unread =
    grown_formed world params picture (after_int_read picture slot) slot (seens.Int (length (variables_seen picture))) (by_int world params picture slot unread) unread

pub choice_formed : (world : World) (params : ℕ) (picture : Picture) (slot : Origin) (choice : Choice) → IsUnread world params picture slot → IsChoiceIn picture choice
    → IsPicture world params (after_read picture slot choice)
unfolding after_read
choice_formed world params picture slot choices.Null unread speaks =
    grown_formed world params picture (with_seen picture (slot, seens.Null)) slot seens.Null (by_seen world params picture slot unread seens.Null refl refl tt) unread
choice_formed world params picture slot choices.Location unread speaks =
    grown_formed world params picture (with_seen (with_open_loc picture slot) (slot, seens.Loc (length picture.locs))) slot (seens.Loc (length picture.locs))
    (by_location world params picture slot unread) unread
choice_formed world params picture slot (choices.Alias number) unread speaks =
    grown_formed world params picture (with_seen picture (slot, seens.Obj number)) slot (seens.Obj number)
    (by_seen world params picture slot unread (seens.Obj number) refl refl (slice_get_within picture.objects number speaks.0 speaks.1)) unread
choice_formed world params picture slot (choices.Fresh kind len) unread speaks =
    grown_formed world params picture (with_seen (with_fresh picture slot kind len) (slot, seens.Obj (length picture.objects))) slot (seens.Obj (length picture.objects))
    (by_fresh world params picture slot unread kind len speaks) unread
choice_formed world params picture slot choices.Beyond unread speaks =
    grown_formed world params picture (with_seen picture (slot, seens.Beyond)) slot seens.Beyond (by_seen world params picture slot unread seens.Beyond refl refl tt) unread
choice_formed world params picture slot _ unread speaks = absurd speaks
