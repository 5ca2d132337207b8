-- Pictures in which it was chosen which object a location is stay well-formed: they see what they saw, and have all objects and
-- all other locations that they had.
use Rattle.std.proofs.Common.{◌≡◌, ℕ, ◌<◌, ◌≤◌, ◌⊎◌, inl, inr, List, [], ◌∷◌, ◌++◌, length, filter_map, map, take, Option, Some, option_map, slice_get, slice_set, refl, sym, ap, subst, ◌∙◌, arith}
use Rattle.std.proofs.lemmas.Bool.Decides.{eqb_tells}
use Rattle.std.proofs.lemmas.List.{append-nil, take-append-le, take_all}
use Rattle.std.proofs.lemmas.Option.{same_Some, slice_get_within, slice_get-map}
use Rattle.std.specs.Option.{option_map_or}
use Rattle.kb_class.proofs.Lists.{set_here, set_other, set_size}
use Rattle.kb_class.specs.Naming.{Has}
use Rattle.kb_classes.proofs.Places.{get_last, get_pushed}
use Rattle.kb_classes.specs.World.{World}
use Rattle.kb_names.specs.declared.types.ExactType.{ExactType}
use Rattle.kb_semantics.specs.Looks.{numbers_below}
use Rattle.kb_picture.proofs.FoundLaws.{found_in_still}
use Rattle.kb_picture.proofs.GrownPictures.{IsFrontOf, inside_more, longer_front, same_front, slot_more}
use Rattle.kb_picture.specs.declared.choice.Choice.{Choice}
use Rattle.kb_picture.specs.declared.choice.Choice.TheVariants as choices
use Rattle.kb_picture.specs.declared.picture.Length.{Length}
use Rattle.kb_picture.specs.declared.picture.Origin.{Origin}
use Rattle.kb_picture.specs.declared.picture.PicLoc.{PicLoc}
use Rattle.kb_picture.specs.declared.picture.PicObject.{PicObject}
use Rattle.kb_picture.specs.declared.picture.Picture.{Picture}
use Rattle.kb_picture.specs.declared.picture.Seen.{Seen}
use Rattle.kb_picture.specs.declared.picture.Seen.TheVariants as seens
use Rattle.kb_picture.specs.declared.picture.Standing.{Standing}
use Rattle.kb_picture.specs.declared.picture.Standing.TheVariants as standings
use Rattle.kb_picture.specs.Accesses.{IsOpenAt}
use Rattle.kb_picture.specs.Finding.{IsFoundIn, IsFoundFirst}
use Rattle.kb_picture.specs.Growing.{IsChoiceIn}
use Rattle.kb_picture.specs.Growth.{after_access, with_fresh, with_fresh_at, with_standing}
use Rattle.kb_picture.specs.WellFormed.{IsPicture, IsSlot, IsSeenAs, IsStanding, LeadsTo, IsLengthOf, slots_seen, variable_seen, variables_seen, location_seen, locations_seen}

-- ---- one item changed

module _ {A : Type 0} (xs : List A) (i k : ℕ) (old new x : A) (at : slice_get xs i ≡ Some old) where
  -- an item is the one that is changed, or it stays
  pub set_kept : slice_get xs k ≡ Some x → ((i ≡ k) × (old ≡ x)) ⊎ (slice_get (slice_set xs i new) k ≡ Some x)
  set_kept there = elim (eqb_tells i k) [
    | inl same ↦ inl (same.1, same_Some old x (sym at ∙ (ap (slice_get xs) same.1 ∙ there)))
    | inr apart ↦ inr (set_other xs i k new apart.1 ∙ there)
  ]

  -- and then it is the new one, or it was there
  pub set_cases : slice_get (slice_set xs i new) k ≡ Some x → ((i ≡ k) × (new ≡ x)) ⊎ (slice_get xs k ≡ Some x)
  set_cases there = elim (eqb_tells i k) [
    | inl same ↦ inl (same.1, same_Some new x (sym (set_here xs i new (slice_get_within xs i old at)) ∙ (ap (slice_get (slice_set xs i new)) same.1 ∙ there)))
    | inr apart ↦ inr (sym (set_other xs i k new apart.1) ∙ there)
  ]

-- ---- a location that stands otherwise

abbrev pub loc_at_slot : Origin → Standing → PicLoc
loc_at_slot origin standing = record { origin = origin; standing = standing }

-- the picture in which the location of that number stands so
abbrev pub bound_picture : Picture → ℕ → Origin → Standing → Picture
bound_picture picture number origin standing = record picture { locs = slice_set picture.locs number (loc_at_slot origin standing) }

pub standing_is : (picture : Picture) (number : ℕ) (origin : Origin) (was standing : Standing) → slice_get picture.locs number ≡ Some (loc_at_slot origin was)
    → with_standing picture number standing ≡ bound_picture picture number origin standing
standing_is picture number origin was standing at =
    ap (λ (o : Option PicLoc). record picture { locs = option_map_or (λ (loc : PicLoc). slice_set picture.locs number (record loc { standing = standing })) o picture.locs }) at

pub fresh_is : (picture : Picture) (number : ℕ) (origin : Origin) (was standing : Standing) (kind : ExactType) (len : Length) → slice_get picture.locs number ≡ Some (loc_at_slot origin was)
    → with_standing (with_fresh_at picture number kind len) number standing ≡ bound_picture (with_fresh picture origin kind len) number origin standing
fresh_is picture number origin was standing kind len at =
    ap (λ (o : Option PicLoc). with_standing (option_map_or (λ (loc : PicLoc). with_fresh picture loc.origin kind len) o picture) number standing) at
    ∙ standing_is (with_fresh picture origin kind len) number origin was standing at

-- The new picture sees what the old one sees, the location of that number, which was open, stands so, and there may be an object
-- more, which it is.
pub record Binds (world : World) (params : ℕ) (old new : Picture) (number : ℕ) (origin : Origin) (standing : Standing) : Type 0 where
  pub was : slice_get old.locs number ≡ Some (loc_at_slot origin standings.Open)
  pub seen_is : new.seen ≡ old.seen
  pub locs_are : new.locs ≡ slice_set old.locs number (loc_at_slot origin standing)
  pub more : IsFrontOf old.objects new.objects
  pub stands : IsStanding new standing
  pub fronts : (n : ℕ) → n ≤ length old.objects → take n new.objects ≡ take n old.objects
  pub objects : (n : ℕ) (object : PicObject) → slice_get new.objects n ≡ Some object
      → (slice_get old.objects n ≡ Some object)
      ⊎ ((standing ≡ standings.Obj n) × (object.origin ≡ origin) × IsSlot world params (take n new.objects) object.origin × IsLengthOf object.kind object.length)

-- a location is what it was, or the one that stands otherwise
module _ (world : World) (params : ℕ) (old new : Picture) (number : ℕ) (origin : Origin) (standing : Standing) (binds : Binds world params old new number origin standing) where
  abbrev bound : PicLoc
  bound = loc_at_slot origin standing

  at_new : (n : ℕ) → slice_get new.locs n ≡ slice_get (slice_set old.locs number bound) n
  at_new n = ap (λ (locs : List PicLoc). slice_get locs n) binds.locs_are

  pub loc_bound : slice_get new.locs number ≡ Some bound
  loc_bound = at_new number ∙ set_here old.locs number bound (slice_get_within old.locs number (loc_at_slot origin standings.Open) binds.was)

  pub loc_kept : (n : ℕ) (loc : PicLoc) → slice_get old.locs n ≡ Some loc → (loc.standing ≡ standings.Open → ⊥) → slice_get new.locs n ≡ Some loc
  loc_kept n loc at closed = elim (set_kept old.locs number n (loc_at_slot origin standings.Open) bound loc binds.was at) [
    | inl h ↦ absurd (closed (ap (λ (l : PicLoc). l.standing) (sym h.1)))
    | inr h ↦ at_new n ∙ h
  ]

  pub loc_cases : (n : ℕ) (loc : PicLoc) → slice_get new.locs n ≡ Some loc → ((number ≡ n) × (bound ≡ loc)) ⊎ (slice_get old.locs n ≡ Some loc)
  loc_cases n loc at = set_cases old.locs number n (loc_at_slot origin standings.Open) bound loc binds.was (sym (at_new n) ∙ at)

  pub as_many_locs : length new.locs ≡ length old.locs
  as_many_locs = ap (λ (locs : List PicLoc). length locs) binds.locs_are ∙ set_size old.locs number bound

  pub has_still : (x : Origin × Seen) → Has old.seen x → Has new.seen x
  has_still x h = (h.0, ap (λ (seen : List (Origin × Seen)). slice_get seen h.0) binds.seen_is ∙ h.1)

  pub has_before : (x : Origin × Seen) → Has new.seen x → Has old.seen x
  has_before x h = (h.0, ap (λ (seen : List (Origin × Seen)). slice_get seen h.0) (sym binds.seen_is) ∙ h.1)

  pub same_slots : slots_seen new ≡ slots_seen old
  same_slots = ap (map (λ (x : Origin × Seen). x.0)) binds.seen_is

  -- what leads to an object leads to it still
  pub leads_bound : (slot : Origin) (n : ℕ) → LeadsTo old slot n → LeadsTo new slot n
  leads_bound slot n leads = elim leads [
    | inl a ↦ inl (has_still (slot, seens.Obj n) a)
    | inr b ↦ inr (record {
      loc = b.loc;
      seen = has_still (slot, seens.Loc b.loc) b.seen;
      standing = loc_kept b.loc (loc_at_slot slot (standings.Obj n)) b.standing (λ e. absurd cc);
    })
  ]

  pub found_bound : IsFoundFirst old → IsFoundFirst new
  found_bound first i slot at =
      subst (λ (seen : List Origin). IsFoundIn new (take i seen) slot) (sym same_slots)
      (found_in_still old new (take i (slots_seen old)) slot leads_bound (first i slot (ap (λ (seen : List Origin). slice_get seen i) (sym same_slots) ∙ at)))

  -- ---- well-formed

  module _ (formed : IsPicture world params old) where
    standing_still : (s : Standing) → IsStanding old s → IsStanding new s
    standing_still standings.Open is = tt
    standing_still standings.Beyond is = tt
    standing_still (standings.Obj n) is = inside_more old.objects new.objects n binds.more is

    seen_still : (seen : Seen) → IsSeenAs old seen → IsSeenAs new seen
    seen_still (seens.Int n) is = tt
    seen_still seens.Null is = tt
    seen_still (seens.Loc n) is = omega (arith, is, as_many_locs)
    seen_still (seens.Obj n) is = inside_more old.objects new.objects n binds.more is
    seen_still seens.Beyond is = tt

    slots : (i : ℕ) (slot : Origin) → slice_get (slots_seen new) i ≡ Some slot → IsSlot world params new.objects slot
    slots i slot at = slot_more world params old.objects new.objects slot binds.more (formed.slots i slot (ap (λ (seen : List Origin). slice_get seen i) (sym same_slots) ∙ at))

    once : (i j : ℕ) (slot : Origin) → slice_get (slots_seen new) i ≡ Some slot → slice_get (slots_seen new) j ≡ Some slot → i ≡ j
    once i j slot one other =
        formed.once i j slot (ap (λ (seen : List Origin). slice_get seen i) (sym same_slots) ∙ one) (ap (λ (seen : List Origin). slice_get seen j) (sym same_slots) ∙ other)

    seen : (i : ℕ) (x : Origin × Seen) → slice_get new.seen i ≡ Some x → IsSeenAs new x.1
    seen i x at = seen_still x.1 (formed.seen i x (ap (λ (all : List (Origin × Seen)). slice_get all i) (sym binds.seen_is) ∙ at))

    variables : variables_seen new ≡ numbers_below (length (variables_seen new))
    variables = subst (λ (all : List (Origin × Seen)). filter_map (λ (x : Origin × Seen). variable_seen x.1) all ≡ numbers_below (length (filter_map (λ (x : Origin × Seen). variable_seen x.1) all)))
        (sym binds.seen_is) formed.variables

    locations : locations_seen new ≡ numbers_below (length new.locs)
    locations = ap (filter_map (λ (x : Origin × Seen). location_seen x.1)) binds.seen_is ∙ (formed.locations ∙ ap numbers_below (sym as_many_locs))

    -- the slot where the location was read
    pub read_there : Has old.seen (origin, seens.Loc number)
    read_there = (formed.locs number (loc_at_slot origin standings.Open) binds.was).0

    locs : (n : ℕ) (loc : PicLoc) → slice_get new.locs n ≡ Some loc → Has new.seen (loc.origin, seens.Loc n) × IsStanding new loc.standing
    locs n loc at = elim (loc_cases n loc at) [
      | inl h ↦ subst (λ (l : PicLoc). Has new.seen (l.origin, seens.Loc n) × IsStanding new l.standing) h.1
          (subst (λ (m : ℕ). Has new.seen (origin, seens.Loc m)) h.0 (has_still (origin, seens.Loc number) read_there), binds.stands)
      | inr h ↦ (has_still (loc.origin, seens.Loc n) (formed.locs n loc h).0, standing_still loc.standing (formed.locs n loc h).1)
    ]

    origins : (n : ℕ) (object : PicObject) → slice_get new.objects n ≡ Some object → IsSlot world params (take n new.objects) object.origin × LeadsTo new object.origin n
    origins n object at = elim (binds.objects n object at) [
      | inl h ↦ earlier h (formed.origins n object h)
      | inr h ↦ (
        h.2,
        subst (λ (o : Origin). LeadsTo new o n) (sym h.1) (inr (record {
          loc = number;
          seen = has_still (origin, seens.Loc number) read_there;
          standing = loc_bound ∙ ap (λ (s : Standing). Some (loc_at_slot origin s)) h.0;
        })),
      )
    ]
      where
        earlier : slice_get old.objects n ≡ Some object → IsSlot world params (take n old.objects) object.origin × LeadsTo old object.origin n
            → IsSlot world params (take n new.objects) object.origin × LeadsTo new object.origin n
        earlier h before =
            let within : n < length old.objects = slice_get_within old.objects n object h in
            let front : take n new.objects ≡ take n old.objects = binds.fronts n (omega (arith, within)) in (
              subst (λ (objects : List PicObject). IsSlot world params objects object.origin) (sym front) before.0,
              leads_bound object.origin n before.1,
            )

    lengths : (n : ℕ) (object : PicObject) → slice_get new.objects n ≡ Some object → IsLengthOf object.kind object.length
    lengths n object at = elim (binds.objects n object at) [ inl h ↦ formed.lengths n object h | inr h ↦ h.3 ]

    pub binds_formed : IsPicture world params new
    binds_formed = record {
      slots = slots;
      once = once;
      seen = seen;
      variables = variables;
      locations = locations;
      locs = locs;
      origins = origins;
      lengths = lengths;
    }

-- ---- each choice

module _ (world : World) (params : ℕ) (old : Picture) (number : ℕ) (origin : Origin) (is_open : IsOpenAt world params old number origin) where
  pub stands_so : (standing : Standing) → IsStanding old standing → Binds world params old (bound_picture old number origin standing) number origin standing
  stands_so standing is = record {
    was = is_open.open_there;
    seen_is = refl;
    locs_are = refl;
    more = same_front old.objects;
    stands = still standing is;
    fronts = λ n within. refl;
    objects = λ n object at. inl at;
  }
    where
      still : (s : Standing) → IsStanding old s → IsStanding (bound_picture old number origin standing) s
      still standings.Open h = tt
      still standings.Beyond h = tt
      still (standings.Obj n) h = h

  pub is_fresh : (kind : ExactType) (len : Length) → IsLengthOf kind len
      → Binds world params old (bound_picture (with_fresh old origin kind len) number origin (standings.Obj (length old.objects))) number origin (standings.Obj (length old.objects))
  is_fresh kind len fit = record {
    was = is_open.open_there;
    seen_is = refl;
    locs_are = refl;
    more = longer_front old.objects object;
    stands = slice_get_within (old.objects ++ object ∷ []) (length old.objects) object (get_last old.objects object);
    fronts = λ n within. take-append-le n old.objects (object ∷ []) within;
    objects = λ n other at. elim (get_pushed old.objects object n other at) [ inl h ↦ inl h | inr h ↦ inr (last n other h.0 h.1) ];
  }
    where
      object : PicObject
      object = record { kind = kind; length = len; origin = origin }

      there : IsSlot world params old.objects origin
      there =
          let read = (is_open.formed.locs number (loc_at_slot origin standings.Open) is_open.open_there).0 in
          is_open.formed.slots read.0 origin (seen_slot old.seen read.0 (origin, seens.Loc number) read.1)
        where
          seen_slot : (seen : List (Origin × Seen)) (i : ℕ) (x : Origin × Seen) → slice_get seen i ≡ Some x → slice_get (map (λ (y : Origin × Seen). y.0) seen) i ≡ Some x.0
          seen_slot seen i x at = slice_get-map (λ (y : Origin × Seen). y.0) seen i ∙ ap (option_map (λ (y : Origin × Seen). y.0)) at

      last : (n : ℕ) (other : PicObject) → n ≡ length old.objects → object ≡ other
          → (standings.Obj (length old.objects) ≡ standings.Obj n) × (other.origin ≡ origin) × IsSlot world params (take n (old.objects ++ object ∷ [])) other.origin × IsLengthOf other.kind other.length
      last n other end same =
          let front : take n (old.objects ++ object ∷ []) ≡ old.objects =
          take-append-le n old.objects (object ∷ []) (omega (arith, end)) ∙ take_all n old.objects (omega (arith, end)) in
          subst (λ (o : PicObject). (standings.Obj (length old.objects) ≡ standings.Obj n) × (o.origin ≡ origin) × IsSlot world params (take n (old.objects ++ object ∷ [])) o.origin × IsLengthOf o.kind o.length) same
          (ap standings.Obj (sym end), refl, subst (λ (objects : List PicObject). IsSlot world params objects origin) (sym front) there, fit)

  -- what holds of each such picture, and of the one that is as it was, holds of the one after a choice
  pub by_binding : (P : Picture → Type 0) → P old
      → ((new : Picture) (standing : Standing) → Binds world params old new number origin standing → P new)
      → (choice : Choice) → IsChoiceIn old choice → P (after_access old number choice)
  unfolding after_access
  by_binding P same each (choices.Alias object) speaks =
      subst P (sym (standing_is old number origin standings.Open (standings.Obj object) is_open.open_there))
      (each (bound_picture old number origin (standings.Obj object)) (standings.Obj object) (stands_so (standings.Obj object) (slice_get_within old.objects object speaks.0 speaks.1)))
  by_binding P same each (choices.Fresh kind len) speaks =
      subst P (sym (fresh_is old number origin standings.Open (standings.Obj (length old.objects)) kind len is_open.open_there))
      (each (bound_picture (with_fresh old origin kind len) number origin (standings.Obj (length old.objects))) (standings.Obj (length old.objects)) (is_fresh kind len speaks))
  by_binding P same each choices.Beyond speaks =
      subst P (sym (standing_is old number origin standings.Open standings.Beyond is_open.open_there))
      (each (bound_picture old number origin standings.Beyond) standings.Beyond (stands_so standings.Beyond tt))
  by_binding P same each _ speaks = same

pub binding_formed : (world : World) (params : ℕ) (old : Picture) (number : ℕ) (origin : Origin) (choice : Choice) → IsOpenAt world params old number origin → IsChoiceIn old choice
    → IsPicture world params (after_access old number choice)
binding_formed world params old number origin choice is_open speaks =
    by_binding world params old number origin is_open (IsPicture world params) is_open.formed
    (λ new standing binds. binds_formed world params old new number origin standing binds is_open.formed) choice speaks

pub binding_found : (world : World) (params : ℕ) (old : Picture) (number : ℕ) (origin : Origin) (choice : Choice) → IsOpenAt world params old number origin → IsChoiceIn old choice
    → IsFoundFirst old → IsFoundFirst (after_access old number choice)
binding_found world params old number origin choice is_open speaks first =
    by_binding world params old number origin is_open IsFoundFirst first (λ new standing binds. found_bound world params old new number origin standing binds first) choice speaks

-- ---- what the picture has after a choice

-- the object that is chosen, where it is a new one
abbrev pub objects_chosen : Origin → Choice → List PicObject
objects_chosen origin (choices.Fresh kind len) = record { kind = kind; length = len; origin = origin } ∷ []
objects_chosen origin _ = []

pub record AddsChosen (old new : Picture) (origin : Origin) (choice : Choice) : Type 0 where
  pub seen : new.seen ≡ old.seen
  pub objects : new.objects ≡ old.objects ++ objects_chosen origin choice
  pub locs : length new.locs ≡ length old.locs

pub adds_chosen : (old : Picture) (number : ℕ) (origin : Origin) (choice : Choice) → slice_get old.locs number ≡ Some (loc_at_slot origin standings.Open)
    → AddsChosen old (after_access old number choice) origin choice
unfolding after_access
adds_chosen old number origin (choices.Alias object) at =
    let is = standing_is old number origin standings.Open (standings.Obj object) at in
    record {
      seen = ap (λ (p : Picture). p.seen) is;
      objects = ap (λ (p : Picture). p.objects) is ∙ sym (append-nil old.objects);
      locs = ap (λ (p : Picture). length p.locs) is ∙ set_size old.locs number (loc_at_slot origin (standings.Obj object));
    }
adds_chosen old number origin (choices.Fresh kind len) at =
    let is = fresh_is old number origin standings.Open (standings.Obj (length old.objects)) kind len at in
    record {
      seen = ap (λ (p : Picture). p.seen) is;
      objects = ap (λ (p : Picture). p.objects) is;
      locs = ap (λ (p : Picture). length p.locs) is ∙ set_size old.locs number (loc_at_slot origin (standings.Obj (length old.objects)));
    }
adds_chosen old number origin choices.Beyond at =
    let is = standing_is old number origin standings.Open standings.Beyond at in
    record {
      seen = ap (λ (p : Picture). p.seen) is;
      objects = ap (λ (p : Picture). p.objects) is ∙ sym (append-nil old.objects);
      locs = ap (λ (p : Picture). length p.locs) is ∙ set_size old.locs number (loc_at_slot origin standings.Beyond);
    }
adds_chosen old number origin _ at = record { seen = refl; objects = sym (append-nil old.objects); locs = refl }
