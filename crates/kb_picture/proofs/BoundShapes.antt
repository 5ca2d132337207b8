-- Who has the shape of a picture in which it was chosen which object a location is had the shape before, with the same places;
-- and who had it has the one after the choice where the location's place is what was chosen.
use Rattle.std.proofs.Common.{◌≡◌, ℕ, zero, suc, inl, inr, List, [], ◌∷◌, ◌++◌, length, Some, slice_get, slice_set, refl, sym, ap, subst, ◌∙◌, arith}
use Rattle.std.proofs.lemmas.List.{take_all}
use Rattle.std.proofs.lemmas.Option.{same_Some, slice_get_within}
use Rattle.kb_class.proofs.Lists.{set_here}
use Rattle.kb_heap.specs.declared.heap.Value.TheVariants.{Ref}
use Rattle.kb_heap.specs.declared.heap.Input.{Input}
use Rattle.kb_classes.proofs.Places.{get_last}
use Rattle.kb_classes.specs.World.{World}
use Rattle.kb_names.specs.declared.types.ExactType.{ExactType}
use Rattle.kb_picture.proofs.BoundPictures.{adds_chosen, bound_picture, fresh_is, loc_at_slot, set_cases, set_kept, standing_is}
use Rattle.kb_picture.proofs.ChainLaws.{loc_at}
use Rattle.kb_picture.proofs.GrownPictures.{item_there}
use Rattle.kb_picture.proofs.GrownShapes.{ShapeBefore, before_object, before_same, kept_same, locs_many, new_elsewhere}
use Rattle.kb_picture.proofs.PlaceLaws.{placed_parts, places_standing}
use Rattle.kb_picture.proofs.ShapeLaws.{place_inside, same_places}
use Rattle.kb_picture.proofs.Taking.{HoldsNew, last_place, object_forth, object_places}
use Rattle.kb_picture.specs.declared.choice.Choice.{Choice}
use Rattle.kb_picture.specs.declared.choice.Choice.TheVariants as choices
use Rattle.kb_picture.specs.declared.picture.Length.{Length}
use Rattle.kb_picture.specs.declared.picture.Origin.{Origin}
use Rattle.kb_picture.specs.declared.picture.PicLoc.{PicLoc}
use Rattle.kb_picture.specs.declared.picture.PicObject.{PicObject}
use Rattle.kb_picture.specs.declared.picture.Picture.{Picture}
use Rattle.kb_picture.specs.declared.picture.PlaceLists.{PlaceLists}
use Rattle.kb_picture.specs.declared.picture.Standing.{Standing}
use Rattle.kb_picture.specs.declared.picture.Standing.TheVariants as standings
use Rattle.kb_picture.specs.Accesses.{IsOpenAt}
use Rattle.kb_picture.specs.Depths.{IsBeyond}
use Rattle.kb_picture.specs.Growing.{PlacesKept}
use Rattle.kb_picture.specs.Growth.{after_access, with_fresh}
use Rattle.kb_picture.specs.Laws.{loc_origins}
use Rattle.kb_picture.specs.Places.{places_of, slot_value}
use Rattle.kb_picture.specs.Shapes.{HasShape, IsNoPlace, Stands}

-- ---- one location that stands otherwise

origins_set : (locs : List PicLoc) (number : ℕ) (origin : Origin) (was standing : Standing) → slice_get locs number ≡ Some (loc_at_slot origin was)
    → loc_origins (slice_set locs number (loc_at_slot origin standing)) ≡ loc_origins locs
origins_set [] number origin was standing at = absurd cc
origins_set (loc ∷ locs) zero origin was standing at =
    ap (λ (o : Origin). o ∷ loc_origins locs) (ap (λ (l : PicLoc). l.origin) (sym (same_Some loc (loc_at_slot origin was) at)))
origins_set (loc ∷ locs) (suc number) origin was standing at = ap (λ (os : List Origin). loc.origin ∷ os) (origins_set locs number origin was standing at)

module _ (picture : Picture) (number : ℕ) (origin : Origin) (standing : Standing) (input : Input) (at : slice_get picture.locs number ≡ Some (loc_at_slot origin standings.Open)) where
  abbrev bound : Picture
  bound = bound_picture picture number origin standing

  same_placed : places_of bound input ≡ places_of picture input
  same_placed = places_standing picture input (slice_set picture.locs number (loc_at_slot origin standing)) (origins_set picture.locs number origin standings.Open standing at)

  -- an open location may be any object
  pub before_standing : (after : HasShape bound input) → ShapeBefore picture input after.places
  before_standing after = record {
    shape = record {
      places = after.places;
      placed = placed;
      seen = after.seen;
      apart = after.apart;
      such = after.such;
      stands = stands;
    };
    kept = kept_same picture input after.places placed;
  }
    where
      placed : places_of picture input ≡ Some after.places
      placed = sym same_placed ∙ after.placed

      stands : (n place : ℕ) (loc : PicLoc) → slice_get picture.locs n ≡ Some loc → slice_get after.places.locs n ≡ Some place → Stands after.places.objects loc.standing place
      stands n place loc there here = elim (set_kept picture.locs number n (loc_at_slot origin standings.Open) (loc_at_slot origin standing) loc at there) [
        | inl h ↦ subst (λ (l : PicLoc). Stands after.places.objects l.standing place) h.1 tt
        | inr h ↦ after.stands n place loc h here
      ]

  -- the place of the location is what it stands for
  pub stands_after : (after : HasShape bound input) (place : ℕ) → slice_get after.places.locs number ≡ Some place → Stands after.places.objects standing place
  stands_after after place here =
      after.stands number place (loc_at_slot origin standing) (set_here picture.locs number (loc_at_slot origin standing) (slice_get_within picture.locs number (loc_at_slot origin standings.Open) at)) here

  pub standing_forth : (shape : HasShape picture input) (place : ℕ) → slice_get shape.places.locs number ≡ Some place → Stands shape.places.objects standing place → HasShape bound input
  standing_forth shape place here so = record {
    places = shape.places;
    placed = same_placed ∙ shape.placed;
    seen = shape.seen;
    apart = shape.apart;
    such = shape.such;
    stands = λ n p loc there is. elim (set_cases picture.locs number n (loc_at_slot origin standings.Open) (loc_at_slot origin standing) loc at there) [
      | inl h ↦
          let same : place ≡ p = same_Some place p (sym here ∙ (ap (slice_get shape.places.locs) h.0 ∙ is)) in
          subst (λ (l : PicLoc). Stands shape.places.objects l.standing p) h.1 (subst (Stands shape.places.objects standing) same so)
      | inr h ↦ shape.stands n p loc h is
    ];
  }

-- ---- each choice

module _ (world : World) (params : ℕ) (old : Picture) (number : ℕ) (origin : Origin) (input : Input) (is_open : IsOpenAt world params old number origin) where
  at : slice_get old.locs number ≡ Some (loc_at_slot origin standings.Open)
  at = is_open.open_there

  abbrev new_standing : Standing
  new_standing = standings.Obj (length old.objects)

  -- the pictures after a choice
  alias_is : (object : ℕ) → after_access old number (choices.Alias object) ≡ bound_picture old number origin (standings.Obj object)
  unfolding after_access
  alias_is object = standing_is old number origin standings.Open (standings.Obj object) at

  beyond_is : after_access old number choices.Beyond ≡ bound_picture old number origin standings.Beyond
  unfolding after_access
  beyond_is = standing_is old number origin standings.Open standings.Beyond at

  new_is : (kind : ExactType) (len : Length) → after_access old number (choices.Fresh kind len) ≡ bound_picture (with_fresh old origin kind len) number origin new_standing
  unfolding after_access
  new_is kind len = fresh_is old number origin standings.Open new_standing kind len at

  -- who has one shape has the other, at the same places
  record SameShape (other : Picture) (places : PlaceLists) : Type 0 where
    shape : HasShape other input
    same : shape.places ≡ places

  same_shape : (one other : Picture) → one ≡ other → (shape : HasShape one input) → SameShape other shape.places
  same_shape one other e shape = subst (λ (p : Picture). SameShape p shape.places) e (record { shape = shape; same = refl })

  before_bound : (standing : Standing) (new : Picture) → new ≡ bound_picture old number origin standing → (after : HasShape new input) → ShapeBefore old input after.places
  before_bound standing new e after =
      let so = same_shape new (bound_picture old number origin standing) e after in
      subst (ShapeBefore old input) so.same (before_standing old number origin standing input at so.shape)

  before_new : (kind : ExactType) (len : Length) (after : HasShape (bound_picture (with_fresh old origin kind len) number origin new_standing) input) → ShapeBefore old input after.places
  unfolding before_standing
  before_new kind len after =
      before_object world params old is_open.formed origin input kind len (before_standing (with_fresh old origin kind len) number origin new_standing input at after).shape

  pub before_access : (choice : Choice) (after : HasShape (after_access old number choice) input) → ShapeBefore old input after.places
  unfolding after_access
  before_access (choices.Alias object) after = before_bound (standings.Obj object) (after_access old number (choices.Alias object)) (alias_is object) after
  before_access (choices.Fresh kind len) after =
      let so = same_shape (after_access old number (choices.Fresh kind len)) (bound_picture (with_fresh old origin kind len) number origin new_standing) (new_is kind len) after in
      subst (ShapeBefore old input) so.same (before_new kind len so.shape)
  before_access choices.Beyond after = before_bound standings.Beyond (after_access old number choices.Beyond) beyond_is after
  before_access _ after = before_same old input after

  -- there are as many locations as there were
  same_count : (choice : Choice) → length (after_access old number choice).locs ≡ length old.locs
  same_count choice = (adds_chosen old number origin choice at).locs

  pub access_shape : (choice : Choice) → HasShape (after_access old number choice) input → HasShape old input
  access_shape choice after = (before_access choice after).shape

  pub access_places : (choice : Choice) (before : HasShape old input) (after : HasShape (after_access old number choice) input)
      → PlacesKept old before.places after.places × (after.places.locs ≡ before.places.locs)
  access_places choice before after = (kept, sym (take_all (length old.locs) after.places.locs (omega (arith, many, same_count choice))) ∙ kept.locs)
    where
      found : ShapeBefore old input after.places
      found = before_access choice after

      kept : PlacesKept old before.places after.places
      kept = subst (λ (places : PlaceLists). PlacesKept old places after.places) (same_places old input before.places before.placed found.shape) found.kept

      many : length after.places.locs ≡ length (after_access old number choice).locs
      many = locs_many (after_access old number choice) input after.places after.placed

  -- ---- what is taken

  module _ (shape : HasShape old input) (place : ℕ) (here : slice_get shape.places.locs number ≡ Some place) where
    here_after : (choice : Choice) (after : HasShape (after_access old number choice) input) → slice_get after.places.locs number ≡ Some place
    here_after choice after = ap (λ (locs : List ℕ). slice_get locs number) (access_places choice shape after).1 ∙ here

    at_old : (standing : Standing) (after : HasShape (bound_picture old number origin standing) input) → after.places ≡ shape.places
    unfolding before_standing
    at_old standing after = same_places old input shape.places shape.placed (before_standing old number origin standing input at after).shape

    -- the location stands so at the places of the old picture
    bound_back : (standing : Standing) (choice : Choice) → after_access old number choice ≡ bound_picture old number origin standing → HasShape (after_access old number choice) input
        → Stands shape.places.objects standing place
    bound_back standing choice e after =
        let so = same_shape (after_access old number choice) (bound_picture old number origin standing) e after in
        let located : slice_get so.shape.places.locs number ≡ Some place = ap (λ (places : PlaceLists). slice_get places.locs number) so.same ∙ here_after choice after in
        let stands : Stands so.shape.places.objects standing place = stands_after old number origin standing input at so.shape place located in
        subst (λ (places : PlaceLists). Stands places.objects standing place) (at_old standing so.shape) stands

    pub alias_back : (object : ℕ) → HasShape (after_access old number (choices.Alias object)) input → slice_get shape.places.objects object ≡ Some place
    alias_back object after = bound_back (standings.Obj object) (choices.Alias object) (alias_is object) after

    pub alias_forth : (object : ℕ) → slice_get shape.places.objects object ≡ Some place → HasShape (after_access old number (choices.Alias object)) input
    alias_forth object is = subst (λ (p : Picture). HasShape p input) (sym (alias_is object)) (standing_forth old number origin (standings.Obj object) input at shape place here is)

    pub beyond_back : HasShape (after_access old number choices.Beyond) input → IsNoPlace shape.places.objects place
    beyond_back after = bound_back standings.Beyond choices.Beyond beyond_is after

    pub beyond_forth : IsNoPlace shape.places.objects place → HasShape (after_access old number choices.Beyond) input
    beyond_forth none = subst (λ (p : Picture). HasShape p input) (sym beyond_is) (standing_forth old number origin standings.Beyond input at shape place here none)

    -- the slot from which the location was read holds the object at its place
    pub held_there : slot_value input shape.places.objects origin ≡ Some (Ref place)
    held_there =
        let found = loc_at input shape.places.objects old.locs shape.places.locs number (loc_at_slot origin standings.Open) (placed_parts old input shape.places shape.placed).locs at in
        let same : found.0 ≡ place = same_Some found.0 place (sym found.1 ∙ here) in
        (place_inside input shape.places.objects origin place (found.2 ∙ ap (λ (p : ℕ). Some p) same)).0

    -- a new object lies at the location's place
    new_place_is : (kind : ExactType) (len : Length) (after : HasShape (after_access old number (choices.Fresh kind len)) input) → slice_get after.places.objects (length old.objects) ≡ Some place
    new_place_is kind len after =
        let so = same_shape (after_access old number (choices.Fresh kind len)) (bound_picture (with_fresh old origin kind len) number origin new_standing) (new_is kind len) after in
        let located : slice_get so.shape.places.locs number ≡ Some place = ap (λ (places : PlaceLists). slice_get places.locs number) so.same ∙ here_after (choices.Fresh kind len) after in
        ap (λ (places : PlaceLists). slice_get places.objects (length old.objects)) (sym so.same)
        ∙ stands_after (with_fresh old origin kind len) number origin new_standing input at so.shape place located

    pub new_apart : (kind : ExactType) (len : Length) → HasShape (after_access old number (choices.Fresh kind len)) input → IsNoPlace shape.places.objects place
    new_apart kind len after =
        new_elsewhere old input after.places place after.apart shape (access_places (choices.Fresh kind len) shape after).0 (new_place_is kind len after)

    pub fresh_bound_back : (kind : ExactType) (len : Length) → HasShape (after_access old number (choices.Fresh kind len)) input → HoldsNew input shape.places.objects origin kind len
    fresh_bound_back kind len after = record {
      place = place;
      value = held_there;
      no_place = new_apart kind len after;
      such = after.such (length old.objects) place object (ap (λ (p : Picture). slice_get p.objects (length old.objects)) (new_is kind len) ∙ get_last old.objects object) (new_place_is kind len after);
    }
      where
        object : PicObject
        object = record { kind = kind; length = len; origin = origin }

    pub fresh_bound_forth : (kind : ExactType) (len : Length) → ((of : Origin) → IsBeyond old of → ⊥) → HoldsNew input shape.places.objects origin kind len
        → HasShape (after_access old number (choices.Fresh kind len)) input
    fresh_bound_forth kind len inside new =
        let base : HasShape (with_fresh old origin kind len) input = object_forth world params old origin input is_open.formed shape kind len inside new in
        let is : base.places ≡ record { objects = shape.places.objects ++ new.place ∷ []; locs = shape.places.locs } =
        object_places world params old origin input is_open.formed shape kind len inside new in
        let same : new.place ≡ place = value_same (sym new.value ∙ held_there) in
        subst (λ (p : Picture). HasShape p input) (sym (new_is kind len))
        (standing_forth (with_fresh old origin kind len) number origin new_standing input at base place
        (ap (λ (p : PlaceLists). slice_get p.locs number) is ∙ here)
        (ap (λ (p : PlaceLists). slice_get p.objects (length old.objects)) is
        ∙ (last_place world params old origin input is_open.formed shape new.place ∙ ap (λ (p : ℕ). Some p) same)))
      where
        value_same : Some (Ref new.place) ≡ Some (Ref place) → new.place ≡ place
        value_same e = cc

-- ---- the laws

pub new_bound : (world : World) (params : ℕ) (picture : Picture) (number place : ℕ) (origin : Origin) (kind : ExactType) (len : Length) (input : Input) → IsOpenAt world params picture number origin
    → (before : HasShape picture input) (after : HasShape (after_access picture number (choices.Fresh kind len)) input) → slice_get after.places.objects (length picture.objects) ≡ Some place
    → IsNoPlace before.places.objects place × (slice_get before.places.locs number ≡ Some place)
new_bound world params picture number place origin kind len input is_open before after at =
    from (item_there before.places.locs number (omega (arith, slice_get_within picture.locs number (loc_at_slot origin standings.Open) is_open.open_there, locs_many picture input before.places before.placed)))
  where
    from : ((p : ℕ) × (slice_get before.places.locs number ≡ Some p)) → IsNoPlace before.places.objects place × (slice_get before.places.locs number ≡ Some place)
    from found =
        let is = new_place_is world params picture number origin input is_open before found.0 found.1 kind len after in
        let same : found.0 ≡ place = same_Some found.0 place (sym is ∙ at) in (
          subst (IsNoPlace before.places.objects) same (new_apart world params picture number origin input is_open before found.0 found.1 kind len after),
          found.1 ∙ ap (λ (p : ℕ). Some p) same,
        )
