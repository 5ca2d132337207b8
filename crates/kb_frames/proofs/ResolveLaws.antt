-- A value that is looked up names what is there, and at an input of the picture it is the value that was looked up.
use Rattle.std.proofs.Common.{◌≡◌, ℕ, ◌<◌, Option, Some, None, slice_get, length, refl, sym, ap, subst, ◌∙◌, arith}
use Rattle.std.specs.Option.{option_map_or}
use Rattle.std.proofs.lemmas.Option.{get_or_from_slice_get, slice_get_within}
use Rattle.kb_heap.specs.declared.heap.Input.{Input}
use Rattle.kb_heap.specs.declared.heap.Value.TheVariants.{Ref}
use Rattle.kb_classes.specs.World.{World}
use Rattle.kb_picture.proofs.GrownPictures.{item_there}
use Rattle.kb_picture.proofs.GrownShapes.{locs_many}
use Rattle.kb_picture.specs.declared.picture.PicLoc.{PicLoc}
use Rattle.kb_picture.specs.declared.picture.Standing.{Standing}
use Rattle.kb_picture.specs.declared.picture.Standing.TheVariants as standings
use Rattle.kb_picture.specs.Endings.{Reading, place_at}
use Rattle.kb_picture.specs.Shapes.{EachStands, Stands}
use Rattle.kb_picture.specs.WellFormed.{IsStanding}
use Rattle.kb_frames.specs.declared.value.SymValue.{SymValue}
use Rattle.kb_frames.specs.declared.value.SymValue.TheVariants.{Int, Null, Obj, Literal, New, Loc}
use Rattle.kb_frames.specs.Bindings.{IsUnboundLoc, resolved, resolved_loc, standing_value}
use Rattle.kb_frames.specs.StandsFor.{IsInstanceOf, reading_at, value_of_sym}
use Rattle.kb_frames.specs.State.{State}
use Rattle.kb_frames.specs.States.{IsState, IsSymValue}

-- ---- what is there

module _ (world : World) (state : State) (sound : IsState world state) where
  standing_there : (number : ℕ) → number < length state.picture.locs → (standing : Standing) → IsStanding state.picture standing → IsSymValue world state (standing_value number standing)
  standing_there number inside (standings.Obj object) is = is
  standing_there number inside standings.Open is = inside
  standing_there number inside standings.Beyond is = inside

  loc_there : (number : ℕ) → number < length state.picture.locs → IsSymValue world state (resolved_loc state.picture.locs number)
  loc_there number inside =
      let there = item_there state.picture.locs number inside in
      subst (λ (it : Option PicLoc). IsSymValue world state (option_map_or (λ (loc : PicLoc). standing_value number loc.standing) it (Loc number))) (sym there.1)
      (standing_there number inside there.0.standing (sound.picture.locs number there.0 there.1).1)

  pub resolved_there : (value : SymValue) → IsSymValue world state value → IsSymValue world state (resolved state.picture.locs value)
  resolved_there (Int t) is = is
  resolved_there Null is = is
  resolved_there (Obj number) is = is
  resolved_there (Literal number) is = is
  resolved_there (New number) is = is
  resolved_there (Loc number) is = loc_there number is

-- a location that is one still is bound to no object
pub resolved_unbound : (world : World) (state : State) (value : SymValue) (number : ℕ) → IsSymValue world state value → resolved state.picture.locs value ≡ Loc number
    → IsUnboundLoc state.picture.locs number
resolved_unbound world state (Int t) number is e = absurd cc
resolved_unbound world state Null number is e = absurd cc
resolved_unbound world state (Obj n) number is e = absurd cc
resolved_unbound world state (Literal n) number is e = absurd cc
resolved_unbound world state (New n) number is e = absurd cc
resolved_unbound world state (Loc n) number is e = from (item_there state.picture.locs n is)
  where
    by_standing : (loc : PicLoc) → slice_get state.picture.locs n ≡ Some loc → (standing : Standing) → loc.standing ≡ standing → standing_value n standing ≡ Loc number
        → IsUnboundLoc state.picture.locs number
    by_standing loc at (standings.Obj object) so f = absurd cc
    by_standing loc at standings.Open so f =
        let same : n ≡ number = cc in
        subst (IsUnboundLoc state.picture.locs) same (loc, at, λ object g. (let both : standings.Open ≡ standings.Obj object = sym so ∙ g in absurd cc))
    by_standing loc at standings.Beyond so f =
        let same : n ≡ number = cc in
        subst (IsUnboundLoc state.picture.locs) same (loc, at, λ object g. (let both : standings.Beyond ≡ standings.Obj object = sym so ∙ g in absurd cc))

    from : ((loc : PicLoc) × (slice_get state.picture.locs n ≡ Some loc)) → IsUnboundLoc state.picture.locs number
    from there =
        by_standing there.0 there.1 there.0.standing refl
        (sym (ap (λ (it : Option PicLoc). option_map_or (λ (loc : PicLoc). standing_value n loc.standing) it (Loc n)) there.1) ∙ e)

-- ---- the value at an input

-- where the places of the locations are what the locations stand for
module _ (state : State) (r : Reading) (many : length r.places.locs ≡ length state.picture.locs) (stand : EachStands r.places state.picture.locs) where
  standing_same : (number : ℕ) (loc : PicLoc) → slice_get state.picture.locs number ≡ Some loc → (standing : Standing) → loc.standing ≡ standing
      → value_of_sym r (standing_value number standing) ≡ value_of_sym r (Loc number)
  standing_same number loc at (standings.Obj object) e =
      let inside : number < length r.places.locs = omega (arith, many, slice_get_within state.picture.locs number loc at) in
      let place = item_there r.places.locs number inside in
      let stands : Stands r.places.objects (standings.Obj object) place.0 =
      subst (λ (s : Standing). Stands r.places.objects s place.0) e (stand number place.0 loc at place.1) in
      let same : place_at r.places.objects object ≡ place_at r.places.locs number =
      get_or_from_slice_get r.places.objects object place.0 0 stands
      ∙ sym (get_or_from_slice_get r.places.locs number place.0 0 place.1) in
      ap (λ (n : ℕ). Ref n) same
  standing_same number loc at standings.Open e = refl
  standing_same number loc at standings.Beyond e = refl

  loc_same : (number : ℕ) → value_of_sym r (resolved_loc state.picture.locs number) ≡ value_of_sym r (Loc number)
  loc_same number = go (slice_get state.picture.locs number) refl
    where
      go : (it : Option PicLoc) → slice_get state.picture.locs number ≡ it
          → value_of_sym r (option_map_or (λ (loc : PicLoc). standing_value number loc.standing) it (Loc number)) ≡ value_of_sym r (Loc number)
      go None e = refl
      go (Some loc) e = standing_same number loc e loc.standing refl

  pub resolved_same : (value : SymValue) → value_of_sym r (resolved state.picture.locs value) ≡ value_of_sym r value
  resolved_same (Int t) = refl
  resolved_same Null = refl
  resolved_same (Obj number) = refl
  resolved_same (Literal number) = refl
  resolved_same (New number) = refl
  resolved_same (Loc number) = loc_same number

pub instance_same : (world : World) (state : State) (input : Input) (i : IsInstanceOf state input) (value : SymValue)
    → value_of_sym (reading_at world state input i.shape.places) (resolved state.picture.locs value) ≡ value_of_sym (reading_at world state input i.shape.places) value
unfolding reading_at
instance_same world state input i value =
    resolved_same state (reading_at world state input i.shape.places) (locs_many state.picture input i.shape.places i.shape.placed) i.shape.stands value
