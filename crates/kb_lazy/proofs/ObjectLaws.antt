-- Each input that has the shape of a picture takes exactly one of the alternatives of a location that is looked into.
use Rattle.std.proofs.Common.{◌≡◌, ℕ, [], Option, Some, slice_get, sym, subst, ◌∙◌, arith}
use Rattle.std.specs.Option.{option_map_or}
use Rattle.std.proofs.lemmas.Option.{same_Some, slice_get_within}
use Rattle.kb_class.specs.declared.ids.MethodId.{MethodId}
use Rattle.kb_heap.specs.declared.heap.Value.TheVariants.{Ref}
use Rattle.kb_heap.specs.declared.heap.Heap.{Heap}
use Rattle.kb_heap.specs.declared.heap.Input.{Input}
use Rattle.kb_heap.specs.Heap.{object_at}
use Rattle.kb_link.specs.Links.{IsLinked}
use Rattle.kb_classes.specs.World.{World}
use Rattle.kb_names.specs.declared.types.ExactType.{ExactType}
use Rattle.kb_names.specs.declared.types.JType.{JType}
use Rattle.kb_names.specs.declared.types.JType.TheVariants as types
use Rattle.kb_semantics.specs.Inputs.{IsTypeCorrect}
use Rattle.kb_semantics.specs.Values.{IsValueOf, IsObjectOf}
use Rattle.kb_picture.proofs.BoundPictures.{loc_at_slot}
use Rattle.kb_picture.proofs.BoundShapes.{alias_back, alias_forth, beyond_back, beyond_forth, fresh_bound_back, fresh_bound_forth, held_there}
use Rattle.kb_picture.proofs.GrownPictures.{item_there}
use Rattle.kb_picture.proofs.GrownShapes.{loc_there, locs_many}
use Rattle.kb_picture.proofs.HeldLaws.{HeldValue, held_value}
use Rattle.kb_picture.proofs.Taking.{HoldsNew}
use Rattle.kb_picture.specs.declared.choice.Choice.TheVariants.{Fresh}
use Rattle.kb_picture.specs.declared.picture.Length.{Length}
use Rattle.kb_picture.specs.declared.picture.Origin.{Origin}
use Rattle.kb_picture.specs.declared.picture.PicLoc.{PicLoc}
use Rattle.kb_picture.specs.declared.picture.Picture.{Picture}
use Rattle.kb_picture.specs.declared.picture.Standing.TheVariants as standings
use Rattle.kb_picture.specs.Exactly.{ExactlyOneHas}
use Rattle.kb_picture.specs.Growing.{params_of}
use Rattle.kb_picture.specs.Places.{slot_value}
use Rattle.kb_picture.specs.Shapes.{HasShape, IsNoPlace, IsSuch}
use Rattle.kb_lazy.proofs.AlternativeLaws.{IsThere, TellsObject, object_there, one_of_objects}
use Rattle.kb_lazy.specs.Choices.{objects_for, resolve_choices_of}
use Rattle.kb_lazy.specs.Laws.{HasNoBeyond, IsAccess, TakesObject}

-- a reference of a type is to an object of it
object_of : (world : World) (heap : Heap) (type : JType) (p : ℕ) → IsValueOf world heap type (Ref p) → IsObjectOf world type (object_at heap p)
object_of world heap (types.Class name) p of = of
object_of world heap (types.Array component) p of = of
object_of world heap types.Bool p of = absurd of
object_of world heap types.Byte p of = absurd of
object_of world heap types.Char p of = absurd of
object_of world heap types.Short p of = absurd of
object_of world heap types.Int p of = absurd of
object_of world heap types.Long p of = absurd of
object_of world heap types.Float p of = absurd of
object_of world heap types.Double p of = absurd of

module _ (world : World) (id : MethodId) (picture : Picture) (number : ℕ) (origin : Origin) (type : JType) (k array : ℕ) (input : Input)
    (linked : IsLinked world) (access : IsAccess world id picture number origin type) (inside : HasNoBeyond picture) (correct : IsTypeCorrect world id input) (shape : HasShape picture input) where
  abbrev params : ℕ
  params = params_of world access.method

  -- the object at the location's place
  module _ (p : ℕ) (here : slice_get shape.places.locs number ≡ Some p) where
    held : slot_value input shape.places.objects origin ≡ Some (Ref p)
    held = held_there world params picture number origin input access.is_open shape p here

    same_object : (q : ℕ) → slot_value input shape.places.objects origin ≡ Some (Ref q) → q ≡ p
    same_object q e = let same : Some (Ref q) ≡ Some (Ref p) = sym e ∙ held in cc

    new_back : (kind : ExactType) (len : Length) → TakesObject picture number (Fresh kind len) input
        → IsNoPlace shape.places.objects p × IsSuch input.heap (record { kind = kind; length = len; origin = origin }) p
    new_back kind len t =
        let new : HoldsNew input shape.places.objects origin kind len = fresh_bound_back world params picture number origin input access.is_open shape p here kind len t in
        let same : new.place ≡ p = same_object new.place new.value in
        (subst (IsNoPlace shape.places.objects) same new.no_place, subst (IsSuch input.heap (record { kind = kind; length = len; origin = origin })) same new.such)

    new_forth : (kind : ExactType) (len : Length) → IsNoPlace shape.places.objects p × IsSuch input.heap (record { kind = kind; length = len; origin = origin }) p
        → TakesObject picture number (Fresh kind len) input
    new_forth kind len h =
        fresh_bound_forth world params picture number origin input access.is_open shape p here kind len inside (record { place = p; value = held; no_place = h.0; such = h.1 })

    there : IsThere world input.heap type p
    there =
        let value : HeldValue world input shape.places.objects origin type =
        held_value world id picture input correct shape params origin type
        (loc_there world params picture access.is_open.formed number (loc_at_slot origin standings.Open) access.is_open.open_there) access.declared in
        let is : value.value ≡ Ref p = same_Some value.value (Ref p) (sym value.there ∙ held) in
        object_there world input.heap type p (object_of world input.heap type p (subst (IsValueOf world input.heap type) is value.of_type))

    told : TellsObject (TakesObject picture number) input shape.places.objects origin p
    told = record {
      alias = λ n. (
        (λ t. alias_back world params picture number origin input access.is_open shape p here n t),
        (λ is. alias_forth world params picture number origin input access.is_open shape p here n is),
      );
      fresh = λ kind len. ((λ t. new_back kind len t), (λ h. new_forth kind len h));
      beyond = (
        (λ t. beyond_back world params picture number origin input access.is_open shape p here t),
        (λ elsewhere. beyond_forth world params picture number origin input access.is_open shape p here elsewhere),
      );
    }

    one_at : ExactlyOneHas (TakesObject picture number) (objects_for world picture origin type k array) input
    one_at = one_of_objects (TakesObject picture number) world id picture origin type k array input linked correct shape p there told

  placed : (p : ℕ) × (slice_get shape.places.locs number ≡ Some p)
  placed =
      item_there shape.places.locs number
      (omega (arith, slice_get_within picture.locs number (loc_at_slot origin standings.Open) access.is_open.open_there, locs_many picture input shape.places shape.placed))

  pub one_object_taken : ExactlyOneHas (TakesObject picture number) (resolve_choices_of world picture number type k array) input
  unfolding resolve_choices_of
  one_object_taken =
      subst (λ (o : Option PicLoc). ExactlyOneHas (TakesObject picture number) (option_map_or (λ (loc : PicLoc). objects_for world picture loc.origin type k array) o []) input)
      (sym access.is_open.open_there) (one_at placed.0 placed.1)
