-- Under lazy initialisation no location is chosen: a picture of objects alone stays one, and where no bound is passed nothing
-- is beyond.
use Rattle.std.proofs.Common.{◌≡◌, ℕ, inl, inr, Bool, true, false, cond, List, [], ◌∷◌, ◌++◌, length, map, filter, nat_lt, slice_get, suc, Some, None, refl, sym, ap, subst}
use Rattle.std.specs.List.{AllByRecursion, flat_map}
use Rattle.kb_class.proofs.Lists.{has_cases, has_either, has_none}
use Rattle.kb_class.specs.Naming.{Has}
use Rattle.kb_classes.specs.Subtypes.{fits}
use Rattle.kb_classes.specs.World.{World}
use Rattle.kb_names.specs.declared.types.ExactType.{ExactType}
use Rattle.kb_names.specs.declared.types.ExactType.TheVariants as exact
use Rattle.kb_names.specs.declared.types.JType.{JType}
use Rattle.kb_semantics.specs.Looks.{numbers_below}
use Rattle.kb_picture.specs.declared.choice.Choice.{Choice}
use Rattle.kb_picture.specs.declared.choice.Choice.TheVariants as choices
use Rattle.kb_picture.specs.declared.choice.Init.TheVariants.{Lazy}
use Rattle.kb_picture.specs.declared.picture.Length.{Length}
use Rattle.kb_picture.specs.declared.picture.Length.TheVariants.{Plain, Is, Above}
use Rattle.kb_picture.specs.declared.picture.Origin.{Origin}
use Rattle.kb_picture.specs.declared.picture.PicLoc.{PicLoc}
use Rattle.kb_picture.specs.declared.picture.PicObject.{PicObject}
use Rattle.kb_picture.specs.declared.picture.Picture.{Picture}
use Rattle.kb_picture.specs.declared.picture.Seen.{Seen}
use Rattle.kb_picture.specs.declared.picture.Seen.TheVariants as seens
use Rattle.kb_picture.specs.declared.picture.Standing.TheVariants as standings
use Rattle.kb_picture.specs.Depths.{depth_at}
use Rattle.kb_picture.specs.Growth.{after_read, with_fresh}
use Rattle.kb_picture.specs.Laws.{with_seen}
use Rattle.kb_picture.specs.WellTyped.{IsIntLength}
use Rattle.kb_lazy.specs.Choices.{aliases, aliases_from, all_new, beyond_where, fresh_objects, has_fitting, new_objects, null_unless, read_choices_of}
use Rattle.kb_lazy.specs.Laws.{HasNoBeyond}
use Rattle.kb_ways.specs.Questions.{passed_by, passed_by_length}
use Rattle.kb_steparray.specs.Arrays.{AreCounted, IsCountedLength}
use Rattle.kb_classes.proofs.Places.{get_pushed}
use Rattle.kb_stepref.proofs.FieldSlots.{all_joined}

-- ---- what is offered

-- something was chosen, and no location
abbrev pub IsKnown : Choice → Type 0
IsKnown choices.Only = ⊥
IsKnown choices.Location = ⊥
IsKnown _ = Unit {0}

all_mapped : {A B : Type 0} (P : B → Type 0) (f : A → B) (xs : List A) → ((x : A) → P (f x)) → AllByRecursion P (map f xs)
all_mapped P f [] each = tt
all_mapped P f (x ∷ xs) each = (each x, all_mapped P f xs each)

all_flat : {A B : Type 0} (P : B → Type 0) (f : A → List B) (xs : List A) → ((x : A) → AllByRecursion P (f x)) → AllByRecursion P (flat_map f xs)
all_flat P f [] each = tt
all_flat P f (x ∷ xs) each = all_joined P (f x) (flat_map f xs) (each x) (all_flat P f xs each)

module _ (world : World) (picture : Picture) (slot : Origin) (type : JType) (k array : ℕ) where
  known_aliases : (number : ℕ) (objects : List PicObject) → AllByRecursion IsKnown (aliases_from world type number objects)
  known_aliases number [] = tt
  known_aliases number (object ∷ objects) = go (fits world object.kind type) (known_aliases (suc number) objects) where
    go : (b : Bool) → AllByRecursion IsKnown (aliases_from world type (suc number) objects)
        → AllByRecursion IsKnown (cond b (choices.Alias number ∷ aliases_from world type (suc number) objects) (aliases_from world type (suc number) objects))
    go true later = (tt, later)
    go false later = later

  known_new : (kind : ExactType) → AllByRecursion IsKnown (new_objects array kind)
  known_new (exact.Class name) = (tt, tt)
  known_new (exact.Array component) =
      all_joined IsKnown (map (λ (count : ℕ). choices.Fresh (exact.Array component) (Is count)) (numbers_below (suc array))) (choices.Fresh (exact.Array component) (Above array) ∷ [])
      (all_mapped IsKnown (λ (count : ℕ). choices.Fresh (exact.Array component) (Is count)) (numbers_below (suc array)) (λ count. tt)) (tt, tt)

  known_beyond : (b : Bool) → AllByRecursion IsKnown (beyond_where b)
  known_beyond true = (tt, tt)
  known_beyond false = tt

  known_fresh : AllByRecursion IsKnown (fresh_objects world picture slot type k array)
  unfolding fresh_objects
  known_fresh = go (nat_lt k (depth_at picture slot)) where
    go : (b : Bool) → AllByRecursion IsKnown (cond b (beyond_where (has_fitting world type)) (all_new world type array))
    go true = known_beyond (has_fitting world type)
    go false = all_flat IsKnown (new_objects array) (filter (λ (kind : ExactType). fits world kind type) world.universe) known_new

  known_null : (b : Bool) → AllByRecursion IsKnown (null_unless b)
  known_null true = tt
  known_null false = (tt, tt)

  pub known_choices : (receiver : Bool) → AllByRecursion IsKnown (read_choices_of Lazy world picture slot type receiver k array)
  unfolding read_choices_of aliases
  known_choices receiver =
      all_joined IsKnown (null_unless receiver) (aliases world picture type ++ fresh_objects world picture slot type k array) (known_null receiver)
      (all_joined IsKnown (aliases_from world type 0 picture.objects) (fresh_objects world picture slot type k array) (known_aliases 0 picture.objects) known_fresh)

-- ---- pictures

-- a slot more that is seen, and not as one that is beyond
pub seen_no_beyond : (old new : Picture) (slot : Origin) (how : Seen) → new.seen ≡ old.seen ++ (slot, how) ∷ [] → new.locs ≡ old.locs → (how ≡ seens.Beyond → ⊥)
    → HasNoBeyond old → HasNoBeyond new
seen_no_beyond old new slot how seen locs other none of beyond = elim beyond [
  | inl h ↦ elim (has_either old.seen ((slot, how) ∷ []) (of, seens.Beyond) (subst (λ (l : List (Origin × Seen)). Has l (of, seens.Beyond)) seen h)) [
    | inl g ↦ none of (inl g)
    | inr g ↦ elim (has_cases (slot, how) (of, seens.Beyond) [] g) [
      | inl same ↦ other (ap (λ (x : Origin × Seen). x.1) same)
      | inr f ↦ has_none (of, seens.Beyond) f
    ]
  ]
  | inr h ↦ none of (inr (subst (λ (l : List PicLoc). Has l (record { origin = of; standing = standings.Beyond })) locs h))
]

null_is_seen : seens.Null ≡ seens.Beyond → ⊥
null_is_seen e = cc

object_is_seen : (number : ℕ) → seens.Obj number ≡ seens.Beyond → ⊥
object_is_seen number e = cc

module _ (picture : Picture) (slot : Origin) where
  pub known_locs : (choice : Choice) → IsKnown choice → (after_read picture slot choice).locs ≡ picture.locs
  unfolding after_read
  known_locs choices.Null known = refl
  known_locs choices.Location known = absurd known
  known_locs (choices.Alias number) known = refl
  known_locs (choices.Fresh kind len) known = refl
  known_locs choices.Beyond known = refl
  known_locs _ known = refl

  pub known_no_beyond : (choice : Choice) → IsKnown choice → passed_by choice ≡ None → HasNoBeyond picture → HasNoBeyond (after_read picture slot choice)
  unfolding after_read
  known_no_beyond choices.Null known passed none = seen_no_beyond picture (with_seen picture (slot, seens.Null)) slot seens.Null refl refl null_is_seen none
  known_no_beyond choices.Location known passed none = absurd known
  known_no_beyond (choices.Alias number) known passed none =
      seen_no_beyond picture (with_seen picture (slot, seens.Obj number)) slot (seens.Obj number) refl refl (object_is_seen number) none
  known_no_beyond (choices.Fresh kind len) known passed none =
      seen_no_beyond picture (with_seen (with_fresh picture slot kind len) (slot, seens.Obj (length picture.objects))) slot (seens.Obj (length picture.objects)) refl refl
      (object_is_seen (length picture.objects)) none
  known_no_beyond choices.Beyond known passed none = absurd cc
  known_no_beyond _ known passed none = none

  -- nor is an array above the bound, and an int counts its elements
  pub known_counted : (choice : Choice) → passed_by choice ≡ None → ((number : ℕ) (object : PicObject) → slice_get (after_read picture slot choice).objects number ≡ Some object → IsIntLength object.length)
      → AreCounted picture → AreCounted (after_read picture slot choice)
  unfolding after_read
  known_counted choices.Null passed ints counted = counted
  known_counted choices.Location passed ints counted = counted
  known_counted (choices.Alias number) passed ints counted = counted
  known_counted (choices.Fresh kind len) passed ints counted = λ number object at. elim (get_pushed picture.objects (record { kind = kind; length = len; origin = slot }) number object at) [
    | inl h ↦ counted number object h
    | inr h ↦ (
        let int : IsIntLength len = subst (λ (o : PicObject). IsIntLength o.length) (sym h.1) (ints number object at) in
        subst (λ (o : PicObject). IsCountedLength o.length) h.1 (of_length len passed int)
        )
  ]
    where
      of_length : (length : Length) → passed_by_length length ≡ None → IsIntLength length → IsCountedLength length
      of_length Plain passed int = tt
      of_length (Is n) passed int = int
      of_length (Above n) passed int = absurd cc
  known_counted choices.Beyond passed ints counted = counted
  known_counted _ passed ints counted = counted
