-- An int counts the elements of each array of a state.
use Rattle.std.proofs.Common.{◌≡◌, ℕ, ◌<◌, ◌^◌, Bool, length, slice_get, Option, Some, None, refl, subst}
use Rattle.std.specs.Option.{option_and_then}
use Rattle.std.proofs.lemmas.Option.{same_Some}
use Rattle.kb_classes.specs.World.{World}
use Rattle.kb_names.specs.declared.types.ExactType.{ExactType}
use Rattle.kb_names.specs.declared.types.ExactType.TheVariants as exact
use Rattle.kb_names.specs.declared.types.JType.{JType}
use Rattle.kb_picture.specs.declared.picture.Length.{Length}
use Rattle.kb_picture.specs.declared.picture.Length.TheVariants.{Plain, Is, Above}
use Rattle.kb_picture.specs.declared.picture.PicObject.{PicObject}
use Rattle.kb_frames.specs.declared.state.SymObject.{SymObject}
use Rattle.kb_frames.specs.declared.value.SymValue.{SymValue}
use Rattle.kb_frames.specs.declared.value.SymValue.TheVariants.{Int, Null, Obj, Literal, New, Loc}
use Rattle.kb_frames.specs.Arrays.{length_made, length_seen}
use Rattle.kb_frames.specs.State.{State}
use Rattle.kb_frames.specs.States.{Each, IsCounted, IsMade}
use Rattle.kb_steparray.specs.Arrays.{AreCounted, Array, HasCounts, IsCountedLength, array_of}
use Rattle.kb_steparray.proofs.ArrayLaws.{long_as}

seen_count : (kind : ExactType) (len : Length) (count : ℕ) → IsCountedLength len → length_seen kind len ≡ Some count → count < 2 ^ 31
seen_count (exact.Class name) len count counted e = absurd cc
seen_count (exact.Array component) (Is n) count counted e = subst (λ (m : ℕ). m < 2 ^ 31) (same_Some n count e) counted
seen_count (exact.Array component) (Above n) count counted e = absurd counted
seen_count (exact.Array component) Plain count counted e = absurd cc

made_count : (kind : ExactType) (many count : ℕ) → IsCounted kind many → length_made kind many ≡ Some count → count < 2 ^ 31
made_count (exact.Class name) many count counted e = absurd cc
made_count (exact.Array component) many count counted e = subst (λ (m : ℕ). m < 2 ^ 31) (same_Some many count e) counted

-- Where it counts those of the picture, it counts all.
pub has_counts : (world : World) (state : State) → Each (IsMade world state) state.made → AreCounted state.picture → HasCounts state
has_counts world state made seen (Obj number) count e = go (slice_get state.picture.objects number) refl e where
  go : (it : Option PicObject) → slice_get state.picture.objects number ≡ it → option_and_then (λ (x : PicObject). length_seen x.kind x.length) it ≡ Some count → count < 2 ^ 31
  go None at is = absurd cc
  go (Some object) at is = seen_count object.kind object.length count (seen number object at) is
has_counts world state made seen (New number) count e = go (slice_get state.made number) refl e where
  go : (it : Option SymObject) → slice_get state.made number ≡ it → option_and_then (λ (x : SymObject). length_made x.kind (length x.values)) it ≡ Some count → count < 2 ^ 31
  go None at is = absurd cc
  go (Some object) at is = made_count object.kind (length object.values) count (made number object at).counted is
has_counts world state made seen (Int term) count e = absurd cc
has_counts world state made seen Null count e = absurd cc
has_counts world state made seen (Literal number) count e = absurd cc
has_counts world state made seen (Loc number) count e = absurd cc

-- and so those of an array that an instruction takes
pub array_counted : (state : State) (such : JType → Bool) (value : SymValue) (array : Array) → HasCounts state → array_of state such value ≡ Some array → array.length < 2 ^ 31
array_counted state such value array counts e = counts value array.length (long_as state such value array e)
