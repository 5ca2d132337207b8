-- Arrays of a state: their components and lengths, and what may be stored in them (JVMS 8 section 6.5, iaload, iastore and
-- aastore), by the machine's names.
use Rattle.std.specs.Prelude.{◌≡◌, ℕ, ◌<◌, ◌^◌, Bool, true, Option, Some, option_map, option_and_then, slice_get}
use Rattle.kb_names.specs.declared.types.JType.{JType}
use Rattle.kb_classes.specs.World.{World}
use Rattle.kb_classes.specs.Options.{only_where}
use Rattle.kb_picture.specs.declared.picture.Length.{Length}
use Rattle.kb_picture.specs.declared.picture.Length.TheVariants.{Plain, Is, Above}
use Rattle.kb_picture.specs.declared.picture.PicObject.{PicObject}
use Rattle.kb_picture.specs.declared.picture.Picture.{Picture}
use Rattle.kb_picture.specs.Queries.{component_of as component_in}
use Rattle.kb_frames.specs.declared.value.SymValue.{SymValue}
use Rattle.kb_frames.specs.declared.value.SymValue.TheVariants.{Int, Null}
use Rattle.kb_frames.specs.Arrays.{length_of}
use Rattle.kb_frames.specs.Heaps.{exact_type_of}
use Rattle.kb_frames.specs.State.{State}
use Rattle.kb_ways.specs.Types.{is_object_of}
use Rattle.kb_steparray.specs.declared.arrays.ArrayAt.{ArrayAt}

-- ---- arrays

-- the component of the array that a value is
abbrev pub component_of : State → SymValue → Option JType
component_of state value = option_and_then component_in (exact_type_of state value)

-- an array: its component, and how many elements it has
pub record Array : Type 0 where
  pub component : JType
  pub length : ℕ

abbrev pub plain_array : ArrayAt → Array
plain_array it = record { component = it.component.now; length = it.length }

abbrev pub with_length : JType → Option ℕ → Option Array
with_length component length = option_map (λ count. record { component = component; length = count }) length

-- the array of that component and length, where the component is such
abbrev pub array_with : (JType → Bool) → Option JType → Option ℕ → Option Array
array_with such component length =
    option_and_then (λ (component : JType). with_length component length) (option_and_then (λ (component : JType). only_where (such component) component) component)

-- the array that a value is, where its component is such
abbrev pub array_of : State → (JType → Bool) → SymValue → Option Array
array_of state such value = array_with such (component_of state value) (length_of state value)

-- ---- elements

-- whether an array of the component may have the value: an int, null, or an object that fits the component
abbrev pub takes_object : World → State → JType → SymValue → Bool
takes_object world state component (Int term) = true
takes_object world state component Null = true
takes_object world state component value = is_object_of world state component value

-- ---- how many elements there are

-- an int counts the elements, and none is above the bound on inputs: a state that met such an array was cut
abbrev pub IsCountedLength : Length → Type 0
IsCountedLength Plain = Unit {0}
IsCountedLength (Is count) = count < 2 ^ 31
IsCountedLength (Above count) = ⊥

-- so it is of each array of the picture
abbrev pub AreCounted : Picture → Type 0
AreCounted picture = (number : ℕ) (object : PicObject) → slice_get picture.objects number ≡ Some object → IsCountedLength object.length

-- an int counts the elements of each array of the state (JVMS 8 section 6.5, arraylength)
abbrev pub HasCounts : State → Type 0
HasCounts state = (value : SymValue) (count : ℕ) → length_of state value ≡ Some count → count < 2 ^ 31
