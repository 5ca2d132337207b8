-- Which object of a picture has a slot.
use Rattle.std.specs.Prelude.{ℕ, nat_lt, Option, None}
use Rattle.kb_picture.specs.declared.picture.Origin.{Origin}
use Rattle.kb_picture.specs.declared.picture.Origin.TheVariants.{Arg, Field, Element}
use Rattle.kb_semantics.specs.Looks.{only_where}

-- the number of the object that has the slot or the element, where it is one of the first so many; an argument is in none
abbrev pub holder_in : ℕ → Origin → Option ℕ
holder_in count (Arg number) = None
holder_in count (Field object slot) = only_where (nat_lt object count) object
holder_in count (Element array index) = only_where (nat_lt array count) array
