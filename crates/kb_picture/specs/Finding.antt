-- Which slots were found before they were read: those of arguments, and those of objects to which a slot leads that was read
-- before (lazy initialisation goes on from the arguments: Khurshid, Păsăreanu and Visser, TACAS 2003). What an exploration sees
-- is read in such an order. It is said beside `IsPicture`: no input tells the orders apart, and no path has to keep one in order
-- to be well-formed.
use Rattle.std.specs.Prelude.{◌≡◌, ℕ, List, take, Some, slice_get}
use Rattle.kb_class.specs.Naming.{Has}
use Rattle.kb_picture.specs.declared.picture.Origin.{Origin}
use Rattle.kb_picture.specs.declared.picture.Origin.TheVariants.{Arg, Field, Element}
use Rattle.kb_picture.specs.declared.picture.Picture.{Picture}
use Rattle.kb_picture.specs.WellFormed.{LeadsTo, slots_seen}

-- one of these slots leads to the object
abbrev pub IsFound : Picture → List Origin → ℕ → Type 0
IsFound picture before number = (slot : Origin) × Has before slot × LeadsTo picture slot number

-- an object is found before its slots are read: one of the slots that were read before leads to it
abbrev pub IsFoundIn : Picture → List Origin → Origin → Type 0
IsFoundIn picture before (Arg number) = Unit {0}
IsFoundIn picture before (Field number slot) = IsFound picture before number
IsFoundIn picture before (Element number index) = IsFound picture before number

-- each slot that is seen was found before it was read
abbrev pub IsFoundFirst : Picture → Type 0
IsFoundFirst picture = (i : ℕ) (slot : Origin) → slice_get (slots_seen picture) i ≡ Some slot → IsFoundIn picture (take i (slots_seen picture)) slot
