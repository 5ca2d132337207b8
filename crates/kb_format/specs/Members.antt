-- Fields and methods by numbers that stand for their names and descriptors.
use Rattle.std.specs.Prelude.{◌≡◌, ℕ, ◌↔◌, ◌⊎◌, List, map, Option, Some, None, slice_get}
use Rattle.std.specs.Option.{option_and_then}
use Rattle.std.specs.Borrow.{Bor}
use Rattle.kb_classfile.specs.declared.file.Field.{Field}
use Rattle.kb_classfile.specs.declared.file.Method.{Method as ClassMethod}
use Rattle.kb_classfile.specs.declared.file.PoolEntry.{PoolEntry}
use Rattle.kb_classfile.specs.Pool.{utf8_in}
use Rattle.kb_format.specs.declared.place.Demand.{Demand}
use Rattle.kb_format.specs.declared.place.Demand.TheVariants as demands
use Rattle.kb_format.specs.declared.place.Place.{Place}
use Rattle.kb_format.specs.declared.place.Member.{Member}
use Rattle.kb_format.specs.Rules.{AllDiffer}
use Rattle.kb_format.specs.Places.{asked}
use Rattle.kb_format.specs.Faults.{IsFirstAgain}

abbrev pub member_of_field : Field → Member
member_of_field field = record { name = field.name; kind = field.kind }

abbrev pub member_of_method : ClassMethod → Member
member_of_method method = record { name = method.name; kind = method.kind }

abbrev pub name_of : Member → Place
name_of member = asked demands.NotEmpty member.name

abbrev pub type_of : Demand → Member → Place
type_of demand member = asked demand member.kind

-- ---- numbers of texts

-- the texts of a set, apart from where they lie
abbrev pub texts_of : List (Bor (List ℕ)) → List (List ℕ)
texts_of = map (λ text. text.now)

-- the number is the place among these texts of a text that was found
abbrev pub IsNumberOf : List (List ℕ) → Option (List ℕ) → Option ℕ → Type 0
IsNumberOf texts None None = Unit {0}
IsNumberOf texts (Some text) (Some number) = slice_get texts number ≡ Some text
IsNumberOf texts None (Some number) = ⊥
IsNumberOf texts (Some text) None = ⊥

-- the number of the text of that entry
abbrev pub number_at : List (Option ℕ) → ℕ → Option ℕ
number_at numbers entry = option_and_then (λ number. number) (slice_get numbers entry)

-- entries have one number exactly where they have one text
abbrev pub TellsTextsApart : List PoolEntry → List (Option ℕ) → Type 0
TellsTextsApart pool numbers = (one other : ℕ) → (number_at numbers one ≡ number_at numbers other) ↔ (utf8_in pool one ≡ utf8_in pool other)

-- ---- members that are there again

abbrev pub key_of : List (Option ℕ) → Member → Option ℕ × Option ℕ
key_of numbers member = (number_at numbers member.name, number_at numbers member.kind)

-- what is told of these members: the name of the first that is there again, or that they differ
abbrev pub TellsAgain : List (Option ℕ) → List Member → Option ℕ → Type 0
TellsAgain numbers members None = AllDiffer (map (key_of numbers) members)
TellsAgain numbers members (Some number) = (member : Member) × IsFirstAgain (key_of numbers) members member × (number ≡ member.name)

-- what is told of fields and methods: the name of the first field that is there again, or else of the first method that is, or
-- that fields differ, and methods too
abbrev pub TellsMembers : List (Option ℕ) → List Member → List Member → Option ℕ → Type 0
TellsMembers numbers fields methods None = TellsAgain numbers fields None × TellsAgain numbers methods None
TellsMembers numbers fields methods (Some number) =
    TellsAgain numbers fields (Some number) ⊎ (TellsAgain numbers fields None × TellsAgain numbers methods (Some number))
