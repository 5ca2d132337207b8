-- Tables of the names that several fields of one class have.
use Rattle.std.specs.Prelude.{ℕ, ◌≡◌, Bool, nat_lt, List, count_by}
use Rattle.std.specs.List.{list_any, AllZip}
use Rattle.std.specs.Str.{bytes_eq}
use Rattle.std.specs.declared.vec.Vec.{Vec}
use Rattle.std.specs.declared.alloc.Global.{Global}
use Rattle.indexmap.specs.IndexSet.{IndexSet}
use Rattle.kb_class.specs.Class.{Class}
use Rattle.kb_class.specs.declared.members.FieldInfo.{FieldInfo}

-- whether the name is one of those of the table
abbrev pub has_name : {S : Type 0} → IndexSet (Vec ℕ Global) S → List ℕ → Bool
has_name names name = list_any (λ (key : Vec ℕ Global). bytes_eq name key.items) names.keys

-- the table has the names that more than so many of the fields have
abbrev pub AreNamesOfMore : {S : Type 0} → ℕ → List FieldInfo → IndexSet (Vec ℕ Global) S → Type 0
AreNamesOfMore least fields names = (name : List ℕ) → has_name names name ≡ nat_lt least (count_by (λ (field : FieldInfo). bytes_eq name field.name) fields)

-- of each class the names that more than one of its fields have
abbrev pub AreShared : {S : Type 0} → List Class → List (IndexSet (Vec ℕ Global) S) → Type 0
AreShared {S} classes tables = AllZip (λ (class : Class) (names : IndexSet (Vec ℕ Global) S). AreNamesOfMore 1 class.fields names) classes tables
