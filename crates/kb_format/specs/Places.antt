-- The places of a class file at which a text of the pool is asked for, in the order of the file, and what is asked there.
use Rattle.std.specs.Prelude.{ℕ, List, ◌++◌, map, Option, Some, None}
use Rattle.std.specs.List.{filter_map}
use Rattle.kb_classfile.specs.declared.file.ClassFile.{ClassFile}
use Rattle.kb_classfile.specs.declared.file.Field.{Field}
use Rattle.kb_classfile.specs.declared.file.Method.{Method as ClassMethod}
use Rattle.kb_classfile.specs.declared.file.PoolEntry.{PoolEntry}
use Rattle.kb_classfile.specs.declared.file.PoolEntry.TheVariants as entries
use Rattle.kb_classfile.specs.Pool.{utf8_in}
use Rattle.kb_names.specs.declared.class_names.Spelling.TheVariants.{Raw}
use Rattle.kb_names.specs.Descriptors.{IsTypeText, IsMethodText}
use Rattle.kb_format.specs.declared.place.Demand.{Demand}
use Rattle.kb_format.specs.declared.place.Demand.TheVariants as demands
use Rattle.kb_format.specs.declared.place.Place.{Place}
use Rattle.kb_format.specs.Rules.{IsFound, IsNotEmpty, IsEntryName, IsDescriptor}

-- the text is what is asked for
abbrev pub Meets : Demand → List ℕ → Type 0
Meets demands.ClassName text = IsEntryName text
Meets demands.NotEmpty text = IsNotEmpty text
Meets demands.FieldType text = IsTypeText Raw text
Meets demands.MethodType text = IsMethodText Raw text
Meets demands.AnyType text = IsDescriptor text

-- the place names a text, and it is what is asked for there
abbrev pub IsMet : List PoolEntry → Place → Type 0
IsMet pool place = IsFound (Meets place.demand) (utf8_in pool place.text)

abbrev pub asked : Demand → ℕ → Place
asked demand text = record { text = text; demand = demand }

-- ---- names

abbrev pub name_in_entry : PoolEntry → Option Place
name_in_entry (entries.Class name) = Some (asked demands.ClassName name)
name_in_entry (entries.NameType name kind) = Some (asked demands.NotEmpty name)
name_in_entry _ = None

abbrev pub name_of_field : Field → Place
name_of_field field = asked demands.NotEmpty field.name

abbrev pub name_of_method : ClassMethod → Place
name_of_method method = asked demands.NotEmpty method.name

-- the names of Class and NameAndType entries, by the entries' numbers, then of fields, then of methods
abbrev pub name_places : ClassFile → List Place
name_places file = filter_map name_in_entry file.pool ++ (map name_of_field file.fields ++ map name_of_method file.methods)

-- ---- descriptors

abbrev pub type_in_entry : PoolEntry → Option Place
type_in_entry (entries.NameType name kind) = Some (asked demands.AnyType kind)
type_in_entry _ = None

abbrev pub type_of_field : Field → Place
type_of_field field = asked demands.FieldType field.kind

abbrev pub type_of_method : ClassMethod → Place
type_of_method method = asked demands.MethodType method.kind

-- the descriptors of NameAndType entries, by the entries' numbers, then of fields, then of methods
abbrev pub type_places : ClassFile → List Place
type_places file = filter_map type_in_entry file.pool ++ (map type_of_field file.fields ++ map type_of_method file.methods)
