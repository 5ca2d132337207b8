-- Classes that are initialised by code (JVMS 8 sections 2.9 and 5.5): they or their superclasses declare a method named
-- `<clinit>`.
use Rattle.std.specs.Prelude.{ℕ, Bool, false, List, [], Option, Some, None, slice_get, slice_index_or, unwrap_or, codes}
use Rattle.std.specs.List.{list_any}
use Rattle.std.specs.Str.{bytes_eq}
use Rattle.kb_class.specs.Class.{Class}
use Rattle.kb_class.specs.declared.members.MethodInfo.{MethodInfo}
use Rattle.kb_classes.specs.World.{World}

abbrev pub initialiser_name : List ℕ
initialiser_name = codes "<clinit>"

abbrev pub is_initialiser : MethodInfo → Bool
is_initialiser method = bytes_eq method.name initialiser_name

abbrev pub declares_initialiser : Class → Bool
declares_initialiser class = list_any is_initialiser class.methods

abbrev pub declares_there : Option Class → Bool
declares_there None = false
declares_there (Some class) = declares_initialiser class

-- whether a class on the chain declares one
abbrev pub has_initialiser : List Class → List ℕ → Bool
has_initialiser classes chain = list_any (λ number. declares_there (slice_get classes number)) chain

-- whether the class of that number is initialised by code
abbrev pub is_initialised : World → ℕ → Bool
is_initialised world number = has_initialiser world.classes (slice_index_or world.chains number [])

-- ---- marks

-- whether the number is marked
abbrev pub is_marked : List Bool → ℕ → Bool
is_marked marks number = unwrap_or (slice_get marks number) false
