-- How exact types, places in code and bounds are written, in the texts of tests and in those of reports. Each has one spelling.
use Rattle.std.specs.Prelude.{◌≡◌, ℕ, ◌<◌, ◌^◌, List, ◌++◌, codes}
use Rattle.std.specs.Fmt.{decimal}
use Rattle.kb_heap.specs.declared.bounds.Bound.{Bound}
use Rattle.kb_heap.specs.declared.bounds.Bound.TheVariants.{K, Array as ArrayBound, Alloc, Loops, Depth, Steps}
use Rattle.kb_heap.specs.declared.ending.Place.{Place}
use Rattle.kb_names.specs.Types.{shape_of}
use Rattle.kb_names.specs.Escapes.{name_text}
use Rattle.kb_names.specs.Descriptors.{type_text, IsClassName, IsType}
use Rattle.kb_names.specs.Targets.{target_text, IsTarget}
use Rattle.kb_names.specs.declared.class_names.Spelling.TheVariants.{Escaped}
use Rattle.kb_names.specs.declared.types.JType.{JType}
use Rattle.kb_names.specs.declared.types.JType.TheVariants.{Array as array_type}
use Rattle.kb_names.specs.declared.types.ExactType.{ExactType}
use Rattle.kb_names.specs.declared.types.ExactType.TheVariants.{Class, Array}

-- ---- exact types

-- an exact type: a class by its name, an array by its descriptor (JVMS 8 sections 4.2.1 and 4.3.2)
unfoldable pub exact_text : ExactType → List ℕ
exact_text (Class name) = name_text name
exact_text (Array component) = codes "[" ++ type_text Escaped component

-- the type that is the array of that component
abbrev pub array_of : JType → JType
array_of component = array_type (shape_of component)

-- a class whose name is not empty, or an array of at most 255 dimensions
abbrev pub IsExact : ExactType → Type 0
IsExact (Class name) = IsClassName Escaped name
IsExact (Array component) = IsType Escaped (array_of component)

abbrev pub SpellsExact : ExactType → List ℕ → Type 0
SpellsExact kind text = IsExact kind × (text ≡ exact_text kind)

-- the same of array types alone, and of classes alone
abbrev pub IsArray : ExactType → Type 0
IsArray (Class name) = ⊥
IsArray (Array component) = Unit {0}

abbrev pub IsClass : ExactType → Type 0
IsClass (Class name) = Unit {0}
IsClass (Array component) = ⊥

abbrev pub SpellsArray : ExactType → List ℕ → Type 0
SpellsArray kind text = IsArray kind × SpellsExact kind text

abbrev pub SpellsClass : ExactType → List ℕ → Type 0
SpellsClass kind text = IsClass kind × SpellsExact kind text

-- ---- places

-- an instruction: its method, and its offset in the method's code (JVMS 8 section 4.7.3)
unfoldable pub place_text : Place → List ℕ
place_text place = target_text place.method ++ (codes " " ++ decimal place.at)

abbrev pub IsPlace : Place → Type 0
IsPlace place = IsTarget place.method × (place.at < 2 ^ 32)

abbrev pub SpellsPlace : Place → List ℕ → Type 0
SpellsPlace place text = IsPlace place × (text ≡ place_text place)

-- ---- bounds

unfoldable pub bound_name : Bound → List ℕ
bound_name K = codes "k"
bound_name ArrayBound = codes "array"
bound_name Alloc = codes "alloc"
bound_name Loops = codes "loops"
bound_name Depth = codes "depth"
bound_name Steps = codes "steps"

abbrev pub SpellsBound : Bound → List ℕ → Type 0
SpellsBound bound text = text ≡ bound_name bound
