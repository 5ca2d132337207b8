-- How a reader of descriptors goes on from byte to byte.
use Rattle.std.specs.Prelude.{ℕ, ◌+◌, Option, Some, None, List, [], ◌∷◌, ◌++◌, ◌==◌, nat_lt, if◌then◌else◌}
use Rattle.std.specs.Option.{option_map, option_and_then}
use Rattle.kb_names.specs.Escapes.{name_step, name_read}
use Rattle.kb_names.specs.declared.name_texts.NameStage.TheVariants.{Plain}
use Rattle.kb_names.specs.declared.class_names.Spelling.{Spelling}
use Rattle.kb_names.specs.declared.class_names.Spelling.TheVariants.{Raw, Escaped}
use Rattle.kb_names.specs.declared.class_names.ClassStage.{ClassStage}
use Rattle.kb_names.specs.declared.class_names.ClassStage.TheVariants.{RawName, EscapedName}
use Rattle.kb_names.specs.Shape.{Base, bool_base, byte_base, char_base, short_base, int_base, long_base, float_base, double_base, class_base}
use Rattle.kb_names.specs.Types.{arrays_of}
use Rattle.kb_names.specs.Descriptors.{may_stand}
use Rattle.kb_names.specs.declared.types.JType.{JType}
use Rattle.kb_names.specs.declared.types.MethodType.{MethodType}
use Rattle.kb_names.specs.declared.descriptors.TypeStage.{TypeStage}
use Rattle.kb_names.specs.declared.descriptors.TypeStage.TheVariants.{Dims, InName, Whole}
use Rattle.kb_names.specs.declared.descriptors.MethodStage.{MethodStage}
use Rattle.kb_names.specs.declared.descriptors.MethodStage.TheVariants.{Opening, Params, Param, Return, Returned, Method}

-- the base that is spelled by one letter
abbrev pub base_of : ℕ → Option Base
base_of letter =
    if letter == 90 then Some bool_base
    else if letter == 66 then Some byte_base
    else if letter == 67 then Some char_base
    else if letter == 83 then Some short_base
    else if letter == 73 then Some int_base
    else if letter == 74 then Some long_base
    else if letter == 70 then Some float_base
    else if letter == 68 then Some double_base
    else None

-- where a class's name begins
abbrev pub class_start : Spelling → ClassStage
class_start Raw = RawName []
class_start Escaped = EscapedName (Plain [])

abbrev pub some_bytes : List ℕ → Option (List ℕ)
some_bytes [] = None
some_bytes (first ∷ others) = Some (first ∷ others)

-- the class's name that is read, if it may end here: it is not empty
abbrev pub class_read : ClassStage → Option (List ℕ)
class_read (RawName name) = some_bytes name
class_read (EscapedName stage) = option_and_then some_bytes (name_read stage)

-- in a class's name
unfoldable pub class_step : ClassStage → ℕ → Option ClassStage
class_step (RawName name) byte = if may_stand byte then Some (RawName (name ++ byte ∷ [])) else None
class_step (EscapedName stage) byte = option_map (λ next. EscapedName next) (name_step stage byte)

-- after so many dimensions
abbrev pub dims_step : Spelling → ℕ → ℕ → Option TypeStage
dims_step spelling dims byte =
    if byte == 91 then (if nat_lt dims 255 then Some (Dims spelling (dims + 1)) else None)
    else if byte == 76 then Some (InName dims (class_start spelling))
    else option_map (λ base. Whole (arrays_of dims base)) (base_of byte)

-- in the name of the class of which it is an array
abbrev pub in_name_step : ℕ → ClassStage → ℕ → Option TypeStage
in_name_step dims class byte =
    if byte == 59 then option_map (λ name. Whole (arrays_of dims (class_base name))) (class_read class)
    else option_map (λ next. InName dims next) (class_step class byte)

unfoldable pub type_step : TypeStage → ℕ → Option TypeStage
type_step (Dims spelling dims) byte = dims_step spelling dims byte
type_step (InName dims class) byte = in_name_step dims class byte
type_step (Whole type) byte = None

-- after a byte of a parameter
abbrev pub after_param : Spelling → List JType → TypeStage → MethodStage
after_param spelling params (Whole type) = Params spelling (params ++ type ∷ [])
after_param spelling params stage = Param spelling params stage

-- after a byte of the result
abbrev pub after_result : List JType → TypeStage → MethodStage
after_result params (Whole type) = Method (record { params = params; result = Some type })
after_result params stage = Returned params stage

unfoldable pub method_step : MethodStage → ℕ → Option MethodStage
method_step (Opening spelling) byte = if byte == 40 then Some (Params spelling []) else None
method_step (Params spelling params) byte =
    if byte == 41 then Some (Return spelling params) else option_map (after_param spelling params) (type_step (Dims spelling 0) byte)
method_step (Param spelling params stage) byte = option_map (after_param spelling params) (type_step stage byte)
method_step (Return spelling params) byte =
    if byte == 86 then Some (Method (record { params = params; result = None })) else option_map (after_result params) (type_step (Dims spelling 0) byte)
method_step (Returned params stage) byte = option_map (after_result params) (type_step stage byte)
method_step (Method kind) byte = None

-- the type that is read, if the text may end here
abbrev pub type_read : TypeStage → Option JType
type_read (Whole type) = Some type
type_read stage = None

abbrev pub method_read : MethodStage → Option MethodType
method_read (Method kind) = Some kind
method_read stage = None
