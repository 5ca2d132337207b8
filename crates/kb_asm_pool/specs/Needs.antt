-- Which entries of a constant pool the lines of a class need (The Java Virtual Machine Specification, Java SE 8 Edition,
-- section 4.4), each behind those that it names.
use Rattle.std.specs.Prelude.{ℕ, ◌==◌, List, [], ◌∷◌, ◌++◌, Option, None, Some, codes, if◌then◌else◌}
use Rattle.kb_names.specs.Descriptors.{type_text, method_text}
use Rattle.kb_names.specs.declared.class_names.Spelling.TheVariants.{Raw}
use Rattle.kb_names.specs.declared.types.Target.{Target}
use Rattle.kb_asm_text.specs.declared.line.Sizes.{Sizes}
use Rattle.kb_asm_text.specs.declared.line.FieldName.{FieldName}
use Rattle.kb_asm_text.specs.declared.line.Constant.{Constant}
use Rattle.kb_asm_text.specs.declared.line.Constant.TheVariants as constants
use Rattle.kb_asm_text.specs.declared.line.ClassRef.{ClassRef}
use Rattle.kb_asm_text.specs.declared.line.ClassRef.TheVariants as refs
use Rattle.kb_asm_text.specs.declared.line.Operand.{Operand}
use Rattle.kb_asm_text.specs.declared.line.Operand.TheVariants as operands
use Rattle.kb_asm_text.specs.declared.line.BodyLine.{BodyLine}
use Rattle.kb_asm_text.specs.declared.line.BodyLine.TheVariants as bodies
use Rattle.kb_asm_text.specs.declared.line.Line.{Line}
use Rattle.kb_asm_text.specs.declared.line.Line.TheVariants as lines
use Rattle.kb_asm_pool.specs.declared.items.ReferenceKind.{ReferenceKind}
use Rattle.kb_asm_pool.specs.declared.items.ReferenceKind.TheVariants as kinds
use Rattle.kb_asm_pool.specs.Says.{Says, text, int, class, string, name_type, member}

-- a class or an array type
abbrev pub class_needs : List ℕ → List Says
class_needs name = text name ∷ class name ∷ []

abbrev pub member_needs : ReferenceKind → List ℕ → List ℕ → List ℕ → List Says
member_needs of owner name kind =
    text owner ∷ class owner ∷ text name ∷ text kind ∷ name_type name kind ∷ member of owner name kind ∷ []

-- invokeinterface names a method of an interface
abbrev pub kind_of_call : ℕ → ReferenceKind
kind_of_call op = if op == 0xb9 then kinds.InterfaceMethod else kinds.Method

abbrev pub constant_says : Constant → Says
constant_says (constants.Int number) = int number
constant_says (constants.Text bytes) = string bytes

abbrev pub constant_needs : Constant → List Says
constant_needs (constants.Int number) = int number ∷ []
constant_needs (constants.Text bytes) = text bytes ∷ string bytes ∷ []

-- the name of the Class entry of a class or an array type
abbrev pub ref_name : ClassRef → List ℕ
ref_name (refs.Class name) = name
ref_name (refs.Array of) = type_text Raw of

abbrev pub field_says : FieldName → Says
field_says of = member kinds.Field of.class of.name (type_text Raw of.kind)

abbrev pub field_needs : FieldName → List Says
field_needs of = member_needs kinds.Field of.class of.name (type_text Raw of.kind)

abbrev pub call_says : ℕ → Target → Says
call_says op of = member (kind_of_call op) of.class of.name (method_text Raw of.kind)

abbrev pub call_needs : ℕ → Target → List Says
call_needs op of = member_needs (kind_of_call op) of.class of.name (method_text Raw of.kind)

abbrev pub operand_needs : ℕ → Operand → List Says
operand_needs op (operands.Constant of) = constant_needs of
operand_needs op (operands.Field of) = field_needs of
operand_needs op (operands.Method of) = call_needs op of
operand_needs op (operands.New name) = class_needs name
operand_needs op (operands.Type of) = class_needs (ref_name of)
operand_needs op _ = []

-- the name of the attribute of a method with code
abbrev pub code_needs : Option Sizes → List Says
code_needs None = []
code_needs (Some sizes) = text (codes "Code") ∷ []

abbrev pub caught_needs : Option (List ℕ) → List Says
caught_needs None = []
caught_needs (Some name) = class_needs name

abbrev pub body_needs : BodyLine → List Says
body_needs (bodies.Instr op operand) = operand_needs op operand
body_needs (bodies.Catch row) = caught_needs row.class
body_needs _ = []

-- the entries that a line needs
abbrev pub line_needs : Line → List Says
line_needs (lines.Class head) = class_needs head.name ++ class_needs head.parent
line_needs (lines.Implements name) = class_needs name
line_needs (lines.Field head) = text head.name ∷ text (type_text Raw head.kind) ∷ []
line_needs (lines.Method head) = text head.name ∷ text (method_text Raw head.kind) ∷ code_needs head.sizes
line_needs (lines.Body line) = body_needs line
line_needs lines.End = []

-- the constant of an ldc line
abbrev pub ldc_constants : Line → List Constant
ldc_constants (lines.Body (bodies.Instr op (operands.Constant of))) = if op == 0x12 then of ∷ [] else []
ldc_constants _ = []
