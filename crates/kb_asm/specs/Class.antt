-- The class file of the lines of a text (The Java Virtual Machine Specification, Java SE 8 Edition, sections 4.1 and 4.5 to
-- 4.7).
use Rattle.std.specs.Prelude.{◌≡◌, ℕ, List, ◌∷◌, Option, None, Some}
use Rattle.std.specs.List.{AllZip}
use Rattle.kb_grammar.specs.Grammar.{Each}
use Rattle.kb_names.specs.Descriptors.{type_text, method_text}
use Rattle.kb_names.specs.declared.class_names.Spelling.TheVariants.{Raw}
use Rattle.kb_classfile.specs.declared.file.PoolEntry.{PoolEntry}
use Rattle.kb_classfile.specs.declared.file.Code.{Code}
use Rattle.kb_classfile.specs.declared.file.Field.{Field}
use Rattle.kb_classfile.specs.declared.file.Handler.{Handler}
use Rattle.kb_classfile.specs.declared.file.Method.{Method}
use Rattle.kb_classfile.specs.declared.file.ClassFile.{ClassFile}
use Rattle.kb_classfile.specs.Spelling.{Spells}
use Rattle.kb_writer.specs.Files.{class_bytes}
use Rattle.kb_asm_text.specs.declared.line.Sizes.{Sizes}
use Rattle.kb_asm_text.specs.declared.line.Catch.{Catch}
use Rattle.kb_asm_text.specs.declared.line.FieldHead.{FieldHead}
use Rattle.kb_asm_text.specs.declared.line.MethodHead.{MethodHead}
use Rattle.kb_asm_text.specs.declared.line.BodyLine.TheVariants as bodies
use Rattle.kb_asm_text.specs.declared.line.Line.{Line}
use Rattle.kb_asm_text.specs.declared.line.Line.TheVariants as lines
use Rattle.kb_asm_body.specs.Layout.{label_of}
use Rattle.kb_asm_check.specs.Faults.{IsText, body_of}
use Rattle.kb_asm.specs.Entries.{SaysText, SaysClass}
use Rattle.kb_asm.specs.Parts.{parts}
use Rattle.kb_asm.specs.Pool.{IsPoolOf}
use Rattle.kb_asm.specs.Instructions.{EncodesLine}

-- ---- what lines have

abbrev pub interface_in : Line → List Line → Option (List ℕ)
interface_in (lines.Implements name) others = Some name
interface_in _ others = None

abbrev pub field_in : Line → List Line → Option FieldHead
field_in (lines.Field head) others = Some head
field_in _ others = None

-- a method, with the lines of its body
abbrev pub method_in : Line → List Line → Option (MethodHead × List Line)
method_in (lines.Method head) others = Some (head, body_of others)
method_in _ others = None

abbrev pub handler_in : Line → List Line → Option Catch
handler_in (lines.Body (bodies.Catch row)) others = Some row
handler_in _ others = None

-- ---- what means them in a class file

abbrev pub IsFieldOf : List PoolEntry → FieldHead → Field → Type 0
IsFieldOf pool head field =
    (field.access ≡ head.access) × SaysText pool head.name field.name × SaysText pool (type_text Raw head.kind) field.kind

-- the number of the class that is caught, or 0 for any
abbrev pub IsCaught : List PoolEntry → Option (List ℕ) → ℕ → Type 0
IsCaught pool None number = number ≡ 0
IsCaught pool (Some name) number = SaysClass pool name number

-- a row of the handler table of a body with these labels
pub record IsHandlerOf (pool : List PoolEntry) (labels : List ℕ → Option ℕ) (row : Catch) (handler : Handler) : Type 0 where
  pub start : labels row.start ≡ Some handler.start
  pub end : labels row.end ≡ Some handler.end
  pub target : labels row.target ≡ Some handler.target
  pub catch : IsCaught pool row.class handler.catch

-- the code of a body, whose lines stand one behind the other, and so do the rows of its handler table
pub record IsCodeOf (pool : List PoolEntry) (sizes : Sizes) (body : List Line) (code : Code) : Type 0 where
  pub stack : code.max_stack ≡ sizes.max_stack
  pub locals : code.max_locals ≡ sizes.max_locals
  pub instructions : Each (EncodesLine pool (label_of body)) body 0 code.bytes
  pub handlers : AllZip (IsHandlerOf pool (label_of body)) (parts handler_in body) code.handlers

-- a method with sizes has code, and no other method
abbrev pub HasCodeOf : List PoolEntry → Option Sizes → List Line → Option Code → Type 0
HasCodeOf pool None body code = code ≡ None
HasCodeOf pool (Some sizes) body None = ⊥
HasCodeOf pool (Some sizes) body (Some code) = IsCodeOf pool sizes body code

pub record IsMethodOf (pool : List PoolEntry) (of : MethodHead × List Line) (method : Method) : Type 0 where
  pub access : method.access ≡ of.0.access
  pub name : SaysText pool of.0.name method.name
  pub kind : SaysText pool (method_text Raw of.0.kind) method.kind
  pub code : HasCodeOf pool of.0.sizes of.1 method.code

-- the flags and the names that the first line has
abbrev pub IsHeadedBy : List Line → ClassFile → Type 0
IsHeadedBy (lines.Class head ∷ others) file =
    (file.access ≡ head.access) × SaysClass file.pool head.name file.this × SaysClass file.pool head.parent file.parent
IsHeadedBy _ file = ⊥

-- the class of the lines, whose version is that of Java 8
pub record IsClassOf (of : List Line) (file : ClassFile) : Type 0 where
  pub major : file.major ≡ 52
  pub head : IsHeadedBy of file
  pub interfaces : AllZip (SaysClass file.pool) (parts interface_in of) file.interfaces
  pub fields : AllZip (IsFieldOf file.pool) (parts field_in of) file.fields
  pub methods : AllZip (IsMethodOf file.pool) (parts method_in of) file.methods
  pub pool : IsPoolOf of file.pool

-- The text is that of a class, and the bytes are a class file that spells that class, of the minor version 0 and without
-- attributes but Code.
pub record IsAssembled (text bytes : List ℕ) : Type 0 where
  pub of : List Line
  pub is_text : IsText of text
  pub file : ClassFile
  pub code_name : ℕ
  pub is_class : IsClassOf of file
  pub spelled : Spells file bytes
  pub are : bytes ≡ class_bytes code_name file
