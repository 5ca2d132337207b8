-- What the parts of the assembler hand to one another.
use Rattle.std.specs.Prelude.{◌≡◌, ◌<◌, ◌≤◌, ◌^◌, ℕ, true, false, List, [], ◌∷◌, ◌++◌, length, Option, None, Some, IfSome, codes}
use Rattle.std.specs.List.{AllZip}
use Rattle.kb_grammar.specs.Grammar.{Piece}
use Rattle.kb_code.specs.Forms.{form_of}
use Rattle.kb_classfile.specs.declared.file.Code.{Code}
use Rattle.kb_classfile.specs.declared.file.Method.{Method}
use Rattle.kb_classfile.specs.declared.file.ClassFile.{ClassFile}
use Rattle.kb_classfile.specs.Spelling.{Spells}
use Rattle.kb_writer.specs.Files.{IfCode, class_bytes}
use Rattle.kb_asm_text.specs.declared.line.ClassHead.{ClassHead}
use Rattle.kb_asm_text.specs.declared.line.MethodHead.{MethodHead}
use Rattle.kb_asm_text.specs.declared.line.Operand.{Operand}
use Rattle.kb_asm_text.specs.declared.line.Catch.{Catch}
use Rattle.kb_asm_text.specs.declared.line.BodyLine.TheVariants as bodies
use Rattle.kb_asm_text.specs.declared.line.Line.{Line}
use Rattle.kb_asm_text.specs.declared.line.Line.TheVariants as lines
use Rattle.kb_asm_text.specs.Shapes.{shape_of}
use Rattle.kb_asm_text.specs.Lines.{SpellsOperand}
use Rattle.kb_asm_body.specs.declared.layout.Layout.{Layout}
use Rattle.kb_asm_body.specs.Layout.{offset_at}
use Rattle.kb_asm_body.specs.Faults.{is_missing, fault_of}
use Rattle.kb_asm_pool.specs.Says.{Says, text}
use Rattle.kb_asm_pool.specs.Entries.{entries_of}
use Rattle.kb_asm_check.specs.Limits.{ldc_says, has_few_words}
use Rattle.kb_asm_check.specs.Faults.{IsText, body_of}
use Rattle.kb_asm.specs.Parts.{parts}
use Rattle.kb_asm.specs.Pool.{Has}
use Rattle.kb_asm.specs.Needs.{AreFirst}
use Rattle.kb_asm.specs.Entries.{SaysClass}
use Rattle.kb_asm.specs.Class.{interface_in, field_in, method_in, handler_in, IsFieldOf, IsMethodOf, IsHeadedBy, IsClassOf}

-- where the labels of a layout lead
abbrev pub labels_of : Layout → List ℕ → Option ℕ
labels_of layout name = offset_at layout.labels name

-- the bytes with a piece behind them
pub record Appends (S : Piece) (old new : List ℕ) : Type 0 where
  pub piece : List ℕ
  pub is : new ≡ old ++ piece
  pub spelled : S (length old) piece

-- a value where there is a part, which means it
abbrev pub Agree : {A B : Type 0} → (A → B → Type 0) → Option A → Option B → Type 0
Agree Means None None = Unit {0}
Agree Means (Some x) (Some y) = Means x y
Agree Means _ _ = ⊥

-- some words spell the operand
abbrev pub IsFormed : ℕ → Operand → Type 0
IsFormed op operand = (words : List (List ℕ)) × SpellsOperand (shape_of (form_of op)) operand words

-- An instruction that can be written over a pool that says this: some words spell its operand, the arguments of an
-- invokeinterface take few words, and the constant of an ldc has a number of one byte.
pub record IsFit (says : List Says) (op : ℕ) (operand : Operand) : Type 0 where
  pub formed : IsFormed op operand
  pub few : has_few_words (lines.Body (bodies.Instr op operand)) ≡ true
  pub first : AreFirst says (ldc_says (lines.Body (bodies.Instr op operand)))

abbrev pub IsFitLine : List Says → Line → Type 0
IsFitLine says (lines.Body (bodies.Instr op operand)) = IsFit says op operand
IsFitLine says _ = Unit {0}

-- they are the lines of the text of a class
abbrev pub AreText : List Line → Type 0
AreText of = (text : List ℕ) × IsText of text

-- the first line names the class
abbrev pub BeginsClass : List Line → Type 0
BeginsClass of = (head : ClassHead) × (others : List Line) × (of ≡ lines.Class head ∷ others)

-- their count has two bytes
abbrev pub AreCounted : {A : Type 0} → List A → Type 0
AreCounted xs = length xs < 2 ^ 16

-- labels lead to offsets of two bytes
abbrev pub AreNear : (List ℕ → Option ℕ) → Type 0
AreNear labels = (name : List ℕ) (to : ℕ) → labels name ≡ Some to → to ≤ 65535

-- the labels of a row of the handler table are there
pub record IsLabelled (labels : List ℕ → Option ℕ) (row : Catch) : Type 0 where
  pub start : is_missing labels true row.start ≡ false
  pub end : is_missing labels true row.end ≡ false
  pub target : is_missing labels true row.target ≡ false

abbrev pub IsLabelledLine : (List ℕ → Option ℕ) → Line → Type 0
IsLabelledLine labels (lines.Body (bodies.Catch row)) = IsLabelled labels row
IsLabelledLine labels _ = Unit {0}

-- a whole body without a faulty line, whose handlers two bytes count
pub record IsSoundBody (body : List Line) : Type 0 where
  pub faultless : fault_of true body ≡ None
  pub counted : AreCounted (parts handler_in body)

-- the body behind a line, if that is the first of a method with code
abbrev pub IsSoundAt : Line → List Line → Type 0
IsSoundAt (lines.Method head) others = IfSome head.sizes (λ _. IsSoundBody (body_of others))
IsSoundAt _ others = Unit {0}

-- the bodies of the methods are sound
abbrev pub AreSound : List Line → Type 0
AreSound [] = Unit {0}
AreSound (line ∷ others) = IsSoundAt line others × AreSound others

-- some bytes, whose count has two bytes
abbrev pub AreFew : List ℕ → Type 0
AreFew bytes = (1 ≤ length bytes) × AreCounted bytes

-- the code can be written, with its name
pub record IsReady (says : List Says) (code : Code) : Type 0 where
  pub named : Has says (text (codes "Code"))
  pub few : AreFew code.bytes
  pub counted : AreCounted code.handlers

-- the method of a head and the lines of a body, and that its code can be written
pub record IsReadyMethod (says : List Says) (of : MethodHead × List Line) (method : Method) : Type 0 where
  pub is : IsMethodOf (entries_of says) of method
  pub ready : IfCode (IsReady says) method.code

-- the class file of the lines, and that it can be written
pub record IsFileOf (says : List Says) (of : List Line) (file : ClassFile) : Type 0 where
  pub pool : file.pool ≡ entries_of says
  pub major : file.major ≡ 52
  pub head : IsHeadedBy of file
  pub interfaces : AllZip (SaysClass (entries_of says)) (parts interface_in of) file.interfaces
  pub fields : AllZip (IsFieldOf (entries_of says)) (parts field_in of) file.fields
  pub methods : AllZip (IsReadyMethod says) (parts method_in of) file.methods
  pub few_interfaces : AreCounted file.interfaces
  pub few_fields : AreCounted file.fields
  pub few_methods : AreCounted file.methods

-- the bytes spell the class of the lines
pub record AreBytesOf (of : List Line) (bytes : List ℕ) : Type 0 where
  pub file : ClassFile
  pub code_name : ℕ
  pub is_class : IsClassOf of file
  pub spelled : Spells file bytes
  pub are : bytes ≡ class_bytes code_name file
