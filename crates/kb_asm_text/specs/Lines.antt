-- The lines of assembler texts. A line is words with one space between two, and its first word says which line it is.
use Rattle.std.specs.Prelude.{◌≡◌, ℕ, ℤ, Bool, false, IsTrue, ◌==◌, List, [], ◌∷◌, ◌++◌, length, Option, None, Some, codes, if◌then◌else◌}
use Rattle.std.specs.Str.{bytes_eq}
use Rattle.kb_grammar.specs.Lines.{Lacks}
use Rattle.kb_grammar.specs.Numbers.{SpellsInt, SpellsWithin}
use Rattle.kb_names.specs.Descriptors.{SpellsType, SpellsMethod}
use Rattle.kb_names.specs.declared.class_names.Spelling.TheVariants.{Escaped}
use Rattle.kb_names.specs.declared.types.Target.{Target}
use Rattle.kb_code.specs.Forms.{form_of}
use Rattle.kb_code.specs.Switches.{are_rising, is_table}
use Rattle.kb_asm_text.specs.declared.keyword.Keyword.{Keyword}
use Rattle.kb_asm_text.specs.declared.keyword.Keyword.TheVariants as keywords
use Rattle.kb_asm_text.specs.declared.shape.Shape.{Shape}
use Rattle.kb_asm_text.specs.declared.shape.Shape.TheVariants as shapes
use Rattle.kb_asm_text.specs.declared.line.ClassHead.{ClassHead}
use Rattle.kb_asm_text.specs.declared.line.FieldHead.{FieldHead}
use Rattle.kb_asm_text.specs.declared.line.Sizes.{Sizes}
use Rattle.kb_asm_text.specs.declared.line.MethodHead.{MethodHead}
use Rattle.kb_asm_text.specs.declared.line.Constant.{Constant}
use Rattle.kb_asm_text.specs.declared.line.Constant.TheVariants as constants
use Rattle.kb_asm_text.specs.declared.line.FieldName.{FieldName}
use Rattle.kb_asm_text.specs.declared.line.Case.{Case}
use Rattle.kb_asm_text.specs.declared.line.Operand.{Operand}
use Rattle.kb_asm_text.specs.declared.line.Operand.TheVariants as operands
use Rattle.kb_asm_text.specs.declared.line.Catch.{Catch}
use Rattle.kb_asm_text.specs.declared.line.BodyLine.TheVariants as bodies
use Rattle.kb_asm_text.specs.declared.line.Line.{Line}
use Rattle.kb_asm_text.specs.declared.line.Line.TheVariants as lines
use Rattle.kb_asm_text.specs.Words.{IsOfWords, OneWord, TwoWords, ThreeWords, FourWords, FiveWords, FirstWord, EachWord}
use Rattle.kb_asm_text.specs.Tokens.{SpellsByteHex, SpellsFlags, SpellsLabel, SpellsText, SpellsAny, SpellsByteInt, SpellsShortInt, SpellsClassRef}
use Rattle.kb_asm_text.specs.Shapes.{shape_of, IsOpOf}

-- a value that is made of another, which the words spell
abbrev pub Made : {A B : Type 0} → (A → B) → (A → List (List ℕ) → Type 0) → B → List (List ℕ) → Type 0
Made {A} make S value words = (x : A) × (value ≡ make x) × S x words

-- ---- the class and its members

abbrev pub SpellsClassHead : ClassHead → List (List ℕ) → Type 0
SpellsClassHead head words =
    ThreeWords (λ flags name parent. SpellsFlags head.access flags × SpellsText head.name name × SpellsText head.parent parent) words

abbrev pub SpellsFieldHead : FieldHead → List (List ℕ) → Type 0
SpellsFieldHead head words =
    ThreeWords (λ flags name kind. SpellsFlags head.access flags × SpellsText head.name name × SpellsType Escaped head.kind kind) words

-- flags, name and descriptor of a method
abbrev pub SpellsMember : MethodHead → List ℕ → List ℕ → List ℕ → Type 0
SpellsMember head flags name kind = SpellsFlags head.access flags × SpellsText head.name name × SpellsMethod Escaped head.kind kind

-- a method without code, or with the sizes of its stack and locals
abbrev pub SpellsSized : Option Sizes → MethodHead → List (List ℕ) → Type 0
SpellsSized None head words = ThreeWords (SpellsMember head) words
SpellsSized (Some sizes) head words =
    FiveWords (λ flags name kind stack locals. SpellsMember head flags name kind × SpellsWithin 65535 sizes.max_stack stack × SpellsWithin 65535 sizes.max_locals locals) words

abbrev pub SpellsMethodHead : MethodHead → List (List ℕ) → Type 0
SpellsMethodHead head words = SpellsSized head.sizes head words

-- ---- what stands behind a mnemonic

abbrev pub SpellsConstant : Constant → List (List ℕ) → Type 0
SpellsConstant (constants.Int number) words = TwoWords (λ kind word. (kind ≡ codes "int") × SpellsInt number word) words
SpellsConstant (constants.Text text) words = TwoWords (λ kind word. (kind ≡ codes "str") × SpellsText text word) words

abbrev pub SpellsFieldName : FieldName → List (List ℕ) → Type 0
SpellsFieldName field words =
    ThreeWords (λ class name kind. SpellsText field.class class × SpellsText field.name name × SpellsType Escaped field.kind kind) words

abbrev pub SpellsMethodName : Target → List (List ℕ) → Type 0
SpellsMethodName method words =
    ThreeWords (λ class name kind. SpellsText method.class class × SpellsText method.name name × SpellsMethod Escaped method.kind kind) words

-- an int and a label with a colon between them
pub record SpellsCase (case : Case) (word : List ℕ) : Type 0 where
  pub key : List ℕ
  pub target : List ℕ
  pub is : word ≡ key ++ 58 ∷ target
  pub no_colon : Lacks 58 key
  pub key_is : SpellsInt case.key key
  pub target_is : SpellsLabel case.target target

-- the int of a case
abbrev pub key_of_case : Case → ℤ
key_of_case case = case.key

-- the words of a tableswitch and of a lookupswitch
pub record SpellsTable (low : ℤ) (default : List ℕ) (targets : List (List ℕ)) (words : List (List ℕ)) : Type 0 where
  pub sound : IsTrue (is_table low (length targets))
  pub spelled : FirstWord (λ word others. SpellsInt low word × FirstWord (λ next rest. SpellsLabel default next × EachWord SpellsLabel targets rest) others) words

pub record SpellsLookup (default : List ℕ) (cases : List Case) (words : List (List ℕ)) : Type 0 where
  pub rising : IsTrue (are_rising key_of_case cases)
  pub spelled : FirstWord (λ word others. SpellsLabel default word × EachWord SpellsCase cases others) words

-- the words behind a mnemonic of that kind
abbrev pub SpellsOperand : Shape → Operand → List (List ℕ) → Type 0
SpellsOperand shapes.Unwritten operand words = ⊥
SpellsOperand shapes.Alone operand words = (operand ≡ operands.Alone) × (words ≡ [])
SpellsOperand shapes.Byte operand words = Made operands.Byte (λ number. OneWord (SpellsByteInt number)) operand words
SpellsOperand shapes.Short operand words = Made operands.Short (λ number. OneWord (SpellsShortInt number)) operand words
SpellsOperand shapes.Constant operand words = Made operands.Constant SpellsConstant operand words
SpellsOperand shapes.Local operand words = Made operands.Local (λ number. OneWord (SpellsWithin 65535 number)) operand words
SpellsOperand shapes.Increment operand words =
    (local : ℕ) × (constant : ℤ) × (operand ≡ operands.Increment local constant)
    × TwoWords (λ first second. SpellsWithin 255 local first × SpellsByteInt constant second) words
SpellsOperand shapes.Field operand words = Made operands.Field SpellsFieldName operand words
SpellsOperand shapes.Method operand words = Made operands.Method SpellsMethodName operand words
SpellsOperand shapes.New operand words = Made operands.New (λ name. OneWord (SpellsText name)) operand words
SpellsOperand shapes.Type operand words = Made operands.Type (λ of. OneWord (SpellsClassRef of)) operand words
SpellsOperand shapes.Primitive operand words = Made operands.Primitive (λ number. OneWord (SpellsWithin 255 number)) operand words
SpellsOperand shapes.Branch operand words = Made operands.Target (λ label. OneWord (SpellsLabel label)) operand words
SpellsOperand shapes.Table operand words =
    (low : ℤ) × (default : List ℕ) × (targets : List (List ℕ)) × (operand ≡ operands.Table low default targets)
    × SpellsTable low default targets words
SpellsOperand shapes.Lookup operand words =
    (default : List ℕ) × (cases : List Case) × (operand ≡ operands.Lookup default cases) × SpellsLookup default cases words

-- ---- the lines of bodies

-- a class by its name, or any; no class is named any here
abbrev pub SpellsCaught : Option (List ℕ) → List ℕ → Type 0
SpellsCaught None word = SpellsAny word
SpellsCaught (Some name) word = SpellsText name word × (SpellsAny name → ⊥)

abbrev pub SpellsCatch : Catch → List (List ℕ) → Type 0
SpellsCatch row words =
    FourWords (λ start end target class. SpellsLabel row.start start × SpellsLabel row.end end × SpellsLabel row.target target × SpellsCaught row.class class) words

-- ---- lines

-- whether the word begins with a colon
abbrev pub begins_with_colon : List ℕ → Bool
begins_with_colon [] = false
begins_with_colon (byte ∷ bytes) = byte == 58

-- which line a first word begins
abbrev pub keyword_of : List ℕ → Keyword
keyword_of word =
    if bytes_eq word (codes "class") then keywords.Class else
    (if bytes_eq word (codes "implements") then keywords.Implements else
    (if bytes_eq word (codes "field") then keywords.Field else
    (if bytes_eq word (codes "method") then keywords.Method else
    (if bytes_eq word (codes "end") then keywords.End else
    (if bytes_eq word (codes "raw") then keywords.Raw else
    (if bytes_eq word (codes "catch") then keywords.Catch else
    (if begins_with_colon word then keywords.Label else
    keywords.Other)))))))

-- the line that begins with that word, with the words behind it
abbrev pub SpellsBehind : Keyword → Line → List ℕ → List (List ℕ) → Type 0
SpellsBehind keywords.Class line first words = Made lines.Class SpellsClassHead line words
SpellsBehind keywords.Implements line first words = Made lines.Implements (λ name. OneWord (SpellsText name)) line words
SpellsBehind keywords.Field line first words = Made lines.Field SpellsFieldHead line words
SpellsBehind keywords.Method line first words = Made lines.Method SpellsMethodHead line words
SpellsBehind keywords.End line first words = (line ≡ lines.End) × (words ≡ [])
SpellsBehind keywords.Raw line first words = Made (λ byte. lines.Body (bodies.Raw byte)) (λ byte. OneWord (SpellsByteHex byte)) line words
SpellsBehind keywords.Catch line first words = Made (λ row. lines.Body (bodies.Catch row)) SpellsCatch line words
SpellsBehind keywords.Label line first words =
    (label : List ℕ) × (line ≡ lines.Body (bodies.Label label)) × (word : List ℕ) × (first ≡ 58 ∷ word) × SpellsLabel label word × (words ≡ [])
SpellsBehind keywords.Other line first words =
    (op : ℕ) × (operand : Operand) × (line ≡ lines.Body (bodies.Instr op operand))
    × IsOpOf op first × SpellsOperand (shape_of (form_of op)) operand words

abbrev pub SpellsWords : Line → List (List ℕ) → Type 0
SpellsWords line words = FirstWord (λ first others. SpellsBehind (keyword_of first) line first others) words

-- the text is that line
pub record SpellsLine (line : Line) (text : List ℕ) : Type 0 where
  pub words : List (List ℕ)
  pub are : IsOfWords words text
  pub says : SpellsWords line words
