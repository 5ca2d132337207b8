-- The bytes of a line of a body (The Java Virtual Machine Specification, Java SE 8 Edition, section 6.5).
use Rattle.std.specs.Prelude.{◌≡◌, ℕ, ℤ, Bool, true, false, ◌==◌, List, [], ◌∷◌, length, Option, Some, if◌then◌else◌}
use Rattle.std.specs.List.{AllZip}
use Rattle.kb_grammar.specs.Grammar.{Piece}
use Rattle.kb_classfile.specs.declared.file.PoolEntry.{PoolEntry}
use Rattle.kb_names.specs.declared.types.MethodType.{MethodType}
use Rattle.kb_code.specs.declared.instruction.Instr.{Instr}
use Rattle.kb_code.specs.Listing.{SpellsInstr}
use Rattle.kb_writer.specs.declared.written.Written.{Written}
use Rattle.kb_writer.specs.declared.written.Written.TheVariants as ways
use Rattle.kb_writer.specs.Instructions.{Writes, bytes_of}
use Rattle.kb_asm_text.specs.declared.line.Case.{Case}
use Rattle.kb_asm_text.specs.declared.line.Operand.{Operand}
use Rattle.kb_asm_text.specs.declared.line.Operand.TheVariants as operands
use Rattle.kb_asm_text.specs.declared.line.BodyLine.TheVariants as bodies
use Rattle.kb_asm_text.specs.declared.line.Line.{Line}
use Rattle.kb_asm_text.specs.declared.line.Line.TheVariants as lines
use Rattle.kb_asm_body.specs.Words.{argument_words}
use Rattle.kb_asm_body.specs.Layout.{line_size}
use Rattle.kb_asm_pool.specs.Says.{Says, class}
use Rattle.kb_asm_pool.specs.Needs.{constant_says, field_says, call_says, ref_name}
use Rattle.kb_asm.specs.Entries.{EntrySays}

-- ---- labels

abbrev pub LeadsTo : (List ℕ → Option ℕ) → List ℕ → ℕ → Type 0
LeadsTo labels label to = labels label ≡ Some to

-- an int and a target for it
abbrev pub IsPair : (List ℕ → Option ℕ) → Case → ℤ × ℕ → Type 0
IsPair labels case pair = (pair.0 ≡ case.key) × LeadsTo labels case.target pair.1

-- the distance of goto_w, c8, has four bytes, that of other branches two
abbrev pub IsBranch : ℕ → ℕ → Written → Type 0
IsBranch op to written = written ≡ (if op == 0xc8 then ways.Far op to else ways.Near op to)

-- ---- entries

-- the instruction of an entry that says that
abbrev pub Names : List PoolEntry → Says → (ℕ → Written → Type 0) → Written → Type 0
Names pool one Is written = (number : ℕ) × EntrySays pool one number × Is number written

-- its number has two bytes
abbrev pub IsEntry : ℕ → ℕ → Written → Type 0
IsEntry op number written = written ≡ ways.Entry op number

-- that of ldc, 12, has one
abbrev pub IsConstant : ℕ → ℕ → Written → Type 0
IsConstant op number written = written ≡ (if op == 0x12 then ways.Constant number else ways.Entry op number)

-- invokeinterface says how many words the arguments take, the receiver's among them
abbrev pub IsCallBy : Bool → ℕ → MethodType → ℕ → Written → Type 0
IsCallBy true op kind number written = (words : ℕ) × (argument_words kind ≡ Some words) × (written ≡ ways.Interface number words)
IsCallBy false op kind number written = IsEntry op number written

-- b9 is invokeinterface
abbrev pub IsCall : ℕ → MethodType → ℕ → Written → Type 0
IsCall op kind number written = IsCallBy (op == 0xb9) op kind number written

-- ---- lines

-- A pool, and where the labels of the body lead.
module _ (pool : List PoolEntry) (labels : List ℕ → Option ℕ) where
  -- the instruction that an opcode and its operand ask for
  abbrev pub IsAsked : ℕ → Operand → Written → Type 0
  IsAsked op operands.Alone written = written ≡ ways.Alone op
  IsAsked op (operands.Byte number) written = written ≡ ways.PushByte number
  IsAsked op (operands.Short number) written = written ≡ ways.PushShort number
  IsAsked op (operands.Constant of) written = Names pool (constant_says of) (IsConstant op) written
  IsAsked op (operands.Local local) written = written ≡ ways.Local op local
  IsAsked op (operands.Increment local constant) written = written ≡ ways.Increment local constant
  IsAsked op (operands.Field field) written = Names pool (field_says field) (IsEntry op) written
  IsAsked op (operands.Method method) written = Names pool (call_says op method) (IsCall op method.kind) written
  IsAsked op (operands.New name) written = Names pool (class name) (IsEntry op) written
  IsAsked op (operands.Type of) written = Names pool (class (ref_name of)) (IsEntry op) written
  IsAsked op (operands.Primitive code) written = written ≡ ways.Primitive code
  IsAsked op (operands.Target label) written = (to : ℕ) × LeadsTo labels label to × IsBranch op to written
  IsAsked op (operands.Table low default targets) written =
      (first : ℕ) × (others : List ℕ) × LeadsTo labels default first × AllZip (LeadsTo labels) targets others × (written ≡ ways.Table low first others)
  IsAsked op (operands.Lookup default cases) written =
      (first : ℕ) × (pairs : List (ℤ × ℕ)) × LeadsTo labels default first × AllZip (IsPair labels) cases pairs × (written ≡ ways.Lookup first pairs)

  -- The bytes are those of the instruction, in the form that is asked for, and spell it at the offset.
  pub record SpellsAsked (op : ℕ) (operand : Operand) (at : ℕ) (bytes : List ℕ) : Type 0 where
    pub written : Written
    pub asked : IsAsked op operand written
    pub are : bytes ≡ bytes_of written at
    pub instr : Instr
    pub writes : Writes written instr
    pub spelled : SpellsInstr instr at bytes

  -- an instruction, a byte of its own, or none
  abbrev pub SpellsCode : Line → Piece
  SpellsCode (lines.Body (bodies.Instr op operand)) at bytes = SpellsAsked op operand at bytes
  SpellsCode (lines.Body (bodies.Raw byte)) at bytes = bytes ≡ byte ∷ []
  SpellsCode _ at bytes = bytes ≡ []

  -- They are as many as the line takes at the offset, so that labels lead where they stand.
  pub record EncodesLine (line : Line) (at : ℕ) (bytes : List ℕ) : Type 0 where
    pub code : SpellsCode line at bytes
    pub size : length bytes ≡ line_size line at
