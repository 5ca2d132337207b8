-- Where the instructions of a body stand, and where its labels lead. Offsets are counted from the start of the code.
use Rattle.std.specs.Prelude.{◌≡◌, ℕ, ◌+◌, ◌*◌, ◌==◌, nat_lt, Bool, false, List, [], ◌∷◌, length, Option, None, Some, if◌then◌else◌}
use Rattle.std.specs.Str.{bytes_eq}
use Rattle.std.specs.HashMap.{HashMap, get_by}
use Rattle.std.specs.declared.vec.Vec.{Vec}
use Rattle.std.specs.declared.alloc.Global.{Global}
use Rattle.kb_code.specs.Reading.{padding_at}
use Rattle.kb_asm_text.specs.declared.line.Operand.{Operand}
use Rattle.kb_asm_text.specs.declared.line.Operand.TheVariants as operands
use Rattle.kb_asm_text.specs.declared.line.BodyLine.{BodyLine}
use Rattle.kb_asm_text.specs.declared.line.BodyLine.TheVariants as bodies
use Rattle.kb_asm_text.specs.declared.line.Line.{Line}
use Rattle.kb_asm_text.specs.declared.line.Line.TheVariants as lines

-- How many bytes the instruction of an opcode has at an offset (The Java Virtual Machine Specification, Java SE 8 Edition,
-- section 6.5): ldc is 12, invokeinterface b9, goto_w c8. Wide stands before a local above 255.
abbrev pub instr_size : ℕ → Operand → ℕ → ℕ
instr_size op operands.Alone at = 1
instr_size op (operands.Byte number) at = 2
instr_size op (operands.Short number) at = 3
instr_size op (operands.Constant of) at = if op == 0x12 then 2 else 3
instr_size op (operands.Local local) at = if nat_lt local 256 then 2 else 4
instr_size op (operands.Increment local constant) at = 3
instr_size op (operands.Field field) at = 3
instr_size op (operands.Method method) at = if op == 0xb9 then 5 else 3
instr_size op (operands.New name) at = 3
instr_size op (operands.Type of) at = 3
instr_size op (operands.Primitive code) at = 2
instr_size op (operands.Target label) at = if op == 0xc8 then 5 else 3
instr_size op (operands.Table low default targets) at = 13 + padding_at (at + 1) + 4 * length targets
instr_size op (operands.Lookup default cases) at = 9 + padding_at (at + 1) + 8 * length cases

-- how many bytes of code a line of a body has at an offset
abbrev pub body_size : BodyLine → ℕ → ℕ
body_size (bodies.Label label) at = 0
body_size (bodies.Instr op operand) at = instr_size op operand at
body_size (bodies.Raw byte) at = 1
body_size (bodies.Catch row) at = 0

-- the same of any line: those outside of bodies have none
unfoldable pub line_size : Line → ℕ → ℕ
line_size (lines.Body line) at = body_size line at
line_size _ at = 0

-- the offset behind lines, of which the first stands at an offset
abbrev pub offset_behind : ℕ → List Line → ℕ
offset_behind at [] = at
offset_behind at (line ∷ others) = offset_behind (at + line_size line at) others

-- whether the line is that label
abbrev pub is_label : Line → List ℕ → Bool
is_label (lines.Body (bodies.Label label)) name = bytes_eq label name
is_label _ name = false

-- where a label leads in lines, of which the first stands at an offset: to the first line that is that label
abbrev pub label_from : List ℕ → ℕ → List Line → Option ℕ
label_from name at [] = None
label_from name at (line ∷ others) = if is_label line name then Some at else label_from name (at + line_size line at) others

-- the offset that a label of a body names
abbrev pub label_of : List Line → List ℕ → Option ℕ
label_of body name = label_from name 0 body

-- the offset at a name in a table
abbrev pub offset_at : {S : Type 0} → HashMap (Vec ℕ Global) ℕ S → List ℕ → Option ℕ
offset_at table name = get_by (λ key. bytes_eq name key.items) table

-- the table has the labels of the body
abbrev pub HasLabels : {S : Type 0} → HashMap (Vec ℕ Global) ℕ S → List Line → Type 0
HasLabels table body = (name : List ℕ) → offset_at table name ≡ label_of body name
