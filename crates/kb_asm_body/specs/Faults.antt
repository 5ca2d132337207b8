-- Faults of a body that are known only at a later line: labels that are missing, branches out of reach, and code of no bytes
-- or of too many.
use Rattle.std.specs.Prelude.{ℕ, ◌+◌, ◌==◌, nat_lt, Bool, false, not, ◌&&◌, ◌||◌, List, [], ◌∷◌, Option, None, Some, is_some, if◌then◌else◌}
use Rattle.std.specs.List.{list_any}
use Rattle.kb_asm_text.specs.declared.line.Operand.{Operand}
use Rattle.kb_asm_text.specs.declared.line.Operand.TheVariants as operands
use Rattle.kb_asm_text.specs.declared.line.BodyLine.TheVariants as bodies
use Rattle.kb_asm_text.specs.declared.line.Line.{Line}
use Rattle.kb_asm_text.specs.declared.line.Line.TheVariants as lines
use Rattle.kb_writer.specs.Instructions.{is_near}
use Rattle.kb_asm_body.specs.Layout.{line_size, label_of}

-- A body by its labels, and whether its last line is there: before that no label is missing, since it may follow.
module _ (offset_of : List ℕ → Option ℕ) (whole : Bool) where
  abbrev pub is_missing : List ℕ → Bool
  is_missing name = not (is_some (offset_of name)) && whole

  -- whether the target of a branch is missing, or there and out of reach: goto_w, c8, reaches every offset
  abbrev pub is_out : ℕ → Option ℕ → ℕ → Bool
  is_out op None at = whole
  is_out op (Some to) at = not (op == 0xc8) && not (is_near at to)

  abbrev pub is_faulty_instr : ℕ → Operand → ℕ → Bool
  is_faulty_instr op (operands.Target label) at = is_out op (offset_of label) at
  is_faulty_instr op (operands.Table low default targets) at = is_missing default || list_any is_missing targets
  is_faulty_instr op (operands.Lookup default cases) at = is_missing default || list_any (λ case. is_missing case.target) cases
  is_faulty_instr op _ at = false

  -- whether the line at an offset names a label that is missing or out of reach
  unfoldable pub is_faulty : Line → ℕ → Bool
  is_faulty (lines.Body (bodies.Instr op operand)) at = is_faulty_instr op operand at
  is_faulty (lines.Body (bodies.Catch row)) at = is_missing row.start || is_missing row.end || is_missing row.target
  is_faulty _ at = false

  -- The place of the first faulty line of these, of which the first has that place and stands at that offset. A whole body has
  -- a line behind its own, which is faulty where the code has no bytes or more than 65,535.
  abbrev pub fault_from : ℕ → ℕ → List Line → Option ℕ
  fault_from place at [] = if whole && (at == 0 || nat_lt 65535 at) then Some place else None
  fault_from place at (line ∷ others) = if is_faulty line at then Some place else fault_from (place + 1) (at + line_size line at) others

-- the place, from 0, of the first faulty line of a body
abbrev pub fault_of : Bool → List Line → Option ℕ
fault_of whole body = fault_from (label_of body) whole 0 0 body
