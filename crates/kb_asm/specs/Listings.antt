-- The listing of a body in which no byte stands for itself.
use Rattle.std.specs.Prelude.{◌≡◌, ℕ, Bool, true, false, List}
use Rattle.std.specs.List.{list_any}
use Rattle.kb_code.specs.declared.instruction.Instr.{Instr}
use Rattle.kb_code.specs.Listing.{ListsFrom}
use Rattle.kb_classfile.specs.declared.file.Code.{Code}
use Rattle.kb_asm_text.specs.declared.line.BodyLine.TheVariants as bodies
use Rattle.kb_asm_text.specs.declared.line.Line.{Line}
use Rattle.kb_asm_text.specs.declared.line.Line.TheVariants as lines

abbrev pub is_raw : Line → Bool
is_raw (lines.Body (bodies.Raw byte)) = true
is_raw _ = false

-- without such bytes the code is instructions, one behind the other
abbrev pub HasListing : List Line → Code → Type 0
HasListing body code = list_any is_raw body ≡ false → (items : List (ℕ × Instr)) × ListsFrom 0 items code.bytes
