-- What a reader of lines has noted.
use Rattle.std.specs.Prelude.{◌≡◌, Bool, true, false, IsTrue}
use Rattle.kb_asm_text.specs.declared.line.Line.{Line}
use Rattle.kb_asm_check.specs.declared.limits.Limits.{Limits}
use Rattle.kb_asm_check.specs.Limits.{Standing, are_few, with_line, fits_behind}

abbrev pub standing_of : Limits → Standing
standing_of limits = record { pool = limits.pool.says; constants = limits.constants.says; counts = limits.counts; labels = limits.labels }

-- the line keeps the limits, and that is noted
pub record IsNext (before : Standing) (line : Line) (next : Standing) : Type 0 where
  pub fits : fits_behind before line ≡ true
  pub is : next ≡ with_line before line
  pub few : IsTrue (are_few next.counts)

-- a line that keeps the limits is noted; of one that does not, that is all that is told
abbrev pub IsTaken : Bool → Standing → Line → Standing → Type 0
IsTaken true before line next = IsNext before line next
IsTaken false before line next = fits_behind before line ≡ false
