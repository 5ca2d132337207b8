-- The limits of class files that a line may break by what stands before it (The Java Virtual Machine Specification, Java SE 8
-- Edition, section 4.11): numbers of pool entries and counts of lists have two bytes, and so has the length of a text. A label
-- stands once in a body, and an ldc instruction names one of the first 255 entries.
use Rattle.std.specs.Prelude.{ℕ, ◌+◌, ◌==◌, nat_le, Bool, true, not, ◌&&◌, ◌||◌, List, [], ◌∷◌, length, map, is_some, if◌then◌else◌}
use Rattle.std.specs.List.{list_all, list_any}
use Rattle.std.specs.Str.{bytes_eq}
use Rattle.kb_asm_text.specs.declared.line.Operand.TheVariants as operands
use Rattle.kb_asm_text.specs.declared.line.BodyLine.TheVariants as bodies
use Rattle.kb_asm_text.specs.declared.line.Line.{Line}
use Rattle.kb_asm_text.specs.declared.line.Line.TheVariants as lines
use Rattle.kb_asm_body.specs.Words.{argument_words}
use Rattle.kb_texts.specs.Texts.{with_text}
use Rattle.kb_asm_pool.specs.Says.{Says, text, all_added}
use Rattle.kb_asm_pool.specs.Needs.{constant_says, line_needs, ldc_constants}
use Rattle.kb_asm_check.specs.declared.counts.Counts.{Counts}

-- what lines need: the entries of the pool and the constants of ldc lines, each once, how many items the lists have, and the
-- labels of the body that is open
pub record Standing : Type 0 where
  pub pool : List Says
  pub constants : List Says
  pub counts : Counts
  pub labels : List (List ℕ)

-- before the first line
abbrev pub nothing : Standing
nothing = record { pool = []; constants = []; counts = record { interfaces = 0; fields = 0; methods = 0; handlers = 0 }; labels = [] }

-- ---- with one line more

-- the handlers are those of the last method
abbrev pub counted : Counts → Line → Counts
counted counts (lines.Implements name) = record counts { interfaces = counts.interfaces + 1 }
counted counts (lines.Field head) = record counts { fields = counts.fields + 1 }
counted counts (lines.Method head) = record counts { methods = counts.methods + 1; handlers = 0 }
counted counts (lines.Body (bodies.Catch row)) = record counts { handlers = counts.handlers + 1 }
counted counts _ = counts

-- and so are the labels
abbrev pub labelled : List (List ℕ) → Line → List (List ℕ)
labelled labels (lines.Method head) = []
labelled labels (lines.Body (bodies.Label label)) = with_text labels label
labelled labels _ = labels

abbrev pub ldc_says : Line → List Says
ldc_says line = map constant_says (ldc_constants line)

abbrev pub with_line : Standing → Line → Standing
with_line before line = record {
  pool = all_added before.pool (line_needs line);
  constants = all_added before.constants (ldc_says line);
  counts = counted before.counts line;
  labels = labelled before.labels line;
}

-- ---- whether it keeps the limits

abbrev pub is_short : Says → Bool
is_short (text bytes) = nat_le (length bytes) 65535
is_short _ = true

-- whether no label has the name of a line that is a label
abbrev pub is_new : List (List ℕ) → Line → Bool
is_new labels (lines.Body (bodies.Label label)) = not (list_any (bytes_eq label) labels)
is_new labels _ = true

-- whether the arguments of an invokeinterface, the receiver among them, take 255 words at most
abbrev pub has_few_words : Line → Bool
has_few_words (lines.Body (bodies.Instr op (operands.Method of))) = not (op == 0xb9) || is_some (argument_words of.kind)
has_few_words _ = true

abbrev pub are_few : Counts → Bool
are_few counts = nat_le counts.interfaces 65535 && (nat_le counts.fields 65535 && (nat_le counts.methods 65535 && nat_le counts.handlers 65535))

abbrev pub has_room : Standing → Bool
has_room standing = nat_le (length standing.pool) 65534 && nat_le (length standing.constants) 255

abbrev pub is_sound : List (List ℕ) → Line → Bool
is_sound labels line = list_all is_short (line_needs line) && (has_few_words line && is_new labels line)

abbrev pub fits_behind : Standing → Line → Bool
fits_behind before line = is_sound before.labels line && (are_few (counted before.counts line) && has_room (with_line before line))

-- how many lines keep the limits, up to the first that does not, behind what stands before them
abbrev pub kept_behind : Standing → List Line → ℕ
kept_behind before [] = 0
kept_behind before (line ∷ others) = if fits_behind before line then 1 + kept_behind (with_line before line) others else 0

abbrev pub kept : List Line → ℕ
kept of = kept_behind nothing of
