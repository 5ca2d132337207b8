-- The first line of a text that does not fit.
use Rattle.std.specs.Prelude.{◌≡◌, ◌+◌, ℕ, Bool, true, false, IsTrue, List, [], ◌∷◌, length, Option, None, Some, nat_lt, if◌then◌else◌}
use Rattle.std.specs.Option.{option_map}
use Rattle.kb_asm_text.specs.declared.line.Sizes.{Sizes}
use Rattle.kb_asm_text.specs.declared.line.Line.{Line}
use Rattle.kb_asm_text.specs.declared.line.Line.TheVariants as lines
use Rattle.kb_asm_text.specs.declared.text.Front.{Front}
use Rattle.kb_asm_text.specs.Texts.{IsLongestFront, IsEnd, SpellsClass}
use Rattle.kb_asm_body.specs.Faults.{fault_of}
use Rattle.kb_asm_check.specs.Limits.{kept}
use Rattle.kb_asm_check.specs.declared.reading.TextRefusal.{TextRefusal}
use Rattle.kb_asm_check.specs.declared.reading.TextRefusal.TheVariants as refusals

-- the body that begins the lines, and whether something stands behind it
abbrev pub is_body : Line → Bool
is_body (lines.Body line) = true
is_body _ = false

abbrev pub body_of : List Line → List Line
body_of [] = []
body_of (line ∷ others) = if is_body line then line ∷ body_of others else []

abbrev pub is_ended : List Line → Bool
is_ended of = nat_lt (length (body_of of)) (length of)

-- the place, behind the first line of a method, of the first faulty line of its body
abbrev pub fault_behind : Option Sizes → List Line → Option ℕ
fault_behind None others = None
fault_behind (Some sizes) others = fault_of (is_ended others) (body_of others)

abbrev pub fault_at : Line → List Line → Option ℕ
fault_at (lines.Method head) others = fault_behind head.sizes others
fault_at _ others = None

abbrev pub or_else : Option ℕ → Option ℕ → Option ℕ
or_else (Some place) other = Some place
or_else None other = other

-- the place of the first faulty line of lines, of which the first has that place
abbrev pub fault_from : ℕ → List Line → Option ℕ
fault_from place [] = None
fault_from place (line ∷ others) = or_else (option_map (λ at. place + 1 + at) (fault_at line others)) (fault_from (place + 1) others)

-- the first faulty line by its place: a label is missing, a branch out of reach, or a body of no bytes or of too many ends there
abbrev pub first_fault : List Line → Option ℕ
first_fault of = fault_from 0 of

-- a class is assembled of the lines
pub record IsSound (of : List Line) : Type 0 where
  pub kept : kept of ≡ length of
  pub faultless : first_fault of ≡ None

-- the text is that of a class
pub record IsText (of : List Line) (text : List ℕ) : Type 0 where
  pub spelled : SpellsClass of text
  pub sound : IsSound of

-- all of the text was read, and is the text of a class
pub record IsWhole (front : Front) : Type 0 where
  pub sound : IsSound front.lines
  pub ended : IsTrue front.ended
  pub end : IsEnd front.place

-- the number, from 1, of the fault or of the line behind those that keep the limits, whichever comes first
abbrev pub number_of : Option ℕ → ℕ → ℕ
number_of (Some place) count = if nat_lt place count then place + 1 else count + 1
number_of None count = count + 1

-- No class is assembled of the text, and this is its first line, from 1, that does not fit: the first that is faulty, or the one
-- behind those that keep the limits, if that comes first: it breaks a limit, spells no line, may not stand there, is cut short,
-- or is missing.
pub record IsFirstUnfit (text : List ℕ) (number : ℕ) : Type 0 where
  pub front : Front
  pub longest : IsLongestFront front text
  pub unfit : IsWhole front → ⊥
  pub is : number ≡ number_of (first_fault front.lines) (kept front.lines)

abbrev pub Refuses : List ℕ → TextRefusal → Type 0
Refuses text (refusals.Line number) = IsFirstUnfit text number
Refuses text refusals.NoMemory = Unit {0}
