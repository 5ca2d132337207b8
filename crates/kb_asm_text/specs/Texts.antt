-- Assembler texts: which line may stand behind which, and how much of a text is lines that may.
use Rattle.std.specs.Prelude.{◌≡◌, ◌↔◌, ℕ, IsTrue, List, [], ◌∷◌, ◌++◌, Option, None, Some}
use Rattle.std.specs.Option.{option_and_then}
use Rattle.kb_grammar.specs.Lines.{Lacks, AreLines, lines_text}
use Rattle.kb_asm_text.specs.declared.line.Sizes.{Sizes}
use Rattle.kb_asm_text.specs.declared.line.Line.{Line}
use Rattle.kb_asm_text.specs.declared.line.Line.TheVariants as lines
use Rattle.kb_asm_text.specs.declared.place.Place.{Place}
use Rattle.kb_asm_text.specs.declared.place.Place.TheVariants as places
use Rattle.kb_asm_text.specs.declared.text.Front.{Front}
use Rattle.kb_asm_text.specs.Lines.{SpellsLine}

-- a method with code has a body behind it
abbrev pub place_of_method : Option Sizes → Place
place_of_method None = places.Methods
place_of_method (Some sizes) = places.Body

-- where a line leads, if it may stand there: the class, its superinterfaces, its fields, its methods
abbrev pub next_place : Place → Line → Option Place
next_place places.Start (lines.Class head) = Some places.Head
next_place places.Head (lines.Implements name) = Some places.Head
next_place places.Head (lines.Field head) = Some places.Fields
next_place places.Fields (lines.Field head) = Some places.Fields
next_place places.Head (lines.Method head) = Some (place_of_method head.sizes)
next_place places.Fields (lines.Method head) = Some (place_of_method head.sizes)
next_place places.Methods (lines.Method head) = Some (place_of_method head.sizes)
next_place places.Body (lines.Body line) = Some places.Body
next_place places.Body lines.End = Some places.Methods
next_place _ _ = None

-- where lines lead, if each of them may stand where it does
abbrev pub place_behind : Place → List Line → Option Place
place_behind place [] = Some place
place_behind place (line ∷ others) = option_and_then (λ next. place_behind next others) (next_place place line)

-- whether a class may end there
abbrev pub IsEnd : Place → Type 0
IsEnd places.Start = ⊥
IsEnd places.Body = ⊥
IsEnd _ = Unit {0}

-- each line by its text
abbrev pub SpellEach : List Line → List (List ℕ) → Type 0
SpellEach [] texts = texts ≡ []
SpellEach (line ∷ others) [] = ⊥
SpellEach (line ∷ others) (text ∷ texts) = SpellsLine line text × SpellEach others texts

-- The text is these lines, each with a line feed behind it, and a rest.
pub record AreRead (of : List Line) (place : Place) (text rest : List ℕ) : Type 0 where
  pub texts : List (List ℕ)
  pub are_lines : AreLines texts
  pub spelled : SpellEach of texts
  pub leads : place_behind places.Start of ≡ Some place
  pub is : text ≡ lines_text texts ++ rest

-- The lines are all that the text has up to the first line, which may be one that is cut short, that does not fit there.
pub record IsLongestFront (front : Front) (text : List ℕ) : Type 0 where
  pub rest : List ℕ
  pub read : AreRead front.lines front.place text rest
  pub ended : IsTrue front.ended ↔ (rest ≡ [])
  pub no_further : (line tail : List ℕ) (next : Line) → Lacks 10 line → rest ≡ line ++ 10 ∷ tail → SpellsLine next line
      → next_place front.place next ≡ None

-- the text is that of the lines of a class
abbrev pub SpellsClass : List Line → List ℕ → Type 0
SpellsClass of text = (place : Place) × AreRead of place text [] × IsEnd place
