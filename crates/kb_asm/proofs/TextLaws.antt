-- The lines of a text can be written: words spell their operands, calls have few words, and ldc constants are the first.
use Rattle.std.proofs.Common.{◌≡◌, ℕ, Bool, true, false, List, [], ◌∷◌, refl, sym, subst, if◌then◌else◌, flat_map}
use Rattle.std.specs.List.{AllByRecursion}
use Rattle.std.proofs.lemmas.Bool.{and_parts, and_from}
use Rattle.kb_asm_text.specs.declared.keyword.Keyword.{Keyword}
use Rattle.kb_asm_text.specs.declared.keyword.Keyword.TheVariants as keywords
use Rattle.kb_asm_text.specs.declared.line.BodyLine.TheVariants as bodies
use Rattle.kb_asm_text.specs.declared.line.Line.{Line}
use Rattle.kb_asm_text.specs.declared.line.Line.TheVariants as lines
use Rattle.kb_asm_text.specs.Lines.{SpellsBehind, SpellsWords, keyword_of}
use Rattle.kb_asm_text.specs.Texts.{SpellEach}
use Rattle.kb_asm_check.specs.Limits.{ldc_says, has_few_words, nothing}
use Rattle.kb_asm_check.specs.Faults.{is_body, body_of}
use Rattle.kb_asm_pool.specs.Says.{Says}
use Rattle.kb_asm_pool.specs.Needs.{line_needs}
use Rattle.kb_asm.specs.Needs.{have, have_all, AreFirst}
use Rattle.kb_asm.specs.Working.{IsFormed, IsFitLine, AreText}
use Rattle.kb_asm.proofs.SaysLaws.{in_front, in_back}
use Rattle.kb_asm.proofs.KeptLaws.{lines_kept, words_kept}

-- ---- words spell the operands

abbrev IsFormedLine : Line → Type 0
IsFormedLine (lines.Body (bodies.Instr op operand)) = IsFormed op operand
IsFormedLine _ = Unit {0}

formed_behind : (keyword : Keyword) (line : Line) (first : List ℕ) (words : List (List ℕ)) → SpellsBehind keyword line first words → IsFormedLine line
formed_behind keywords.Class line first words s = subst IsFormedLine (sym s.1) tt
formed_behind keywords.Implements line first words s = subst IsFormedLine (sym s.1) tt
formed_behind keywords.Field line first words s = subst IsFormedLine (sym s.1) tt
formed_behind keywords.Method line first words s = subst IsFormedLine (sym s.1) tt
formed_behind keywords.End line first words s = subst IsFormedLine (sym s.0) tt
formed_behind keywords.Raw line first words s = subst IsFormedLine (sym s.1) tt
formed_behind keywords.Catch line first words s = subst IsFormedLine (sym s.1) tt
formed_behind keywords.Label line first words s = subst IsFormedLine (sym s.1) tt
formed_behind keywords.Other line first words s = subst IsFormedLine (sym s.2) (words, s.4)

formed_words : (line : Line) (words : List (List ℕ)) → SpellsWords line words → IsFormedLine line
formed_words line [] s = absurd s
formed_words line (first ∷ words) s = formed_behind (keyword_of first) line first words s

formed_each : (of : List Line) (texts : List (List ℕ)) → SpellEach of texts → AllByRecursion IsFormedLine of
formed_each [] texts s = tt
formed_each (line ∷ of) [] s = absurd s
formed_each (line ∷ of) (text ∷ texts) s = (formed_words line s.0.words s.0.says, formed_each of texts s.1)

-- ---- lines that can be written

fit_line : (says : List Says) (line : Line) → IsFormedLine line → has_few_words line ≡ true → AreFirst says (ldc_says line) → IsFitLine says line
fit_line says (lines.Body (bodies.Instr op operand)) formed few first = record { formed = formed; few = few; first = first }
fit_line says line formed few first = tt

fit_each : (says : List Says) (of : List Line) → AllByRecursion IsFormedLine of → AllByRecursion (λ (line : Line). has_few_words line ≡ true) of
    → AreFirst says (flat_map ldc_says of) → AllByRecursion (IsFitLine says) of
fit_each says [] formed few first = tt
fit_each says (line ∷ of) formed few first = (
  fit_line says line formed.0 few.0 (λ one place h e. first one place (in_front (ldc_says line) (flat_map ldc_says of) one h) e),
  fit_each says of formed.1 few.1 (λ one place h e. first one place (in_back (ldc_says line) (flat_map ldc_says of) one h) e),
)

pub are_fit : (says : List Says) (of : List Line) → AreText of → AreFirst says (flat_map ldc_says of) → AllByRecursion (IsFitLine says) of
are_fit says of text first =
    fit_each says of (formed_each of text.1.spelled.1.texts text.1.spelled.1.spelled) (words_kept nothing of (lines_kept of text.1.sound)) first

-- ---- bodies are fronts

pub body_fit : (says : List Says) (of : List Line) → AllByRecursion (IsFitLine says) of → AllByRecursion (IsFitLine says) (body_of of)
body_fit says [] f = tt
body_fit says (line ∷ of) f = go (is_body line) (body_fit says of f.1)
  where
    go : (b : Bool) → AllByRecursion (IsFitLine says) (body_of of) → AllByRecursion (IsFitLine says) (if b then line ∷ body_of of else [])
    go true more = (f.0, more)
    go false more = tt

pub body_had : (says : List Says) (of : List Line) → have_all says of ≡ true → have_all says (body_of of) ≡ true
body_had says [] h = refl
body_had says (line ∷ of) h =
    let p = and_parts (have says (line_needs line)) (have_all says of) h in
    go (is_body line) p.0 (body_had says of p.1)
  where
    go : (b : Bool) → have says (line_needs line) ≡ true → have_all says (body_of of) ≡ true → have_all says (if b then line ∷ body_of of else []) ≡ true
    go true one more = and_from (have says (line_needs line)) (have_all says (body_of of)) one more
    go false one more = refl
