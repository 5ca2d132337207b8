-- Texts of tests: each is that of one list of tests, and two behind one another are that of both lists.
use Rattle.std.proofs.Common.{◌≡◌, ℕ, List, [], ◌∷◌, ◌++◌, refl, sym, ◌∙◌, ap, append-nil}
use Rattle.kb_grammar.specs.Lines.{AreLines, lines_text}
use Rattle.kb_grammar.proofs.LineLaws.{lines_text-++, lines_beyond, no_lines}
use Rattle.kb_test.specs.declared.script.Script.{Script}
use Rattle.kb_test.specs.declared.test_case.Test.{Test}
use Rattle.kb_test.specs.Scripts.{AreScripts, scripts_lines}
use Rattle.kb_test_lines.specs.Lines.{texts_of}
use Rattle.kb_test.specs.Tests.{SpellsTests, tests_of}
use Rattle.kb_test_lines.proofs.Texts.{are_lines, texts_of-++}
use Rattle.kb_test.proofs.Accepts.{scripts_are_lines}
use Rattle.kb_test.proofs.Sound.{AreScripts-++, scripts_lines-++, tests_of-++}
use Rattle.kb_test.proofs.Format.{spelled_once}

same_lines_text : (xs ys : List (List ℕ)) → AreLines xs → AreLines ys → lines_text xs ≡ lines_text ys → ys ≡ xs
same_lines_text xs ys p q e =
    let beyond = lines_beyond xs ys [] p q (append-nil (lines_text xs) ∙ e) in
    let none = no_lines [] beyond.0 tt beyond.2 in
    beyond.1 ∙ ap (λ (lines : List (List ℕ)). xs ++ lines) none.0 ∙ append-nil xs

lines_of : (literals : ℕ) (scripts : List Script) → AreScripts literals scripts → AreLines (texts_of (scripts_lines scripts))
lines_of literals scripts are = are_lines (scripts_lines scripts) (scripts_are_lines literals scripts are)

-- a text is that of one list of tests
pub one_tests : (literals : ℕ) (one other : List Test) (text : List ℕ) → SpellsTests literals one text → SpellsTests literals other text → one ≡ other
one_tests literals one other text p q =
    let same = same_lines_text (texts_of (scripts_lines p.scripts)) (texts_of (scripts_lines q.scripts)) (lines_of literals p.scripts p.are) (lines_of literals q.scripts q.are) (sym p.is ∙ q.is) in
    spelled_once literals one other (texts_of (scripts_lines p.scripts))
    (record { scripts = p.scripts; are = p.are; tests_are = p.tests_are; texts_are = refl })
    (record { scripts = q.scripts; are = q.are; tests_are = q.tests_are; texts_are = sym same })

pub no_tests : (literals : ℕ) → SpellsTests literals [] []
no_tests literals = record { scripts = []; are = tt; tests_are = refl; is = refl }

-- the text of several tests is that of the first and that of the others
pub joined : (literals : ℕ) (xs ys : List Test) (front rest : List ℕ) → SpellsTests literals xs front → SpellsTests literals ys rest → SpellsTests literals (xs ++ ys) (front ++ rest)
joined literals xs ys front rest p q = record {
  scripts = p.scripts ++ q.scripts;
  are = AreScripts-++ literals p.scripts q.scripts p.are q.are;
  tests_are = ap (λ (ts : List Test). ts ++ ys) p.tests_are ∙ ap (λ (ts : List Test). tests_of literals p.scripts ++ ts) q.tests_are ∙ sym (tests_of-++ literals p.scripts q.scripts);
  is = ap (λ (t : List ℕ). t ++ rest) p.is ∙ ap (λ (t : List ℕ). lines_text (texts_of (scripts_lines p.scripts)) ++ t) q.is
      ∙ sym (lines_text-++ (texts_of (scripts_lines p.scripts)) (texts_of (scripts_lines q.scripts)))
      ∙ ap lines_text (sym (texts_of-++ (scripts_lines p.scripts) (scripts_lines q.scripts)) ∙ ap texts_of (sym (scripts_lines-++ p.scripts q.scripts)));
}
