-- The texts of tests are a format of lines.
use Rattle.std.proofs.Common.{◌≡◌, ◌⊎◌, inl, inr, ℕ, List, [], ◌∷◌, ◌++◌, Option, None, Some, MatchOption, Result, Ok, Err, IfOk, map, refl, sym, ◌∙◌, ap, append_assoc, append-nil, subst}
use Rattle.std.specs.Prelude.{IsSome}
use Rattle.std.specs.Option.{option_and_then}
use Rattle.kb_grammar.specs.Lines.{AreLines, IsFirstBadLine, lines_text}
use Rattle.kb_grammar.specs.LineFormats.{IsLineFormat, SpellsByLines}
use Rattle.kb_grammar.proofs.LineLaws.{same_bad_line}
use Rattle.kb_test_lines.specs.declared.lines.Line.{Line}
use Rattle.kb_test.specs.declared.script.Script.{Script}
use Rattle.kb_test.specs.declared.test_case.Test.{Test}
use Rattle.kb_test.specs.declared.fronts.Open.{Open}
use Rattle.kb_test.specs.declared.fronts.Open.TheVariants.{Between}
use Rattle.kb_test.specs.declared.fronts.Front.{Front}
use Rattle.kb_test_lines.specs.Lines.{line_text, IsLine, SpellsLine, texts_of}
use Rattle.kb_test.specs.Scripts.{script_lines, AreScripts, scripts_lines}
use Rattle.kb_test.specs.Tests.{test_of, tests_of, SpellsTests, IsTestsText}
use Rattle.kb_test.specs.Fronts.{step, FitsAt, open_lines, IsOpen, StandsBehind, SpellsLines, TakesText}
use Rattle.kb_test_lines.proofs.Texts.{AllLines, AllLines-++, are_lines, texts_of-++}
use Rattle.kb_test_lines.proofs.SameLines.{same_line, same_lines}
use Rattle.kb_test.proofs.Steps.{steps, steps_then, front_of}
use Rattle.kb_test.proofs.Accepts.{front_run, whole_run, open_are_lines, scripts_are_lines}
use Rattle.kb_test.proofs.Sound.{Stands, next_stands, one_script, with_script}
use Rattle.kb_test.proofs.Endings.{Completes, completes}

-- the lines of a text that begins so
record Splits (lines : List Line) (front : List (List ℕ)) (text : List ℕ) : Type 0 where
  pub before : List Line
  pub line : Line
  pub more : List Line
  pub is : lines ≡ before ++ line ∷ more
  pub front_is : texts_of before ≡ front
  pub text_is : text ≡ line_text line

splits : (lines : List Line) (front : List (List ℕ)) (text : List ℕ) (after : List (List ℕ)) → texts_of lines ≡ front ++ text ∷ after → Splits lines front text
splits [] [] text after e = cc
splits [] (f ∷ front) text after e = cc
splits (line ∷ lines) [] text after e = record { before = []; line = line; more = lines; is = refl; front_is = refl; text_is = cc }
splits (line ∷ lines) (f ∷ front) text after e =
    let tails : texts_of lines ≡ front ++ text ∷ after = cc in
    let head : line_text line ≡ f = cc in
    let rest = splits lines front text after tails in
    record {
      before = line ∷ rest.before;
      line = rest.line;
      more = rest.more;
      is = ap (λ (ls : List Line). line ∷ ls) rest.is;
      front_is = ap (λ (ts : List (List ℕ)). line_text line ∷ ts) rest.front_is ∙ ap (λ (t : List ℕ). t ∷ front) head;
      text_is = rest.text_is;
    }

AllLines-front : (xs ys : List Line) → AllLines (xs ++ ys) → AllLines xs × AllLines ys
AllLines-front [] ys h = (tt, h)
AllLines-front (x ∷ xs) ys h = let rest = AllLines-front xs ys h.1 in ((h.0, rest.0), rest.1)

some_next : (literals : ℕ) (front last : Front) (line : Line) (more : List Line) → steps literals front (line ∷ more) ≡ Some last → IsSome (step literals front line)
some_next literals front last line more h = go (step literals front line) h
  where
    go : (o : Option Front) → option_and_then (λ (next : Front). steps literals next more) o ≡ Some last → IsSome o
    go None e = cc
    go (Some next) e = refl

module _ (literals : ℕ) where
  abbrev lines_behind : (front : Front) (texts : List (List ℕ)) → StandsBehind literals front texts → List Line
  lines_behind front texts at = scripts_lines at.scripts ++ open_lines front.open_test

  lines_are : (front : Front) (texts : List (List ℕ)) (at : StandsBehind literals front texts) → AllLines (lines_behind front texts at)
  lines_are front texts at = AllLines-++ (scripts_lines at.scripts) (open_lines front.open_test) (scripts_are_lines literals at.scripts at.are) (open_are_lines literals front.open_test at.open_test)

  -- where the steps over these lines lead
  leads : (front : Front) (texts : List (List ℕ)) (at : StandsBehind literals front texts) → steps literals (front_of [] Between) (lines_behind front texts at) ≡ Some front
  leads front texts at = front_run literals at.scripts front.open_test at.are at.open_test ∙ ap (λ (ts : List Test). Some (front_of ts front.open_test)) (sym at.tests_are)

  -- the line behind what is read is one that fits
  pub next_fits : (front : Front) (texts : List (List ℕ)) (text : List ℕ) (after : List (List ℕ)) (tests : List Test)
      → StandsBehind literals front texts → SpellsLines literals tests (texts ++ text ∷ after) → FitsAt literals front text
  next_fits front texts text after tests at spells =
      let split = splits (scripts_lines spells.scripts) texts text after (sym spells.texts_are) in
      let all = subst AllLines split.is (scripts_are_lines literals spells.scripts spells.are) in
      let parts = AllLines-front split.before (split.line ∷ split.more) all in
      let same : split.before ≡ lines_behind front texts at = same_lines split.before (lines_behind front texts at) parts.0 (lines_are front texts at) (split.front_is ∙ at.texts_are) in
      let start = ap (λ (ls : List Line). steps literals (front_of [] Between) (ls ++ split.line ∷ split.more)) (sym same) in
      let whole = ap (steps literals (front_of [] Between)) (sym split.is) ∙ whole_run literals spells.scripts spells.are in
      let there = steps_then literals (front_of [] Between) front (lines_behind front texts at) (split.line ∷ split.more) (leads front texts at) in
      (split.line, (parts.1.0, split.text_is), some_next literals front (front_of (tests_of literals spells.scripts) Between) split.line split.more (sym there ∙ start ∙ whole))

  -- one line more
  pub next_stands_behind : (front next : Front) (texts : List (List ℕ)) (line : Line) (text : List ℕ) → StandsBehind literals front texts → SpellsLine line text → step literals front line ≡ Some next
      → StandsBehind literals next (texts ++ text ∷ [])
  next_stands_behind front next texts line text at spells e =
      let more = next_stands literals front.tests front.open_test line next (lines_behind front texts at)
      (record { scripts = at.scripts; are = at.are; tests_are = at.tests_are; open_test = at.open_test; lines_are = refl }) spells.0 e in
      record {
        scripts = more.scripts;
        are = more.are;
        tests_are = more.tests_are;
        open_test = more.open_test;
        texts_are = ap (λ (ts : List (List ℕ)). ts ++ text ∷ []) at.texts_are ∙ ap (λ (t : List ℕ). texts_of (lines_behind front texts at) ++ t ∷ []) spells.1
            ∙ sym (texts_of-++ (lines_behind front texts at) (line ∷ [])) ∙ ap texts_of more.lines_are;
      }

  pub taken : (front : Front) (text : List ℕ) (read : Option Front) → TakesText literals front text read → (before : List (List ℕ)) → StandsBehind literals front before
      → MatchOption read ((after : List (List ℕ)) (tests : List Test) → SpellsLines literals tests (before ++ text ∷ after) → ⊥) (λ next. StandsBehind literals next (before ++ text ∷ []))
  taken front text (Some next) takes before at = next_stands_behind front next before takes.0 text at takes.1 takes.2
  taken front text None takes before at = λ after tests spells. takes (next_fits front before text after tests at spells)

  pub if_taken : {E : Type 0} (front : Front) (text : List ℕ) (r : Result (Option Front) E) → IfOk r (TakesText literals front text)
      → IfOk r (λ read. (before : List (List ℕ)) → StandsBehind literals front before
      → MatchOption read ((after : List (List ℕ)) (tests : List Test) → SpellsLines literals tests (before ++ text ∷ after) → ⊥) (λ next. StandsBehind literals next (before ++ text ∷ [])))
  if_taken front text (Ok read) h = taken front text read h
  if_taken front text (Err e) h = tt

  -- no other line of that text fits
  pub nothing_fits : (front : Front) (text : List ℕ) (line : Line) → SpellsLine line text → step literals front line ≡ None → FitsAt literals front text → ⊥
  nothing_fits front text line spells none fits =
      let same : fits.0 ≡ line = same_line fits.0 line fits.1.0 spells.0 (sym fits.1.1 ∙ spells.1) in
      not_some (step literals front fits.0) (ap (step literals front) same ∙ none) fits.2
    where
      not_some : (o : Option Front) → o ≡ None → IsSome o → ⊥
      not_some None e h = cc
      not_some (Some next) e h = cc

  -- ---- the end

  pub if_whole : (front : Front) (whole : Option (List Test)) → MatchOption whole (front.open_test ≡ Between → ⊥) (λ tests. (front.open_test ≡ Between) × (tests ≡ front.tests))
      → (before : List (List ℕ)) → StandsBehind literals front before → MatchOption whole ((tests : List Test) → SpellsLines literals tests before → ⊥) (λ tests. SpellsLines literals tests before)
  if_whole front (Some tests) h before at = record {
    scripts = at.scripts;
    are = at.are;
    tests_are = h.1 ∙ at.tests_are;
    texts_are = at.texts_are ∙ ap (λ (o : Open). texts_of (scripts_lines at.scripts ++ open_lines o)) h.0 ∙ ap texts_of (append-nil (scripts_lines at.scripts));
  }
  if_whole front None h before at = λ tests spells.
      let same = same_lines (scripts_lines spells.scripts) (lines_behind front before at) (scripts_are_lines literals spells.scripts spells.are) (lines_are front before at) (sym spells.texts_are ∙ at.texts_are) in
      let one = ap (steps literals (front_of [] Between)) same ∙ leads front before at in
      let two = whole_run literals spells.scripts spells.are in
      let fronts : front_of (tests_of literals spells.scripts) Between ≡ front = same_some _ _ (sym two ∙ one) in
      h (ap (λ (f : Front). f.open_test) (sym fronts))
    where
      same_some : (a b : Front) → (let one : Option Front = Some a in one ≡ Some b) → a ≡ b
      same_some a b e = cc

  -- ---- the laws of a format of lines

  front_goes_on : (front : Front) (before : List (List ℕ)) → StandsBehind literals front before → (after : List (List ℕ)) × (tests : List Test) × SpellsLines literals tests (before ++ after)
  front_goes_on front before at = go (completes literals front.open_test at.open_test)
    where
      go : (front.open_test ≡ Between) ⊎ Completes literals (open_lines front.open_test) → (after : List (List ℕ)) × (tests : List Test) × SpellsLines literals tests (before ++ after)
      go (inl between) = (
        [],
        tests_of literals at.scripts,
        record {
          scripts = at.scripts;
          are = at.are;
          tests_are = refl;
          texts_are = append-nil before ∙ at.texts_are ∙ ap (λ (o : Open). texts_of (scripts_lines at.scripts ++ open_lines o)) between ∙ ap texts_of (append-nil (scripts_lines at.scripts));
        },
      )
      go (inr end) = (
        texts_of end.more,
        tests_of literals (at.scripts ++ end.script ∷ []),
        record {
          scripts = at.scripts ++ end.script ∷ [];
          are = with_script literals at.scripts end.script at.are end.is;
          tests_are = refl;
          texts_are = ap (λ (ts : List (List ℕ)). ts ++ texts_of end.more) at.texts_are ∙ sym (texts_of-++ (lines_behind front before at) end.more)
              ∙ ap texts_of (append_assoc (scripts_lines at.scripts) (open_lines front.open_test) end.more ∙ ap (λ (ls : List Line). scripts_lines at.scripts ++ ls) (sym end.lines_are) ∙ sym (one_script at.scripts end.script));
        },
      )

  spelled_are_lines : (tests : List Test) (texts : List (List ℕ)) → SpellsLines literals tests texts → AreLines texts
  spelled_are_lines tests texts spells = subst AreLines (sym spells.texts_are) (are_lines (scripts_lines spells.scripts) (scripts_are_lines literals spells.scripts spells.are))

  pub spelled_once : (one other : List Test) (texts : List (List ℕ)) → SpellsLines literals one texts → SpellsLines literals other texts → one ≡ other
  spelled_once one other texts p q =
      let same = same_lines (scripts_lines p.scripts) (scripts_lines q.scripts) (scripts_are_lines literals p.scripts p.are) (scripts_are_lines literals q.scripts q.are) (sym p.texts_are ∙ q.texts_are) in
      let fronts : front_of (tests_of literals p.scripts) Between ≡ front_of (tests_of literals q.scripts) Between =
      same_some _ _ (sym (whole_run literals p.scripts p.are) ∙ ap (steps literals (front_of [] Between)) same ∙ whole_run literals q.scripts q.are) in
      p.tests_are ∙ ap (λ (f : Front). f.tests) fronts ∙ sym q.tests_are
    where
      same_some : (a b : Front) → (let one : Option Front = Some a in one ≡ Some b) → a ≡ b
      same_some a b e = cc

  pub is_line_format : IsLineFormat (SpellsLines literals) (StandsBehind literals)
  is_line_format = record { goes_on = front_goes_on; are_lines = spelled_are_lines; spells_one = spelled_once }

  -- ---- texts and their lines

  pub spells_tests : (tests : List Test) (text : List ℕ) → SpellsByLines (SpellsLines literals) tests text → SpellsTests literals tests text
  spells_tests tests text spells = record { scripts = spells.spelled.scripts; are = spells.spelled.are; tests_are = spells.spelled.tests_are; is = spells.is ∙ ap lines_text spells.spelled.texts_are }

  pub by_lines : (tests : List Test) (text : List ℕ) → SpellsTests literals tests text → SpellsByLines (SpellsLines literals) tests text
  by_lines tests text spells = record {
    lines = texts_of (scripts_lines spells.scripts);
    spelled = record { scripts = spells.scripts; are = spells.are; tests_are = spells.tests_are; texts_are = refl };
    is = spells.is;
  }

  pub bad_line_of_tests : (text : List ℕ) (number : ℕ) → IsFirstBadLine (λ t. (tests : List Test) × SpellsByLines (SpellsLines literals) tests t) text number → IsFirstBadLine (IsTestsText literals) text number
  bad_line_of_tests text number =
      same_bad_line _ (IsTestsText literals) (λ t (tests, spells). (tests, spells_tests tests t spells)) (λ t (tests, spells). (tests, by_lines tests t spells)) text number

  -- ---- a line by its text

  takes : (front : Front) (text : List ℕ) (line : Line) (next : Option Front) → SpellsLine line text → next ≡ step literals front line → TakesText literals front text next
  takes front text line (Some next) spells e = (line, spells, sym e)
  takes front text line None spells e = nothing_fits front text line spells (sym e)

  pub if_takes : {E : Type 0} (front : Front) (text : List ℕ) (line : Line) (r : Result (Option Front) E) → SpellsLine line text → IfOk r (λ next. next ≡ step literals front line) → IfOk r (TakesText literals front text)
  if_takes front text line (Ok next) spells h = takes front text line next spells h
  if_takes front text line (Err e) spells h = h

  pub no_line : (front : Front) (text : List ℕ) → ((line : Line) → SpellsLine line text → ⊥) → FitsAt literals front text → ⊥
  no_line front text none fits = none fits.0 fits.1

  pub starts : (tests : List Test) → tests ≡ [] → StandsBehind literals (front_of tests Between) []
  starts tests none = record { scripts = []; are = tt; tests_are = none; open_test = tt; texts_are = refl }
