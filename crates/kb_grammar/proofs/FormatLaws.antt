-- What is known where a reader of lines stands, and where it stops.
use Rattle.std.proofs.Common.{◌≡◌, ℕ, ◌+◌, ◌≤◌, List, [], ◌∷◌, ◌++◌, length, refl, sym, ◌∙◌, ap, append-nil, arith, subst}
use Rattle.kb_grammar.specs.Lines.{Lacks, AreLines, lines_text, IsFirstBadLine}
use Rattle.kb_grammar.specs.LineFormats.{SpellsByLines}
use Rattle.kb_grammar.proofs.WordLaws.{same_cut, not_lacking}
use Rattle.kb_grammar.proofs.LineLaws.{lines_text-++, lines_beyond, line_first, no_lines, one_more, are_more, one_longer, shorter}

-- the text is lines that were read, and the rest
pub record IsReadTo (Stands : List (List ℕ) → Type 0) (text rest : List ℕ) (number : ℕ) : Type 0 where
  pub before : List (List ℕ)
  pub stands : Stands before
  pub lines : AreLines before
  pub is : text ≡ lines_text before ++ rest
  pub number_is : number ≡ length before + 1
  pub short : number + length rest ≤ length text + 1

pub starts : (Stands : List (List ℕ) → Type 0) (text : List ℕ) → Stands [] → IsReadTo Stands text text 1
starts Stands text h = record { before = []; stands = h; lines = tt; is = refl; number_is = refl; short = omega arith }

-- one line more
pub next_read : (Stands Then : List (List ℕ) → Type 0) (text rest line others : List ℕ) (number : ℕ) → IsReadTo Stands text rest number
    → Lacks 10 line → rest ≡ line ++ 10 ∷ others → ((before : List (List ℕ)) → Stands before → Then (before ++ line ∷ [])) → IsReadTo Then text others (number + 1)
next_read Stands Then text rest line others number at lacks begins next = record {
  before = at.before ++ line ∷ [];
  stands = next at.before at.stands;
  lines = are_more at.before (at.before ++ line ∷ []) line at.lines lacks refl;
  is = one_more at.before (at.before ++ line ∷ []) text rest line others at.is begins refl;
  number_is = one_longer at.before (at.before ++ line ∷ []) line number at.number_is refl;
  short = shorter rest line others number (length text + 1) begins at.short;
}

-- a format, by what its lines spell
module _ {A : Type 0} (Spells : A → List (List ℕ) → Type 0) (are_lines : (whole : A) (lines : List (List ℕ)) → Spells whole lines → AreLines lines) (Stands : List (List ℕ) → Type 0) (goes_on : (before : List (List ℕ)) → Stands before → (after : List (List ℕ)) × (whole : A) × Spells whole (before ++ after)) where
  abbrev IsText : List ℕ → Type 0
  IsText text = (whole : A) × SpellsByLines Spells whole text

  text_goes_on : (before : List (List ℕ)) → Stands before → (more : List ℕ) × IsText (lines_text before ++ more)
  text_goes_on before stands =
      let end = goes_on before stands in
      (lines_text end.0, (end.1, record { lines = before ++ end.0; spelled = end.2; is = sym (lines_text-++ before end.0) }))

  -- a line that has no place
  pub bad_line : (text rest line tail : List ℕ) (number : ℕ) → IsReadTo Stands text rest number → Lacks 10 line → rest ≡ line ++ 10 ∷ tail
      → ((before : List (List ℕ)) → Stands before → (after : List (List ℕ)) (whole : A) → Spells whole (before ++ line ∷ after) → ⊥)
      → IsFirstBadLine IsText text number
  bad_line text rest line tail number at lacks begins none = record {
    before = at.before;
    rest = rest;
    are_lines = at.lines;
    number_is = at.number_is;
    is = at.is;
    goes_on = text_goes_on at.before at.stands;
    no_further = no_further;
    no_text = λ (whole, spells). no_further line tail tail lacks begins
        (whole, subst (SpellsByLines Spells whole) (at.is ∙ ap (λ (r : List ℕ). lines_text at.before ++ r) begins) spells);
  }
    where
      no_further : (other behind more : List ℕ) → Lacks 10 other → rest ≡ other ++ 10 ∷ behind → IsText (lines_text at.before ++ (other ++ 10 ∷ more)) → ⊥
      no_further other behind more lacks_too begins_too (whole, spells) =
          let same = same_cut 10 other line behind tail lacks_too lacks (sym begins_too ∙ begins) in
          let own = are_lines whole spells.lines spells.spelled in
          let beyond = lines_beyond at.before spells.lines (other ++ 10 ∷ more) at.lines own spells.is in
          let first = line_first other more beyond.0 lacks_too beyond.3 beyond.2 in
          none at.before at.stands first.0 whole
          (subst (Spells whole) (beyond.1 ∙ ap (λ (l : List (List ℕ)). at.before ++ l) first.1 ∙ ap (λ (l : List ℕ). at.before ++ l ∷ first.0) same.0) spells.spelled)

  -- an end where the text may not end
  pub bad_end : (text rest : List ℕ) (number : ℕ) → IsReadTo Stands text rest number → Lacks 10 rest
      → (rest ≡ [] → (before : List (List ℕ)) → Stands before → (whole : A) → Spells whole before → ⊥)
      → IsFirstBadLine IsText text number
  bad_end text rest number at lacks unfinished = record {
    before = at.before;
    rest = rest;
    are_lines = at.lines;
    number_is = at.number_is;
    is = at.is;
    goes_on = text_goes_on at.before at.stands;
    no_further = λ other behind more lacks_too begins _. not_lacking 10 other behind rest lacks (sym begins);
    no_text = λ (whole, spells).
        let beyond = lines_beyond at.before spells.lines rest at.lines (are_lines whole spells.lines spells.spelled) (sym at.is ∙ spells.is) in
        let none = no_lines rest beyond.0 lacks beyond.2 in
        unfinished none.1 at.before at.stands whole
        (subst (Spells whole) (beyond.1 ∙ ap (λ (l : List (List ℕ)). at.before ++ l) none.0 ∙ append-nil at.before) spells.spelled);
  }

  -- a text that ends where it may
  pub whole_read : (text rest : List ℕ) (number : ℕ) (whole : A) (at : IsReadTo Stands text rest number) → rest ≡ [] → Spells whole at.before → SpellsByLines Spells whole text
  whole_read text rest number whole at none spelled = record {
    lines = at.before;
    spelled = spelled;
    is = at.is ∙ ap (λ (r : List ℕ). lines_text at.before ++ r) none ∙ append-nil (lines_text at.before);
  }

  -- one text says one thing
  pub only_read : ((one other : A) (lines : List (List ℕ)) → Spells one lines → Spells other lines → one ≡ other)
      → (one other : A) (text : List ℕ) → SpellsByLines Spells one text → SpellsByLines Spells other text → one ≡ other
  only_read spells_one one other text p q =
      let beyond = lines_beyond p.lines q.lines [] (are_lines one p.lines p.spelled) (are_lines other q.lines q.spelled) (append-nil (lines_text p.lines) ∙ sym p.is ∙ q.is) in
      let none = no_lines [] beyond.0 tt beyond.2 in
      let same : q.lines ≡ p.lines = beyond.1 ∙ ap (λ (l : List (List ℕ)). p.lines ++ l) none.0 ∙ append-nil p.lines in
      spells_one one other p.lines p.spelled (subst (Spells other) same q.spelled)
