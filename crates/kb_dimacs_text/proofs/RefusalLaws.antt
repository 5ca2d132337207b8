-- A text that is refused stops at one line, by one cause.
use Rattle.std.proofs.Common.{◌≡◌, ℕ, ◌-◌, ◌<◌, ◌≤◌, ◌⊎◌, inl, inr, List, [], ◌∷◌, ◌++◌, length, take, drop, zero, suc, refl, sym, ◌∙◌, ap, subst, arith}
use Rattle.std.proofs.lemmas.Bool.{cases_lt}
use Rattle.std.proofs.lemmas.List.{take-append-drop, take_all}
use Rattle.std.specs.List.{flat_map}
use Rattle.std.proofs.lemmas.List.Concat.{flat_map-append}
use Rattle.kb_dimacs_text.specs.Lines.{lines, line_words}
use Rattle.kb_dimacs_text.specs.Dimacs.{SpellsHeader}
use Rattle.kb_dimacs_text.specs.Fronts.{IsWordCause, HasBadWord, HasBadLine, IsLineCause, BeginsDimacs}
use Rattle.kb_dimacs_text.specs.Refusals.{IsStoppingLine, IsWrongLine, IsCauseAt, RefusesText}
use Rattle.kb_dimacs_text.specs.declared.refusal.Refusal.TheVariants.{Line}
use Rattle.kb_dimacs_text.specs.declared.refusal.Cause.{Cause}
use Rattle.kb_dimacs_text.specs.declared.refusal.Cause.TheVariants.{Header, NoNumber, HighVariable, MoreClauses, EarlyEnd}
use Rattle.kb_dimacs_text.proofs.WordLaws.{same_header, some_header}
use Rattle.kb_dimacs_text.proofs.FrontLaws.{same_first}
use Rattle.kb_dimacs_text.proofs.LineLaws.{goes_on_before}

-- two places in one list are one, or one stands behind the other
two_places : (xs ys us vs : List (List ℕ)) (x y : List ℕ) → xs ++ x ∷ us ≡ ys ++ y ∷ vs
    → ((xs ≡ ys) × (x ≡ y)) ⊎ (((l : List (List ℕ)) × (ys ≡ xs ++ x ∷ l)) ⊎ ((l : List (List ℕ)) × (xs ≡ ys ++ y ∷ l)))
two_places [] [] us vs x y e = inl (refl, cc)
two_places [] (b ∷ ys) us vs x y e = let head : x ≡ b = cc in inr (inl (ys, ap (λ (w : List ℕ). w ∷ ys) (sym head)))
two_places (a ∷ xs) [] us vs x y e = let head : a ≡ y = cc in inr (inr (xs, ap (λ (w : List ℕ). w ∷ xs) head))
two_places (a ∷ xs) (b ∷ ys) us vs x y e =
    let head : a ≡ b = cc in
    let tails : xs ++ x ∷ us ≡ ys ++ y ∷ vs = cc in
    elim (two_places xs ys us vs x y tails) [
      | inl s ↦ inl (ap (λ (w : List ℕ). w ∷ xs) head ∙ ap (λ (l : List (List ℕ)). b ∷ l) s.0, s.1)
      | inr r ↦ elim r [
        | inl s ↦ inr (inl (s.0, ap (λ (l : List (List ℕ)). b ∷ l) s.1 ∙ ap (λ (w : List ℕ). w ∷ (xs ++ x ∷ s.0)) (sym head)))
        | inr s ↦ inr (inr (s.0, ap (λ (w : List ℕ). w ∷ xs) head ∙ ap (λ (l : List (List ℕ)). b ∷ l) s.1))
      ]
    ]

-- a word has one cause
one_cause : (vars count : ℕ) (read : List (List ℕ)) (word : List ℕ) (cause why : Cause) → IsWordCause vars count read word cause → IsWordCause vars count read word why → cause ≡ why
one_cause vars count read word Header why p q = absurd p
one_cause vars count read word EarlyEnd why p q = absurd p
one_cause vars count read word NoNumber Header p q = absurd q
one_cause vars count read word NoNumber EarlyEnd p q = absurd q
one_cause vars count read word NoNumber NoNumber p q = refl
one_cause vars count read word NoNumber HighVariable p q = absurd (p.1 q.1 q.2 q.3)
one_cause vars count read word NoNumber MoreClauses p q = absurd (p.0 q)
one_cause vars count read word HighVariable Header p q = absurd q
one_cause vars count read word HighVariable EarlyEnd p q = absurd q
one_cause vars count read word HighVariable NoNumber p q = absurd (q.1 p.1 p.2 p.3)
one_cause vars count read word HighVariable HighVariable p q = refl
one_cause vars count read word HighVariable MoreClauses p q = absurd (p.0 q)
one_cause vars count read word MoreClauses Header p q = absurd q
one_cause vars count read word MoreClauses EarlyEnd p q = absurd q
one_cause vars count read word MoreClauses NoNumber p q = absurd (q.0 p)
one_cause vars count read word MoreClauses HighVariable p q = absurd (q.0 p)
one_cause vars count read word MoreClauses MoreClauses p q = refl

-- words have one first bad one
one_bad_word : (vars count : ℕ) (read words : List (List ℕ)) (cause why : Cause) → HasBadWord vars count read words cause → HasBadWord vars count read words why → cause ≡ why
one_bad_word vars count read words cause why p q =
    elim (two_places p.before q.before p.behind q.behind p.word q.word (sym p.words_are ∙ q.words_are)) [
      | inl s ↦ one_cause vars count (read ++ q.before) q.word cause why
          (subst (λ (w : List ℕ). IsWordCause vars count (read ++ q.before) w cause) s.1 (subst (λ (l : List (List ℕ)). IsWordCause vars count (read ++ l) p.word cause) s.0 p.is)) q.is
      | inr r ↦ elim r [
        | inl s ↦ absurd (q.fine p.before p.word s.0 s.1 cause p.is)
        | inr s ↦ absurd (p.fine q.before q.word s.0 s.1 why q.is)
      ]
    ]

-- a line behind a header has one cause
one_bad_line : (ls : List (List ℕ)) (line : List ℕ) (cause why : Cause) → HasBadLine ls line cause → HasBadLine ls line why → cause ≡ why
one_bad_line ls line cause why p q =
    let same = same_first p.before q.before p.behind q.behind p.header q.header p.blank q.blank
    (some_header p.vars p.count (line_words p.header) p.header_is) (some_header q.vars q.count (line_words q.header) q.header_is) (sym p.lines_are ∙ q.lines_are) in
    let headers = same_header p.vars p.count q.vars q.count (line_words q.header)
    (subst (λ (l : List ℕ). SpellsHeader p.vars p.count (line_words l)) same.0 p.header_is) q.header_is in
    one_bad_word q.vars q.count (flat_map line_words q.behind) (line_words line) cause why
    (subst (λ (l : List (List ℕ)). HasBadWord q.vars q.count (flat_map line_words l) (line_words line) cause) same.1
    (subst (λ (n : ℕ). HasBadWord q.vars n (flat_map line_words p.behind) (line_words line) cause) headers.1
    (subst (λ (n : ℕ). HasBadWord n p.count (flat_map line_words p.behind) (line_words line) cause) headers.0 p.bad))) q.bad

-- lines with a header have words
not_blank : (ls : List (List ℕ)) (line : List ℕ) (cause : Cause) → HasBadLine ls line cause → flat_map line_words ls ≡ [] → ⊥
not_blank ls line cause bad blank =
    some_header bad.vars bad.count (line_words bad.header) bad.header_is
    (front_empty (line_words bad.header) (flat_map line_words bad.behind)
    (back_empty (flat_map line_words bad.before) (line_words bad.header ++ flat_map line_words bad.behind)
    (sym (flat_map-append line_words bad.before (bad.header ∷ bad.behind)) ∙ (ap (flat_map line_words) (sym bad.lines_are) ∙ blank))))
  where
    back_empty : (xs ys : List (List ℕ)) → xs ++ ys ≡ [] → ys ≡ []
    back_empty [] ys e = e
    back_empty (x ∷ xs) ys e = absurd cc

    front_empty : (xs ys : List (List ℕ)) → xs ++ ys ≡ [] → xs ≡ []
    front_empty [] ys e = refl
    front_empty (x ∷ xs) ys e = absurd cc

-- what is wrong with a line: there is no header yet, or a word of it is wrong
line_cases : (ls : List (List ℕ)) (line : List ℕ) (cause : Cause) → IsLineCause ls line cause → ((cause ≡ Header) × (flat_map line_words ls ≡ [])) ⊎ HasBadLine ls line cause
line_cases ls line Header p = inl (refl, p.0)
line_cases ls line NoNumber p = inr p
line_cases ls line HighVariable p = inr p
line_cases ls line MoreClauses p = inr p
line_cases ls line EarlyEnd p = absurd p

one_line_cause : (ls : List (List ℕ)) (line : List ℕ) (cause why : Cause) → IsLineCause ls line cause → IsLineCause ls line why → cause ≡ why
one_line_cause ls line cause why p q =
    elim (line_cases ls line cause p) [
      | inl s ↦ elim (line_cases ls line why q) [
        | inl t ↦ s.0 ∙ sym t.0
        | inr t ↦ absurd (not_blank ls line why t s.1)
      ]
      | inr s ↦ elim (line_cases ls line why q) [
        | inl t ↦ absurd (not_blank ls line cause s t.1)
        | inr t ↦ one_bad_line ls line cause why s t
      ]
    ]

-- the text ends too early, or the line is wrong
cause_cases : (ls : List (List ℕ)) (number : ℕ) (cause : Cause) → IsCauseAt ls number cause → ((cause ≡ EarlyEnd) × (number ≡ length ls) × BeginsDimacs ls) ⊎ IsWrongLine ls number cause
cause_cases ls number Header p = inr p
cause_cases ls number NoNumber p = inr p
cause_cases ls number HighVariable p = inr p
cause_cases ls number MoreClauses p = inr p
cause_cases ls number EarlyEnd p = inl (refl, p.0, p.1)

same_next : (xs us vs : List (List ℕ)) (x y : List ℕ) → xs ++ x ∷ us ≡ xs ++ y ∷ vs → x ≡ y
same_next [] us vs x y e = cc
same_next (w ∷ xs) us vs x y e = let tails : xs ++ x ∷ us ≡ xs ++ y ∷ vs = cc in same_next xs us vs x y tails

-- the whole text goes on, and so does what stands before its end
ends_or_wrong : (ls : List (List ℕ)) (number : ℕ) (cause : Cause) → number ≡ length ls → BeginsDimacs ls → IsWrongLine ls number cause → ⊥
ends_or_wrong ls number cause e goes wrong = wrong.0 (subst BeginsDimacs (sym (take_all number ls (omega (arith, e)))) goes)

pub one_cause_at : (ls : List (List ℕ)) (number : ℕ) (cause why : Cause) → IsCauseAt ls number cause → IsCauseAt ls number why → cause ≡ why
one_cause_at ls number cause why p q =
    elim (cause_cases ls number cause p) [
      | inl s ↦ elim (cause_cases ls number why q) [
        | inl t ↦ s.0 ∙ sym t.0
        | inr t ↦ absurd (ends_or_wrong ls number why s.1 s.2 t)
      ]
      | inr s ↦ elim (cause_cases ls number why q) [
        | inl t ↦ absurd (ends_or_wrong ls number cause t.1 t.2 s)
        | inr t ↦ one_line_cause (take (number - 1) ls) t.1 cause why
            (subst (λ (l : List ℕ). IsLineCause (take (number - 1) ls) l cause) (same_next (take (number - 1) ls) s.2 t.2 s.1 t.1 (sym s.3 ∙ t.3)) s.4) t.4
      ]
    ]

-- lines that go on go on with fewer of them
goes_on_fewer : (ls : List (List ℕ)) (n m : ℕ) → n ≤ m → BeginsDimacs (take m ls) → BeginsDimacs (take n ls)
goes_on_fewer ls n m le goes =
    subst BeginsDimacs (shorter n m ls le) (goes_on_before (take n (take m ls)) (drop n (take m ls)) (subst BeginsDimacs (sym (take-append-drop n (take m ls))) goes))
  where
    shorter : (n m : ℕ) (ls : List (List ℕ)) → n ≤ m → take n (take m ls) ≡ take n ls
    shorter zero m ls le = refl
    shorter (suc n) zero ls le = absurd (omega arith)
    shorter (suc n) (suc m) [] le = refl
    shorter (suc n) (suc m) (l ∷ ls) le = ap (λ (z : List (List ℕ)). l ∷ z) (shorter n m ls (omega arith))

-- the first line where a text stops is one
pub one_stopping_line : (ls : List (List ℕ)) (n m : ℕ) → IsStoppingLine ls n → IsStoppingLine ls m → n ≡ m
one_stopping_line ls n m p q =
    elim (cases_lt n m) [
      | inl lt ↦ absurd (before n m p q lt)
      | inr ge ↦ elim (cases_lt m n) [
        | inl lt ↦ absurd (before m n q p lt)
        | inr le ↦ omega (arith, ge, le)
      ]
    ]
  where
    before : (n m : ℕ) → IsStoppingLine ls n → IsStoppingLine ls m → n < m → ⊥
    before n m p q lt =
        let inside : m ≤ length ls = q.inside in
        p.no_further (omega (arith, lt, inside)) (goes_on_fewer ls n (m - 1) (omega (arith, lt)) q.goes_on)

pub one_line : (text : List ℕ) (line other : ℕ) (cause why : Cause) → RefusesText text (Line line cause) → RefusesText text (Line other why) → line ≡ other
one_line text line other cause why p q = one_stopping_line (lines text) line other p.0 q.0

pub one_reason : (text : List ℕ) (line other : ℕ) (cause why : Cause) → RefusesText text (Line line cause) → RefusesText text (Line other why) → cause ≡ why
one_reason text line other cause why p q =
    one_cause_at (lines text) other cause why (subst (λ (n : ℕ). IsCauseAt (lines text) n cause) (one_line text line other cause why p q) p.1) q.1
