-- How a reader of DIMACS goes from line to line.
use Rattle.std.proofs.Common.{◌≡◌, ◌≢◌, ℕ, suc, zero, ◌+◌, ◌-◌, ◌≤◌, List, [], ◌∷◌, ◌++◌, length, map, replicate, refl, sym, ◌∙◌, ap, subst, arith, append_assoc, append-nil, length-append}
use Rattle.std.specs.Prelude.{ℤ, pos, codes, Option, Some, None, IfSome, IsNone, MatchOption}
use Rattle.std.specs.List.{flat_map}
use Rattle.std.proofs.lemmas.List.Concat.{flat_map-append}
use Rattle.kb_chain.specs.Cnf.{Cnf}
use Rattle.kb_dimacs_text.specs.Lines.{line_words}
use Rattle.kb_dimacs_text.specs.Numbers.{SpellsDimacsNumber, SpellNumbers}
use Rattle.kb_dimacs_text.specs.Dimacs.{AreClauses, written, all_written, clause_from, SpellsHeader, SpellClauses, AreDimacs}
use Rattle.kb_dimacs_text.specs.Fronts.{HoldsWords, StopsAtWords, HasBadLine, IsLineCause, HasReadBehind, HasRead, StopsAtLine, BeginsDimacs}
use Rattle.kb_dimacs_text.specs.declared.body.Body.{Body}
use Rattle.kb_dimacs_text.specs.declared.front.Front.{Front}
use Rattle.kb_dimacs_text.specs.declared.front.Front.TheVariants.{Start, Behind}
use Rattle.kb_dimacs_text.specs.declared.refusal.Cause.{Cause}
use Rattle.kb_dimacs_text.specs.declared.refusal.Cause.TheVariants.{Header, NoNumber, HighVariable, MoreClauses, EarlyEnd}
use Rattle.kb_dimacs_text.specs.declared.refusal.ReadingStop.{ReadingStop}
use Rattle.kb_dimacs_text.specs.declared.refusal.ReadingStop.TheVariants.{Bad, NoMemory as no_memory}
use Rattle.kb_dimacs_text.proofs.ClauseLaws.{SpellNumbers-append, numbers_behind, clauses_behind, no_more, held_count, same_body, whole_clauses}
use Rattle.kb_dimacs_text.proofs.WordLaws.{same_header, some_header}

none_in_front : (xs ys : List (List ℕ)) → xs ++ ys ≡ [] → (xs ≡ []) × (ys ≡ [])
none_in_front [] ys e = (refl, e)
none_in_front (x ∷ xs) ys e = absurd cc

-- the first line that has words, those before it and those behind it
pub same_first : (xs ys us vs : List (List ℕ)) (x y : List ℕ) → flat_map line_words xs ≡ [] → flat_map line_words ys ≡ [] → (line_words x ≡ [] → ⊥) → (line_words y ≡ [] → ⊥)
    → xs ++ x ∷ us ≡ ys ++ y ∷ vs → (x ≡ y) × (us ≡ vs)
same_first [] [] us vs x y p q some_x some_y e = (cc, cc)
same_first [] (w ∷ ys) us vs x y p q some_x some_y e =
    let h : x ≡ w = cc in absurd (some_x (ap line_words h ∙ (none_in_front (line_words w) (flat_map line_words ys) q).0))
same_first (w ∷ xs) [] us vs x y p q some_x some_y e =
    let h : w ≡ y = cc in absurd (some_y (ap line_words (sym h) ∙ (none_in_front (line_words w) (flat_map line_words xs) p).0))
same_first (w ∷ xs) (z ∷ ys) us vs x y p q some_x some_y e =
    let tails : xs ++ x ∷ us ≡ ys ++ y ∷ vs = cc in
    same_first xs ys us vs x y (none_in_front (line_words w) (flat_map line_words xs) p).1 (none_in_front (line_words z) (flat_map line_words ys) q).1 some_x some_y tails

-- a line of words that is no header
pub no_header : (ls more : List (List ℕ)) (line : List ℕ) (formula : Cnf) → flat_map line_words ls ≡ [] → (line_words line ≡ [] → ⊥)
    → ((vars count : ℕ) → SpellsHeader vars count (line_words line) → ⊥) → AreDimacs formula (ls ++ line ∷ more) → ⊥
no_header ls more line formula blank some none are =
    let same = same_first ls are.before more are.behind line are.header blank are.blank some (some_header formula.vars are.count (line_words are.header) are.header_is) are.lines_are in
    none formula.vars are.count (subst (λ (l : List ℕ). SpellsHeader formula.vars are.count (line_words l)) (sym same.0) are.header_is)

-- the clauses of a text that begins with lines that were read
clauses_from : (body : Body) (ls more : List (List ℕ)) (formula : Cnf) (stands : HasReadBehind body ls) (are : AreDimacs formula (ls ++ more))
    → (are.behind ≡ stands.behind ++ more) × (formula.vars ≡ body.formula.vars) × (are.count ≡ body.count)
clauses_from body ls more formula stands are =
    let front : ls ++ more ≡ stands.before ++ stands.header ∷ (stands.behind ++ more) = ap (λ (l : List (List ℕ)). l ++ more) stands.lines_are ∙ append_assoc stands.before (stands.header ∷ stands.behind) more in
    let same = same_first are.before stands.before are.behind (stands.behind ++ more) are.header stands.header are.blank stands.blank
    (some_header formula.vars are.count (line_words are.header) are.header_is) (some_header body.formula.vars body.count (line_words stands.header) stands.header_is)
    (sym are.lines_are ∙ front) in
    let headers = same_header formula.vars are.count body.formula.vars body.count (line_words stands.header)
    (subst (λ (l : List ℕ). SpellsHeader formula.vars are.count (line_words l)) same.0 are.header_is) stands.header_is in
    (same.1, headers.0, headers.1)

-- a wrong word is what is wrong with its line
line_cause : (ls : List (List ℕ)) (line : List ℕ) (cause : Cause) → HasBadLine ls line cause → IsLineCause ls line cause
line_cause ls line Header bad = absurd bad.bad.is
line_cause ls line NoNumber bad = bad
line_cause ls line HighVariable bad = bad
line_cause ls line MoreClauses bad = bad
line_cause ls line EarlyEnd bad = absurd bad.bad.is

pub stops_at_line : (body : Body) (line : List ℕ) (stop : ReadingStop) → StopsAtWords body (line_words line) stop → StopsAtLine (Behind body) line stop
stops_at_line body line (Bad cause) stops = λ ls stands.
    let stop = stops (flat_map line_words stands.behind) stands.holds in (
      line_cause ls line cause (record {
        before = stands.before;
        header = stands.header;
        behind = stands.behind;
        vars = body.formula.vars;
        count = body.count;
        lines_are = stands.lines_are;
        blank = stands.blank;
        header_is = stands.header_is;
        bad = stop.0;
      }),
      λ more formula are.
          let from = clauses_from body ls (line ∷ more) formula stands are in
          stop.1 (flat_map line_words more) are.clauses
          (same_body formula.vars body.formula.vars are.count body.count are.clauses _ _ (sym from.1) (sym from.2)
          (ap (flat_map line_words) from.0 ∙ flat_map-append line_words stands.behind (line ∷ more)) are.clauses_are),
    )
stops_at_line body line no_memory stops = tt

pub one_more_line : (old new : Body) (ls : List (List ℕ)) (line : List ℕ) → new.formula.vars ≡ old.formula.vars → new.count ≡ old.count
    → ((read : List (List ℕ)) → HoldsWords old read → HoldsWords new (read ++ line_words line)) → HasReadBehind old ls → HasReadBehind new (ls ++ line ∷ [])
one_more_line old new ls line vars count holds stands = record {
  before = stands.before;
  header = stands.header;
  behind = stands.behind ++ line ∷ [];
  lines_are = ap (λ (l : List (List ℕ)). l ++ line ∷ []) stands.lines_are ∙ append_assoc stands.before (stands.header ∷ stands.behind) (line ∷ []);
  blank = stands.blank;
  header_is = subst (λ (n : ℕ). SpellsHeader new.formula.vars n (line_words stands.header)) (sym count)
      (subst (λ (n : ℕ). SpellsHeader n old.count (line_words stands.header)) (sym vars) stands.header_is);
  holds = subst (HoldsWords new)
      (ap (λ (l : List (List ℕ)). flat_map line_words stands.behind ++ l) (sym (append-nil (line_words line))) ∙ sym (flat_map-append line_words stands.behind (line ∷ [])))
      (holds (flat_map line_words stands.behind) stands.holds);
}

-- where the text ends with fewer clauses, or in one
pub no_end : (body : Body) (ls : List (List ℕ)) (formula : Cnf) → HasReadBehind body ls → (length body.formula.clauses ≡ body.count → ⊥) → AreDimacs formula ls → ⊥
no_end body ls formula stands open_one are =
    let whole = subst (AreDimacs formula) (sym (append-nil ls)) are in
    let from = clauses_from body ls [] formula stands whole in
    open_one (no_more body (flat_map line_words stands.behind) whole.clauses stands.holds
    (same_body formula.vars body.formula.vars whole.count body.count whole.clauses _ _ (sym from.1) (sym from.2)
    (ap (flat_map line_words) (from.0 ∙ append-nil stands.behind)) whole.clauses_are)).1

-- where it ends behind the clauses that were announced
pub whole_end : (body : Body) (ls : List (List ℕ)) → HasReadBehind body ls → length body.formula.clauses ≡ body.count → AreDimacs body.formula ls
whole_end body ls stands full = record {
  before = stands.before;
  header = stands.header;
  behind = stands.behind;
  count = body.count;
  clauses = stands.holds.clauses;
  lines_are = stands.lines_are;
  blank = stands.blank;
  header_is = stands.header_is;
  clauses_are = whole_clauses body (flat_map line_words stands.behind) stands.holds full;
  formula_is = stands.holds.formula_is;
}

-- the same words are those of the same clauses
same_clauses : (vars count : ℕ) (xs ys : List (List ℤ)) (ws : List (List ℕ)) → SpellClauses vars count xs ws → SpellClauses vars count ys ws → xs ≡ ys
same_clauses vars count xs ys ws p q =
    let behind = numbers_behind (all_written xs) (all_written ys) ws [] p.words_are (subst (SpellNumbers (all_written ys)) (sym (append-nil ws)) q.words_are) in
    go behind.0 behind.1 behind.2
  where
    none_left : (more : List (List ℤ)) → all_written more ≡ [] → more ≡ []
    none_left [] e = refl
    none_left ([] ∷ more) e = absurd cc
    none_left ((n ∷ clause) ∷ more) e = absurd cc

    go : (ks : List ℤ) → all_written ys ≡ all_written xs ++ ks → SpellNumbers ks [] → xs ≡ ys
    go (k ∷ ks) e s = absurd s
    go [] e s =
        let rest = clauses_behind vars xs ys [] p.literals q.literals e in
        sym (rest.1 ∙ ap (λ (l : List (List ℤ)). xs ++ l) (none_left rest.0 rest.2) ∙ append-nil xs)

same_cnf : (f g : Cnf) → f.vars ≡ g.vars → f.clauses ≡ g.clauses → f ≡ g
same_cnf f g e h = ap (λ (n : ℕ). record f { vars = n }) e ∙ ap (λ l. record g { clauses = l }) h

-- lines are DIMACS of one formula
pub same_formula : (f g : Cnf) (ls : List (List ℕ)) → AreDimacs f ls → AreDimacs g ls → f ≡ g
same_formula f g ls p q =
    let same = same_first p.before q.before p.behind q.behind p.header q.header p.blank q.blank
    (some_header f.vars p.count (line_words p.header) p.header_is) (some_header g.vars q.count (line_words q.header) q.header_is) (sym p.lines_are ∙ q.lines_are) in
    let headers = same_header f.vars p.count g.vars q.count (line_words q.header)
    (subst (λ (l : List ℕ). SpellsHeader f.vars p.count (line_words l)) same.0 p.header_is) q.header_is in
    let first = same_body f.vars g.vars p.count q.count p.clauses _ _ (sym headers.0) (sym headers.1) (ap (flat_map line_words) same.1) p.clauses_are in
    let clauses = same_clauses g.vars q.count p.clauses q.clauses (flat_map line_words q.behind) first q.clauses_are in
    same_cnf f g headers.0 (p.formula_is ∙ ap (map clause_from) clauses ∙ sym q.formula_is)

-- ---- every front goes on

zero_word : SpellsDimacsNumber (pos 0) (codes "0")
zero_word = ((omega arith, (omega arith, tt)), refl)

least_header : line_words (codes "p cnf 0 0") ≡ codes "p" ∷ codes "cnf" ∷ codes "0" ∷ codes "0" ∷ []
unfolding line_words
least_header = refl

zero_line : line_words (codes "0") ≡ codes "0" ∷ []
unfolding line_words
zero_line = refl

zero_lines : (n : ℕ) → flat_map line_words (replicate n (codes "0")) ≡ replicate n (codes "0")
zero_lines zero = refl
zero_lines (suc n) = ap (λ (l : List (List ℕ)). l ++ flat_map line_words (replicate n (codes "0"))) zero_line ∙ ap (λ (l : List (List ℕ)). codes "0" ∷ l) (zero_lines n)

zeros : (n : ℕ) → SpellNumbers (all_written (replicate n [])) (replicate n (codes "0"))
zeros zero = tt
zeros (suc n) = (zero_word, zeros n)

empty_clauses : (vars n : ℕ) → AreClauses vars (replicate n [])
empty_clauses vars zero = tt
empty_clauses vars (suc n) = (tt, empty_clauses vars n)

AreClauses-append : (vars : ℕ) (xs ys : List (List ℤ)) → AreClauses vars xs → AreClauses vars ys → AreClauses vars (xs ++ ys)
AreClauses-append vars [] ys p q = q
AreClauses-append vars (x ∷ xs) ys p q = (p.0, AreClauses-append vars xs ys p.1 q)

length-replicate : {A : Type 0} (n : ℕ) (x : A) → length (replicate n x) ≡ n
length-replicate zero x = refl
length-replicate (suc n) x = ap suc (length-replicate n x)

goes_on_start : (ls : List (List ℕ)) → flat_map line_words ls ≡ [] → BeginsDimacs ls
goes_on_start ls blank = (
  codes "p cnf 0 0" ∷ [],
  record { vars = 0; clauses = [] },
  record {
    before = ls;
    header = codes "p cnf 0 0";
    behind = [];
    count = 0;
    clauses = [];
    lines_are = refl;
    blank = blank;
    header_is = record { vars_word = codes "0"; count_word = codes "0"; words_are = least_header; vars_is = zero_word; count_is = zero_word; vars_fit = omega arith; count_fits = omega arith };
    clauses_are = record { counted = refl; literals = tt; words_are = tt };
    formula_is = refl;
  },
)

more_zeros : (body : Body) (ls : List (List ℕ)) (n : ℕ) (stands : HasReadBehind body ls)
    → SpellNumbers (all_written (stands.holds.clauses ++ stands.holds.numbers ∷ replicate n [])) (flat_map line_words (stands.behind ++ replicate (suc n) (codes "0")))
more_zeros body ls n stands =
    let held = stands.holds in
    let rest = all_written (replicate n []) in
    let numbers : (all_written held.clauses ++ held.numbers) ++ pos 0 ∷ rest ≡ all_written (held.clauses ++ held.numbers ∷ replicate n []) =
    append_assoc (all_written held.clauses) held.numbers (pos 0 ∷ rest)
    ∙ (ap (λ (l : List ℤ). all_written held.clauses ++ l) (sym (append_assoc held.numbers (pos 0 ∷ []) rest)) ∙ sym (flat_map-append written held.clauses (held.numbers ∷ replicate n []))) in
    let words : flat_map line_words stands.behind ++ replicate (suc n) (codes "0") ≡ flat_map line_words (stands.behind ++ replicate (suc n) (codes "0")) =
    ap (λ (l : List (List ℕ)). flat_map line_words stands.behind ++ l) (sym (zero_lines (suc n))) ∙ sym (flat_map-append line_words stands.behind (replicate (suc n) (codes "0"))) in
    subst (λ (l : List ℤ). SpellNumbers l (flat_map line_words (stands.behind ++ replicate (suc n) (codes "0")))) numbers
    (subst (SpellNumbers ((all_written held.clauses ++ held.numbers) ++ pos 0 ∷ rest)) words
    (SpellNumbers-append (all_written held.clauses ++ held.numbers) (pos 0 ∷ rest) (flat_map line_words stands.behind) (replicate (suc n) (codes "0")) held.words_are (zeros (suc n))))

-- behind n + 1 more zeros
goes_on_open : (body : Body) (ls : List (List ℕ)) (n : ℕ) → HasReadBehind body ls → length body.formula.clauses + suc n ≡ body.count → BeginsDimacs ls
goes_on_open body ls n stands left =
    let held = stands.holds in
    let clauses = held.clauses ++ held.numbers ∷ replicate n [] in (
      replicate (suc n) (codes "0"),
      record { vars = body.formula.vars; clauses = map clause_from clauses },
      record {
        before = stands.before;
        header = stands.header;
        behind = stands.behind ++ replicate (suc n) (codes "0");
        count = body.count;
        clauses = clauses;
        lines_are = ap (λ (l : List (List ℕ)). l ++ replicate (suc n) (codes "0")) stands.lines_are ∙ append_assoc stands.before (stands.header ∷ stands.behind) (replicate (suc n) (codes "0"));
        blank = stands.blank;
        header_is = stands.header_is;
        clauses_are = record {
          counted = omega (arith, length-append held.clauses (held.numbers ∷ replicate n []), length-replicate {A = List ℤ} n [], held_count body (flat_map line_words stands.behind) held);
          literals = AreClauses-append body.formula.vars held.clauses (held.numbers ∷ replicate n []) held.are_clauses (held.are_literals, empty_clauses body.formula.vars n);
          words_are = more_zeros body ls n stands;
        };
        formula_is = refl;
      },
    )

goes_on_behind : (body : Body) (ls : List (List ℕ)) → HasReadBehind body ls → BeginsDimacs ls
goes_on_behind body ls stands = go (body.count - length body.formula.clauses) refl
  where
    few : length body.formula.clauses ≤ body.count
    few =
        let few : length stands.holds.clauses ≤ body.count = stands.holds.few in
        omega (arith, held_count body (flat_map line_words stands.behind) stands.holds)

    go : (n : ℕ) → body.count - length body.formula.clauses ≡ n → BeginsDimacs ls
    go zero e = ([], body.formula, subst (AreDimacs body.formula) (sym (append-nil ls)) (whole_end body ls stands (omega (arith, few))))
    go (suc n) e = goes_on_open body ls n stands (omega (arith, few))

-- some DIMACS text begins with the lines that were read
pub goes_on : (front : Front) (ls : List (List ℕ)) → HasRead front ls → BeginsDimacs ls
goes_on Start ls stands = goes_on_start ls stands
goes_on (Behind body) ls stands = goes_on_behind body ls stands

-- the formula of a body, where the text ends
pub finished : (body : Body) (result : Option Cnf) → IfSome result (λ formula. (formula ≡ body.formula) × (length body.formula.clauses ≡ body.count))
    → (IsNone result → length body.formula.clauses ≢ body.count)
    → MatchOption result ((ls : List (List ℕ)) (formula : Cnf) → HasReadBehind body ls → AreDimacs formula ls → ⊥) (λ formula. (ls : List (List ℕ)) → HasReadBehind body ls → AreDimacs formula ls)
finished body None some none = λ ls formula stands are. no_end body ls formula stands (none refl) are
finished body (Some formula) some none = λ ls stands. subst (λ (f : Cnf). AreDimacs f ls) (sym some.0) (whole_end body ls stands some.1)
