-- Where a text stops being DIMACS.
use Rattle.std.proofs.Common.{◌≡◌, ℕ, ◌+◌, ◌-◌, ◌<◌, ◌≤◌, List, [], ◌∷◌, ◌++◌, length, take, drop, sym, ◌∙◌, ap, subst, arith, append_assoc, append-nil, length-append}
use Rattle.std.proofs.lemmas.List.{take-append-drop}
use Rattle.std.proofs.Math.Seq.{take-append_seam}
use Rattle.std.proofs.lemmas.List.Splits.{length-slice_split}
use Rattle.std.proofs.Common.{Bor}
use Rattle.std.specs.Prelude.{◌==◌, Option, Some, None, MatchOption}
use Rattle.std.specs.Option.{option_copied}
use Rattle.kb_dimacs_text.specs.Lines.{lines}
use Rattle.kb_dimacs_text.specs.Pieces.{lines_left, bytes_left}
use Rattle.kb_chain.specs.Cnf.{Cnf}
use Rattle.kb_dimacs_text.specs.Dimacs.{AreDimacs}
use Rattle.kb_dimacs_text.specs.Fronts.{HasRead, StopsAtLine, BeginsDimacs, IsLineCause}
use Rattle.kb_dimacs_text.specs.Refusals.{IsStoppingLine, IsCauseAt}
use Rattle.kb_dimacs_text.specs.declared.front.Front.{Front}
use Rattle.kb_dimacs_text.specs.declared.refusal.Cause.{Cause}
use Rattle.kb_dimacs_text.specs.declared.refusal.Cause.TheVariants.{Header, NoNumber, HighVariable, MoreClauses, EarlyEnd}
use Rattle.kb_dimacs_text.specs.declared.refusal.ReadingStop.TheVariants.{Bad}
use Rattle.kb_dimacs_text.proofs.FrontLaws.{goes_on}

pub goes_on_before : (xs ys : List (List ℕ)) → BeginsDimacs (xs ++ ys) → BeginsDimacs xs
goes_on_before xs ys (more, formula, are) = (ys ++ more, formula, subst (AreDimacs formula) (append_assoc xs ys more) are)

-- one line more
pub take_one_more : (ls rest : List (List ℕ)) (n : ℕ) (line : List ℕ) → take n ls ++ line ∷ rest ≡ ls → n + length (line ∷ rest) ≡ length ls → take (n + 1) ls ≡ take n ls ++ line ∷ []
take_one_more ls rest n line e k =
    let at : length (take n ls) ≡ n = omega (arith, ap length e, length-append (take n ls) (line ∷ rest)) in
    let front : take n ls ++ line ∷ rest ≡ (take n ls ++ line ∷ []) ++ rest = sym (append_assoc (take n ls) (line ∷ []) rest) in
    let longer : length (take n ls ++ line ∷ []) ≡ n + 1 = omega (arith, length-append (take n ls) (line ∷ [])) in
    ap (take (n + 1)) (sym e ∙ front) ∙ ap (λ (m : ℕ). take m ((take n ls ++ line ∷ []) ++ rest)) (sym longer) ∙ take-append_seam (take n ls ++ line ∷ []) rest

-- a wrong line
wrong_line : (ls rest : List (List ℕ)) (number : ℕ) (line : List ℕ) (cause : Cause) → take (number - 1) ls ++ line ∷ rest ≡ ls → (BeginsDimacs (take number ls) → ⊥)
    → IsLineCause (take (number - 1) ls) line cause → IsCauseAt ls number cause
wrong_line ls rest number line Header is none cause = (none, line, rest, sym is, cause)
wrong_line ls rest number line NoNumber is none cause = (none, line, rest, sym is, cause)
wrong_line ls rest number line HighVariable is none cause = (none, line, rest, sym is, cause)
wrong_line ls rest number line MoreClauses is none cause = (none, line, rest, sym is, cause)
wrong_line ls rest number line EarlyEnd is none cause = absurd cause

one_back : (n : ℕ) → n ≡ n + 1 - 1
one_back n = omega arith

pub bad_line : (front : Front) (ls rest : List (List ℕ)) (n : ℕ) (line : List ℕ) (cause : Cause) → HasRead front (take n ls) → take n ls ++ line ∷ rest ≡ ls
    → n + length (line ∷ rest) ≡ length ls → StopsAtLine front line (Bad cause) → IsStoppingLine ls (n + 1) × IsCauseAt ls (n + 1) cause
bad_line front ls rest n line cause stands is count stops =
    let stop = stops (take n ls) stands in
    let none : BeginsDimacs (take (n + 1) ls) → ⊥ = λ (more, formula, are). stop.1 more formula
    (subst (AreDimacs formula) (ap (λ (l : List (List ℕ)). l ++ more) (take_one_more ls rest n line is count) ∙ append_assoc (take n ls) (line ∷ []) more) are) in (
      record {
        some = omega arith;
        inside = omega arith;
        goes_on = subst (λ (k : ℕ). BeginsDimacs (take k ls)) (one_back n) (goes_on front (take n ls) stands);
        no_further = λ _. none;
        no_text = λ formula are. stop.1 rest formula (subst (AreDimacs formula) (sym is) are);
      },
      wrong_line ls rest (n + 1) line cause (subst (λ (k : ℕ). take k ls ++ line ∷ rest ≡ ls) (one_back n) is) none (subst (λ (k : ℕ). IsLineCause (take k ls) line cause) (one_back n) stop.0),
    )

pub bad_end : (front : Front) (ls : List (List ℕ)) (n : ℕ) → 0 < length ls → HasRead front (take n ls) → take n ls ≡ ls → n ≡ length ls
    → ((formula : Cnf) → AreDimacs formula ls → ⊥) → IsStoppingLine ls n × IsCauseAt ls n EarlyEnd
bad_end front ls n some stands is count none = (
  record {
    some = omega arith;
    inside = omega arith;
    goes_on = goes_on_before (take (n - 1) ls) (drop (n - 1) ls) (subst BeginsDimacs (is ∙ sym (take-append-drop (n - 1) ls)) (goes_on front (take n ls) stands));
    no_further = λ lt _. omega arith;
    no_text = none;
  },
  (count, subst BeginsDimacs is (goes_on front (take n ls) stands)),
)

pub some_line : (text : List ℕ) → 0 < length (lines text)
some_line text = omega (arith, length-slice_split (λ b. b == 10) text)

-- what is left behind the first line
pub lines_behind : (text piece : List ℕ) (others : Option (Bor (List ℕ))) → MatchOption others (lines text ≡ piece ∷ []) (λ o. (lines text ≡ piece ∷ lines o.now) × (length o.now < length text))
    → lines text ≡ piece ∷ lines_left (option_copied others)
lines_behind text piece None cut = cut
lines_behind text piece (Some others) cut = cut.0

pub fewer_bytes : (text piece : List ℕ) (others : Option (Bor (List ℕ))) → MatchOption others (lines text ≡ piece ∷ []) (λ o. (lines text ≡ piece ∷ lines o.now) × (length o.now < length text))
    → bytes_left (option_copied others) ≤ length text
fewer_bytes text piece None cut = omega arith
fewer_bytes text piece (Some others) cut = omega (arith, cut.1)

pub line_read : (ls rest : List (List ℕ)) (n : ℕ) (line : List ℕ) → take n ls ++ line ∷ rest ≡ ls → n + length (line ∷ rest) ≡ length ls → take (n + 1) ls ++ rest ≡ ls
line_read ls rest n line e k = ap (λ (l : List (List ℕ)). l ++ rest) (take_one_more ls rest n line e k) ∙ append_assoc (take n ls) (line ∷ []) rest ∙ e

-- where nothing is left, all lines are read
pub all_lines : (ls rest : List (List ℕ)) (n : ℕ) → rest ≡ [] → take n ls ++ rest ≡ ls → take n ls ≡ ls
all_lines ls rest n none e = sym (append-nil (take n ls)) ∙ ap (λ (l : List (List ℕ)). take n ls ++ l) (sym none) ∙ e

pub no_lines : (ls rest : List (List ℕ)) (n : ℕ) → rest ≡ [] → n + length rest ≡ length ls → n ≡ length ls
no_lines ls rest n none e = omega (arith, ap length none)
