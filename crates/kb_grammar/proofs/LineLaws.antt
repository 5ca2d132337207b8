-- Texts and their lines.
use Rattle.std.proofs.Common.{◌≡◌, ℕ, ◌+◌, ◌≤◌, List, [], ◌∷◌, ◌++◌, length, length-append, refl, sym, ◌∙◌, ap, append_assoc, arith, subst}
use Rattle.kb_grammar.specs.Lines.{Lacks, AreLines, lines_text, IsFirstBadLine}
use Rattle.kb_grammar.proofs.WordLaws.{same_cut, not_lacking}

pub lines_text-++ : (xs ys : List (List ℕ)) → lines_text (xs ++ ys) ≡ lines_text xs ++ lines_text ys
lines_text-++ [] ys = refl
lines_text-++ (x ∷ xs) ys = ap (λ (l : List ℕ). x ++ 10 ∷ l) (lines_text-++ xs ys) ∙ sym (append_assoc x (10 ∷ lines_text xs) (lines_text ys))

-- a text that begins with lines: the lines that it has beyond them
pub lines_beyond : (ls ms : List (List ℕ)) (tail : List ℕ) → AreLines ls → AreLines ms → lines_text ls ++ tail ≡ lines_text ms
    → (ks : List (List ℕ)) × (ms ≡ ls ++ ks) × (tail ≡ lines_text ks) × AreLines ks
lines_beyond [] ms tail p q e = (ms, refl, e, q)
lines_beyond (l ∷ ls) [] tail p q e = absurd (not_lacking 10 l (lines_text ls ++ tail) [] tt (sym (append_assoc l (10 ∷ lines_text ls) tail) ∙ e))
lines_beyond (l ∷ ls) (m ∷ ms) tail p q e =
    let cuts = same_cut 10 l m (lines_text ls ++ tail) (lines_text ms) p.0 q.0 (sym (append_assoc l (10 ∷ lines_text ls) tail) ∙ e) in
    let rest = lines_beyond ls ms tail p.1 q.1 cuts.1 in
    (rest.0, ap (λ (x : List ℕ). x ∷ ms) (sym cuts.0) ∙ ap (λ (xs : List (List ℕ)). l ∷ xs) rest.1, rest.2, rest.3)

-- a text that begins with a line has that line
pub line_first : (line more : List ℕ) (ks : List (List ℕ)) → Lacks 10 line → AreLines ks → line ++ 10 ∷ more ≡ lines_text ks
    → (others : List (List ℕ)) × (ks ≡ line ∷ others)
line_first line more [] p q e = absurd (not_lacking 10 line more [] tt e)
line_first line more (k ∷ ks) p q e =
    let cuts = same_cut 10 line k more (lines_text ks) p q.0 e in
    (ks, ap (λ (x : List ℕ). x ∷ ks) (sym cuts.0))

-- a text without line feeds has no line
pub no_lines : (text : List ℕ) (ks : List (List ℕ)) → Lacks 10 text → text ≡ lines_text ks → (ks ≡ []) × (text ≡ [])
no_lines text [] p e = (refl, e)
no_lines text (k ∷ ks) p e = absurd (not_lacking 10 k (lines_text ks) text p (sym e))

pub AreLines-++ : (xs ys : List (List ℕ)) → AreLines xs → AreLines ys → AreLines (xs ++ ys)
AreLines-++ [] ys p q = q
AreLines-++ (x ∷ xs) ys p q = (p.0, AreLines-++ xs ys p.1 q)

-- one line more
pub one_more : (lines next : List (List ℕ)) (text rest line others : List ℕ) → text ≡ lines_text lines ++ rest → rest ≡ line ++ 10 ∷ others → next ≡ lines ++ line ∷ [] → text ≡ lines_text next ++ others
one_more lines next text rest line others is begins more =
    is ∙ ap (λ (r : List ℕ). lines_text lines ++ r) (begins ∙ sym (append_assoc line (10 ∷ []) others)) ∙ sym (append_assoc (lines_text lines) (line ++ 10 ∷ []) others)
    ∙ ap (λ (l : List ℕ). l ++ others) (sym (lines_text-++ lines (line ∷ [])) ∙ ap lines_text (sym more))

pub are_more : (lines next : List (List ℕ)) (line : List ℕ) → AreLines lines → Lacks 10 line → next ≡ lines ++ line ∷ [] → AreLines next
are_more lines next line are lacks more = subst AreLines (sym more) (AreLines-++ lines (line ∷ []) are (lacks, tt))

pub one_longer : (lines next : List (List ℕ)) (line : List ℕ) (number : ℕ) → number ≡ length lines + 1 → next ≡ lines ++ line ∷ [] → number + 1 ≡ length next + 1
one_longer lines next line number is more = omega (arith, ap length more, length-append lines (line ∷ []))

pub shorter : (rest line others : List ℕ) (number all : ℕ) → rest ≡ line ++ 10 ∷ others → number + length rest ≤ all → number + 1 + length others ≤ all
shorter rest line others number all begins le = omega (arith, ap length begins, length-append line (10 ∷ others))

-- the first bad line is that of whatever says which texts there are
pub same_bad_line : (P Q : List ℕ → Type 0) → ((text : List ℕ) → P text → Q text) → ((text : List ℕ) → Q text → P text)
    → (text : List ℕ) (number : ℕ) → IsFirstBadLine P text number → IsFirstBadLine Q text number
same_bad_line P Q there back text number bad = record {
  before = bad.before;
  rest = bad.rest;
  are_lines = bad.are_lines;
  number_is = bad.number_is;
  is = bad.is;
  goes_on = (bad.goes_on.0, there _ bad.goes_on.1);
  no_further = λ line tail more lacks begins spells. bad.no_further line tail more lacks begins (back _ spells);
  no_text = λ spells. bad.no_text (back _ spells);
}
