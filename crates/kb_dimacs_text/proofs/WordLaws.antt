-- Pieces, words and headers.
use Rattle.std.proofs.Common.{◌≡◌, ℕ, suc, ◌+◌, ◌<◌, List, [], ◌∷◌, ◌++◌, length, take, drop, map, get_or, refl, sym, ◌∙◌, ap, arith, add-one, Bor, subst, Global}
use Rattle.std.proofs.Math.Seq.{drop-cons, take-suc}
use Rattle.std.proofs.lemmas.List.{take-append-drop, get_or-map}
use Rattle.std.specs.Prelude.{pos, codes, ◌==◌, ◌≤◌, Bool, true, false, Option, Some, None, MatchOption, if◌then◌else◌, String, string_bytes}
use Rattle.kb_dimacs_text.specs.Numbers.{SpellsDimacsNumber}
use Rattle.kb_dimacs_text.specs.Dimacs.{SpellsHeader}
use Rattle.kb_dimacs_text.specs.Requests.{SpellsBudget, AsksFor}
use Rattle.kb_dimacs_text.specs.declared.request.Request.{Request}
use Rattle.kb_dimacs_text.proofs.ClauseLaws.{same_number}

map-append : {A B : Type 0} (f : A → B) (xs ys : List A) → map f (xs ++ ys) ≡ map f xs ++ map f ys
map-append f [] ys = refl
map-append f (x ∷ xs) ys = ap (λ l. f x ∷ l) (map-append f xs ys)

abbrev pub texts : List (Bor (List ℕ)) → List (List ℕ)
texts ws = map (λ (w : Bor (List ℕ)). w.now) ws

-- the words before one, it, and those behind it
pub texts_around : (ws : List (Bor (List ℕ))) (i : ℕ) (d : Bor (List ℕ)) → i < length ws
    → texts ws ≡ texts (take i ws) ++ (get_or ws i d).now ∷ texts (drop (suc i) ws)
texts_around ws i d lt =
    ap texts (sym (take-append-drop i ws) ∙ ap (λ (l : List (Bor (List ℕ))). take i ws ++ l) (drop-cons ws i d lt))
    ∙ map-append (λ (w : Bor (List ℕ)). w.now) (take i ws) (get_or ws i d ∷ drop (suc i) ws)

-- the words up to one, and it
pub texts_push : (ws : List (Bor (List ℕ))) (i : ℕ) (d : Bor (List ℕ)) → i < length ws → texts (take (i + 1) ws) ≡ texts (take i ws) ++ (get_or ws i d).now ∷ []
texts_push ws i d lt = rw (add-one, take-suc ws i d lt) (map-append (λ (w : Bor (List ℕ)). w.now) (take i ws) (get_or ws i d ∷ []))

-- the number of variables in a header
pub vars_spelled : (ws : List (Bor (List ℕ))) (d : Bor (List ℕ)) (vars count : ℕ) → 2 < length ws → SpellsHeader vars count (texts ws) → SpellsDimacsNumber (pos vars) (get_or ws 2 d).now
vars_spelled ws d vars count lt header =
    let word = sym (ap (λ (l : List (List ℕ)). get_or l 2 []) header.words_are) ∙ get_or-map (λ (w : Bor (List ℕ)). w.now) ws 2 d [] lt in
    subst (λ (w : List ℕ). SpellsDimacsNumber (pos vars) w) word header.vars_is

-- and of clauses
pub count_spelled : (ws : List (Bor (List ℕ))) (d : Bor (List ℕ)) (vars count : ℕ) → 3 < length ws → SpellsHeader vars count (texts ws) → SpellsDimacsNumber (pos count) (get_or ws 3 d).now
count_spelled ws d vars count lt header =
    let word = sym (ap (λ (l : List (List ℕ)). get_or l 3 []) header.words_are) ∙ get_or-map (λ (w : Bor (List ℕ)). w.now) ws 3 d [] lt in
    subst (λ (w : List ℕ). SpellsDimacsNumber (pos count) w) word header.count_is

same_pos : (m n : ℕ) → pos m ≡ pos n → m ≡ n
same_pos m n e = cc

-- a header announces one number of variables and one of clauses
pub same_header : (vars count vars' count' : ℕ) (ws : List (List ℕ)) → SpellsHeader vars count ws → SpellsHeader vars' count' ws → (vars ≡ vars') × (count ≡ count')
same_header vars count vars' count' ws p q =
    let words = sym p.words_are ∙ q.words_are in
    let first : p.vars_word ≡ q.vars_word = ap (λ (l : List (List ℕ)). get_or l 2 []) words in
    let second : p.count_word ≡ q.count_word = ap (λ (l : List (List ℕ)). get_or l 3 []) words in (
      same_pos vars vars' (same_number (pos vars) (pos vars') q.vars_word (subst (λ (w : List ℕ). SpellsDimacsNumber (pos vars) w) first p.vars_is) q.vars_is),
      same_pos count count' (same_number (pos count) (pos count') q.count_word (subst (λ (w : List ℕ). SpellsDimacsNumber (pos count) w) second p.count_is) q.count_is),
    )

pub some_header : (vars count : ℕ) (ws : List (List ℕ)) → SpellsHeader vars count ws → ws ≡ [] → ⊥
some_header vars count ws header e = let none : [] ≡ codes "p" ∷ codes "cnf" ∷ header.vars_word ∷ header.count_word ∷ [] = sym e ∙ header.words_are in cc

pub some_text : (ws : List (Bor (List ℕ))) (none : Bool) → none ≡ (length ws == 0) → none ≡ false → texts ws ≡ [] → ⊥
some_text [] none e f g = cc
some_text (w ∷ ws) none e f g = cc

-- the words of a budget with a check
pub two_words : (ws : List (String Global)) (d e : String Global) → 2 ≤ length ws → length ws < 3 → map string_bytes ws ≡ string_bytes (get_or ws 0 d) ∷ string_bytes (get_or ws 1 e) ∷ []
two_words [] d e p q = absurd (omega arith)
two_words (v ∷ []) d e p q = absurd (omega arith)
two_words (v ∷ w ∷ []) d e p q = refl
two_words (v ∷ w ∷ x ∷ ws) d e p q = absurd (omega arith)

pub order_with_check : (result : Option Request) (word : List ℕ) (words : List (List ℕ)) → words ≡ word ∷ codes "check" ∷ []
    → MatchOption result ((budget : ℕ) → SpellsBudget budget word → ⊥) (λ request. SpellsBudget request.budget word × (request.check ≡ true))
    → MatchOption result ((request : Request) → AsksFor words request → ⊥) (AsksFor words)
order_with_check None word words e none = λ request asks.
    let same : asks.word ≡ word = ap (λ (l : List (List ℕ)). get_or l 0 []) (sym asks.words_are ∙ e) in
    none request.budget (subst (SpellsBudget request.budget) same asks.budget_is)
order_with_check (Some request) word words e some = record {
  word = word;
  words_are = e ∙ ap (λ (b : Bool). word ∷ (if b then codes "check" ∷ [] else [])) (sym some.1);
  budget_is = some.0;
}
