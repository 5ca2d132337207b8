use Rattle.std.proofs.Common.{◌≡◌, ℕ, true, false, Option, None, Some, List, ◌++◌, length, ◌+◌, take, drop, MatchOption, Bor, ap, ◌∙◌, arith}
use Rattle.std.specs.Str.{bytes_eq}
use Rattle.std.proofs.lemmas.Slice.Eq.{bytes_eq-Decides}
use Rattle.std.proofs.lemmas.List.{take-append-drop, take-append-le, take_all}
use Rattle.kb_grammar.proofs.words.behind.Goals as goal

front_taken : (front rest : List ℕ) → take (length front) (front ++ rest) ≡ front
front_taken front rest = take-append-le (length front) front rest (omega arith) ∙ take_all (length front) front (omega arith)

stripped : (text front : List ℕ) (found : Option (Bor (List ℕ)))
    → MatchOption found (bytes_eq (take (length front) text) front ≡ false) (λ x. (bytes_eq (take (length front) text) front ≡ true) × (x.now ≡ drop (length front) text) × (length x.now + length front ≡ length text))
    → MatchOption found ((rest : List ℕ) → text ≡ front ++ rest → ⊥) (λ rest. text ≡ front ++ rest.now)
stripped text front None h = λ rest e.
    let same : take (length front) text ≡ front = ap (take (length front)) e ∙ front_taken front rest in
    let yes : bytes_eq (take (length front) text) front ≡ true = (bytes_eq-Decides (take (length front) text) front).1 same in
    cc
stripped text front (Some x) h =
    let same : take (length front) text ≡ front = (bytes_eq-Decides (take (length front) text) front).0 h.0 in
    let whole : take (length front) text ++ drop (length front) text ≡ text = take-append-drop (length front) text in
    cc

pub returns : goal.returns
returns c = stripped c.args.text.now c.args.front.now c.strip_prefix.result c.strip_prefix.ensures.cases
