-- Texts of lines, one behind the other.
use Rattle.std.proofs.Common.{◌≡◌, ℕ, ◌+◌, ◌<◌, List, [], ◌∷◌, ◌++◌, length, drop, get_or, sym, ap, append_assoc, ◌∙◌}
use Rattle.std.specs.List.{flat_map}
use Rattle.std.proofs.lemmas.List.{at_drop_more}
use Rattle.kb_grammar.specs.Lines.{lines_text}
use Rattle.kb_grammar.proofs.LineLaws.{lines_text-++}

pub lines_joined : (xs ys : List (List ℕ)) → lines_text (xs ++ ys) ≡ lines_text xs ++ lines_text ys
lines_joined xs ys = lines_text-++ xs ys

-- lines that are written in three parts
pub three_joined : (before one two three : List ℕ) (xs ys zs : List (List ℕ)) → one ≡ before ++ lines_text xs → two ≡ one ++ lines_text ys → three ≡ two ++ lines_text zs
    → three ≡ before ++ lines_text (xs ++ (ys ++ zs))
three_joined before one two three xs ys zs first second third =
    third
    ∙ ap (λ (t : List ℕ). t ++ lines_text zs) (second ∙ ap (λ (t : List ℕ). t ++ lines_text ys) first)
    ∙ append_assoc (before ++ lines_text xs) (lines_text ys) (lines_text zs)
    ∙ append_assoc before (lines_text xs) (lines_text ys ++ lines_text zs)
    ∙ ap (λ (t : List ℕ). before ++ (lines_text xs ++ t)) (sym (lines_joined ys zs))
    ∙ ap (λ (t : List ℕ). before ++ t) (sym (lines_joined xs (ys ++ zs)))

-- in two parts
pub two_joined : (before one two : List ℕ) (xs ys : List (List ℕ)) → one ≡ before ++ lines_text xs → two ≡ one ++ lines_text ys → two ≡ before ++ lines_text (xs ++ ys)
two_joined before one two xs ys first second =
    second
    ∙ ap (λ (t : List ℕ). t ++ lines_text ys) first
    ∙ append_assoc before (lines_text xs) (lines_text ys)
    ∙ ap (λ (t : List ℕ). before ++ t) (sym (lines_joined xs ys))

-- a line, and more behind it
pub line_joined : (before one two line : List ℕ) (xs : List (List ℕ)) → one ≡ before ++ (line ++ 10 ∷ []) → two ≡ one ++ lines_text xs → two ≡ before ++ lines_text (line ∷ xs)
line_joined before one two line xs first second =
    second
    ∙ ap (λ (t : List ℕ). t ++ lines_text xs) first
    ∙ append_assoc before (line ++ 10 ∷ []) (lines_text xs)
    ∙ ap (λ (t : List ℕ). before ++ t) (append_assoc line (10 ∷ []) (lines_text xs))

-- a line, and more behind it in four parts
pub block_joined : (before first second third fourth last line : List ℕ) (ws xs ys zs : List (List ℕ)) → first ≡ before ++ (line ++ 10 ∷ []) → second ≡ first ++ lines_text ws → third ≡ second ++ lines_text xs
    → fourth ≡ third ++ lines_text ys → last ≡ fourth ++ lines_text zs → last ≡ before ++ lines_text (line ∷ (ws ++ (xs ++ (ys ++ zs))))
block_joined before first second third fourth last line ws xs ys zs a b c d e =
    line_joined before first last line (ws ++ (xs ++ (ys ++ zs))) a (two_joined first second last ws (xs ++ (ys ++ zs)) b (three_joined second third fourth last xs ys zs c d e))

-- four counts, each behind its word
pub counts_joined : (before one two three four a b c d k l m n : List ℕ) → one ≡ before ++ (a ++ k) → two ≡ one ++ (b ++ l) → three ≡ two ++ (c ++ m) → four ≡ three ++ (d ++ n)
    → four ≡ before ++ (a ++ (k ++ (b ++ (l ++ (c ++ (m ++ (d ++ n)))))))
counts_joined before one two three four a b c d k l m n first second third fourth =
    fourth
    ∙ moved two three (c ++ m) (d ++ n) third
    ∙ moved one two (b ++ l) ((c ++ m) ++ (d ++ n)) second
    ∙ moved before one (a ++ k) ((b ++ l) ++ ((c ++ m) ++ (d ++ n))) first
    ∙ ap (λ (t : List ℕ). before ++ ((a ++ k) ++ ((b ++ l) ++ t))) (append_assoc c m (d ++ n))
    ∙ ap (λ (t : List ℕ). before ++ ((a ++ k) ++ t)) (append_assoc b l (c ++ (m ++ (d ++ n))))
    ∙ ap (λ (t : List ℕ). before ++ t) (append_assoc a k (b ++ (l ++ (c ++ (m ++ (d ++ n))))))
  where
    moved : (start end piece more : List ℕ) → end ≡ start ++ piece → end ++ more ≡ start ++ (piece ++ more)
    moved start end piece more is = ap (λ (t : List ℕ). t ++ more) is ∙ append_assoc start piece more

-- the lines of one more of a list
pub next_lines : {A : Type 0} (f : A → List (List ℕ)) (xs : List A) (place : ℕ) (x : A) (all text after : List ℕ) → place < length xs → x ≡ get_or xs place x
    → all ≡ text ++ lines_text (flat_map f (drop place xs)) → after ≡ text ++ lines_text (f x) → all ≡ after ++ lines_text (flat_map f (drop (place + 1) xs))
next_lines {A} f xs place x all text after inside is kept written =
    let rest = drop (place + 1) xs in
    let cut : drop place xs ≡ x ∷ rest = at_drop_more (λ (l : List A). l) xs place x inside ∙ ap (λ (y : A). y ∷ rest) (sym is) in
    kept
    ∙ ap (λ (l : List A). text ++ lines_text (flat_map f l)) cut
    ∙ ap (λ (t : List ℕ). text ++ t) (lines_joined (f x) (flat_map f rest))
    ∙ sym (append_assoc text (lines_text (f x)) (lines_text (flat_map f rest)))
    ∙ ap (λ (t : List ℕ). t ++ lines_text (flat_map f rest)) (sym written)
