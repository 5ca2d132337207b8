-- Words and the bytes that they lack.
use Rattle.std.proofs.Common.{◌≡◌, ℕ, Bool, true, false, ◌==◌, ne_eqb, List, [], ◌∷◌, ◌++◌, length, refl, sym, ◌∙◌, ap, arith}
use Rattle.kb_grammar.specs.Lines.{Lacks, IsTail}

pub Lacks-++ : (byte : ℕ) (xs ys : List ℕ) → Lacks byte xs → Lacks byte ys → Lacks byte (xs ++ ys)
Lacks-++ byte [] ys p q = q
Lacks-++ byte (x ∷ xs) ys p q = (p.0, Lacks-++ byte xs ys p.1 q)

-- the lists before and behind the first such byte
pub same_cut : (byte : ℕ) (xs ys us vs : List ℕ) → Lacks byte xs → Lacks byte ys → xs ++ byte ∷ us ≡ ys ++ byte ∷ vs → (xs ≡ ys) × (us ≡ vs)
same_cut byte [] [] us vs p q e = (refl, cc)
same_cut byte [] (y ∷ ys) us vs p q e = let h : y ≡ byte = cc in absurd (q.0 h)
same_cut byte (x ∷ xs) [] us vs p q e = let h : x ≡ byte = cc in absurd (p.0 h)
same_cut byte (x ∷ xs) (y ∷ ys) us vs p q e =
    let tails : xs ++ byte ∷ us ≡ ys ++ byte ∷ vs = cc in
    let head : x ≡ y = cc in
    let rest : (xs ≡ ys) × (us ≡ vs) = same_cut byte xs ys us vs p.1 q.1 tails in
    (cc, rest.1)

-- a list with such a byte does not lack it
pub not_lacking : (byte : ℕ) (xs us vs : List ℕ) → Lacks byte vs → xs ++ byte ∷ us ≡ vs → ⊥
not_lacking byte [] us [] p e = cc
not_lacking byte [] us (v ∷ vs) p e = let h : v ≡ byte = cc in p.0 h
not_lacking byte (x ∷ xs) us [] p e = cc
not_lacking byte (x ∷ xs) us (v ∷ vs) p e = let tails : xs ++ byte ∷ us ≡ vs = cc in not_lacking byte xs us vs p.1 tails

pub same_behind : (front xs ys : List ℕ) → front ++ xs ≡ front ++ ys → xs ≡ ys
same_behind [] xs ys e = e
same_behind (f ∷ front) xs ys e = let tails : front ++ xs ≡ front ++ ys = cc in same_behind front xs ys tails

-- the first parts of one text
pub same_first : (end : ℕ) (xs ys us vs : List ℕ) → Lacks end xs → Lacks end ys → IsTail end us → IsTail end vs → xs ++ us ≡ ys ++ vs → (xs ≡ ys) × (us ≡ vs)
same_first end [] [] us vs p q h k e = (refl, e)
same_first end [] (y ∷ ys) [] vs p q h k e = cc
same_first end [] (y ∷ ys) (u ∷ us) vs p q h k e = let head : y ≡ end = cc in absurd (q.0 head)
same_first end (x ∷ xs) [] us [] p q h k e = cc
same_first end (x ∷ xs) [] us (v ∷ vs) p q h k e = let head : x ≡ end = cc in absurd (p.0 head)
same_first end (x ∷ xs) (y ∷ ys) us vs p q h k e =
    let tails : xs ++ us ≡ ys ++ vs = cc in
    let head : x ≡ y = cc in
    let rest : (xs ≡ ys) × (us ≡ vs) = same_first end xs ys us vs p.1 q.1 h k tails in
    (cc, rest.1)

-- whether something is left
pub some_left : (rest : List ℕ) (empty : Bool) → empty ≡ (length rest == 0) → empty ≡ false → rest ≡ [] → ⊥
some_left rest empty is not e = let here : (length rest == 0) ≡ true = ap (λ (l : List ℕ). length l == 0) e in cc

pub none_left : (rest : List ℕ) (empty : Bool) → empty ≡ (length rest == 0) → empty ≡ true → rest ≡ []
none_left [] empty is so = refl
none_left (byte ∷ bytes) empty is so = absurd (not_so (ne_eqb (length (byte ∷ bytes)) 0 (omega arith)) (sym is ∙ so))
  where
    not_so : {b : Bool} → b ≡ false → b ≡ true → ⊥
    not_so e f = cc
