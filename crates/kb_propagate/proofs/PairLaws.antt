-- The literals that clauses watch: the first two of their rows.
use Rattle.std.proofs.Common.{◌≡◌, ℕ, ◌+◌, ◌<◌, ◌≤◌, List, [], ◌∷◌, ◌++◌, Bool, true, false, arith, refl, ap, sym, ◌∙◌, inl, inr, length, set, get_or, zero, suc, Some, slice_get}
use Rattle.std.proofs.lemmas.Bool.{false≢true, false_from_ne_true}
use Rattle.std.proofs.lemmas.List.{length-map, map-append, map-set}
use Rattle.std.specs.List.{swap}
use Rattle.kb_chain.specs.Literal.{Literal, has, same, negated, place_of}
use Rattle.kb_chain.proofs.LiteralLaws.{same-true, same_refl, place_of-injective}
use Rattle.kb_propagate.specs.Rows.{StoredClause, rows_of, awake_clause}
use Rattle.kb_propagate.specs.Watches.{Pair, pair_of, pairs_of, first_watched, second_watched, other_watched, AllAwake, IsWatchedAt, IsOther, paired}
use Rattle.kb_propagate.specs.Base.{IsSecondLiteral}
use Rattle.kb_propagate.specs.Forgetting.{is_awake}
use Rattle.kb_propagate.proofs.Places.{at_mapped, mapped_at, has_at, at_get_or}
use Rattle.kb_propagate.proofs.ClausesLaws.{clause_at}

pub length-pairs : (clauses : List StoredClause) → length (pairs_of clauses) ≡ length clauses
length-pairs clauses = length-map clauses pair_of

pub pair_at : (clauses : List StoredClause) (k : ℕ) (clause : StoredClause) → slice_get clauses k ≡ Some clause → slice_get (pairs_of clauses) k ≡ Some (pair_of clause)
pair_at clauses k clause e = at_mapped pair_of clauses k clause e

-- the clause of a pair
pub paired_at : (clauses : List StoredClause) (k : ℕ) (pair : Pair) → slice_get (pairs_of clauses) k ≡ Some pair
    → (clause : StoredClause) × (slice_get clauses k ≡ Some clause) × (pair_of clause ≡ pair)
paired_at clauses k pair e = mapped_at pair_of clauses k pair e

pub is_awake-at : (clauses : List StoredClause) (k : ℕ) (pair : Pair) → slice_get (pairs_of clauses) k ≡ Some pair → pair.awake ≡ true → is_awake (slice_get clauses k) ≡ true
is_awake-at clauses k pair e aw =
    let c = paired_at clauses k pair e in
    ap is_awake c.1 ∙ (ap (λ (z : Pair). z.awake) c.2 ∙ aw)

-- the literals that a row watches, as the code reads them
pub pair_read : (row : List Literal) (a b : Literal) (awake : Bool) → 0 < length row → a ≡ get_or row 0 a → IsSecondLiteral row b
    → pair_of (record { literals = row; awake = awake }) ≡ record { first = a; second = b; awake = awake }
pair_read [] a b awake lt is second = absurd (omega (arith, lt))
pair_read (x ∷ []) a b awake lt is second =
    ap (λ z. record { first = z; second = x; awake = awake }) (sym is) ∙ ap (λ z. record { first = a; second = z; awake = awake }) (only second)
  where
    only : IsSecondLiteral (x ∷ []) b → x ≡ b
    only (inl e) = cc
    only (inr e) = let h : slice_get (x ∷ []) 0 ≡ Some b = e.1 in cc
pair_read (x ∷ y ∷ row) a b awake lt is second =
    ap (λ z. record { first = z; second = y; awake = awake }) (sym is) ∙ ap (λ z. record { first = a; second = z; awake = awake }) (next second)
  where
    next : IsSecondLiteral (x ∷ y ∷ row) b → y ≡ b
    next (inl e) = cc
    next (inr e) = absurd (let one : length (x ∷ y ∷ row) ≡ 1 = e.0 in omega (arith, one))

-- the pair of an awake clause
pub pair_there : (clauses : List StoredClause) (k : ℕ) (row : List Literal) (a b : Literal) → slice_get (rows_of clauses) k ≡ Some row → AllAwake (pairs_of clauses) → 0 < length row
    → a ≡ get_or row 0 a → IsSecondLiteral row b → slice_get (pairs_of clauses) k ≡ Some (paired a b)
pair_there clauses k row a b e all lt is second =
    let c = clause_at clauses k row e in
    let there : slice_get (pairs_of clauses) k ≡ Some (pair_of c.0) = pair_at clauses k c.0 c.1 in
    let awake : c.0.awake ≡ true = all k (pair_of c.0) there in
    let same_row : pair_of c.0 ≡ pair_of (record { literals = row; awake = c.0.awake }) =
    ap (λ z. record { first = first_watched z; second = second_watched z; awake = c.0.awake }) c.2 in
    there ∙ ap Some (same_row ∙ (pair_read row a b c.0.awake lt is second ∙ ap (λ z. record { first = a; second = b; awake = z }) awake))

-- one more clause
pub pairs_pushed : (clauses : List StoredClause) (row : List Literal) (a b : Literal) → 0 < length row → a ≡ get_or row 0 a → IsSecondLiteral row b
    → pairs_of (clauses ++ awake_clause row ∷ []) ≡ pairs_of clauses ++ paired a b ∷ []
pairs_pushed clauses row a b lt is second =
    map-append pair_of clauses (awake_clause row ∷ []) ∙ ap (λ z. pairs_of clauses ++ z ∷ []) (pair_read row a b true lt is second)

pub pairs_set : (clauses : List StoredClause) (k : ℕ) (clause : StoredClause) → pairs_of (set clauses k clause) ≡ set (pairs_of clauses) k (pair_of clause)
pairs_set clauses k clause = map-set pair_of clauses k clause

pub rows_set : (clauses : List StoredClause) (k : ℕ) (clause : StoredClause) → rows_of (set clauses k clause) ≡ set (rows_of clauses) k clause.literals
rows_set clauses k clause = map-set (λ (c : StoredClause). c.literals) clauses k clause

pub other_of : (clause : StoredClause) (f : Literal) (place : ℕ) → IsWatchedAt clause.literals f place → IsOther (pair_of clause) f (other_watched clause.literals place)
other_of clause f zero (inl e) = inl (e.1, refl)
other_of clause f (suc n) (inl e) = absurd (let at : suc n ≡ 0 = e.0 in omega (arith, at))
other_of clause f zero (inr e) = absurd (let at : 0 ≡ 1 = e.0 in omega (arith, at))
other_of clause f (suc n) (inr e) = inr (e.2, refl)

pub watched_inside : (row : List Literal) (f : Literal) (place : ℕ) → 0 < length row → IsWatchedAt row f place → place < length row
watched_inside row f place lt (inl e) = let at : place ≡ 0 = e.0 in omega (arith, at, lt)
watched_inside row f place lt (inr e) = let at : place ≡ 1 = e.0 in let more : 1 < length row = e.1 in omega (arith, at, more)

-- the pair of a row in which a literal came to the place of one that was watched
pub other_moved : (row : List Literal) (awake : Bool) (f : Literal) (place next : ℕ) (l : Literal) → IsWatchedAt row f place → 2 ≤ next → slice_get row next ≡ Some l
    → IsOther (pair_of (record { literals = swap row place next; awake = awake })) l (other_watched row place)
other_moved [] awake f place next l h le e = cc
other_moved (a ∷ []) awake f place zero l h le e = absurd (omega (arith, le))
other_moved (a ∷ []) awake f place (suc next) l h le e = cc
other_moved (a ∷ b ∷ row) awake f place zero l h le e = absurd (omega (arith, le))
other_moved (a ∷ b ∷ row) awake f place (suc zero) l h le e = absurd (omega (arith, le))
other_moved (a ∷ b ∷ row) awake f zero (suc (suc n)) l h le e = inl (sym (at_get_or row n l a e), refl)
other_moved (a ∷ b ∷ row) awake f (suc zero) (suc (suc n)) l h le e = inr (sym (at_get_or row n l a e), refl)
other_moved (a ∷ b ∷ row) awake f (suc (suc m)) (suc (suc n)) l h le e = absurd (go h)
  where
    go : IsWatchedAt (a ∷ b ∷ row) f (suc (suc m)) → ⊥
    go (inl g) = let at : suc (suc m) ≡ 0 = g.0 in omega (arith, at)
    go (inr g) = let at : suc (suc m) ≡ 1 = g.0 in omega (arith, at)

-- a row whose literals behind the first two are false, and the watched one at a place too, has at most the other one
pub false_but_one : (row : List Literal) (true_now : Literal → Bool) (f : Literal) (place : ℕ) → IsWatchedAt row f place → true_now (negated f) ≡ true
    → ((k : ℕ) (l : Literal) → 2 ≤ k → slice_get row k ≡ Some l → same l (other_watched row place) ≡ false → true_now (negated l) ≡ true)
    → (l : Literal) → has row l ≡ true → same l (other_watched row place) ≡ false → true_now (negated l) ≡ true
false_but_one row true_now f place h falsified others l i n = let at = has_at row l i in go row place h others at.0 at.1 n
  where
    is_f : (m : Literal) → m ≡ f → true_now (negated m) ≡ true
    is_f m e = ap (λ z. true_now (negated z)) e ∙ falsified

    never : (a : Literal) → same l a ≡ false → l ≡ a → ⊥
    never a differ e = false≢true (sym differ ∙ (ap (λ z. same z a) e ∙ same_refl a))

    go : (row : List Literal) (place : ℕ) → IsWatchedAt row f place
        → ((k : ℕ) (l : Literal) → 2 ≤ k → slice_get row k ≡ Some l → same l (other_watched row place) ≡ false → true_now (negated l) ≡ true)
        → (k : ℕ) → slice_get row k ≡ Some l → same l (other_watched row place) ≡ false → true_now (negated l) ≡ true
    go row place h others (suc (suc k)) e n = others (suc (suc k)) l (omega arith) e n
    go [] place h others zero e n = cc
    go [] place h others (suc zero) e n = cc
    go (a ∷ []) place h others (suc zero) e n = cc
    go (a ∷ []) zero (inl h) others zero e n = let s : a ≡ l = cc in is_f l (sym s ∙ sym h.1)
    go (a ∷ []) zero (inr h) others zero e n = absurd (let at : 0 ≡ 1 = h.0 in omega (arith, at))
    go (a ∷ []) (suc p) h others zero e n = absurd (let s : a ≡ l = cc in never a n (sym s))
    go (a ∷ b ∷ row) zero (inl h) others zero e n = let s : a ≡ l = cc in is_f l (sym s ∙ sym h.1)
    go (a ∷ b ∷ row) zero (inr h) others zero e n = absurd (let at : 0 ≡ 1 = h.0 in omega (arith, at))
    go (a ∷ b ∷ row) (suc p) h others zero e n = absurd (let s : a ≡ l = cc in never a n (sym s))
    go (a ∷ b ∷ row) zero h others (suc zero) e n = absurd (let s : b ≡ l = cc in never b n (sym s))
    go (a ∷ b ∷ row) (suc p) (inl h) others (suc zero) e n = absurd (let at : suc p ≡ 0 = h.0 in omega (arith, at))
    go (a ∷ b ∷ row) (suc p) (inr h) others (suc zero) e n = let s : b ≡ l = cc in is_f l (sym s ∙ sym h.2)

-- an awake clause by its row
pub awake_there : (clauses : List StoredClause) (k : ℕ) (row : List Literal) → slice_get (rows_of clauses) k ≡ Some row → is_awake (slice_get clauses k) ≡ true
    → slice_get clauses k ≡ Some (awake_clause row)
awake_there clauses k row e aw =
    let c = clause_at clauses k row e in
    let awake : c.0.awake ≡ true = ap is_awake (sym c.1) ∙ aw in
    c.1 ∙ (ap (λ z. Some (record { literals = z; awake = c.0.awake })) c.2 ∙ ap (λ z. Some (record { literals = row; awake = z })) awake)

-- where the code finds a watched literal

pub watched_first : (row : List Literal) (a l : Literal) → 0 < length row → a ≡ get_or row 0 a → place_of a ≡ place_of l → IsWatchedAt row l 0
watched_first [] a l lt is e = absurd (omega (arith, lt))
watched_first (x ∷ row) a l lt is e = inl (refl, sym (place_of-injective a l e) ∙ is)

pub watched_second : (row : List Literal) (b l : Literal) → 1 < length row → b ≡ get_or row 1 b → place_of b ≡ place_of l → IsWatchedAt row l 1
watched_second [] b l lt is e = absurd (omega (arith, lt))
watched_second (x ∷ []) b l lt is e = absurd (omega (arith, lt))
watched_second (x ∷ y ∷ row) b l lt is e = inr (refl, lt, sym (place_of-injective b l e) ∙ is)

differs : (a l : Literal) → (place_of a ≡ place_of l → ⊥) → same a l ≡ false
differs a l n = false_from_ne_true _ (λ s. n (ap place_of (same-true a l s)))

pub not_only : (row : List Literal) (a l : Literal) → 0 < length row → length row ≤ 1 → a ≡ get_or row 0 a → (place_of a ≡ place_of l → ⊥)
    → (same (first_watched row) l ≡ false) × (same (second_watched row) l ≡ false)
not_only [] a l lt le is n = absurd (omega (arith, lt))
not_only (x ∷ []) a l lt le is n = let d = ap (λ z. same z l) (sym is) ∙ differs a l n in (d, d)
not_only (x ∷ y ∷ row) a l lt le is n = absurd (omega (arith, le))

pub not_both : (row : List Literal) (a b l : Literal) → 1 < length row → a ≡ get_or row 0 a → b ≡ get_or row 1 b → (place_of a ≡ place_of l → ⊥) → (place_of b ≡ place_of l → ⊥)
    → (same (first_watched row) l ≡ false) × (same (second_watched row) l ≡ false)
not_both [] a b l lt is second n m = absurd (omega (arith, lt))
not_both (x ∷ []) a b l lt is second n m = absurd (omega (arith, lt))
not_both (x ∷ y ∷ row) a b l lt is second n m = (ap (λ z. same z l) (sym is) ∙ differs a l n, ap (λ z. same z l) (sym second) ∙ differs b l m)

-- the other watched literal, as the code reads it

pub other_first : (row : List Literal) (a : Literal) (place : ℕ) → 0 < length row → 0 < place → a ≡ get_or row 0 a → a ≡ other_watched row place
other_first [] a place lt some is = absurd (omega (arith, lt))
other_first (x ∷ row) a zero lt some is = absurd (omega (arith, some))
other_first (x ∷ row) a (suc n) lt some is = is

pub other_second : (row : List Literal) (b : Literal) (place : ℕ) → 0 < length row → place ≤ 0 → IsSecondLiteral row b → b ≡ other_watched row place
other_second row b (suc n) lt le second = absurd (omega (arith, le))
other_second [] b zero lt le second = absurd (omega (arith, lt))
other_second (x ∷ []) b zero lt le (inl e) = cc
other_second (x ∷ []) b zero lt le (inr e) = let h : slice_get (x ∷ []) 0 ≡ Some b = e.1 in cc
other_second (x ∷ y ∷ row) b zero lt le (inl e) = cc
other_second (x ∷ y ∷ row) b zero lt le (inr e) = absurd (let one : length (x ∷ y ∷ row) ≡ 1 = e.0 in omega (arith, one))
