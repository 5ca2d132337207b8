-- Ordered lists of literals: such a list is told by which literals it has.
use Rattle.std.proofs.Common.{◌≡◌, ℕ, ◌+◌, ◌<◌, ◌≤◌, nat_eq, nat_lt, List, [], ◌∷◌, ◌++◌, Bool, true, false, ◌||◌, cond, arith, refl, ap, sym, ◌∙◌, inl, inr, ◌⊎◌, subst, take, length, get_or, zero, suc, slice_get, Some, ◌-◌}
use Rattle.std.proofs.lemmas.List.{take_more}
use Rattle.std.proofs.Math.Bool.{or-false}
use Rattle.std.proofs.lemmas.Option.{slice_get-get_or}
use Rattle.std.proofs.Math.Seq.{take-suc, take-append_seam}
use Rattle.std.proofs.lemmas.Bool.{and_parts, or_cases, cases_Bool, eqb-true, eqb-false, ltb-true, ltb-false, eq-eqb, false≢true}
use Rattle.std.specs.List.{filter}
use Rattle.kb_chain.specs.Literal.{Literal, place_of, same, has}
use Rattle.kb_chain.specs.Clause.{IsBefore, IsOrdered, IsInPlaceOrder, with_literal, clause_of}
use Rattle.kb_chain.proofs.LiteralLaws.{has-append, same-true, has_head, has_tail, has-filter}

-- each literal of xs is in ys
abbrev pub AreIn : List Literal → List Literal → Type 0
AreIn xs ys = (l : Literal) → has xs l ≡ true → has ys l ≡ true

pub IsBefore-has : (l : Literal) (ms : List Literal) → IsBefore l ms → (m : Literal) → has ms m ≡ true → place_of l < place_of m
IsBefore-has l [] h m e = absurd (false≢true e)
IsBefore-has l (x ∷ xs) h m e =
    elim (or_cases (same m x) (has xs m) e) [
      | inl s ↦ (let k : place_of m ≡ place_of x = eqb-true (place_of m) (place_of x) s in let below : place_of l < place_of x = h.0 in omega arith)
      | inr s ↦ IsBefore-has l xs h.1 m s
    ]

pub IsBefore-from : (l : Literal) (ms : List Literal) → ((m : Literal) → has ms m ≡ true → place_of l < place_of m) → IsBefore l ms
IsBefore-from l [] f = tt
IsBefore-from l (x ∷ xs) f = (f x (has_head x xs), IsBefore-from l xs (λ m e. f m (has_tail x xs m e)))

-- what an ordered list has beside its head comes after it
after_head : (x : Literal) (xs : List Literal) → IsOrdered (x ∷ xs) → (l : Literal) → has (x ∷ xs) l ≡ true → (place_of x ≡ place_of l) ⊎ (place_of x < place_of l)
after_head x xs h l e =
    elim (or_cases (same l x) (has xs l) e) [
      | inl s ↦ inl (sym (eqb-true (place_of l) (place_of x) s))
      | inr s ↦ inr (IsBefore-has x xs h.0 l s)
    ]

same_heads : (x : Literal) (xs : List Literal) (y : Literal) (ys : List Literal) → IsOrdered (x ∷ xs) → IsOrdered (y ∷ ys)
    → AreIn (x ∷ xs) (y ∷ ys) → AreIn (y ∷ ys) (x ∷ xs) → place_of x ≡ place_of y
same_heads x xs y ys h k f g =
    elim (after_head y ys k x (f x (has_head x xs))) [
      | inl e ↦ sym e
      | inr below ↦ elim (after_head x xs h y (g y (has_head y ys))) [
        | inl e ↦ e
        | inr above ↦ absurd (omega arith)
      ]
    ]

-- what is in the one list beside the head is in the other list beside it
AreIn-tail : (x : Literal) (xs ys : List Literal) → IsOrdered (x ∷ xs) → AreIn (x ∷ xs) (x ∷ ys) → AreIn xs ys
AreIn-tail x xs ys h f l e =
    elim (or_cases (same l x) (has ys l) (f l (has_tail x xs l e))) [
      | inl s ↦ (let k : place_of l ≡ place_of x = eqb-true (place_of l) (place_of x) s in let below : place_of x < place_of l = IsBefore-has x xs h.0 l e in absurd (omega arith))
      | inr s ↦ s
    ]

pub same_list : (xs ys : List Literal) → IsOrdered xs → IsOrdered ys → AreIn xs ys → AreIn ys xs → xs ≡ ys
same_list [] [] h k f g = refl
same_list [] (y ∷ ys) h k f g = absurd (false≢true (g y (has_head y ys)))
same_list (x ∷ xs) [] h k f g = absurd (false≢true (f x (has_head x xs)))
same_list (x ∷ xs) (y ∷ ys) h k f g =
    join (same-true x y (eq-eqb (place_of x) (place_of y) (same_heads x xs y ys h k f g))) (λ ks fs gs. same_list xs ys h.1 ks fs gs) k f g
  where
    join : x ≡ y → (IsOrdered ys → AreIn xs ys → AreIn ys xs → xs ≡ ys) → IsOrdered (y ∷ ys) → AreIn (x ∷ xs) (y ∷ ys) → AreIn (y ∷ ys) (x ∷ xs) → (x ∷ xs) ≡ (y ∷ ys)
    join e rec k f g =
        let f' = subst (λ z. AreIn (x ∷ xs) (z ∷ ys)) (sym e) f in
        let g' = subst (λ z. AreIn (z ∷ ys) (x ∷ xs)) (sym e) g in
        let k' = subst (λ z. IsOrdered (z ∷ ys)) (sym e) k in
        let tails : xs ≡ ys = rec k.1 (AreIn-tail x xs ys h f') (AreIn-tail x ys xs k' g') in
        cc

-- lists that have the same literals
pub same_members : (xs ys : List Literal) → IsOrdered xs → IsOrdered ys → ((l : Literal) → has xs l ≡ has ys l) → xs ≡ ys
same_members xs ys h k f = same_list xs ys h k (λ l e. sym (f l) ∙ e) (λ l e. f l ∙ e)

or_swap : (a b c : Bool) → (a || (b || c)) ≡ (b || (a || c))
or_swap true true c = refl
or_swap true false c = refl
or_swap false true c = refl
or_swap false false c = refl

or_twice : (a b c : Bool) → a ≡ b → (b || c) ≡ (a || (b || c))
or_twice true true c e = refl
or_twice true false c e = absurd (false≢true (sym e))
or_twice false b c e = refl

pub has-with_literal : (l : Literal) (ms : List Literal) (m : Literal) → has (with_literal l ms) m ≡ (same m l || has ms m)
has-with_literal l [] m = refl
has-with_literal l (x ∷ xs) m =
    go (nat_lt (place_of l) (place_of x)) (same l x) refl (has-with_literal l xs m)
  where
    at : (b c : Bool) → List Literal
    at b c = cond b (l ∷ x ∷ xs) (cond c (x ∷ xs) (x ∷ with_literal l xs))

    go : (b c : Bool) → same l x ≡ c → has (with_literal l xs) m ≡ (same m l || has xs m) → has (cond b (l ∷ x ∷ xs) (cond c (x ∷ xs) (x ∷ with_literal l xs))) m ≡ (same m l || (same m x || has xs m))
    go true c e rec = refl
    go false true e rec = or_twice (same m l) (same m x) (has xs m) (ap (λ z. same m z) (same-true l x e))
    go false false e rec = rw rec (or_swap (same m x) (same m l) (has xs m))

pub IsOrdered-with_literal : (l : Literal) (ms : List Literal) → IsOrdered ms → IsOrdered (with_literal l ms)
IsOrdered-with_literal l [] h = (tt, tt)
IsOrdered-with_literal l (x ∷ xs) h =
    go (nat_lt (place_of l) (place_of x)) (same l x) refl refl (IsOrdered-with_literal l xs h.1)
  where
    go : (b c : Bool) → nat_lt (place_of l) (place_of x) ≡ b → same l x ≡ c → IsOrdered (with_literal l xs) → IsOrdered (cond b (l ∷ x ∷ xs) (cond c (x ∷ xs) (x ∷ with_literal l xs)))
    go true c e d rec =
        let below : place_of l < place_of x = ltb-true (place_of l) (place_of x) e in
        (IsBefore-from l (x ∷ xs) (λ m k. elim (after_head x xs h m k) [ inl p ↦ omega arith | inr p ↦ omega arith ]), h)
    go false true e d rec = h
    go false false e d rec =
        let above : place_of x ≤ place_of l = ltb-false (place_of l) (place_of x) e in
        let apart : place_of l ≡ place_of x → ⊥ = eqb-false (place_of l) (place_of x) d in (
          IsBefore-from x (with_literal l xs) (λ m k. elim (or_cases (same m l) (has xs m) (sym (has-with_literal l xs m) ∙ k)) [
            | inl s ↦ (let p : place_of m ≡ place_of l = eqb-true (place_of m) (place_of l) s in omega arith)
            | inr s ↦ IsBefore-has x xs h.0 m s
          ]),
          rec,
        )

pub has-clause_of : (ls : List Literal) (m : Literal) → has (clause_of ls) m ≡ has ls m
has-clause_of [] m = refl
has-clause_of (l ∷ ls) m = has-with_literal l (clause_of ls) m ∙ ap (λ b. same m l || b) (has-clause_of ls m)

pub IsOrdered-clause_of : (ls : List Literal) → IsOrdered (clause_of ls)
IsOrdered-clause_of [] = tt
IsOrdered-clause_of (l ∷ ls) = IsOrdered-with_literal l (clause_of ls) (IsOrdered-clause_of ls)

-- an ordered list of the same literals is the clause of them
pub clause_of_is : (xs ls : List Literal) → IsOrdered xs → ((l : Literal) → has xs l ≡ has ls l) → xs ≡ clause_of ls
clause_of_is xs ls h f = same_members xs (clause_of ls) h (IsOrdered-clause_of ls) (λ l. f l ∙ sym (has-clause_of ls l))

pub IsOrdered-push : (xs : List Literal) (l : Literal) → IsOrdered xs → ((m : Literal) → has xs m ≡ true → place_of m < place_of l) → IsOrdered (xs ++ l ∷ [])
IsOrdered-push [] l h f = (tt, tt)
IsOrdered-push (x ∷ xs) l h f = (
  IsBefore-from x (xs ++ l ∷ []) (λ m e. at m (or_cases (has xs m) (has (l ∷ []) m) (sym (has-append xs (l ∷ []) m) ∙ e))),
  IsOrdered-push xs l h.1 (λ m e. f m (has_tail x xs m e)),
)
  where
    at : (m : Literal) → (has xs m ≡ true) ⊎ (has (l ∷ []) m ≡ true) → place_of x < place_of m
    at m (inl e) = IsBefore-has x xs h.0 m e
    at m (inr e) = elim (or_cases (same m l) false e) [
      | inl s ↦ (let k : place_of m ≡ place_of l = eqb-true (place_of m) (place_of l) s in let b : place_of x < place_of l = f x (has_head x xs) in omega arith)
      | inr s ↦ absurd (false≢true s)
    ]

-- what stands in a rising list before i comes before what stands at j
pub has_take-rising : (xs : List Literal) → IsInPlaceOrder xs → (i j : ℕ) (d m : Literal) → i ≤ j → j < length xs → has (take i xs) m ≡ true
    → place_of m ≤ place_of (get_or xs j d)
has_take-rising xs h zero j d m le lt e = absurd (false≢true e)
has_take-rising xs h (suc i) j d m le lt e =
    go (has_take-rising xs h i j d m (omega arith) lt)
    (or_cases (has (take i xs) m) (has (get_or xs i d ∷ []) m)
    (sym (has-append (take i xs) (get_or xs i d ∷ []) m) ∙ (sym (ap (λ z. has z m) (take-suc xs i d (omega arith))) ∙ e)))
  where
    go : (has (take i xs) m ≡ true → place_of m ≤ place_of (get_or xs j d)) → (has (take i xs) m ≡ true) ⊎ (has (get_or xs i d ∷ []) m ≡ true) → place_of m ≤ place_of (get_or xs j d)
    go rec (inl e) = rec e
    go rec (inr e) = elim (or_cases (same m (get_or xs i d)) false e) [
      | inl s ↦ (let k : place_of m ≡ place_of (get_or xs i d) = eqb-true (place_of m) (place_of (get_or xs i d)) s in
          let b : place_of (get_or xs i d) ≤ place_of (get_or xs j d) = h i j d (omega arith) lt in omega arith)
      | inr s ↦ absurd (false≢true s)
    ]

pub has_got : (xs : List Literal) (k : ℕ) (l : Literal) → slice_get xs k ≡ Some l → has xs l ≡ true
has_got [] k l e = cc
has_got (x ∷ xs) zero l e = let s : x ≡ l = cc in subst (λ z. has (x ∷ xs) z ≡ true) s (has_head x xs)
has_got (x ∷ xs) (suc k) l e = has_tail x xs l (has_got xs k l e)

-- in an ordered list nothing comes after the last one
pub last_greatest : (xs : List Literal) (k : ℕ) (l : Literal) → IsOrdered xs → slice_get xs k ≡ Some l → length xs ≤ suc k
    → (m : Literal) → has xs m ≡ true → place_of m ≤ place_of l
last_greatest [] k l h e le m f = absurd (false≢true f)
last_greatest (x ∷ []) zero l h e le m f =
    let s : x ≡ l = cc in
    elim (or_cases (same m x) false f) [
      | inl t ↦ (let p : place_of m ≡ place_of x = eqb-true (place_of m) (place_of x) t in let q : place_of x ≡ place_of l = ap place_of s in omega arith)
      | inr t ↦ absurd (false≢true t)
    ]
last_greatest (x ∷ y ∷ ys) zero l h e le m f = absurd (omega arith)
last_greatest (x ∷ xs) (suc k) l h e le m f =
    let inside : has xs l ≡ true = has_got xs k l e in
    let before : place_of x < place_of l = IsBefore-has x xs h.0 l inside in
    elim (or_cases (same m x) (has xs m) f) [
      | inl t ↦ (let p : place_of m ≡ place_of x = eqb-true (place_of m) (place_of x) t in omega arith)
      | inr t ↦ last_greatest xs k l h.1 e (omega arith) m t
    ]

pub has-from_last : (xs : List Literal) (l last : Literal) → IsOrdered xs → ((m : Literal) → has xs m ≡ true → place_of m ≤ place_of l)
    → slice_get xs (length xs - 1) ≡ Some last → nat_eq (place_of last) (place_of l) ≡ has xs l
has-from_last xs l last h f e = go (nat_eq (place_of last) (place_of l)) (has xs l) refl refl
  where
    go : (a b : Bool) → nat_eq (place_of last) (place_of l) ≡ a → has xs l ≡ b → a ≡ b
    go true true p q = refl
    go false false p q = refl
    go true false p q = let s : last ≡ l = same-true last l p in sym (subst (λ z. has xs z ≡ true) s (has_got xs (length xs - 1) last e)) ∙ q
    go false true p q =
        let apart : place_of last ≡ place_of l → ⊥ = eqb-false (place_of last) (place_of l) p in
        let low : place_of l ≤ place_of last = last_greatest xs (length xs - 1) last h e (omega arith) l q in
        let high : place_of last ≤ place_of l = f last (has_got xs (length xs - 1) last e) in
        absurd (omega arith)

pub has_take-suc : (xs : List Literal) (i : ℕ) (d m : Literal) → i < length xs → has (take (i + 1) xs) m ≡ (has (take i xs) m || same m (get_or xs i d))
has_take-suc xs i d m lt = ap (λ z. has z m) (take_more xs i d lt) ∙ (has-append (take i xs) (get_or xs i d ∷ []) m ∙ ap (λ b. has (take i xs) m || b) (or-false (same m (get_or xs i d))))

or_known : (a b : Bool) → (b ≡ true → a ≡ true) → a ≡ (a || b)
or_known true b f = refl
or_known false true f = f refl
or_known false false f = refl

-- one more literal of a list, in ordered literals that have it already, or behind them
pub took_known : (xs kept : List Literal) (i : ℕ) (d : Literal) → i < length xs → has kept (get_or xs i d) ≡ true
    → ((m : Literal) → has kept m ≡ has (take i xs) m) → (m : Literal) → has kept m ≡ has (take (i + 1) xs) m
took_known xs kept i d lt known f m =
    or_known (has kept m) (same m (get_or xs i d)) (λ s. ap (λ z. has kept z) (same-true m (get_or xs i d) s) ∙ known)
    ∙ (ap (λ b. b || same m (get_or xs i d)) (f m) ∙ sym (has_take-suc xs i d m lt))

pub took_new : (xs kept : List Literal) (i : ℕ) (d : Literal) → i < length xs
    → ((m : Literal) → has kept m ≡ has (take i xs) m) → (m : Literal) → has (kept ++ get_or xs i d ∷ []) m ≡ has (take (i + 1) xs) m
took_new xs kept i d lt f m =
    has-append kept (get_or xs i d ∷ []) m
    ∙ (ap (λ b. has kept m || b) (or-false (same m (get_or xs i d)))
    ∙ (ap (λ b. b || same m (get_or xs i d)) (f m) ∙ sym (has_take-suc xs i d m lt)))

-- the next literal of a rising list goes behind what ordered literals have of it so far, if they do not have it
pub push_rising : (xs kept : List Literal) (i : ℕ) (d : Literal) → IsInPlaceOrder xs → i < length xs → IsOrdered kept
    → ((m : Literal) → has kept m ≡ has (take i xs) m) → has kept (get_or xs i d) ≡ false → IsOrdered (kept ++ get_or xs i d ∷ [])
push_rising xs kept i d h lt o f absent =
    IsOrdered-push kept (get_or xs i d) o (λ m e. below m e (has_take-rising xs h i i d m (omega arith) lt (sym (f m) ∙ e)))
  where
    below : (m : Literal) → has kept m ≡ true → place_of m ≤ place_of (get_or xs i d) → place_of m < place_of (get_or xs i d)
    below m e le = elim (cases_Bool (same m (get_or xs i d))) [
      | inl s ↦ absurd (false≢true (sym absent ∙ (sym (ap (λ z. has kept z) (same-true m (get_or xs i d) s)) ∙ e)))
      | inr s ↦ (let apart : place_of m ≡ place_of (get_or xs i d) → ⊥ = eqb-false (place_of m) (place_of (get_or xs i d)) s in omega arith)
    ]

pub take_front : (n : ℕ) (xs ys : List Literal) → n ≡ length xs → take n (xs ++ ys) ≡ xs
take_front n xs ys e = ap (λ k. take k (xs ++ ys)) e ∙ take-append_seam xs ys

-- the clause of literals is told by which they are
pub clause_of_same : (xs ys : List Literal) → ((l : Literal) → has xs l ≡ has ys l) → clause_of xs ≡ clause_of ys
clause_of_same xs ys f = clause_of_is (clause_of xs) ys (IsOrdered-clause_of xs) (λ l. has-clause_of xs l ∙ f l)

filtered : (test : Literal → Bool) (b : Bool) (l : Literal) (ls : List Literal) → IsBefore l ls → IsOrdered (filter test ls) → IsOrdered (cond b (l ∷ filter test ls) (filter test ls))
filtered test true l ls h rec =
    (IsBefore-from l (filter test ls) (λ m e. IsBefore-has l ls h m (and_parts _ _ (sym (has-filter test ls m) ∙ e)).0), rec)
filtered test false l ls h rec = rec

pub IsOrdered-filter : (test : Literal → Bool) (ls : List Literal) → IsOrdered ls → IsOrdered (filter test ls)
IsOrdered-filter test [] h = tt
IsOrdered-filter test (l ∷ ls) h = filtered test (test l) l ls h.0 (IsOrdered-filter test ls h.1)

pub has_get_or : (xs : List Literal) (i : ℕ) (d : Literal) → i < length xs → has xs (get_or xs i d) ≡ true
has_get_or xs i d lt = has_got xs i (get_or xs i d) (slice_get-get_or xs i d lt)
