-- Logs, entry by entry.
use Rattle.std.proofs.Common.{◌≡◌, ℕ, ◌+◌, ◌<◌, List, [], ◌∷◌, ◌++◌, arith, refl, ap, sym, ◌∙◌, subst, Option, Some, None, length, take, get_or, length-take, Bool, true, false, ◌==◌, zero, suc}
use Rattle.std.proofs.lemmas.Bool.{false≢true, ne_eqb}
use Rattle.std.specs.Prelude.{option_and_then, IsSomeAnd}
use Rattle.std.proofs.lemmas.List.{take_more}
use Rattle.std.proofs.lemmas.Option.{option_and_then_some}
use Rattle.kb_chain.specs.Literal.{Literal}
use Rattle.kb_chain.specs.Chains.{entry_of, derived, EachEntry, IsFirstBadEntry, IsRefutation}
use Rattle.kb_chain.specs.declared.log.Chain.{Chain}

-- one more entry derives one more clause
pub derived-push : (xs : List Chain) (clauses all : List (List Literal)) (e : Chain) (c : List Literal) → derived clauses xs ≡ Some all
    → entry_of all e ≡ Some c → derived clauses (xs ++ e ∷ []) ≡ Some (all ++ c ∷ [])
derived-push [] clauses all e c h k =
    let s : clauses ≡ all = cc in
    rw s (ap (λ o. option_and_then (λ clause. derived (all ++ clause ∷ []) []) o) k)
derived-push (x ∷ xs) clauses all e c h k = go (entry_of clauses x) h (λ d. derived-push xs (clauses ++ d ∷ []) all e c)
  where
    go : (o : Option (List Literal)) → option_and_then (λ clause. derived (clauses ++ clause ∷ []) xs) o ≡ Some all
        → ((d : List Literal) → derived (clauses ++ d ∷ []) xs ≡ Some all → entry_of all e ≡ Some c → derived (clauses ++ d ∷ []) (xs ++ e ∷ []) ≡ Some (all ++ c ∷ []))
        → option_and_then (λ clause. derived (clauses ++ clause ∷ []) (xs ++ e ∷ [])) o ≡ Some (all ++ c ∷ [])
    go None f rec = cc
    go (Some d) f rec = rec d f k

module _ (Good : List (List Literal) → List Literal → Type 0) where
  at_entry : List (List Literal) → List Chain → List Literal → Type 0
  at_entry clauses xs clause = Good clauses clause × EachEntry Good (clauses ++ clause ∷ []) xs

  -- entries and one more, whose clause is good
  pub EachEntry-push : (xs : List Chain) (clauses all : List (List Literal)) (e : Chain) (c : List Literal) → derived clauses xs ≡ Some all
      → EachEntry Good clauses xs → entry_of all e ≡ Some c → Good all c → EachEntry Good clauses (xs ++ e ∷ [])
  EachEntry-push [] clauses all e c h each k good =
      let s : all ≡ clauses = cc in
      subst (λ (o : Option (List Literal)). IsSomeAnd o (λ clause. Good clauses clause × EachEntry Good (clauses ++ clause ∷ []) []))
      (sym (ap (λ z. entry_of z e) (sym s) ∙ k)) (subst (λ z. Good z c) s good, tt)
  EachEntry-push (x ∷ xs) clauses all e c h each k good =
      go (entry_of clauses x) h each (λ d. EachEntry-push xs (clauses ++ d ∷ []) all e c)
    where
      go : (o : Option (List Literal)) → option_and_then (λ clause. derived (clauses ++ clause ∷ []) xs) o ≡ Some all
          → IsSomeAnd o (λ clause. Good clauses clause × EachEntry Good (clauses ++ clause ∷ []) xs)
          → ((d : List Literal) → derived (clauses ++ d ∷ []) xs ≡ Some all → EachEntry Good (clauses ++ d ∷ []) xs → entry_of all e ≡ Some c → Good all c
          → EachEntry Good (clauses ++ d ∷ []) (xs ++ e ∷ []))
          → IsSomeAnd o (λ clause. Good clauses clause × EachEntry Good (clauses ++ clause ∷ []) (xs ++ e ∷ []))
      go None f each rec = absurd each
      go (Some d) f each rec = (each.0, rec d f each.1 k good)

  -- the last of good entries
  pub EachEntry-last : (xs : List Chain) (clauses all : List (List Literal)) (e : Chain) → derived clauses xs ≡ Some all
      → EachEntry Good clauses (xs ++ e ∷ []) → IsSomeAnd (entry_of all e) (Good all)
  EachEntry-last [] clauses all e h each =
      let s : clauses ≡ all = cc in
      subst (λ z. IsSomeAnd (entry_of z e) (Good z)) s (go (entry_of clauses e) each)
    where
      go : (o : Option (List Literal)) → IsSomeAnd o (λ clause. Good clauses clause × EachEntry Good (clauses ++ clause ∷ []) []) → IsSomeAnd o (Good clauses)
      go None each = each
      go (Some d) each = each.0
  EachEntry-last (x ∷ xs) clauses all e h each = go (entry_of clauses x) h each (λ d. EachEntry-last xs (clauses ++ d ∷ []) all e)
    where
      go : (o : Option (List Literal)) → option_and_then (λ clause. derived (clauses ++ clause ∷ []) xs) o ≡ Some all
          → IsSomeAnd o (λ clause. Good clauses clause × EachEntry Good (clauses ++ clause ∷ []) (xs ++ e ∷ []))
          → ((d : List Literal) → derived (clauses ++ d ∷ []) xs ≡ Some all → EachEntry Good (clauses ++ d ∷ []) (xs ++ e ∷ []) → IsSomeAnd (entry_of all e) (Good all))
          → IsSomeAnd (entry_of all e) (Good all)
      go None f each rec = absurd each
      go (Some d) f each rec = rec d f each.1

  -- an entry that does not derive, or whose clause is not good, is the first bad one behind good ones
  pub first_bad : (entries : List Chain) (clauses all : List (List Literal)) (i : ℕ) (d : Chain) → i < length entries
      → derived clauses (take i entries) ≡ Some all → EachEntry Good clauses (take i entries)
      → (IsSomeAnd (entry_of all (get_or entries i d)) (Good all) → ⊥) → IsFirstBadEntry Good clauses entries i
  first_bad entries clauses all i d lt h each bad = record {
    inside = lt;
    before = each;
    bad = λ more. bad (EachEntry-last (take i entries) clauses all (get_or entries i d) h (subst (λ z. EachEntry Good clauses z) (take_more entries i d lt) more));
  }

  pub EachEntry_more : (entries : List Chain) (clauses all : List (List Literal)) (i : ℕ) (d : Chain) (c : List Literal) → i < length entries
      → derived clauses (take i entries) ≡ Some all → EachEntry Good clauses (take i entries)
      → entry_of all (get_or entries i d) ≡ Some c → Good all c → EachEntry Good clauses (take (i + 1) entries)
  EachEntry_more entries clauses all i d c lt h each k good =
      subst (λ z. EachEntry Good clauses z) (sym (take_more entries i d lt)) (EachEntry-push (take i entries) clauses all (get_or entries i d) c h each k good)

pub derived_more : (entries : List Chain) (clauses all : List (List Literal)) (i : ℕ) (d : Chain) (c : List Literal) → i < length entries
    → derived clauses (take i entries) ≡ Some all → entry_of all (get_or entries i d) ≡ Some c → derived clauses (take (i + 1) entries) ≡ Some (all ++ c ∷ [])
derived_more entries clauses all i d c lt h k =
    ap (λ z. derived clauses z) (take_more entries i d lt) ∙ derived-push (take i entries) clauses all (get_or entries i d) c h k

ends : List (List Literal) → List Literal → List Literal
ends [] d = d
ends (x ∷ xs) d = ends xs x

ends-push : (xs : List (List Literal)) (x d : List Literal) → ends (xs ++ x ∷ []) d ≡ x
unfolding ends
ends-push [] x d = refl
ends-push (y ∷ ys) x d = ends-push ys x y

pub same_last : (xs ys : List (List Literal)) (x y : List Literal) → xs ++ x ∷ [] ≡ ys ++ y ∷ [] → x ≡ y
same_last xs ys x y e = sym (ends-push xs x []) ∙ (ap (λ z. ends z []) e ∙ ends-push ys y [])

-- the empty clause at the end of derived entries is a refutation, and any other is none
pub refutation_from : (clauses all : List (List Literal)) (entries : List Chain) (c : List Literal) → 0 < length entries
    → derived clauses entries ≡ Some (all ++ c ∷ []) → c ≡ [] → IsRefutation clauses entries
refutation_from clauses all entries c lt h e = record { entry = lt; last = (all, h ∙ ap (λ z. Some (all ++ z ∷ [])) e) }

pub no_refutation : (clauses all : List (List Literal)) (entries : List Chain) (c : List Literal) → derived clauses entries ≡ Some (all ++ c ∷ [])
    → (c ≡ [] → ⊥) → IsRefutation clauses entries → ⊥
no_refutation clauses all entries c h n r =
    let e : Some (all ++ c ∷ []) ≡ Some (r.last.0 ++ [] ∷ []) = sym h ∙ r.last.1 in
    n (same_last all r.last.0 c [] (cc e))

pub some_taken : (entries : List Chain) (i : ℕ) → i < length entries → 0 < length (take (i + 1) entries)
some_taken entries i lt = simp length-take (omega arith)

-- what `is_empty` says of a clause
pub empty_from : (b : Bool) (xs ys : List Literal) → b ≡ (length xs == 0) → xs ≡ ys → b ≡ true → ys ≡ []
empty_from b [] ys e s t = sym s
empty_from b (x ∷ xs) ys e s t = absurd (false≢true (sym (ne_eqb (suc (length xs)) 0 (λ k. absurd (omega arith))) ∙ (sym e ∙ t)))

pub not_empty_from : (b : Bool) (xs ys : List Literal) → b ≡ (length xs == 0) → xs ≡ ys → b ≡ false → ys ≡ [] → ⊥
not_empty_from b [] ys e s t n = false≢true (sym t ∙ e)
not_empty_from b (x ∷ xs) ys e s t n = let k : (x ∷ xs) ≡ [] = s ∙ n in cc

-- entries of which one does not derive
pub derived_stops : (entries : List Chain) (clauses all : List (List Literal)) (i : ℕ) (d : Chain) → i < length entries
    → derived clauses (take i entries) ≡ Some all → entry_of all (get_or entries i d) ≡ None → derived clauses entries ≡ None
derived_stops [] clauses all i d lt h k = absurd (omega arith)
derived_stops (e ∷ es) clauses all zero d lt h k =
    let s : clauses ≡ all = cc in
    ap (λ o. option_and_then (λ clause. derived (clauses ++ clause ∷ []) es) o) (ap (λ z. entry_of z e) s ∙ k)
derived_stops (e ∷ es) clauses all (suc i) d lt h k =
    option_and_then_some (λ clause. derived (clauses ++ clause ∷ []) (take i es)) (entry_of clauses e) all h
    (λ clause f g. ap (λ o. option_and_then (λ clause. derived (clauses ++ clause ∷ []) es) o) f
    ∙ derived_stops es (clauses ++ clause ∷ []) all i d (omega arith) g k)
