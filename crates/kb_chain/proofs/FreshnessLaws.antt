-- Freshness by the least set.
use Rattle.std.proofs.Common.{◌≡◌, ℕ, ◌+◌, ◌<◌, List, [], ◌∷◌, ◌++◌, Bool, true, false, ap, sym, ◌∙◌, inl, inr, ◌⊎◌, map, subst, length, take, get_or, Some, slice_get}
use Rattle.std.specs.Prelude.{Result, Ok, Err, IfOk, OnOk}
use Rattle.std.specs.Bool.{OnTrue, OnFalse}
use Rattle.std.proofs.lemmas.Bool.{false≢true, OnTrue_from, OnTrue_at, OnFalse_from, OnFalse_at}
use Rattle.std.proofs.lemmas.List.{take_more}
use Rattle.kb_chain.specs.Literal.{Literal, negated, has}
use Rattle.kb_chain.specs.Propagation.{others, IsClosed, Includes, NegatesSome, Misses, IsNew}
use Rattle.kb_chain.specs.Index.{IsFrontOf, IsSettled, AreSettled, IsRoot, IsRefuted}
use Rattle.kb_chain.proofs.IndexLaws.{slice_get-pushed, slice_get-kept}
use Rattle.kb_chain.proofs.PropagationLaws.{all_negated_more, IsSettled_more, IsFrontOf-part}

-- one more clause is looked at
slice_get_more : (xs : List (List Literal)) (i : ℕ) (d : List Literal) (k : ℕ) (y : List Literal) → i < length xs → slice_get (take (i + 1) xs) k ≡ Some y
    → (slice_get (take i xs) k ≡ Some y) ⊎ (get_or xs i d ≡ y)
slice_get_more xs i d k y lt e =
    elim (slice_get-pushed (take i xs) (get_or xs i d) k y (ap (λ z. slice_get z k) (sym (take_more xs i d lt)) ∙ e)) [
      | inl s ↦ inl s
      | inr s ↦ inr s.1
    ]

pub AreSettled_begin : (clauses : List (List Literal)) (i : ℕ) (clause : List Literal) (old new : List Literal) → i < length clauses → clause ≡ get_or clauses i clause
    → IsFrontOf old new → AreSettled (take i clauses) [] old → IsSettled (has old) (has new) clause → AreSettled (take (i + 1) clauses) [] new
AreSettled_begin clauses i clause old new lt is grown settled now k other e =
    elim (slice_get_more clauses i clause k other lt e) [
      | inl s ↦ IsSettled_more (has []) (has []) (has old) (has new) other (λ l j. j) (IsFrontOf-part old new grown) (settled k other s)
      | inr s ↦ subst (λ z. IsSettled (has []) (has new) z) (is ∙ s)
          (IsSettled_more (has old) (has []) (has new) (has new) clause (λ l j. absurd (false≢true j)) (λ l j. j) now)
    ]

-- a set that is closed under more clauses is closed under those before them
pub IsClosed_front : (clauses : List (List Literal)) (clause : List Literal) (set : Literal → Bool) → IsClosed (clauses ++ clause ∷ []) set → IsClosed clauses set
IsClosed_front clauses clause set closed k other e l j o = closed k other (slice_get-kept clauses clause k other e) l j o

-- one more clause is settled
pub AreSettled-push : (clauses : List (List Literal)) (clause old new taken : List Literal) → IsFrontOf old new → taken ≡ old
    → AreSettled clauses old old → IsSettled (has old) (has new) clause → AreSettled (clauses ++ clause ∷ []) taken new
AreSettled-push clauses clause old new taken grown e settled now k other at =
    subst (λ z. IsSettled (has z) (has new) other) (sym e) (elim (slice_get-pushed clauses clause k other at) [
      | inl s ↦ IsSettled_more (has old) (has old) (has old) (has new) other (λ l j. j) (IsFrontOf-part old new grown) (settled k other s)
      | inr s ↦ subst (λ z. IsSettled (has old) (has new) z) s.1 now
    ])

-- what propagation reached, where it is closed and negates no clause, decides whether the literal is missed
pub Misses-from : (clauses : List (List Literal)) (clause : List Literal) (l : Literal) (reached : List Literal)
    → ((set : Literal → Bool) → IsClosed clauses set → Includes set (map negated (others l clause)) → Includes set reached)
    → Includes (has reached) (map negated (others l clause)) → IsClosed clauses (has reached) → (NegatesSome clauses (has reached) → ⊥) → has reached l ≡ false
    → Misses clauses clause l
Misses-from clauses clause l reached least includes closed quiet absent = record {
  set = has reached;
  reached = record { includes = includes; closed = closed; least = λ other inc clo. least other clo inc };
  absent = absent;
  consistent = quiet;
}

-- propagation reached the literal
pub not_missed : (clauses : List (List Literal)) (clause : List Literal) (l : Literal) (reached : List Literal)
    → ((set : Literal → Bool) → IsClosed clauses set → Includes set (map negated (others l clause)) → Includes set reached)
    → has reached l ≡ true → Misses clauses clause l → ⊥
not_missed clauses clause l reached least here m =
    false≢true (sym m.absent ∙ least m.set m.reached.closed m.reached.includes l here)

-- propagation negated a clause
pub not_consistent : (clauses : List (List Literal)) (clause : List Literal) (l : Literal) (reached : List Literal)
    → ((set : Literal → Bool) → IsClosed clauses set → Includes set (map negated (others l clause)) → Includes set reached)
    → NegatesSome clauses (has reached) → Misses clauses clause l → ⊥
not_consistent clauses clause l reached least n m =
    m.consistent (n.0, n.1, n.2, all_negated_more (has reached) m.set n.1 (least m.set m.reached.closed m.reached.includes) n.3)

-- what unit propagation reaches from no literals negates a clause
pub not_new : (clauses : List (List Literal)) (clause reached : List Literal) → IsRefuted clauses reached → IsNew clauses clause → ⊥
not_new clauses clause reached refuted new =
    let l = new.missed.0 in
    not_consistent clauses clause l reached (λ set closed includes. refuted.least set closed) refuted.negated new.missed.2

-- where propagation goes on from literals that are in each closed set
pub root_from : {E : Type 0} (result : Result Bool E) (clauses : List (List Literal)) (old new : List Literal) → IfOk result (λ quiet. OnTrue quiet (AreSettled clauses new new))
    → OnOk result ((set : Literal → Bool) → IsClosed clauses set → Includes set old → Includes set new)
    → ((set : Literal → Bool) → IsClosed clauses set → Includes set old) → IfOk result (λ quiet. OnTrue quiet (IsRoot clauses new))
root_from (Err e) clauses old new settled least start = tt
root_from (Ok quiet) clauses old new settled least start =
    OnTrue_from quiet (IsRoot clauses new) (λ t. record { settled = OnTrue_at t settled; least = λ set closed. least set closed (start set closed) })

pub refuted_from : {E : Type 0} (result : Result Bool E) (clauses : List (List Literal)) (old new : List Literal) → IfOk result (λ quiet. OnFalse quiet (NegatesSome clauses (has new)))
    → OnOk result ((set : Literal → Bool) → IsClosed clauses set → Includes set old → Includes set new)
    → ((set : Literal → Bool) → IsClosed clauses set → Includes set old) → IfOk result (λ quiet. OnFalse quiet (IsRefuted clauses new))
refuted_from (Err e) clauses old new negated least start = tt
refuted_from (Ok quiet) clauses old new negated least start =
    OnFalse_from quiet (IsRefuted clauses new) (λ t. record { negated = OnFalse_at t negated; least = λ set closed. least set closed (start set closed) })
