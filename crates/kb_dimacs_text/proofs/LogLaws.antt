-- What the checks say of the logs of a solver, and what a refutation says of a formula.
use Rattle.std.proofs.Common.{◌≡◌, ℕ, suc, zero, ◌+◌, List, [], ◌∷◌, ◌++◌, take, refl, Option, Some, None, Bool, inl, inr}
use Rattle.std.proofs.lemmas.Bool.{false≢true}
use Rattle.std.specs.Prelude.{option_and_then, IsSomeAnd}
use Rattle.kb_chain.specs.Literal.{Literal}
use Rattle.kb_chain.specs.Clause.{Satisfies}
use Rattle.kb_chain.specs.Chains.{entry_of, derived, EachEntry, IsAnyEntry, IsRefutation}
use Rattle.kb_chain.specs.Propagation.{IsFresh, IsNew}
use Rattle.kb_chain.specs.Verdicts.{JudgesRefutation, JudgesFresh}
use Rattle.kb_chain.specs.declared.log.Chain.{Chain}
use Rattle.kb_chain.specs.declared.log.Verdict.{Verdict}
use Rattle.kb_chain.specs.declared.log.Verdict.TheVariants.{Good, Bad}
use Rattle.kb_chain.proofs.Soundness.{derived_true, Satisfies-last}

module _ (IsGood : List (List Literal) → List Literal → Type 0) where
  -- the first entries of a log whose entries are good
  pub EachEntry-take : (n : ℕ) (entries : List Chain) (clauses : List (List Literal)) → EachEntry IsGood clauses entries → EachEntry IsGood clauses (take n entries)
  EachEntry-take zero entries clauses h = tt
  EachEntry-take (suc n) [] clauses h = tt
  EachEntry-take (suc n) (entry ∷ entries) clauses h = go (entry_of clauses entry) h (λ clause. EachEntry-take n entries (clauses ++ clause ∷ []))
    where
      go : (o : Option (List Literal)) → IsSomeAnd o (λ clause. IsGood clauses clause × EachEntry IsGood (clauses ++ clause ∷ []) entries)
          → ((clause : List Literal) → EachEntry IsGood (clauses ++ clause ∷ []) entries → EachEntry IsGood (clauses ++ clause ∷ []) (take n entries))
          → IsSomeAnd o (λ clause. IsGood clauses clause × EachEntry IsGood (clauses ++ clause ∷ []) (take n entries))
      go None h rec = h
      go (Some clause) h rec = (h.0, rec clause h.1)

derives_from : (entries : List Chain) (clauses all : List (List Literal)) → derived clauses entries ≡ Some all → EachEntry IsAnyEntry clauses entries
derives_from [] clauses all e = tt
derives_from (entry ∷ entries) clauses all e = go (entry_of clauses entry) e (λ clause. derives_from entries (clauses ++ clause ∷ []) all)
  where
    go : (o : Option (List Literal)) → option_and_then (λ clause. derived (clauses ++ clause ∷ []) entries) o ≡ Some all
        → ((clause : List Literal) → derived (clauses ++ clause ∷ []) entries ≡ Some all → EachEntry IsAnyEntry (clauses ++ clause ∷ []) entries)
        → IsSomeAnd o (λ clause. IsAnyEntry clauses clause × EachEntry IsAnyEntry (clauses ++ clause ∷ []) entries)
    go None e rec = absurd cc
    go (Some clause) e rec = (tt, rec clause e)

-- a refutation is found good
pub good_refutation : (clauses : List (List Literal)) (entries : List Chain) (verdict : Verdict) → IsRefutation clauses entries → JudgesRefutation clauses entries verdict → verdict ≡ Good
good_refutation clauses entries Good is judged = refl
good_refutation clauses entries (Bad i) is (inl first) =
    absurd (first.bad (EachEntry-take IsAnyEntry (i + 1) entries clauses (derives_from entries clauses (is.last.0 ++ [] ∷ []) is.last.1)))
good_refutation clauses entries (Bad i) is (inr end) = absurd (end.2 is)

-- and a fresh log
pub good_log : (clauses : List (List Literal)) (entries : List Chain) (verdict : Verdict) → IsFresh clauses entries → JudgesFresh clauses entries verdict → verdict ≡ Good
good_log clauses entries Good is judged = refl
good_log clauses entries (Bad i) is first = absurd (first.bad (EachEntry-take IsNew (i + 1) entries clauses is))

-- nothing satisfies what is refuted
pub refuted : (clauses : List (List Literal)) (entries : List Chain) (assignment : ℕ → Bool) → IsRefutation clauses entries → Satisfies assignment clauses → ⊥
refuted clauses entries assignment is satisfies =
    false≢true (Satisfies-last assignment is.last.0 [] (derived_true assignment entries clauses (is.last.0 ++ [] ∷ []) satisfies is.last.1))
