-- What an oracle that is told what to do does.
use Rattle.std.proofs.Common.{◌≡◌, ℕ, zero, suc, ◌+◌, List, [], ◌∷◌, ◌++◌, take, Option, Some, None, IsSomeAnd, Err, sym, subst}
use Rattle.std.specs.Prelude.{◌↔◌}
use Rattle.kb_chain.specs.Literal.{Literal}
use Rattle.kb_chain.specs.Chains.{entry_of, IsFirstBadEntry}
use Rattle.kb_chain.specs.Propagation.{IsNew, IsFresh}
use Rattle.kb_chain.specs.declared.log.Chain.{Chain}
use Rattle.kb_blast.specs.Query.{Query}
use Rattle.kb_oracle.specs.declared.answer.OracleStop.{OracleStop}
use Rattle.kb_oracle.specs.declared.answer.OracleStop.TheVariants.{Bad, NoMemory}
use Rattle.kb_oracle.specs.declared.told_oracle.Told.{Told}
use Rattle.kb_oracle.specs.declared.told_oracle.Told.TheVariants.{Bad as ToldBad, Undecided as ToldUndecided, NoMemory as ToldNoMemory}
use Rattle.kb_oracle.specs.Answers.{IfBad}
use Rattle.kb_oracle.specs.States.{told_at, DoesAsTold, IsToldBad}

-- ---- logs that leave a query open, or do not

entries-front : (entries : List Chain) (clauses : List (List Literal)) (n : ℕ) → IsFresh clauses entries → IsFresh clauses (take n entries)
entries-front [] clauses zero h = tt
entries-front [] clauses (suc n) h = tt
entries-front (entry ∷ entries) clauses zero h = tt
entries-front (entry ∷ entries) clauses (suc n) h = go (entry_of clauses entry) (λ clause. entries-front entries (clauses ++ clause ∷ []) n) h
  where
    go : (o : Option (List Literal))
        → ((clause : List Literal) → IsFresh (clauses ++ clause ∷ []) entries → IsFresh (clauses ++ clause ∷ []) (take n entries))
        → IsSomeAnd o (λ clause. IsNew clauses clause × IsFresh (clauses ++ clause ∷ []) entries)
        → IsSomeAnd o (λ clause. IsNew clauses clause × IsFresh (clauses ++ clause ∷ []) (take n entries))
    go None rest k = k
    go (Some clause) rest k = (k.0, rest clause k.1)

pub not-fresh : (clauses : List (List Literal)) (entries : List Chain) (i : ℕ) → IsFirstBadEntry IsNew clauses entries i → IsFresh clauses entries → ⊥
not-fresh clauses entries i first fresh = first.bad (entries-front entries clauses (i + 1) fresh)

-- ---- bad stops

-- a call stops with a number only where it is told to
bad-told : (q : Query) (budget : ℕ) (told : Option Told) (i : ℕ) → DoesAsTold q budget told (Err (Bad i)) → told ≡ Some (ToldBad i)
bad-told q budget (Some (ToldBad j)) i h = cc
bad-told q budget (Some ToldNoMemory) i h = absurd (cc)
bad-told q budget (Some (ToldUndecided log)) i h = absurd h
bad-told q budget None i h = absurd h

pub unserved : (q : Query) (budget : ℕ) (told : List (ℕ × Told)) (call : ℕ) (stop : OracleStop) → DoesAsTold q budget (told_at told call) (Err stop)
    → IfBad (λ i. IsToldBad told i) stop
unserved q budget told call (Bad i) h = (call, bad-told q budget (told_at told call) i h)
unserved q budget told call NoMemory h = tt

-- what is unfit goes by what is told alone
pub unfit-kept : (before now : List (ℕ × Told)) → now ≡ before → (i : ℕ) (q : Query) → IsToldBad now i ↔ IsToldBad before i
unfit-kept before now same i q = (
  λ h. (h.0, subst (λ told. told_at told h.0 ≡ Some (ToldBad i)) same h.1),
  λ h. (h.0, subst (λ told. told_at told h.0 ≡ Some (ToldBad i)) (sym same) h.1),
)
