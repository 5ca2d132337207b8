-- What the solver's answers say of the query.
use Rattle.std.proofs.Common.{rules, ◌≡◌, ◌≢◌, ℕ, zero, suc, ℤ, pos, Bool, true, List, [], ◌∷◌, ◌++◌, length, take, Contains, Option, Some, None, IsSomeAnd, ◌⊎◌, inl, inr, refl, sym, subst, ◌∙◌, arith}
use Rattle.std.specs.Prelude.{replicate}
use Rattle.std.proofs.Math.Seq.{take-append_seam}
use Rattle.std.proofs.lemmas.Bool.{cases_eq, false≢true}
use Rattle.std.proofs.lemmas.Option.{get_or_from_slice_get}
use Rattle.kb_chain.specs.Literal.{Literal, has}
use Rattle.kb_chain.specs.Clause.{Satisfies}
use Rattle.kb_chain.specs.Chains.{EachEntry, entry_of, IsRefutation}
use Rattle.kb_chain.specs.Propagation.{IsNew, IsFresh}
use Rattle.kb_chain.specs.declared.log.Chain.{Chain}
use Rattle.kb_chain.specs.declared.log.Log.{Log}
use Rattle.kb_chain.proofs.Soundness.{derived_true, Satisfies-last}
use Rattle.kb_terms.specs.declared.node.TermId.{TermId}
use Rattle.kb_terms.specs.declared.node.VarKind.{VarKind}
use Rattle.kb_terms.specs.declared.node.VarKind.TheVariants.{Int as IntKind, Bool as BoolKind}
use Rattle.kb_terms.specs.declared.node.Node.{Node}
use Rattle.kb_terms.specs.Terms.{int_at, variables_of}
use Rattle.kb_blast.specs.Query.{Query, query_of, kinds_of}
use Rattle.kb_blast.specs.Conditions.{occurring, with_kinds, kind_at, formula_of, words_of}
use Rattle.kb_blast.specs.Meaning.{KindFits, InputsFit, Meets, MeetsInPool, IsElsewhere}
use Rattle.kb_blast.proofs.Pooled.{pool-meets, pool-says}
use Rattle.kb_oracle.specs.Answers.{IsModelOf, LeavesOpen, IsNotEmpty}
use Rattle.kb_oracle.specs.Laws.{ModelsAreNotRefuted, RefutedAreNeverMet, ModelsMeetEveryPool}
use Rattle.kb_oracle.proofs.Queries.{numbers-words, Contains-cases, elsewhere, length-kinds, conditions-numbered}

-- ---- models

pub take-front : (xs ys : List ℤ) (n : ℕ) → length xs ≡ n → take n (xs ++ ys) ≡ xs
take-front xs ys n e = subst (λ k. take k (xs ++ ys) ≡ xs) e (take-append_seam xs ys)

pub int_at-zeros : (n v : ℕ) → int_at (replicate n (pos 0)) v ≡ pos 0
int_at-zeros zero v = refl
int_at-zeros (suc n) zero = refl
int_at-zeros (suc n) (suc v) = int_at-zeros n v

zero-fits : (kind : VarKind) → KindFits kind (pos 0)
zero-fits IntKind = search rules
zero-fits BoolKind = inl refl

-- a variable has an input that it can be, or is not among these
fits-or-absent : (kinds : List VarKind) (ns : List ℕ) (values : List ℤ) (v : ℕ) → InputsFit (with_kinds kinds ns) values
    → KindFits (kind_at kinds v) (int_at values v) ⊎ (Contains ns v → ⊥)
fits-or-absent kinds [] values v fit = inr (λ h. let lt = h.1 in absurd (omega arith))
fits-or-absent kinds (n ∷ ns) values v fit = go (cases_eq v n) (fits-or-absent kinds ns values v fit.1)
  where
    go : (v ≡ n) ⊎ (v ≢ n) → KindFits (kind_at kinds v) (int_at values v) ⊎ (Contains ns v → ⊥)
        → KindFits (kind_at kinds v) (int_at values v) ⊎ (Contains (n ∷ ns) v → ⊥)
    go (inl e) rest = inl (subst (λ m. KindFits (kind_at kinds m) (int_at values m)) (sym e) fit.0)
    go (inr ne) (inl fits) = inl fits
    go (inr ne) (inr absent) = inr (λ h. elim (Contains-cases n ns v h) [ inl e ↦ ne e | inr later ↦ absent later ])

-- values that meet the conditions of a pool, and are 0 where no word is read, are a model of its query
pub is-model : (nodes : List Node) (when : List (TermId × Bool)) (values : List ℤ) → length values ≡ variables_of nodes
    → Meets (query_of nodes when) values → ((v : ℕ) → IsElsewhere v (words_of (query_of nodes when)) → int_at values v ≡ pos 0)
    → IsModelOf (query_of nodes when) values
is-model nodes when values count met others =
    let q : Query = query_of nodes when in
    let absent : (v : ℕ) → (Contains (occurring q.terms) v → ⊥) → int_at values v ≡ pos 0 =
    λ v none. others v (elsewhere (words_of q) v (λ h. none (subst (λ ns. Contains ns v) (numbers-words q) h))) in
    record {
      count = count ∙ sym (length-kinds nodes);
      fits = λ v kind at. (let same : kind_at q.kinds v ≡ kind = get_or_from_slice_get q.kinds v kind IntKind at in
          elim (fits-or-absent q.kinds (occurring q.terms) values v met.0) [
            | inl fit ↦ subst (λ k. KindFits k (int_at values v)) same fit
            | inr none ↦ subst (KindFits kind) (sym (absent v none)) (zero-fits kind)
          ]);
      absent = absent;
      met = met;
    }

-- ---- logs

new-not-empty : (clauses : List (List Literal)) (clause : List Literal) → IsNew clauses clause → clause ≢ []
new-not-empty clauses clause new e =
    let there : has [] new.missed.0 ≡ true = subst (λ c. has c new.missed.0 ≡ true) e new.missed.1 in
    false≢true there

-- no entry that is new is empty
fresh-filled : (entries : List Chain) (clauses : List (List Literal)) → EachEntry IsNew clauses entries → EachEntry IsNotEmpty clauses entries
fresh-filled [] clauses h = tt
fresh-filled (entry ∷ entries) clauses h = go (entry_of clauses entry) (λ clause. fresh-filled entries (clauses ++ clause ∷ [])) h
  where
    go : (o : Option (List Literal))
        → ((clause : List Literal) → EachEntry IsNew (clauses ++ clause ∷ []) entries → EachEntry IsNotEmpty (clauses ++ clause ∷ []) entries)
        → IsSomeAnd o (λ clause. IsNew clauses clause × EachEntry IsNew (clauses ++ clause ∷ []) entries)
        → IsSomeAnd o (λ clause. IsNotEmpty clauses clause × EachEntry IsNotEmpty (clauses ++ clause ∷ []) entries)
    go None rest k = k
    go (Some clause) rest k = (new-not-empty clauses clause k.0, rest clause k.1)

pub leaves-open : (q : Query) (budget : ℕ) (log : Log) → IsFresh (formula_of q).clauses log.entries → length log.entries ≡ budget → LeavesOpen q budget log
leaves-open q budget log fresh count = record { fresh = fresh; count = count; filled = fresh-filled log.entries (formula_of q).clauses fresh }

-- ---- the laws

refuted : (v : ℕ → Bool) (clauses : List (List Literal)) (entries : List Chain) → IsRefutation clauses entries → Satisfies v clauses → ⊥
refuted v clauses entries r s = false≢true (Satisfies-last v r.last.0 [] (derived_true v entries clauses _ s r.last.1))

pub not-refuted : ModelsAreNotRefuted
not-refuted nodes when values entries formed fit model refutation =
    let n = conditions-numbered nodes when formed fit in
    let met : MeetsInPool nodes when values = (pool-meets nodes when formed fit n values).1 model.met in
    let s = (pool-says nodes when formed fit n).complete values met in
    refuted s.0 (formula_of (query_of nodes when)).clauses entries refutation s.1

pub meets-pools : ModelsMeetEveryPool
meets-pools nodes when values formed fit model =
    ((pool-meets nodes when formed fit (conditions-numbered nodes when formed fit) values).1 model.met).1

-- values that each variable can have fit those that occur
fit-each : (kinds : List VarKind) (ns : List ℕ) (values : List ℤ) → ((v : ℕ) → KindFits (kind_at kinds v) (int_at values v)) → InputsFit (with_kinds kinds ns) values
fit-each kinds [] values fits = tt
fit-each kinds (n ∷ ns) values fits = (fits n, fit-each kinds ns values fits)

pub never-met : RefutedAreNeverMet
never-met nodes when values entries formed fit refutation fits met =
    let n = conditions-numbered nodes when formed fit in
    let s = (pool-says nodes when formed fit n).complete values (fit-each (kinds_of nodes) (occurring (query_of nodes when).terms) values fits, met) in
    refuted s.0 (formula_of (query_of nodes when)).clauses entries refutation s.1
