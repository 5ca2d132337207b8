-- What answers to one query have in common.
use Rattle.std.specs.Prelude.{◌≡◌, ℕ, ℤ, Bool, List}
use Rattle.kb_chain.specs.Chains.{IsRefutation}
use Rattle.kb_chain.specs.declared.log.Chain.{Chain}
use Rattle.kb_terms.specs.declared.node.TermId.{TermId}
use Rattle.kb_terms.specs.declared.node.Node.{Node}
use Rattle.kb_terms.specs.Terms.{IsPool, Extends, int_at}
use Rattle.kb_blast.specs.Query.{kinds_of, query_of, AreConditions}
use Rattle.kb_blast.specs.Conditions.{formula_of, kind_at}
use Rattle.kb_blast.specs.Meaning.{AreMetInPool, KindFits}
use Rattle.kb_oracle.specs.Answers.{IsModelOf}

-- no query that a pool asks has both a model and a refutation
abbrev pub ModelsAreNotRefuted : Type 0
ModelsAreNotRefuted =
    (nodes : List Node) (when : List (TermId × Bool)) (values : List ℤ) (entries : List Chain) → IsPool nodes → AreConditions nodes when
    → IsModelOf (query_of nodes when) values → IsRefutation (formula_of (query_of nodes when)).clauses entries → ⊥

-- Conditions of which a refutation is known are met by no values that the variables can have. A variable behind the last one has any
-- value that an int or a boolean can have.
abbrev pub RefutedAreNeverMet : Type 0
RefutedAreNeverMet =
    (nodes : List Node) (when : List (TermId × Bool)) (values : List ℤ) (entries : List Chain) → IsPool nodes → AreConditions nodes when
    → IsRefutation (formula_of (query_of nodes when)).clauses entries → ((v : ℕ) → KindFits (kind_at (kinds_of nodes) v) (int_at values v))
    → AreMetInPool nodes values when → ⊥

-- a model of a query makes the conditions true in each pool that asks it
abbrev pub ModelsMeetEveryPool : Type 0
ModelsMeetEveryPool =
    (nodes : List Node) (when : List (TermId × Bool)) (values : List ℤ) → IsPool nodes → AreConditions nodes when
    → IsModelOf (query_of nodes when) values → AreMetInPool nodes values when

-- a pool with more terms, but no more variables, asks the same query
abbrev pub LargerPoolsAskTheSame : Type 0
LargerPoolsAskTheSame =
    (old new : List Node) (when : List (TermId × Bool)) → IsPool old → IsPool new → Extends old new → kinds_of new ≡ kinds_of old
    → AreConditions old when → query_of new when ≡ query_of old when
