-- Conditions that values meet, in a pool and by the values of its terms.
use Rattle.std.proofs.Common.{ℕ, zero, suc, ℤ, Bool, List, [], ◌∷◌, take, drop}
use Rattle.kb_blast.specs.Meaning.{AreMetInPool}
use Rattle.kb_terms.specs.Terms.{value_of, values}
use Rattle.kb_terms.specs.declared.node.Node.{Node}
use Rattle.kb_terms.specs.declared.node.TermId.{TermId}
use Rattle.kb_drive.specs.Met.{AreMetBy}

pub met_by_values : (nodes : List Node) (inputs : List ℤ) (when : List (TermId × Bool)) → AreMetBy (values inputs nodes) when → AreMetInPool nodes inputs when
unfolding value_of
met_by_values nodes inputs [] met = tt
met_by_values nodes inputs (condition ∷ when) met = (met.0, met_by_values nodes inputs when met.1)

pub values_meet : (nodes : List Node) (inputs : List ℤ) (when : List (TermId × Bool)) → AreMetInPool nodes inputs when → AreMetBy (values inputs nodes) when
unfolding value_of
values_meet nodes inputs [] met = tt
values_meet nodes inputs (condition ∷ when) met = (met.0, values_meet nodes inputs when met.1)

-- the first conditions and those behind them
pub met_joined : (nodes : List Node) (inputs : List ℤ) (count : ℕ) (when : List (TermId × Bool)) → AreMetInPool nodes inputs (take count when) → AreMetInPool nodes inputs (drop count when)
    → AreMetInPool nodes inputs when
met_joined nodes inputs zero when first others = others
met_joined nodes inputs (suc count) [] first others = tt
met_joined nodes inputs (suc count) (condition ∷ when) first others = (first.0, met_joined nodes inputs count when first.1 others)

pub met_behind : (nodes : List Node) (inputs : List ℤ) (count : ℕ) (when : List (TermId × Bool)) → AreMetInPool nodes inputs when → AreMetInPool nodes inputs (drop count when)
met_behind nodes inputs zero when met = met
met_behind nodes inputs (suc count) [] met = tt
met_behind nodes inputs (suc count) (condition ∷ when) met = met_behind nodes inputs count when met.1
