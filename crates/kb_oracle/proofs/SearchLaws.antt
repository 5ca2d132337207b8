-- What the answer to a search says of the query whose formula was searched.
use Rattle.std.proofs.Common.{◌≡◌, ℕ, ℤ, Bool, List, sym, subst}
use Rattle.std.specs.Prelude.{◌↔◌}
use Rattle.kb_chain.specs.Cnf.{Cnf}
use Rattle.kb_chain.specs.Chains.{IsRefutation}
use Rattle.kb_chain.specs.Propagation.{IsFresh}
use Rattle.kb_terms.specs.declared.node.TermId.{TermId}
use Rattle.kb_terms.specs.declared.node.Node.{Node}
use Rattle.kb_terms.specs.Terms.{variables_of}
use Rattle.kb_blast.specs.Query.{query_of}
use Rattle.kb_blast.specs.Conditions.{Words, formula_of, words_of}
use Rattle.kb_blast.specs.Meaning.{Meets, MeetsInPool, SaysExactly, IsElsewhere}
use Rattle.kb_oracle.specs.declared.answer.Answer.{Answer}
use Rattle.kb_oracle.specs.declared.answer.Answer.TheVariants.{Model, Refuted, Undecided}
use Rattle.kb_oracle.specs.Answers.{IsAnswerTo}
use Rattle.kb_oracle.specs.Search.{IsFound}
use Rattle.kb_oracle.proofs.AnswerLaws.{is-model, leaves-open}

-- an answer that is true of the formula and the words that the conditions of a pool were made into is one to their query
pub answers-query : (nodes : List Node) (when : List (TermId × Bool)) (words : Words) (formula : Cnf) (budget : ℕ) (answer : Answer)
    → formula ≡ formula_of (query_of nodes when) → words ≡ words_of (query_of nodes when) → SaysExactly words formula (MeetsInPool nodes when)
    → ((inputs : List ℤ) → MeetsInPool nodes when inputs ↔ Meets (query_of nodes when) inputs)
    → IsFound words formula (variables_of nodes) budget answer → IsAnswerTo (query_of nodes when) budget answer
answers-query nodes when words formula budget (Model values) same spelled law listed found =
    let met : MeetsInPool nodes when values = law.sound found.read.0 values found.read.1 found.read.2 in
    is-model nodes when values found.count ((listed values).0 met) (λ v away. found.others v (subst (IsElsewhere v) (sym spelled) away))
answers-query nodes when words formula budget (Refuted log) same spelled law listed found =
    subst (λ (f : Cnf). IsRefutation f.clauses log.entries) same found.0
answers-query nodes when words formula budget (Undecided log) same spelled law listed found =
    leaves-open (query_of nodes when) budget log (subst (λ (f : Cnf). IsFresh f.clauses log.entries) same found.fresh) found.count
