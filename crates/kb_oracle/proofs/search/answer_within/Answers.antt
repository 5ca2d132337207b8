use Rattle.std.proofs.Common.{subst}
use Rattle.std.proofs.lemmas.Result.{IfOk-weaker}
use Rattle.kb_blast.specs.Query.{query_of}
use Rattle.kb_oracle.specs.Answers.{IsAnswerTo}
use Rattle.kb_oracle.specs.Search.{IsFound}
use Rattle.kb_oracle.proofs.SearchLaws.{answers-query}
use Rattle.kb_oracle.proofs.search.answer_within.Goals as goal

pub returns-clause-answers : goal.returns-clause-answers
returns-clause-answers c =
    let nodes = c.args.pool.now in
    let when = c.args.when.now in
    let budget = c.args.budget in
    let blasted = c.in_ok-blasted.blasted in
    let says = c.in_ok-blasted.ensures in
    IfOk-weaker c.search.result (IsFound blasted.vars blasted.formula c.variables.result budget) (IsAnswerTo (query_of nodes when) budget)
    (λ answer found. answers-query nodes when blasted.vars blasted.formula budget answer says.formula says.vars says.law says.listed
    (subst (λ n. IsFound blasted.vars blasted.formula n budget answer) c.variables.ensures.count found)) c.search.ensures
