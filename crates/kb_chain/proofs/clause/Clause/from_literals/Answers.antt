use Rattle.std.proofs.Common.{◌≡◌, ◌∙◌, subst, ap, List}
use Rattle.std.specs.Result.{IfOk}
use Rattle.kb_chain.specs.Literal.{Literal}
use Rattle.kb_chain.specs.Clause.{clause_of}
use Rattle.kb_chain.proofs.OrderLaws.{clause_of_same}
use Rattle.kb_chain.proofs.clause.Clause.from_literals.Goals as goal

pub from_sorted-requires : goal.from_sorted-requires
from_sorted-requires c = rw c.as_slice.ensures c.in_ok-sorted.ensures.rising

pub returns : goal.returns
returns c =
    let e : clause_of c.as_slice.result.now ≡ clause_of c.args.literals.now =
    ap clause_of c.as_slice.ensures ∙ clause_of_same _ _ c.in_ok-sorted.ensures.same in
    subst (λ (z : List Literal). IfOk c.from_sorted.result (λ clause. clause ≡ z)) e c.from_sorted.ensures
