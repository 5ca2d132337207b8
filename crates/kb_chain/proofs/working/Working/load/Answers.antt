use Rattle.std.proofs.Common.{◌≡◌, ◌∙◌, ap, get_or}
use Rattle.std.proofs.lemmas.List.{take_all}
use Rattle.kb_chain.specs.Literal.{has}
use Rattle.kb_chain.specs.Clause.{with_literal}
use Rattle.kb_chain.proofs.OrderLaws.{IsOrdered-with_literal, same_members}
use Rattle.kb_chain.proofs.WorkingLaws.{members_loaded}
use Rattle.kb_chain.proofs.working.Working.load.Goals as goal

pub loop-literal-preserved : goal.loop-literal-preserved
loop-literal-preserved c =
    let e : c.insert.new.self.clause ≡ with_literal (get_or c.literals-literal-items.result.now c.loop-literal.literal-index c.literal-item.result) c.loop-literal.self.clause =
    c.in_ok-insert.ensures.ok ∙ ap (λ x. with_literal x c.loop-literal.self.clause) c.literal-item.is in
    record {
      places = c.in_ok-insert.ensures.places ∙ c.loop-literal.invariant.places;
      ordered = rw e (IsOrdered-with_literal _ _ c.loop-literal.invariant.ordered);
      members = rw e (members_loaded c.loop-literal.self.clause c.literals-literal-items.result.now c.loop-literal.literal-index c.literal-item.result
          c.loop-literal-test.true c.loop-literal.invariant.members);
    }

pub returns-clause-clause : goal.returns-clause-clause
returns-clause-clause c =
    same_members c.loop-literal.self.clause c.args.clause.now c.loop-literal.invariant.ordered c.literals-literal-items.ensures.ordered
    (λ l. c.loop-literal.invariant.members l
    ∙ (ap (λ z. has z l) (take_all c.loop-literal.literal-index c.literals-literal-items.result.now c.loop-literal-test.false)
    ∙ ap (λ z. has z l) c.literals-literal-items.ensures.value))
