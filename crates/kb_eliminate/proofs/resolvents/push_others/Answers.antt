use Rattle.std.proofs.Common.{sym, subst, take, ◌++◌}
use Rattle.std.proofs.lemmas.Bool.{OnTrue_at}
use Rattle.std.proofs.lemmas.List.{take_all}
use Rattle.kb_chain.specs.Literal.{has}
use Rattle.kb_eliminate.specs.Resolvents.{IsMerged}
use Rattle.kb_eliminate.proofs.ResolventLaws.{all_none, all_more}
use Rattle.kb_eliminate.proofs.resolvents.push_others.Goals as goal

pub loop-literal-init : goal.loop-literal-init
loop-literal-init c all h = subst (λ z. IsMerged (has c.args.trail.now.literals) c.args.variable z c.args.row.now.items) (sym (all_none all)) h

pub loop-literal-preserved : goal.loop-literal-preserved
loop-literal-preserved c all h =
    let l = c.loop-literal in
    subst (λ z. IsMerged (has c.args.trail.now.literals) c.args.variable z c.push_other.new.row.items)
    (all_more all c.args.literals.now l.literal-index c.literal-item.result c.loop-literal-test.true c.literal-item.is)
    (OnTrue_at c.if-not-branch.false c.in_ok-push_other.ensures (all ++ take l.literal-index c.args.literals.now) (l.invariant all h))

pub returns : goal.returns
returns c all h =
    subst (λ z. IsMerged (has c.args.trail.now.literals) c.args.variable (all ++ z) c.loop-literal.row.items)
    (take_all c.loop-literal.literal-index c.args.literals.now c.loop-literal-test.false) (c.loop-literal.invariant all h)
