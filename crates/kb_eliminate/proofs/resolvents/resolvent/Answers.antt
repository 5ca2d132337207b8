use Rattle.std.proofs.Common.{◌≡◌, ◌∙◌, ap, sym, subst, ◌++◌, true, []}
use Rattle.std.proofs.lemmas.Bool.{OnTrue_at}
use Rattle.kb_chain.specs.Literal.{has, negated}
use Rattle.kb_chain.specs.Clause.{has_only}
use Rattle.kb_eliminate.specs.Resolvents.{IsMerged, IsResolvent}
use Rattle.kb_eliminate.proofs.ResolventLaws.{IsMerged-start, IsResolvent-from}
use Rattle.kb_eliminate.proofs.resolvents.resolvent.Goals as goal

pub returns : goal.returns
returns c =
    let set = has c.args.trail.now.literals in
    let left = c.args.left.now in
    let right = c.args.right.now in
    let only_left : has_only left c.args.pivot ≡ true = sym c.has_only.ensures ∙ c.if-not-has_only.false in
    let only_right : has_only right (negated c.args.pivot) ≡ true = ap (has_only right) (sym c.negated.ensures) ∙ (sym c.has_only-2.ensures ∙ c.if-not-has_only-2.false) in
    let one = OnTrue_at c.if-not-branch.false c.in_ok-push_others.ensures [] (IsMerged-start set c.variable-variable.result c.in_ok-row.row.items c.in_ok-row.ensures.items) in
    let two = OnTrue_at c.if-not-branch-2.false c.in_ok-push_others-2.ensures left one in
    subst (λ z. IsResolvent set left right c.args.pivot z) (sym c.from_vec.ensures)
    (IsResolvent-from set left right c.args.pivot c.push_others-2.new.row.items only_left only_right
    (subst (λ v. IsMerged set v (left ++ right) c.push_others-2.new.row.items) c.variable-variable.ensures.value two))
