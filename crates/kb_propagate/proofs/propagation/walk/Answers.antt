use Rattle.std.proofs.Common.{◌≡◌, ◌∙◌, ◌++◌, ap, sym, subst, length, take, drop, [], arith}
use Rattle.std.proofs.Math.Seq.{take-append_seam}
use Rattle.kb_chain.specs.Literal.{has}
use Rattle.kb_propagate.specs.Rows.{rows_of}
use Rattle.kb_propagate.specs.Watches.{pairs_of, Walks, AllListed, with_list}
use Rattle.kb_propagate.proofs.propagation.walk.Goals as goal

-- the list holds what the slice holds, as far as it stays
pub returns-clause-walked : goal.returns-clause-walked
returns-clause-walked c early part h =
    let old = c.list.inside.inner.items in
    let new = c.take_up.new.watches in
    let f = c.args.falsified in
    let lent : c.as_mut_slice-watches.result.now ≡ old = c.as_mut_slice-watches.ensures.value in
    let size : length old ≡ length new = omega (arith, c.take_up.auto.watches, ap length lent) in
    let whole : take (length old) (new ++ drop (length new) old) ≡ new = ap (λ n. take n (new ++ drop (length new) old)) size ∙ take-append_seam new (drop (length new) old) in
    let left : c.truncate.new.self ≡ take c.in_ok-walked.walked.kept new = c.truncate.ensures ∙ ap (take c.in_ok-walked.walked.kept) whole in
    subst (λ z. AllListed (with_list c.take_up.new.lists.items f z) (pairs_of c.take_up.new.clauses)) (sym left)
    (c.in_ok-walked.ensures.walked early part
    (subst (λ z. Walks early (has c.args.trail.now.literals) (rows_of c.args.clauses.now) (pairs_of c.args.clauses.now) (with_list c.args.lists.now.items f []) z f)
    (sym (lent ∙ c.list.view_is)) h))
