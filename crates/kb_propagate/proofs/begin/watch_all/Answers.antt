use Rattle.std.proofs.Common.{◌≤◌, subst, length, take, arith}
use Rattle.std.proofs.lemmas.List.{take_all}
use Rattle.kb_propagate.specs.Rows.{rows_of}
use Rattle.kb_propagate.specs.Watches.{pairs_of, IsBegun}
use Rattle.kb_propagate.proofs.ClausesLaws.{length-rows}
use Rattle.kb_propagate.proofs.PairLaws.{length-pairs}
use Rattle.kb_propagate.proofs.begin.watch_all.Goals as goal

pub returns-clause-begun : goal.returns-clause-begun
returns-clause-begun c =
    let clauses = c.args.clauses.now in
    let n = c.loop-number.number in
    let t = c.loop-number.trail in
    let lists = c.loop-number.watches.lists.items in
    let all : length (rows_of clauses) ≤ n = omega (arith, c.loop-number-test.false, c.len-number-end.ensures) in
    let both : length (pairs_of clauses) ≤ n = omega (arith, all, length-rows clauses, length-pairs clauses) in
    subst (λ z. IsBegun z (pairs_of clauses) lists t) (take_all n (rows_of clauses) all)
    (subst (λ z. IsBegun (take n (rows_of clauses)) z lists t) (take_all n (pairs_of clauses) both) c.loop-number.invariant.begun)
