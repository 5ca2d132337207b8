use Rattle.std.proofs.Common.{◌≡◌, ◌+◌, ◌<◌, ◌∙◌, sym, subst, length, get_or, arith, set}
use Rattle.std.proofs.lemmas.List.Filters.{FiltersInPlace, FiltersInPlace-more_no, FiltersInPlace-more_set}
use Rattle.kb_propagate.specs.Forgetting.{has_awake_clause}
use Rattle.kb_propagate.proofs.watches.move_awake.Goals as goal
use Rattle.kb_propagate.proofs.watches.move_awake.Goals.{then-is_awake, else-is_awake}

pub loop-next-preserved : goal.loop-next-preserved
loop-next-preserved c =
    let list = c.loop-next.watches in
    let next = c.loop-next.next in
    let watch = c.index-watches-next.result in
    let test = has_awake_clause c.args.clauses.now in
    let h = c.loop-next.invariant in
    let long : length list ≡ length c.args.watches.now = h.long in
    let inside : next < length list = omega (arith, c.loop-next-test.true, long) in
    let read : watch ≡ get_or list next watch = c.index-watches-next.is in
    elim c.if-is_awake.branch [
      | then-is_awake w ↦
          subst (λ k. FiltersInPlace test c.args.watches.now c.if-is_awake.watches k (next + 1)) (sym w.kept-is)
          (subst (λ z. FiltersInPlace test c.args.watches.now z (c.loop-next.kept + 1) (next + 1)) (sym w.watches-is)
          (FiltersInPlace-more_set h inside (sym c.is_awake.ensures ∙ w.if-is_awake.true) read))
      | else-is_awake w ↦
          subst (λ k. FiltersInPlace test c.args.watches.now c.if-is_awake.watches k (next + 1)) (sym w.kept-is)
          (subst (λ z. FiltersInPlace test c.args.watches.now z c.loop-next.kept (next + 1)) (sym w.watches-is)
          (FiltersInPlace-more_no h inside (sym c.is_awake.ensures ∙ w.if-is_awake.false) read))
    ]
