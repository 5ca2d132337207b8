use Rattle.std.proofs.Common.{◌≡◌, ◌<◌, ◌∙◌, sym, ap, subst, true, length, List, Bool, take, ℕ, not, ◌&&◌, ◌||◌, ◌+◌, arith}
use Rattle.kb_chain.specs.Literal.{has}
use Rattle.kb_chain.proofs.OrderLaws.{has_get_or}
use Rattle.kb_sat.specs.Analysis.{is_seen, is_pivot}
use Rattle.kb_sat.proofs.RefuteLaws.{see_more, see_skip, has_variable}
use Rattle.kb_sat.proofs.analysis.see_others.Goals as goal
use Rattle.kb_sat.proofs.analysis.see_others.Goals.{then-not-is_pivot, else-not-is_pivot}

pub bounds-seen-variable : goal.bounds-seen-variable
bounds-seen-variable c =
    let i : has c.args.row.now c.literal-item.result ≡ true =
    ap (has c.args.row.now) c.literal-item.is ∙ has_get_or c.args.row.now c.loop-literal.literal-index c.literal-item.result c.loop-literal-test.true in
    let inside : c.literal-item.result.variable < length c.args.seen.now = c.requires c.literal-item.result i in
    omega (arith, inside)

pub loop-literal-preserved : goal.loop-literal-preserved
loop-literal-preserved c =
    let i : has c.args.row.now c.literal-item.result ≡ true =
    ap (has c.args.row.now) c.literal-item.is ∙ has_get_or c.args.row.now c.loop-literal.literal-index c.literal-item.result c.loop-literal-test.true in
    let inside : c.literal-item.result.variable < length c.args.seen.now = c.requires c.literal-item.result i in
    elim c.if-not-is_pivot.branch [
      | then-not-is_pivot w ↦
          (let size : w.variable.result < length c.loop-literal.seen = omega (arith, inside, w.variable.ensures.value) in
          subst (λ (z : List Bool). (v : ℕ) → is_seen z v ≡ (is_seen c.args.seen.now v || (has_variable (take (c.loop-literal.literal-index + 1) c.args.row.now) v && not (is_pivot c.args.pivot v))))
          (sym w.seen-is)
          (see_more c.args.row.now c.loop-literal.literal-index c.literal-item.result c.args.pivot w.variable.result c.args.seen.now c.loop-literal.seen c.loop-literal-test.true
          c.literal-item.is w.variable.ensures.value size (sym c.is_pivot.ensures ∙ w.if-not-is_pivot.true) c.loop-literal.invariant))
      | else-not-is_pivot w ↦
          subst (λ (z : List Bool). (v : ℕ) → is_seen z v ≡ (is_seen c.args.seen.now v || (has_variable (take (c.loop-literal.literal-index + 1) c.args.row.now) v && not (is_pivot c.args.pivot v))))
          (sym w.seen-is)
          (see_skip c.args.row.now c.loop-literal.literal-index c.literal-item.result c.args.pivot c.args.seen.now c.loop-literal.seen c.loop-literal-test.true
          c.literal-item.is (sym c.is_pivot.ensures ∙ w.if-not-is_pivot.false) c.loop-literal.invariant)
    ]
