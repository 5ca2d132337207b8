use Rattle.std.proofs.Common.{◌≡◌, ◌==◌, ◌∙◌, sym, ap, true}
use Rattle.std.proofs.lemmas.Bool.{eq-eqb, ne_eqb}
use Rattle.kb_chain.specs.Literal.{has, negated}
use Rattle.kb_chain.proofs.OrderLaws.{has_get_or}
use Rattle.kb_chain.proofs.PropagationLaws.{taken_part}
use Rattle.kb_sat.proofs.MarkedLaws.{read_at, covered_more, covered_skip}
use Rattle.kb_sat.proofs.ReasonLaws.{reason_inside, reason_false}
use Rattle.kb_sat.proofs.analysis.adds_nothing.Goals as goal
use Rattle.kb_propagate.specs.Rows.{rows_of}
use Rattle.kb_sat.proofs.analysis.adds_nothing.Goals.{then-variable+else-not-covers, else-variable}

pub literals-literal-items-requires : goal.literals-literal-items-requires
literals-literal-items-requires c =
    reason_inside c.requires.justified.0 (rows_of c.args.clauses.now) c.args.trail.now c.requires.justified.1 c.args.position c.in_ok-number.number c.index-literals-position.result
    (read_at c.literals.result.now c.args.trail.now.literals c.args.position c.index-literals-position.result c.literals.ensures.value c.requires.inside c.index-literals-position.is)
    c.in_ok-number.ensures

pub covers-requires-clause-on_trail : goal.covers-requires-clause-on_trail
covers-requires-clause-on_trail c =
    let i : has c.literals-literal-items.result.now c.literal-item.result ≡ true =
    ap (has c.literals-literal-items.result.now) c.literal-item.is ∙ has_get_or c.literals-literal-items.result.now c.loop-literal.literal-index c.literal-item.result c.loop-literal-test.true in
    taken_part c.args.trail.now.literals c.args.position (negated c.literal-item.result)
    (reason_false c.requires.justified.0 (rows_of c.args.clauses.now) c.args.trail.now c.requires.justified.1 c.args.position c.in_ok-number.number c.index-literals-position.result
    c.literals-literal-items.result.now
    (read_at c.literals.result.now c.args.trail.now.literals c.args.position c.index-literals-position.result c.literals.ensures.value c.requires.inside c.index-literals-position.is)
    c.in_ok-number.ensures c.literals-literal-items.ensures c.literal-item.result i
    (ap (λ k. k == c.index-literals-position.result.variable) (sym c.variable.ensures.value)
    ∙ (ap (λ k. c.variable.result == k) (sym c.variable-variable.ensures.value) ∙ ne_eqb c.variable.result c.variable-variable.result c.if-variable.true)))

pub loop-literal-preserved : goal.loop-literal-preserved
loop-literal-preserved c =
    elim c.if-variable.branch [
      | then-variable+else-not-covers w ↦
          covered_more c.args.trail.now.literals c.args.levels.zero c.args.marks.now.seen.items c.variable-variable.result c.literals-literal-items.result.now
          c.loop-literal.literal-index c.literal-item.result c.loop-literal-test.true c.literal-item.is
          (w.covers.ensures) w.if-not-covers.false c.loop-literal.invariant
      | else-variable w ↦
          covered_skip c.args.trail.now.literals c.args.levels.zero c.args.marks.now.seen.items c.variable-variable.result c.literals-literal-items.result.now
          c.loop-literal.literal-index c.literal-item.result c.loop-literal-test.true c.literal-item.is
          (ap (λ k. k == c.variable-variable.result) (sym c.variable.ensures.value) ∙ eq-eqb c.variable.result c.variable-variable.result w.if-variable.false) c.loop-literal.invariant
    ]
