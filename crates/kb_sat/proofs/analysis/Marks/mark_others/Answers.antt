use Rattle.std.proofs.Common.{◌≡◌, ◌+◌, ◌∙◌, sym, subst, take, true, false}
use Rattle.kb_sat.specs.Analysis.{is_pivot, AreMarked, MarksOthers}
use Rattle.kb_sat.specs.declared.analysis.Marks.{Marks}
use Rattle.kb_sat.proofs.MarkedLaws.{MarksOthers-more, MarksOthers-skip, next_false}
use Rattle.kb_sat.proofs.analysis.Marks.mark_others.Goals as goal
use Rattle.kb_sat.proofs.analysis.Marks.mark_others.Goals.{then-not-is_pivot+in_ok-mark, else-not-is_pivot}

pub loop-literal-preserved : goal.loop-literal-preserved
loop-literal-preserved c =
    elim c.if-not-is_pivot.branch [
      | then-not-is_pivot+in_ok-mark w ↦
          (let other : is_pivot c.args.pivot c.literal-item.result.variable ≡ false = sym c.is_pivot.ensures ∙ w.if-not-is_pivot.true in
          record {
            marked = λ end h below. subst (λ (z : Marks). AreMarked c.args.trail.now.vars c.args.trail.now.literals c.args.levels end z) (sym w.self-is)
                (w.in_ok-mark.ensures.marked end (c.loop-literal.invariant.marked end h below)
                (next_false c.args.trail.now.literals end c.args.pivot c.args.row.now c.loop-literal.literal-index c.literal-item.result c.loop-literal-test.true
                c.literal-item.is other below));
            marks = subst (λ (z : Marks). MarksOthers c.args.trail.now.literals c.args.levels c.args.pivot (take (c.loop-literal.literal-index + 1) c.args.row.now)
                c.args.self.now.seen.items z.seen.items) (sym w.self-is)
                (MarksOthers-more c.args.trail.now.literals c.args.levels c.args.pivot c.args.row.now c.loop-literal.literal-index c.literal-item.result
                c.args.self.now.seen.items c.loop-literal.self.seen.items _ c.loop-literal-test.true c.literal-item.is other c.loop-literal.invariant.marks
                w.in_ok-mark.ensures.marks);
            order = w.order-is ∙ (w.in_ok-mark.ensures.order ∙ c.loop-literal.invariant.order);
          })
      | else-not-is_pivot w ↦
          (let one : is_pivot c.args.pivot c.literal-item.result.variable ≡ true = sym c.is_pivot.ensures ∙ w.if-not-is_pivot.false in
          record {
            marked = λ end h below. subst (λ (z : Marks). AreMarked c.args.trail.now.vars c.args.trail.now.literals c.args.levels end z) (sym w.self-is)
                (c.loop-literal.invariant.marked end h below);
            marks = subst (λ (z : Marks). MarksOthers c.args.trail.now.literals c.args.levels c.args.pivot (take (c.loop-literal.literal-index + 1) c.args.row.now)
                c.args.self.now.seen.items z.seen.items) (sym w.self-is)
                (MarksOthers-skip c.args.trail.now.literals c.args.levels c.args.pivot c.args.row.now c.loop-literal.literal-index c.literal-item.result
                c.args.self.now.seen.items c.loop-literal.self.seen.items c.loop-literal-test.true c.literal-item.is one c.loop-literal.invariant.marks);
            order = w.order-is ∙ c.loop-literal.invariant.order;
          })
    ]
