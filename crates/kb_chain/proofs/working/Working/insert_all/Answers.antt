use Rattle.std.proofs.Common.{◌≡◌, ◌∙◌, ap, sym, true, get_or, ◌==◌}
use Rattle.std.proofs.lemmas.Bool.{ne_eqb, eq-eqb}
use Rattle.kb_chain.specs.Literal.{has}
use Rattle.kb_chain.specs.Clause.{with_literal}
use Rattle.kb_chain.proofs.OrderLaws.{has_get_or, IsOrdered-with_literal}
use Rattle.kb_chain.proofs.WorkingLaws.{members_kept, members_skipped}
use Rattle.kb_chain.proofs.working.Working.insert_all.Goals as goal
use Rattle.kb_chain.proofs.working.Working.insert_all.Goals.{then-variable-pivot+in_ok-insert, else-variable-pivot}

pub insert-requires : goal.insert-requires
insert-requires c =
    let h : has c.args.literals.now c.literal-item.result ≡ true =
    ap (λ z. has c.args.literals.now z) c.literal-item.is ∙ has_get_or c.args.literals.now c.loop-literal.literal-index c.literal-item.result c.loop-literal-test.true in
    rw c.loop-literal.invariant.places (c.requires c.literal-item.result h)

pub loop-literal-preserved : goal.loop-literal-preserved
loop-literal-preserved c =
    elim c.if-variable-pivot.branch [
      | then-variable-pivot+in_ok-insert w ↦
          (let e : c.if-variable-pivot.self.clause ≡ with_literal (get_or c.args.literals.now c.loop-literal.literal-index c.literal-item.result) c.loop-literal.self.clause =
          ap (λ s. s.clause) w.self-is ∙ (w.in_ok-insert.ensures.ok ∙ ap (λ x. with_literal x c.loop-literal.self.clause) c.literal-item.is) in
          let v : (get_or c.args.literals.now c.loop-literal.literal-index c.literal-item.result).variable ≡ c.variable.result =
          ap (λ x. x.variable) (sym c.literal-item.is) ∙ sym c.variable.ensures.value in
          record {
            places = ap (λ s. s.places) w.self-is ∙ (w.in_ok-insert.ensures.places ∙ c.loop-literal.invariant.places);
            ordered = λ h. rw e (IsOrdered-with_literal _ _ (c.loop-literal.invariant.ordered h));
            members = rw e (members_kept c.args.self.now.clause c.loop-literal.self.clause c.args.literals.now c.args.pivot c.loop-literal.literal-index
                c.literal-item.result c.loop-literal-test.true c.loop-literal.invariant.members (ap (λ k. k == c.args.pivot) v ∙ ne_eqb _ _ w.if-variable-pivot.true));
          })
      | else-variable-pivot w ↦
          (let e : c.if-variable-pivot.self ≡ c.loop-literal.self = w.self-is in
          let v : (get_or c.args.literals.now c.loop-literal.literal-index c.literal-item.result).variable ≡ c.variable.result =
          ap (λ x. x.variable) (sym c.literal-item.is) ∙ sym c.variable.ensures.value in
          record {
            places = ap (λ s. s.places) e ∙ c.loop-literal.invariant.places;
            ordered = λ h. rw e (c.loop-literal.invariant.ordered h);
            members = rw e (members_skipped c.args.self.now.clause c.loop-literal.self.clause c.args.literals.now c.args.pivot c.loop-literal.literal-index
                c.literal-item.result c.loop-literal-test.true c.loop-literal.invariant.members (ap (λ k. k == c.args.pivot) v ∙ eq-eqb _ _ w.if-variable-pivot.false));
          })
    ]
