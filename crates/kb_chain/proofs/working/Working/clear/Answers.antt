use Rattle.std.proofs.Common.{◌≡◌, ◌∙◌, ap, sym, length, true, not, arith}
use Rattle.kb_chain.specs.Literal.{has}
use Rattle.kb_chain.specs.Working.{marked}
use Rattle.std.proofs.lemmas.Bool.{and_parts, false≢true, not-true}
use Rattle.kb_chain.proofs.WorkingLaws.{take_marks}
use Rattle.kb_chain.proofs.working.Working.clear.Goals as goal

pub invariant_of-self : goal.invariant_of-self
invariant_of-self c l e =
    let k : c.self.inside.marks.len ≡ length c.unmark.new.marks = omega (arith, c.unmark.auto.marks) in
    let m : marked c.unmark.new.marks l ≡ true = ap (λ z. marked z l) (sym (take_marks c.self.inside.marks.len c.unmark.new.marks _ k)) ∙ e in
    let p = and_parts (marked c.as_mut_slice.result.now l) (not (has c.as_slice.result.now l)) (sym (c.unmark.ensures l) ∙ m) in
    let t : has c.self.inside.touched.items l ≡ true = c.self.invariant l (ap (λ z. marked z l) (sym c.as_mut_slice.ensures.value) ∙ p.0) in
    absurd (false≢true (sym (not-true _ p.1) ∙ (ap (λ z. has z l) c.as_slice.ensures.value ∙ t)))
