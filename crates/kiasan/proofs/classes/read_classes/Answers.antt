use Rattle.std.proofs.Common.{rules, Vec, Global, List, ℕ, Err, subst}
use Rattle.std.proofs.lemmas.Result.{err_from_is_err_and}
use Rattle.kb_class.specs.declared.given.GivenClass.{GivenClass}
use Rattle.kb_class.specs.Given.{IsGivenBy, AreGivenBy}
use Rattle.kiasan.specs.Answers.{ClassRefuses}
use Rattle.kiasan.specs.Refusals.{Gives}
use Rattle.kiasan.proofs.ClassLaws.{class_next, first_class}
use Rattle.kiasan.proofs.classes.read_classes.Goals as goal

pub returns-in_err-class : goal.returns-in_err-class
returns-in_err-class c =
    let p = err_from_is_err_and c.from_residual.result c.from_residual.ensures.1 in
    rw (p.1, p.2)
    (first_class c.args.classes.now c.loop-bytes.given.items c.loop-bytes.bytes-index c.bytes-item.result c.len.result c.in_err-class.field-0.0
    c.loop-bytes-test.true c.bytes-item.is c.loop-bytes.invariant (search rules)
    (subst (λ (b : List ℕ). Gives {A = GivenClass} ⊥ (ClassRefuses c.len.result b) (IsGivenBy b) (Err c.in_err-class.field-0.0)) c.as_slice.ensures c.in_err-class.ensures)
    (λ (given : Vec GivenClass Global). AreGivenBy c.args.classes.now given.items))

pub loop-bytes-preserved : goal.loop-bytes-preserved
loop-bytes-preserved c =
    rw c.in_ok-push.ensures.items
    (class_next c.args.classes.now c.loop-bytes.bytes-index c.bytes-item.result c.loop-bytes.given.items c.in_ok-class.class c.loop-bytes-test.true
    c.bytes-item.is c.loop-bytes.invariant (rw c.as_slice.ensures at c.in_ok-class.ensures))
