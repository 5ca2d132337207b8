use Rattle.std.proofs.Common.{◌≡◌, ℕ, List, Some, None, sym, ap, subst, ◌∙◌}
use Rattle.kb_class.specs.Class.{Class}
use Rattle.kb_classes.specs.World.{World, number_in}
use Rattle.kb_link.specs.Links.{IsLinked}
use Rattle.kb_link.proofs.TargetLaws.{undeclared_class, paired_declares, unpaired_undeclared, paired_alone}
use Rattle.kb_link.proofs.linked.Linked.declared.Goals as goal

pub returns-in_err-class-clause-none : goal.returns-in_err-class-clause-none
returns-in_err-class-clause-none c =
    let linked : IsLinked c.args.self.now = subst IsLinked c.self.view_is c.self.invariant.0 in
    let classes : c.self.inside.classes ≡ c.args.self.now.classes = ap (λ (w : World). w.classes) c.self.view_is in
    let none : number_in c.args.self.now.classes c.args.target.now.class ≡ None =
    ap (λ (cs : List Class). number_in cs c.args.target.now.class) (sym classes) ∙ ap (λ (n : List ℕ). number_in c.self.inside.classes n) (sym c.as_slice.ensures.same) ∙ sym c.in_err-class.ensures in
    rw c.from_residual.ensures (undeclared_class c.args.self.now linked.names linked.loaded.methods c.args.target.now none)

pub returns-clause-found : goal.returns-clause-found
returns-clause-found c =
    let linked : IsLinked c.args.self.now = subst IsLinked c.self.view_is c.self.invariant.0 in
    let classes : c.self.inside.classes ≡ c.args.self.now.classes = ap (λ (w : World). w.classes) c.self.view_is in
    let at : number_in c.args.self.now.classes c.args.target.now.class ≡ Some c.in_ok-class.class =
    ap (λ (cs : List Class). number_in cs c.args.target.now.class) (sym classes) ∙ ap (λ (n : List ℕ). number_in c.self.inside.classes n) (sym c.as_slice.ensures.same) ∙ sym c.in_ok-class.ensures in
    paired_declares c.args.self.now linked.names linked.loaded.methods c.args.target.now c.in_ok-class.class at c.paired.result c.paired.ensures.found

pub returns-clause-none : goal.returns-clause-none
returns-clause-none c =
    let linked : IsLinked c.args.self.now = subst IsLinked c.self.view_is c.self.invariant.0 in
    let classes : c.self.inside.classes ≡ c.args.self.now.classes = ap (λ (w : World). w.classes) c.self.view_is in
    let at : number_in c.args.self.now.classes c.args.target.now.class ≡ Some c.in_ok-class.class =
    ap (λ (cs : List Class). number_in cs c.args.target.now.class) (sym classes) ∙ ap (λ (n : List ℕ). number_in c.self.inside.classes n) (sym c.as_slice.ensures.same) ∙ sym c.in_ok-class.ensures in
    unpaired_undeclared c.args.self.now linked.names linked.loaded.methods c.args.target.now c.in_ok-class.class at c.paired.result c.paired.ensures.whole

pub returns-clause-alone : goal.returns-clause-alone
returns-clause-alone c =
    let linked : IsLinked c.args.self.now = subst IsLinked c.self.view_is c.self.invariant.0 in
    let classes : c.self.inside.classes ≡ c.args.self.now.classes = ap (λ (w : World). w.classes) c.self.view_is in
    let at : number_in c.args.self.now.classes c.args.target.now.class ≡ Some c.in_ok-class.class =
    ap (λ (cs : List Class). number_in cs c.args.target.now.class) (sym classes) ∙ ap (λ (n : List ℕ). number_in c.self.inside.classes n) (sym c.as_slice.ensures.same) ∙ sym c.in_ok-class.ensures in
    paired_alone c.args.self.now linked.names linked.loaded.methods c.args.target.now c.in_ok-class.class at c.paired.result c.paired.ensures.found
