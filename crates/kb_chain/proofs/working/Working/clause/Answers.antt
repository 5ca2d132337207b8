use Rattle.std.proofs.Common.{◌≡◌, ◌∙◌, ap, subst, List}
use Rattle.std.specs.List.{filter}
use Rattle.kb_chain.specs.Literal.{Literal}
use Rattle.kb_chain.specs.Clause.{clause_of}
use Rattle.kb_chain.specs.Working.{Held, marked}
use Rattle.std.specs.Result.{IfOk}
use Rattle.kb_chain.proofs.working.Working.clause.Goals as goal

pub returns : goal.returns
returns c =
    let e : c.as_slice-3.result.now ≡ filter (marked c.self.inside.marks.items) c.self.inside.touched.items =
    c.as_slice-3.ensures.value ∙ (c.in_ok-literals.ensures
    ∙ (ap (λ z. filter (marked z) c.as_slice-2.result.now) c.as_slice.ensures.value
    ∙ ap (λ z. filter (marked c.self.inside.marks.items) z) c.as_slice-2.ensures.value)) in
    let f : clause_of c.as_slice-3.result.now ≡ c.args.self.now.clause =
    ap clause_of e ∙ ap (λ (v : Held). v.clause) c.self.view_is in
    subst (λ (z : List Literal). IfOk c.from_literals.result (λ clause. clause ≡ z)) f c.from_literals.ensures
