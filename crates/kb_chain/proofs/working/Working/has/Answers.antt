use Rattle.std.proofs.Common.{◌∙◌, ap, sym, false, get_or}
use Rattle.kb_chain.specs.Literal.{literal}
use Rattle.kb_chain.proofs.WorkingLaws.{has-shown}
use Rattle.kb_chain.proofs.working.Working.has.Goals as goal

pub returns : goal.returns
returns c =
    rw (← c.self.view_is)
    (c.is_marked.ensures
    ∙ (ap (λ z. get_or z c.place_of-place.result false) c.as_slice.ensures.value
    ∙ (ap (λ k. get_or c.self.inside.marks.items k false) c.place_of-place.ensures
    ∙ sym (has-shown c.self.inside.marks.items c.self.inside.touched.items c.self.invariant (literal c.args.variable c.args.positive)))))
