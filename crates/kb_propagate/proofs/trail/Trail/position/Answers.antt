use Rattle.std.proofs.Common.{◌≡◌, ap, sym, ◌∙◌, get_or, slice_get, Some}
use Rattle.kb_chain.specs.Literal.{has}
use Rattle.kb_propagate.specs.Trail.{Assigned}
use Rattle.kb_propagate.proofs.Places.{at_inside}
use Rattle.kb_propagate.proofs.TrailLaws.{position_of}
use Rattle.kb_propagate.proofs.trail.Trail.position.Goals as goal

found : (c : goal.After-row_known-1) → slice_get c.args.self.now.literals c.index.result.now ≡ Some c.args.literal
found c =
    ap (λ (z : Assigned). slice_get z.literals c.index.result.now) (sym c.self.view_is)
    ∙ position_of c.self.inside.limit c.self.inside.marks.items c.self.inside.reached.items c.self.inside.forced_by.items c.self.inside.positions.items
    c.self.inside.count c.self.inside.begins.items c.self.invariant c.args.literal
    (ap (λ (z : Assigned). has z.literals c.args.literal) c.self.view_is ∙ c.requires)
    c.index.result.now (c.index.ensures ∙ ap (λ k. get_or c.self.inside.positions.items k c.index.result.now) c.variable.ensures.value)

pub returns-clause-value : goal.returns-clause-value
returns-clause-value c = found c

pub returns-clause-bound : goal.returns-clause-bound
returns-clause-bound c = at_inside c.args.self.now.literals c.index.result.now c.args.literal (found c)
