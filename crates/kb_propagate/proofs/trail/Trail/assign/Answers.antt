use Rattle.std.proofs.Common.{◌≡◌, ◌+◌, ◌*◌, ◌<◌, refl, ap, sym, ◌∙◌, subst, take, false, Some}
use Rattle.kb_chain.specs.Literal.{has, negated, place_of}
use Rattle.kb_propagate.specs.Trail.{Assigned}
use Rattle.kb_propagate.specs.Tables.{assigned}
use Rattle.kb_propagate.proofs.TrailLaws.{IsTabled-push, view-push, IsNext-forced}
use Rattle.kb_propagate.proofs.trail.Trail.assign.Goals as goal

pub invariant_of-self : goal.invariant_of-self
invariant_of-self c =
    let i = c.self.inside in
    let place : place_of c.args.literal < 2 * i.limit + 2 = subst (λ (z : Assigned). place_of c.args.literal < 2 * z.vars + 2) (sym c.self.view_is) c.requires.place in
    let absent : has (take i.count i.reached.items) c.args.literal ≡ false = ap (λ (z : Assigned). has z.literals c.args.literal) c.self.view_is ∙ c.requires.unassigned in
    let possible : has (take i.count i.reached.items) (negated c.args.literal) ≡ false = ap (λ (z : Assigned). has z.literals (negated c.args.literal)) c.self.view_is ∙ c.requires.possible in
    rw (c.place.ensures.value, c.variable.ensures.value)
    (IsTabled-push i.limit i.marks.items i.reached.items i.forced_by.items i.positions.items i.count i.begins.items c.args.literal (Some c.args.number) i.begins.items
    c.self.invariant (IsNext-forced (assigned i.limit i.reached.items i.forced_by.items i.count i.begins.items) c.args.number c.self.invariant.trail) place absent possible)

pub returns : goal.returns
returns c =
    let i = c.self.inside in
    let place : place_of c.args.literal < 2 * i.limit + 2 = subst (λ (z : Assigned). place_of c.args.literal < 2 * z.vars + 2) (sym c.self.view_is) c.requires.place in
    let absent : has (take i.count i.reached.items) c.args.literal ≡ false = ap (λ (z : Assigned). has z.literals c.args.literal) c.self.view_is ∙ c.requires.unassigned in
    let v = view-push i.limit i.marks.items i.reached.items i.forced_by.items i.positions.items i.count i.begins.items c.args.literal (Some c.args.number) c.self.invariant place absent in
    rw (v.0, v.1, ← c.self.view_is) refl
