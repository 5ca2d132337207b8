use Rattle.std.proofs.Common.{◌≡◌, ◌+◌, ◌*◌, ◌<◌, refl, ap, sym, ◌∙◌, subst, take, false, None, length, ◌++◌, ◌∷◌, []}
use Rattle.kb_chain.specs.Literal.{has, negated, place_of}
use Rattle.kb_propagate.specs.Trail.{Assigned}
use Rattle.kb_propagate.specs.Tables.{assigned}
use Rattle.kb_propagate.proofs.TrailLaws.{IsTabled-push, view-push, IsNext-decided}
use Rattle.kb_propagate.proofs.trail.Trail.decide.Goals as goal

pub invariant_of-self-2 : goal.invariant_of-self-2
invariant_of-self-2 c =
    let i = c.self.inside in
    let place : place_of c.args.literal < 2 * i.limit + 2 = subst (λ (z : Assigned). place_of c.args.literal < 2 * z.vars + 2) (sym c.self.view_is) c.requires.place in
    let absent : has (take i.count i.reached.items) c.args.literal ≡ false = ap (λ (z : Assigned). has z.literals c.args.literal) c.self.view_is ∙ c.requires.unassigned in
    let possible : has (take i.count i.reached.items) (negated c.args.literal) ≡ false = ap (λ (z : Assigned). has z.literals (negated c.args.literal)) c.self.view_is ∙ c.requires.possible in
    let size : length (take i.count i.reached.items) ≡ i.count = (view-push i.limit i.marks.items i.reached.items i.forced_by.items i.positions.items i.count i.begins.items c.args.literal None c.self.invariant place absent).2 in
    let starts : c.push.new.self.items ≡ i.begins.items ++ length (take i.count i.reached.items) ∷ [] = c.in_ok-push.ensures.items ∙ ap (λ n. i.begins.items ++ n ∷ []) (sym size) in
    rw (c.place.ensures.value, c.variable.ensures.value, starts)
    (IsTabled-push i.limit i.marks.items i.reached.items i.forced_by.items i.positions.items i.count i.begins.items c.args.literal None (i.begins.items ++ length (take i.count i.reached.items) ∷ [])
    c.self.invariant (IsNext-decided (assigned i.limit i.reached.items i.forced_by.items i.count i.begins.items) c.self.invariant.trail) place absent possible)

pub returns : goal.returns
returns c =
    let i = c.self.inside in
    let place : place_of c.args.literal < 2 * i.limit + 2 = subst (λ (z : Assigned). place_of c.args.literal < 2 * z.vars + 2) (sym c.self.view_is) c.requires.place in
    let absent : has (take i.count i.reached.items) c.args.literal ≡ false = ap (λ (z : Assigned). has z.literals c.args.literal) c.self.view_is ∙ c.requires.unassigned in
    let v = view-push i.limit i.marks.items i.reached.items i.forced_by.items i.positions.items i.count i.begins.items c.args.literal None c.self.invariant place absent in
    let starts : c.push.new.self.items ≡ i.begins.items ++ length (take i.count i.reached.items) ∷ [] = c.in_ok-push.ensures.items ∙ ap (λ n. i.begins.items ++ n ∷ []) (sym v.2) in
    rw (v.0, v.1, starts, ← c.self.view_is) refl
