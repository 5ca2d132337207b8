use Rattle.std.proofs.Common.{◌≡◌, ◌==◌, ◌∙◌, ap, sym, subst, false, true, ◌++◌, ◌∷◌, []}
use Rattle.std.proofs.lemmas.Bool.{OnTrue_from, false≢true, false_from_ne_true, eqb-true, eq-eqb, ne_eqb}
use Rattle.kb_chain.specs.Literal.{has}
use Rattle.kb_chain.proofs.LiteralLaws.{place_of-injective}
use Rattle.kb_eliminate.specs.Resolvents.{IsMerged}
use Rattle.kb_eliminate.proofs.ResolventLaws.{IsMerged-skip, IsMerged-push}
use Rattle.kb_eliminate.proofs.resolvents.push_other.Goals as goal

pub returns-in-Some : goal.returns-in-Some
returns-in-Some c = OnTrue_from (c.place.result == c.place-in-Some.result) _ (λ e all h.
    (let is : c.in-Some.known ≡ c.args.literal = place_of-injective c.in-Some.known c.args.literal
    (sym c.place.ensures.value ∙ (eqb-true c.place.result c.place-in-Some.result e ∙ c.place-in-Some.ensures.value)) in
    let there : has c.args.row.now.items c.args.literal ≡ true =
    ap (has c.args.row.now.items) (sym is) ∙ (ap (λ z. has z c.in-Some.known) (sym c.as_slice.ensures.value) ∙ c.in-Some.ensures.some.0) in
    IsMerged-skip (has c.args.trail.now.literals) c.args.variable all c.args.row.now.items c.args.literal h (λ n a. absurd (false≢true (sym a ∙ there)))))

pub returns : goal.returns
returns c all h =
    let x = c.args.literal in
    let other : (x.variable == c.args.variable) ≡ false = ap (λ v. v == c.args.variable) (sym c.variable.ensures.value) ∙ ne_eqb c.variable.result c.args.variable c.if-variable.false in
    let new : has c.args.row.now.items x ≡ false = false_from_ne_true _ (λ e. false≢true (sym
    (c.in_default.ensures.none x (ap (λ z. has z x) c.as_slice.ensures.value ∙ e)) ∙ eq-eqb x.variable c.variable-2.result (sym c.variable-2.ensures.value))) in
    subst (λ z. IsMerged (has c.args.trail.now.literals) c.args.variable (all ++ x ∷ []) z) (sym c.in_ok-push.ensures.items)
    (IsMerged-push (has c.args.trail.now.literals) c.args.variable all c.args.row.now.items x h other
    (sym c.is_true.ensures ∙ c.if-is_true.false) (sym c.is_false.ensures ∙ c.if-is_false.false) new)
