use Rattle.std.proofs.Common.{◌≡◌, ◌<◌, ap, ◌∙◌, inl, inr, refl, true, false, length, arith, Some, Bool}
use Rattle.std.specs.Prelude.{nat_lt}
use Rattle.std.proofs.lemmas.Bool.{ltb-true}
use Rattle.kb_chain.specs.Literal.{negated}
use Rattle.std.specs.Bool.{OnTrue}
use Rattle.kb_sat.proofs.MarkLaws.{at_has_taken}
use Rattle.kb_sat.proofs.MarkedLaws.{variable_inside, seen_read}
use Rattle.kb_sat.proofs.analysis.Marks.covers.Goals as goal

pub index-requires : goal.index-requires
index-requires c =
    let inside = variable_inside c.args.trail.now (negated c.args.literal) c.tell_trail.ensures c.requires.on_trail in
    omega arith

pub returns-then-index : goal.returns-then-index
returns-then-index c =
    let inside = variable_inside c.args.trail.now (negated c.args.literal) c.tell_trail.ensures c.requires.on_trail in
    let lt : c.variable.result < length c.args.self.now.seen.items = omega arith in
    inl (seen_read c.args.self.now.seen.items c.variable.result c.args.literal.variable c.index.result.now c.variable.ensures.value lt c.index.ensures ∙ c.if-index.true)

pub returns : goal.returns
returns c = on_true (nat_lt c.position.result c.args.levels.zero) _ (λ e.
    inr (at_has_taken c.args.levels.zero c.args.trail.now.literals c.position.result (negated c.args.literal)
    (c.position.ensures.value ∙ ap Some c.negated.ensures) (ltb-true c.position.result c.args.levels.zero e)))
  where
    on_true : (b : Bool) (P : Type 0) → (b ≡ true → P) → OnTrue b P
    on_true true P f = f refl
    on_true false P f = tt
