use Rattle.std.proofs.Common.{◌≡◌, ℤ, ℕ, true, false, List, sym, ap, ◌∙◌}
use Rattle.kb_picture.specs.declared.choice.Choice.TheVariants.{Default}
use Rattle.kb_ways.specs.declared.condition.Condition.{Condition}
use Rattle.kb_ways.specs.declared.condition.Side.TheVariants.{Term, Number}
use Rattle.kb_ways.specs.Asked.{asked_truth, equal_sides, is_against, is_refuted}
use Rattle.kb_stepint.specs.Choices.{key_conditions}
use Rattle.kb_stepint.specs.Keys.{keys_of}
use Rattle.kb_stepint.proofs.ChoiceLaws.{key_refutes, key_refutes_not}
use Rattle.kb_stepint.proofs.KeyLaws.{of_number}
use Rattle.kb_stepint.proofs.choices.is_default_refuted.Goals as goal

pub loop-place-preserved : goal.loop-place-preserved
loop-place-preserved c =
    let keys : List (ℤ × ℕ) = keys_of c.args.keys.now in
    let against : is_against (asked_truth c.args.state.now (equal_sides (Term c.args.x) (Number c.in_ok-entry.entry.0) false)) false ≡ false =
    ap (λ (x : Condition). is_against (asked_truth c.args.state.now x) x.truth) (sym (c.equals_number-condition.ensures ∙ of_number c.args.x c.in_ok-entry.entry.0 false c.in_ok-entry.ensures.range))
    ∙ sym c.is_against.ensures ∙ c.if-is_against.false in
    key_refutes_not c.args.x keys c.args.state.now c.loop-place.place c.in_ok-entry.entry (is_refuted c.args.state.now (key_conditions c.args.x keys Default)) c.in_ok-entry.ensures.key against c.loop-place.invariant

pub returns-then-is_against : goal.returns-then-is_against
returns-then-is_against c =
    let keys : List (ℤ × ℕ) = keys_of c.args.keys.now in
    let against : is_against (asked_truth c.args.state.now (equal_sides (Term c.args.x) (Number c.in_ok-entry.entry.0) false)) false ≡ true =
    ap (λ (x : Condition). is_against (asked_truth c.args.state.now x) x.truth) (sym (c.equals_number-condition.ensures ∙ of_number c.args.x c.in_ok-entry.entry.0 false c.in_ok-entry.ensures.range))
    ∙ sym c.is_against.ensures ∙ c.if-is_against.true in
    key_refutes c.args.x keys c.args.state.now c.loop-place.place c.in_ok-entry.entry (is_refuted c.args.state.now (key_conditions c.args.x keys Default)) c.in_ok-entry.ensures.key against c.loop-place.invariant
