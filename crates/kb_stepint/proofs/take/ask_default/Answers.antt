use Rattle.std.proofs.Common.{◌≡◌, ◌≤◌, ℤ, ℕ, false, List, length, sym, ap, subst, ◌∙◌, arith}
use Rattle.kb_terms.specs.Terms.{Extends}
use Rattle.kb_terms.proofs.Values.{Extends-trans, IsTerm-extends}
use Rattle.kb_frames.specs.State.{State}
use Rattle.kb_picture.specs.declared.choice.Choice.TheVariants.{Default}
use Rattle.kb_ways.specs.declared.condition.Condition.{Condition}
use Rattle.kb_ways.specs.declared.condition.Side.TheVariants.{Term, Number}
use Rattle.kb_ways.specs.Asked.{all_asked, asked, equal_sides}
use Rattle.kb_stepint.specs.Choices.{key_conditions}
use Rattle.kb_ways.specs.Needs.{AreSides}
use Rattle.kb_stepint.specs.Keys.{keys_of}
use Rattle.kb_stepint.proofs.ChoiceLaws.{key_asked, keys_asked}
use Rattle.kb_stepint.proofs.KeyLaws.{of_number}
use Rattle.kb_ways.proofs.SideLaws.{asked_extends, key_sides}
use Rattle.kb_stepint.proofs.take.ask_default.Goals as goal

pub ask-requires : goal.ask-requires
ask-requires c =
    subst (AreSides c.loop-place.state.nodes) (sym (c.equals_number.ensures ∙ of_number c.args.x c.in_ok-entry.entry.0 false c.in_ok-entry.ensures.range))
    (key_sides c.loop-place.state.nodes c.args.x c.in_ok-entry.entry.0 false (IsTerm-extends c.args.state.now.nodes c.loop-place.state.nodes c.args.x c.loop-place.invariant.extends c.requires))

pub loop-place-preserved : goal.loop-place-preserved
loop-place-preserved c =
    let keys : List (ℤ × ℕ) = keys_of c.args.keys.now in
    let condition : Condition = equal_sides (Term c.args.x) (Number c.in_ok-entry.entry.0) false in
    let new : c.ask.new.state ≡ asked c.loop-place.state condition = c.in_ok-ask.ensures ∙ ap (asked c.loop-place.state) (c.equals_number.ensures ∙ of_number c.args.x c.in_ok-entry.entry.0 false c.in_ok-entry.ensures.range) in
    record {
      asked = key_asked c.args.x keys c.loop-place.state c.ask.new.state (all_asked c.args.state.now (key_conditions c.args.x keys Default)) c.loop-place.place c.in_ok-entry.entry c.in_ok-entry.ensures.key new c.loop-place.invariant.asked;
      extends = Extends-trans c.args.state.now.nodes c.loop-place.state.nodes c.ask.new.state.nodes c.loop-place.invariant.extends
          (subst (λ (s : State). Extends c.loop-place.state.nodes s.nodes) (sym new) (asked_extends c.loop-place.state condition));
    }

pub returns : goal.returns
returns c =
    let keys : List (ℤ × ℕ) = keys_of c.args.keys.now in
    let end : length keys ≤ c.loop-place.place = omega (arith, c.loop-place-test.false, c.len-place-end.ensures) in
    keys_asked c.args.x keys c.loop-place.state (all_asked c.args.state.now (key_conditions c.args.x keys Default)) c.loop-place.place end c.loop-place.invariant.asked
