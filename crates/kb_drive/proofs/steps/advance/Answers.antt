use Rattle.std.proofs.Common.{rules, ◌≡◌, sym, ◌∙◌}
use Rattle.kb_ways.specs.Advancing.{IsAdvanced}
use Rattle.kb_drive.specs.Running.{way_on}
use Rattle.kb_drive.specs.Taking.{choices_at}
use Rattle.kb_drive.proofs.HeapLaws.{at_references}
use Rattle.kb_drive.proofs.TurnLaws.{advanced_terms}
use Rattle.kb_drive.proofs.steps.advance.Goals as goal

pub advance_ref-requires-clause-at : goal.advance_ref-requires-clause-at
advance_ref-requires-clause-at c = at_references c.args.world.now c.args.state.now c.requires.reached (sym c.next_is_int.ensures ∙ c.if-next_is_int.false)

pub returns-then-next_is_int-clause-terms : goal.returns-then-next_is_int-clause-terms
returns-then-next_is_int-clause-terms c =
    let is : IsAdvanced (choices_at c.args.world.now c.args.bounds.now c.args.state.now) (way_on c.args.world.now c.args.bounds.now c.args.state.now) c.args.state.now c.advance_int.new.state c.in_ok-advanced.advanced = search rules in
    advanced_terms c.args.world.now c.args.bounds.now c.args.state.now c.advance_int.new.state c.in_ok-advanced.advanced c.requires.range c.requires.reached is

pub returns-clause-terms : goal.returns-clause-terms
returns-clause-terms c =
    let is : IsAdvanced (choices_at c.args.world.now c.args.bounds.now c.args.state.now) (way_on c.args.world.now c.args.bounds.now c.args.state.now) c.args.state.now c.advance_ref.new.state c.in_ok-advanced-2.advanced = search rules in
    advanced_terms c.args.world.now c.args.bounds.now c.args.state.now c.advance_ref.new.state c.in_ok-advanced-2.advanced c.requires.range c.requires.reached is
