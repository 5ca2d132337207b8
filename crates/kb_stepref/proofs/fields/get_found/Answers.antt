use Rattle.std.proofs.Common.{◌≡◌, Option, IfOk, ap, subst, ◌∙◌}
use Rattle.std.specs.Option.{option_and_then}
use Rattle.kb_frames.specs.declared.value.Outcome.{Outcome}
use Rattle.kb_frames.specs.declared.value.SymValue.{SymValue}
use Rattle.kb_frames.specs.Heaps.{value_of_cell}
use Rattle.kb_ways.specs.Turns.{led_by, told}
use Rattle.kb_ways.specs.Ways.{Take}
use Rattle.kb_stepref.specs.Effects.{reads}
use Rattle.kb_stepref.proofs.FieldReads.{read_plan}
use Rattle.kb_stepref.proofs.fields.get_found.Goals as goal

pub returns : goal.returns
returns c =
    subst (λ (take : Take). IfOk c.push_read.result (λ (outcome : Outcome). told c.push_read.new.state outcome ≡ take))
    (ap (λ (value : Option SymValue). led_by c.args.turn.now (reads c.args.state.now value)) (c.value_of_cell-value.ensures ∙ ap (option_and_then value_of_cell) c.cell.ensures)
    ∙ ap (led_by c.args.turn.now) (read_plan c.args.turn.now.world.now c.args.state.now c.args.turn.now.instr.now c.args.at.now c.requires.read))
    c.push_read.ensures
