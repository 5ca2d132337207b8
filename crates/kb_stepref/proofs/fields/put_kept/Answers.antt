use Rattle.std.proofs.Common.{drop, sym, ap, subst, ◌∙◌}
use Rattle.kb_frames.specs.declared.state.Stage.{Stage}
use Rattle.kb_frames.specs.Lent.{locals_of, stack_of}
use Rattle.kb_frames.specs.State.{State}
use Rattle.kb_ways.specs.Needs.{IsFor}
use Rattle.kb_ways.specs.Ways.{Goes, went}
use Rattle.kb_ways.specs.Slots.{put_in}
use Rattle.kb_ways.proofs.SlotLaws.{put_is_for, put_stage}
use Rattle.kb_stepref.proofs.fields.put_kept.Goals as goal

pub returns : goal.returns
returns c =
    let new : State = put_in c.args.object c.args.slot c.args.value c.args.state.now in
    c.in_ok-outcome.ensures
    ∙ ap (λ (s : State). went c.args.turn.now.world.now c.args.turn.now.bounds c.args.turn.now.next s (Goes (locals_of s.stage) (drop 2 (stack_of s.stage)))) c.put_in.ensures
    ∙ ap (λ (stage : Stage). went c.args.turn.now.world.now c.args.turn.now.bounds c.args.turn.now.next new (Goes (locals_of stage) (drop 2 (stack_of stage))))
    (put_stage c.args.object c.args.slot c.args.value c.args.state.now)

pub replaces-requires : goal.replaces-requires
replaces-requires c = subst (IsFor c.args.turn.now) (sym c.put_in.ensures) (put_is_for c.args.turn.now c.args.object c.args.slot c.args.value c.args.state.now c.requires)
