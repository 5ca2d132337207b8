use Rattle.std.proofs.Common.{◌≡◌, List, None, sym, ap, ◌∙◌, arith}
use Rattle.kb_semantics.specs.Config.{Frame}
use Rattle.kb_machine.specs.Landings.{unwound}
use Rattle.kb_machine.specs.Turns.{setting_of}
use Rattle.kb_machine.proofs.LandingLaws.{unwound_end, unwound_on, unwound_here}
use Rattle.kb_machine.proofs.unwinding.unwind.Goals as goal

pub returns-in_default : goal.returns-in_default
returns-in_default c = λ c' heap object.
    let s = setting_of c.args.turn.now in
    let kind = c.args.kind.now in
    let none : c.loop-target.target ≡ None = grind arith in
    sym (c.loop-target.invariant.same c' heap object)
    ∙ unwound_on s c' heap object kind c.loop-target.frame c.loop-target.callers (sym c.loop-target.invariant.target ∙ none)
    ∙ ap (λ (frames : List Frame). unwound s c' heap object kind frames) c.in_default.ensures.none
    ∙ unwound_end s c' heap object kind

pub loop-target-preserved : goal.loop-target-preserved
loop-target-preserved c =
    let s = setting_of c.args.turn.now in
    let kind = c.args.kind.now in
    let none : c.loop-target.target ≡ None = grind arith in
    record {
      target = c.handler_of-target-in-loop-target.ensures;
      same = λ c' heap object.
          ap (λ (frames : List Frame). unwound s c' heap object kind frames) (sym c.in-Some.ensures.some)
          ∙ sym (unwound_on s c' heap object kind c.loop-target.frame c.loop-target.callers (sym c.loop-target.invariant.target ∙ none))
          ∙ c.loop-target.invariant.same c' heap object;
    }

pub returns-in-Some-target : goal.returns-in-Some-target
returns-in-Some-target c = λ c' heap object.
    let s = setting_of c.args.turn.now in
    let kind = c.args.kind.now in
    sym (c.loop-target.invariant.same c' heap object)
    ∙ unwound_here s c' heap object kind c.loop-target.frame c.loop-target.callers c.in-Some-target.target (sym c.loop-target.invariant.target ∙ c.in-Some-target.is)
    ∙ c.land.ensures c' heap object c.loop-target.callers
