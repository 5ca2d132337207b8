use Rattle.kb_grammar.proofs.WordLaws.{some_left}
use Rattle.kb_grammar.proofs.ListLaws.{one_more, no_item, shorter}
use Rattle.kb_log_text.specs.Lines.{step_text, IsStep}
use Rattle.kb_log_text.proofs.LogLaws.{steps_apart}
use Rattle.kb_log_text.proofs.reading.read_steps.Goals as goal

pub loop-step-smaller : goal.loop-step-smaller
loop-step-smaller c = shorter 32 IsStep step_text steps_apart c.in-Some.step c.loop-step.rest.now c.in-Some.others.now c.in-Some.ensures.2

pub loop-step-preserved : goal.loop-step-preserved
loop-step-preserved c =
    one_more 32 IsStep step_text steps_apart c.loop-step.steps c.push.new.self c.in-Some.step c.loop-step.rest.now c.in-Some.others.now c.args.text.now
    c.in-Some.ensures.0 c.in-Some.ensures.1 c.in-Some.ensures.2 c.in_ok-push.ensures.ok c.loop-step.invariant

pub returns-then-not-is_empty : goal.returns-then-not-is_empty
returns-then-not-is_empty c = λ steps spells.
    no_item 32 IsStep step_text steps_apart c.loop-step.steps c.loop-step.rest.now c.args.text.now c.in_default.ensures
    (some_left c.loop-step.rest.now c.is_empty.result c.is_empty.ensures c.if-not-is_empty.true) c.loop-step.invariant steps spells.0 spells.1
