use Rattle.kb_grammar.proofs.WordLaws.{some_left, none_left}
use Rattle.kb_path_words.proofs.ReadLaws.{none_behind, one_behind, no_more, all_read}
use Rattle.kb_path_words.proofs.reading_lines.read_further.Goals as goal

pub loop-decision-preserved : goal.loop-decision-preserved
loop-decision-preserved c =
    one_behind c.args.first c.loop-decision.decisions c.push-in-Some.new.self c.in-Some.decision c.loop-decision.rest.now c.in-Some.others.now c.args.text.now
    c.in-Some.ensures.0 c.in-Some.ensures.1 c.in-Some.ensures.2 c.in_ok-push-2.ensures.ok c.loop-decision.invariant

pub returns-then-not-is_empty : goal.returns-then-not-is_empty
returns-then-not-is_empty c =
    no_more c.args.first c.loop-decision.decisions c.loop-decision.rest.now c.args.text.now c.in_default.ensures
    (some_left c.loop-decision.rest.now c.is_empty.result c.is_empty.ensures c.if-not-is_empty.true) c.loop-decision.invariant

pub returns : goal.returns
returns c =
    all_read c.args.first c.loop-decision.decisions c.loop-decision.rest.now c.args.text.now
    (none_left c.loop-decision.rest.now c.is_empty.result c.is_empty.ensures c.if-not-is_empty.false) c.loop-decision.invariant
