use Rattle.kb_grammar.proofs.WordLaws.{some_left}
use Rattle.kb_test_lines.proofs.WordLists.{no_word, no_gap, one_word_more}
use Rattle.kb_test_lines.proofs.words.read_words.Goals as goal

pub returns-in_default-read_word : goal.returns-in_default-read_word
returns-in_default-read_word c =
    no_word c.loop-others.words c.loop-others.rest.now c.in-Some.others.now c.first_part.result.0.now c.first_part.result.1.now c.args.text.now
    c.first_part.ensures.part c.first_part.ensures.rest c.in-Some.ensures c.first_part.ensures.text c.in_default-read_word.ensures c.loop-others.invariant

pub loop-others-preserved : goal.loop-others-preserved
loop-others-preserved c =
    one_word_more c.loop-others.words c.push.new.self c.in-Some-read_word.value c.loop-others.rest.now c.in-Some.others.now c.first_part.result.0.now c.first_part.result.1.now c.args.text.now
    c.first_part.ensures.rest c.in-Some.ensures c.first_part.ensures.text c.in-Some-read_word.ensures c.in_ok-push.ensures.ok c.loop-others.invariant

pub returns-then-not-is_empty : goal.returns-then-not-is_empty
returns-then-not-is_empty c =
    no_gap c.loop-others.words c.loop-others.rest.now c.args.text.now c.in_default.ensures
    (some_left c.loop-others.rest.now c.is_empty.result c.is_empty.ensures c.if-not-is_empty.true) c.loop-others.invariant
