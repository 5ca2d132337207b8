use Rattle.kb_heap_words.proofs.WordLaws.{no_gap, bad_offset, bad_method}
use Rattle.kb_heap_words.proofs.reading.read_place.Goals as goal

pub returns-in_default : goal.returns-in_default
returns-in_default c = no_gap c.args.text.now c.in_default.ensures

pub returns-in_default-read_number : goal.returns-in_default-read_number
returns-in_default-read_number c = bad_offset c.args.text.now c.in-Some.word.now c.in-Some.digits.now c.in-Some.ensures.0 c.in-Some.ensures.1 c.in_default-read_number.ensures

pub returns-in-Err-BadTarget : goal.returns-in-Err-BadTarget
returns-in-Err-BadTarget c =
    let bad = rw c.in-Err-BadTarget.field-0-is at c.in-Err-BadTarget.ensures.bad in
    bad_method c.args.text.now c.in-Some.word.now c.in-Some.digits.now c.in-Some.ensures.0 c.in-Some.ensures.1 bad.no_text
