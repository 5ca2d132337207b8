use Rattle.kb_grammar.proofs.WordLaws.{some_left, none_left}
use Rattle.kb_path_words.proofs.SlotLaws.{no_o, no_bracket, no_end, more_behind, no_array, no_index, whole_element}
use Rattle.kb_path_words.proofs.slots.read_element.Goals as goal

pub returns-in_err-text : goal.returns-in_err-text
returns-in_err-text c = rw c.from_residual.ensures (no_o c.args.word.now c.in_err-text.ensures)

pub returns-in_err-array : goal.returns-in_err-array
returns-in_err-array c = rw c.from_residual-in_err-array.ensures (no_bracket c.args.word.now c.in_ok-text.text.now c.in_ok-text.ensures c.in_err-array.ensures)

pub returns-in_err-index : goal.returns-in_err-index
returns-in_err-index c =
    rw c.from_residual-in_err-index.ensures
    (no_end c.args.word.now c.in_ok-text.text.now c.in_ok-array.array.now c.in_ok-array.rest.now c.in_ok-text.ensures c.in_ok-array.ensures.0 c.in_ok-array.ensures.1 c.in_err-index.ensures)

pub returns-then-not-is_empty : goal.returns-then-not-is_empty
returns-then-not-is_empty c =
    more_behind c.args.word.now c.in_ok-text.text.now c.in_ok-array.array.now c.in_ok-array.rest.now c.in_ok-index.index.now c.in_ok-index.tail.now c.in_ok-text.ensures
    c.in_ok-array.ensures.0 c.in_ok-array.ensures.1 c.in_ok-index.ensures.0 c.in_ok-index.ensures.1
    (some_left c.in_ok-index.tail.now c.is_empty.result c.is_empty.ensures c.if-not-is_empty.true)

pub returns-in_err-number : goal.returns-in_err-number
returns-in_err-number c =
    rw c.from_residual-in_err-number.ensures
    (no_array c.args.word.now c.in_ok-text.text.now c.in_ok-array.array.now c.in_ok-array.rest.now c.in_ok-index.index.now c.in_ok-index.tail.now c.in_ok-text.ensures
    c.in_ok-array.ensures.0 c.in_ok-array.ensures.1 c.in_ok-index.ensures.0 c.in_ok-index.ensures.1 c.in_err-number.ensures)

pub returns-in_err-at : goal.returns-in_err-at
returns-in_err-at c =
    rw c.from_residual-in_err-at.ensures
    (no_index c.args.word.now c.in_ok-text.text.now c.in_ok-array.array.now c.in_ok-array.rest.now c.in_ok-index.index.now c.in_ok-index.tail.now c.in_ok-text.ensures
    c.in_ok-array.ensures.0 c.in_ok-array.ensures.1 c.in_ok-index.ensures.0 c.in_ok-index.ensures.1 c.in_err-at.ensures)

pub returns : goal.returns
returns c =
    whole_element c.args.word.now c.in_ok-text.text.now c.in_ok-array.array.now c.in_ok-array.rest.now c.in_ok-index.index.now c.in_ok-index.tail.now c.in_ok-number.number c.in_ok-at.at
    c.in_ok-text.ensures c.in_ok-array.ensures.1 c.in_ok-index.ensures.1 (none_left c.in_ok-index.tail.now c.is_empty.result c.is_empty.ensures c.if-not-is_empty.false)
    c.in_ok-number.ensures c.in_ok-at.ensures
