use Rattle.kb_path_words.proofs.ReadLaws.{no_left, no_right, no_operand, both_operands, one_operand}
use Rattle.kb_path_words.proofs.reading.read_operands.Goals as goal

pub returns-in_err-first : goal.returns-in_err-first
returns-in_err-first c =
    rw c.from_residual-in_err-first.ensures (no_left c.args.text.now c.in-Some.left.now c.in-Some.right.now c.in-Some.ensures.0 c.in-Some.ensures.1 c.in_err-first.ensures)

pub returns-in_err-second : goal.returns-in_err-second
returns-in_err-second c =
    rw c.from_residual-in_err-second.ensures (no_right c.args.text.now c.in-Some.left.now c.in-Some.right.now c.in-Some.ensures.0 c.in-Some.ensures.1 c.in_err-second.ensures)

pub returns : goal.returns
returns c = both_operands c.args.text.now c.in-Some.left.now c.in-Some.right.now c.in_ok-first.first c.in_ok-second.second c.in-Some.ensures.1 c.in_ok-first.ensures c.in_ok-second.ensures

pub returns-in_default : goal.returns-in_default
returns-in_default c = one_operand c.args.text.now c.in_ok-read_operand.field-0 c.in_ok-read_operand.ensures

pub returns-in_err-read_operand : goal.returns-in_err-read_operand
returns-in_err-read_operand c = rw c.from_residual.ensures (no_operand c.args.text.now c.in_default.ensures c.in_err-read_operand.ensures)
