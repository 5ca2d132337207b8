use Rattle.kb_path_words.proofs.ReadLaws.{no_space, no_op, no_operands, whole_term}
use Rattle.kb_path_words.proofs.reading.read_term.Goals as goal

pub returns-in_err-name : goal.returns-in_err-name
returns-in_err-name c = rw c.from_residual.ensures (no_space c.args.text.now c.in_err-name.ensures)

pub returns-in_err-op : goal.returns-in_err-op
returns-in_err-op c =
    rw c.from_residual-in_err-op.ensures (no_op c.args.text.now c.in_ok-name.name.now c.in_ok-name.operands.now c.in_ok-name.ensures.0 c.in_ok-name.ensures.1 c.in_err-op.ensures)

pub returns-in_err-left : goal.returns-in_err-left
returns-in_err-left c =
    rw c.from_residual-in_err-left.ensures (no_operands c.args.text.now c.in_ok-name.name.now c.in_ok-name.operands.now c.in_ok-name.ensures.0 c.in_ok-name.ensures.1 c.in_err-left.ensures)

pub returns : goal.returns
returns c =
    whole_term c.args.text.now c.in_ok-name.name.now c.in_ok-name.operands.now c.in_ok-op.op c.in_ok-left.left c.in_ok-left.right c.in_ok-name.ensures.1 c.in_ok-op.ensures c.in_ok-left.ensures
