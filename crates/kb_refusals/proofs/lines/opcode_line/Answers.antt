use Rattle.std.proofs.Common.{[], ◌∷◌, append_assoc}
use Rattle.kb_refusals.specs.Lines.{hexadecimal, opcode_front, opcode_line}
use Rattle.kb_refusals.proofs.lines.opcode_line.Goals as goal

pub returns : goal.returns
unfolding opcode_line
returns c =
    rw (c.in_ok-push.ensures.items, c.in_ok-write_hexadecimal.ensures, c.in_ok-text.ensures)
    (append_assoc (opcode_front c.args.file c.args.method c.args.at) (hexadecimal c.args.op) (10 ∷ []))
