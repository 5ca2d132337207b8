use Rattle.std.proofs.Common.{pos, ◌+ℤ◌, ◌-ℤ◌, ◌^◌, nat_le, arith}
use Rattle.std.specs.Prelude.{int_lt}
use Rattle.std.proofs.lemmas.Bool.{and_parts}
use Rattle.std.proofs.lemmas.Int.{ints}
use Rattle.kb_writer.proofs.switch_writer.highest.Goals as goal

pub returns : goal.returns
returns c =
    let b = and_parts (nat_le 1 c.args.count) (int_lt (c.args.low +ℤ pos c.args.count -ℤ pos 1) (pos (2 ^ 31))) c.requires in
    grind (arith, ints, c.ranges.low, b.0, b.1, c.from.ensures)
