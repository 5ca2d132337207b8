use Rattle.std.proofs.Common.{rules, w32, w64, SFits}
use Rattle.std.proofs.lemmas.Int.{to_z-of_z}
use Rattle.kb_code.proofs.Switches.{table_is_read}
use Rattle.kb_code.proofs.reader.Reader.table_switch.Goals as goal

pub returns : goal.returns
returns c =
    let low : SFits w32 c.in_ok-ends.ends.0 = search rules in
    let default : SFits w64 c.in_ok-default.default = search rules in
    rw (to_z-of_z w32 c.in_ok-ends.ends.0 low, to_z-of_z w64 c.in_ok-default.default default)
    (table_is_read c.args.from c.count_of.result c.args.self.now c.padding.new.self c.far.new.self c.bounds.new.self c.targets.new.self c.in_ok-padding.field-0.now
    c.in_ok-default.default c.in_ok-ends.ends c.in_ok-targets.targets c.in_ok-padding.ensures c.in_ok-default.ensures c.in_ok-ends.ensures c.count_of.ensures c.in_ok-targets.ensures)
