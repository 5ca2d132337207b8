use Rattle.std.proofs.Common.{◌<◌, ◌≤◌, Some, None, length, sym, arith}
use Rattle.kb_resolution.proofs.FieldLaws.{declared_within, undeclared}
use Rattle.kb_resolution.proofs.fields.declaring.Goals as goal

pub returns-then-number-class_count : goal.returns-then-number-class_count
returns-then-number-class_count c =
    let past : length c.args.linked.now.classes ≤ c.args.number = omega (arith, c.if-number-class_count.true, c.class_count.ensures) in
    sym (undeclared c.args.linked.now c.args.wanted.name.now c.args.wanted.kind.now c.args.number past)

pub returns-in-Some : goal.returns-in-Some
returns-in-Some c =
    let inside : c.args.number < length c.args.linked.now.classes = omega (arith, c.if-number-class_count.false, c.class_count.ensures) in
    declared_within c.args.linked.now c.args.numbers.now c.requires.0 c.args.number inside c.args.wanted.pair c.args.wanted.name.now c.args.wanted.kind.now c.requires.1 (Some c.in-Some.field-0) c.in-Some.ensures

pub returns-in-None : goal.returns-in-None
returns-in-None c =
    let inside : c.args.number < length c.args.linked.now.classes = omega (arith, c.if-number-class_count.false, c.class_count.ensures) in
    declared_within c.args.linked.now c.args.numbers.now c.requires.0 c.args.number inside c.args.wanted.pair c.args.wanted.name.now c.args.wanted.kind.now c.requires.1 None c.in-None.ensures
