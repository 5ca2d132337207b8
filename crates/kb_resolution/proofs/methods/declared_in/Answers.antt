use Rattle.std.proofs.Common.{◌≤◌, length, sym, ◌∙◌, arith}
use Rattle.kb_link.proofs.ByNumbers.{declared_by_pair}
use Rattle.kb_resolution.proofs.MethodLaws.{declared_past}
use Rattle.kb_resolution.proofs.methods.declared_in.Goals as goal

pub returns-then-number-class_count : goal.returns-then-number-class_count
returns-then-number-class_count c =
    let past : length c.args.linked.now.classes ≤ c.args.number = omega (arith, c.if-number-class_count.true, c.class_count.ensures) in
    sym (declared_past c.args.linked.now c.requires.linked c.args.wanted.name.now c.args.wanted.kind.now c.args.number past)

pub returns : goal.returns
returns c =
    c.method.ensures
    ∙ declared_by_pair c.args.linked.now.classes c.args.numbers.now c.requires.numbered c.requires.linked.loaded.methods c.args.number c.args.wanted.pair c.args.wanted.name.now c.args.wanted.kind.now c.requires.stands
