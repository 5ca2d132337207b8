use Rattle.std.proofs.Common.{◌<◌, length, sym, arith}
use Rattle.kb_classes.proofs.Named.{number_inside}
use Rattle.kb_universe.proofs.MarkLaws.{mark_told}
use Rattle.kb_universe.proofs.marking.mark_class.Goals as goal

pub index_mut-requires : goal.index_mut-requires
index_mut-requires c =
    let inside : c.in-Some.class.0 < length c.args.linked.now.classes = number_inside c.args.linked.now.classes c.in-Class.name c.in-Some.class.0 (sym c.in-Some.ensures) in
    omega (arith, inside, c.requires)

pub returns-clause-marks : goal.returns-clause-marks
returns-clause-marks c =
    let inside : c.in-Some.class.0 < length c.args.linked.now.classes = number_inside c.args.linked.now.classes c.in-Class.name c.in-Some.class.0 (sym c.in-Some.ensures) in
    mark_told c.args.linked.now.classes c.args.own.now.items c.in-Class.name c.in-Some.class.0 c.args.of.now c.in-Some.ensures c.in-Class.is (omega (arith, inside, c.requires))
