use Rattle.std.proofs.Common.{sym}
use Rattle.kb_resolution.proofs.KnownLaws.{classes_more}
use Rattle.kb_resolution.proofs.known.class_sought.Goals as goal

pub returns-in-Some-clause-told : goal.returns-in-Some-clause-told
returns-in-Some-clause-told c = λ texts spelled knows. knows c.args.text c.in-Some.told.now (sym c.in-Some.ensures.value) c.args.of.now spelled

pub returns-in-Some-clause-known : goal.returns-in-Some-clause-known
returns-in-Some-clause-known c = λ texts spelled knows. knows

pub returns-clause-told : goal.returns-clause-told
returns-clause-told c = λ texts spelled knows. c.class_of-told.ensures

pub returns-clause-known : goal.returns-clause-known
returns-clause-known c = λ texts spelled knows.
    classes_more c.args.linked.now texts c.args.classes.now c.insert.new.self c.args.text c.class_of-told.result c.args.of.now c.in_ok-insert.ensures.updates.0 knows spelled c.class_of-told.ensures
