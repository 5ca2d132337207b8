use Rattle.std.proofs.Common.{sym}
use Rattle.kb_resolution.proofs.KnownLaws.{left_out_more}
use Rattle.kb_resolution.proofs.known.is_left_out.Goals as goal

pub returns-in-Some-clause-told : goal.returns-in-Some-clause-told
returns-in-Some-clause-told c = λ texts spelled knows. knows c.args.text c.in-Some.told.now (sym c.in-Some.ensures.value) c.args.kind.now spelled

pub returns-in-Some-clause-known : goal.returns-in-Some-clause-known
returns-in-Some-clause-known c = λ texts spelled knows. knows

pub returns-clause-told : goal.returns-clause-told
returns-clause-told c = λ texts spelled knows. c.has_left_out-told.ensures

pub returns-clause-known : goal.returns-clause-known
returns-clause-known c = λ texts spelled knows.
    left_out_more texts c.args.left_out.now c.insert.new.self c.args.text c.has_left_out-told.result c.args.kind.now c.in_ok-insert.ensures.updates.0 knows spelled c.has_left_out-told.ensures
