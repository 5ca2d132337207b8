use Rattle.std.proofs.Common.{ℕ, ◌∷◌, sym, ap, ◌∙◌}
use Rattle.std.specs.Option.{option_copied}
use Rattle.kb_report_known.proofs.CountLaws.{no_entry, one_entry, stops_before, stops_here}
use Rattle.kb_report_known.proofs.objects.pass_all.Goals as goal

pub loop-object-preserved : goal.loop-object-preserved
loop-object-preserved c objects same range all low counts =
    let before = c.loop-object.invariant objects same range all low counts in
    one_entry (option_copied c.args.fields) objects c.args.number c.loop-object.count c.pass_unnamed.new.self c.pass.new.self c.from.result c.in-Some.known.now c.loop-object.rest c.next.new.self
    c.pass_unnamed.result c.pass.result (c.in-Some.ensures.steps ∙ ap (λ (n : ℕ). (n, c.in-Some.known.now) ∷ c.next.new.self) (sym c.from.ensures)) c.if-not-pass_unnamed.false c.if-not-pass.false range before.0 before.2 (c.pass_unnamed.ensures objects) (c.pass.ensures objects)

pub returns-then-not-pass_unnamed : goal.returns-then-not-pass_unnamed
returns-then-not-pass_unnamed c objects same range all low counts =
    let before = c.loop-object.invariant objects same range all low counts in
    stops_before (option_copied c.args.fields) objects c.args.number c.loop-object.count c.pass_unnamed.new.self c.pass_unnamed.new.self c.from.result c.in-Some.known.now c.loop-object.rest c.next.new.self
    c.pass_unnamed.result (c.in-Some.ensures.steps ∙ ap (λ (n : ℕ). (n, c.in-Some.known.now) ∷ c.next.new.self) (sym c.from.ensures)) c.if-not-pass_unnamed.true same range before.0 before.2 (c.pass_unnamed.ensures objects)

pub returns-then-not-pass : goal.returns-then-not-pass
returns-then-not-pass c objects same range all low counts =
    let before = c.loop-object.invariant objects same range all low counts in
    stops_here (option_copied c.args.fields) objects c.args.number c.loop-object.count c.pass_unnamed.new.self c.pass.new.self c.from.result c.in-Some.known.now c.loop-object.rest c.next.new.self
    c.pass_unnamed.result c.pass.result (c.in-Some.ensures.steps ∙ ap (λ (n : ℕ). (n, c.in-Some.known.now) ∷ c.next.new.self) (sym c.from.ensures)) c.if-not-pass_unnamed.false c.if-not-pass.true same range before.0 before.2 (c.pass_unnamed.ensures objects) (c.pass.ensures objects)

pub returns : goal.returns
returns c objects same range all low counts =
    let before = c.loop-object.invariant objects same range all low counts in
    no_entry (option_copied c.args.fields) objects c.args.number c.loop-object.count c.pass_unnamed-2.new.self c.loop-object.rest c.pass_unnamed-2.result c.in_default.ensures.steps.0 same range before.0 before.1 before.2
    (c.pass_unnamed-2.ensures objects)
