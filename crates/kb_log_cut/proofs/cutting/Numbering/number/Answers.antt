use Rattle.std.proofs.Common.{◌≡◌, ◌∙◌, ◌+◌, ◌-◌, ◌<◌, ◌≤◌, ap, length, get_or, arith}
use Rattle.kb_log_cut.specs.Cutting.{Marking, number_among}
use Rattle.kb_log_cut.proofs.CuttingLaws.{numbers_length, number_read, number_read_past}
use Rattle.kb_log_cut.proofs.cutting.Numbering.number.Goals as goal

pub index-requires : goal.index-requires
index-requires c =
    let m : Marking = record { first = c.self.inside.first; marks = c.self.inside.marks.items } in
    let size : length c.self.inside.numbers.items ≡ length c.self.inside.marks.items + 1 = ap length c.self.invariant ∙ numbers_length m (length c.self.inside.marks.items + 1) in
    let below : c.args.number - c.self.inside.first < length c.self.inside.marks.items = omega (arith, c.if-entry-len.true, c.len.ensures) in
    let inside : c.args.number - c.self.inside.first < length c.self.inside.numbers.items = omega (arith, below, size) in
    omega (arith, inside)

pub returns-then-entry-len : goal.returns-then-entry-len
returns-then-entry-len c =
    let m : Marking = record { first = c.self.inside.first; marks = c.self.inside.marks.items } in
    let le : c.self.inside.first ≤ c.args.number = omega (arith, c.if-number-self.false) in
    let below : c.args.number - c.self.inside.first < length c.self.inside.marks.items = omega (arith, c.if-entry-len.true, c.len.ensures) in
    number_read m c.self.inside.numbers.items c.args.number c.index.result.now c.self.invariant le below c.index.ensures
    ∙ ap (λ z. number_among z c.args.number) c.self.view_is

pub index-requires-2 : goal.index-requires-2
index-requires-2 c =
    let m : Marking = record { first = c.self.inside.first; marks = c.self.inside.marks.items } in
    let size : length c.self.inside.numbers.items ≡ length c.self.inside.marks.items + 1 = ap length c.self.invariant ∙ numbers_length m (length c.self.inside.marks.items + 1) in
    let place : c.len-2.result ≡ length c.self.inside.marks.items = omega (arith, c.len-2.ensures) in
    let inside : c.len-2.result < length c.self.inside.numbers.items = omega (arith, place, size) in
    omega (arith, inside)

pub returns : goal.returns
returns c =
    let m : Marking = record { first = c.self.inside.first; marks = c.self.inside.marks.items } in
    let le : c.self.inside.first ≤ c.args.number = omega (arith, c.if-number-self.false) in
    let past : length c.self.inside.marks.items ≤ c.args.number - c.self.inside.first = omega (arith, c.if-entry-len.false, c.len.ensures) in
    let place : c.len-2.result ≡ length c.self.inside.marks.items = omega (arith, c.len-2.ensures) in
    number_read_past m c.self.inside.numbers.items c.args.number c.index-2.result.now c.self.invariant le past
    (c.index-2.ensures ∙ ap (λ k. get_or c.self.inside.numbers.items k c.index-2.result.now) place)
    ∙ ap (λ z. number_among z c.args.number) c.self.view_is
