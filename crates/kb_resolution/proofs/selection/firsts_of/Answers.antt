use Rattle.std.proofs.Common.{◌≡◌, ◌+◌, ℕ, List, length, ap, arith}
use Rattle.kb_class.specs.declared.members.MethodInfo.{MethodInfo}
use Rattle.kb_resolution.specs.Tables.{first_of}
use Rattle.kb_resolution.proofs.RowLaws.{one_more_there}
use Rattle.kb_resolution.proofs.SelectionLaws.{first_fits, first_next}
use Rattle.kb_resolution.proofs.selection.firsts_of.Goals as goal

pub number_behind-first-requires : goal.number_behind-first-requires
number_behind-first-requires c =
    let many : length c.methods.result.now ≡ length c.class_of.result.now.methods = ap (λ (ms : List MethodInfo). length ms) c.methods.ensures in
    omega (arith, c.loop-number.invariant.2, many, first_fits c.args.linked.now c.loop-number.number c.class_of.result.now c.class_of.ensures.there, c.requires)

pub loop-number-preserved : goal.loop-number-preserved
loop-number-preserved c =
    let world = c.args.linked.now in
    let more =
    one_more_there (λ (class first : ℕ). first ≡ first_of world class) c.loop-number.firsts.items c.push.new.self.items c.loop-number.first c.loop-number.number c.in_ok-push.ensures.items
    c.loop-number.invariant.0 c.loop-number.invariant.1 c.loop-number.invariant.2 in
    let many : length c.methods.result.now ≡ length c.class_of.result.now.methods = ap (λ (ms : List MethodInfo). length ms) c.methods.ensures in
    let next : c.number_behind-first.result ≡ first_of world (c.loop-number.number + 1) =
    omega (arith, c.number_behind-first.ensures, c.loop-number.invariant.2, many, first_next world c.loop-number.number c.class_of.result.now c.class_of.ensures.there) in
    (more.0, more.1, next)
