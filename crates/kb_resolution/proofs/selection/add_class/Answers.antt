use Rattle.std.proofs.Common.{◌≡◌, ◌≤◌, List, Some, length, slice_get, refl, ap, arith}
use Rattle.std.proofs.lemmas.Option.{slice_get_read}
use Rattle.std.proofs.lemmas.Result.{on_ok_weaker}
use Rattle.kb_class.specs.declared.members.MethodInfo.{MethodInfo}
use Rattle.kb_resolution.specs.Tables.{first_of, selected_in}
use Rattle.kb_resolution.proofs.SelectionLaws.{adds_class, adds_nothing, first_fits}
use Rattle.kb_resolution.proofs.selection.add_class.Goals as goal

pub add_methods-requires : goal.add_methods-requires
add_methods-requires c =
    let world = c.args.linked.now in
    let firsts = c.args.firsts.now in
    let there : slice_get firsts c.args.class ≡ Some c.in-Some.first.now =
    slice_get_read firsts (length firsts) c.args.class c.in-Some.first.now refl c.in-Some.ensures.lookup.3.0 c.in-Some.ensures.lookup.1 in
    let first : c.in-Some.first.now ≡ first_of world c.args.class = c.requires.2.each c.args.class c.in-Some.first.now there in
    let many : length c.methods-methods.result.now ≡ length c.class_of.result.now.methods = ap (λ (ms : List MethodInfo). length ms) c.methods-methods.ensures in
    omega (arith, first, many, first_fits world c.args.class c.class_of.result.now c.class_of.ensures.there, c.requires.3)

pub returns-in-Some : goal.returns-in-Some
returns-in-Some c =
    let world = c.args.linked.now in
    let firsts = c.args.firsts.now in
    let there : slice_get firsts c.args.class ≡ Some c.in-Some.first.now =
    slice_get_read firsts (length firsts) c.args.class c.in-Some.first.now refl c.in-Some.ensures.lookup.3.0 c.in-Some.ensures.lookup.1 in
    let first : c.in-Some.first.now ≡ first_of world c.args.class = c.requires.2.each c.args.class c.in-Some.first.now there in
    on_ok_weaker c.add_methods.result
    (adds_class world c.requires.0 c.args.signatures.now c.requires.1 c.args.class c.class_of.result.now c.in-Some.first.now c.methods-methods.result.now (selected_in c.args.table.now)
    (selected_in c.add_methods.new.table) c.class_of.ensures.there first c.methods-methods.ensures)
    c.add_methods.ensures

pub returns-in-None : goal.returns-in-None
returns-in-None c =
    let past : length c.args.linked.now.classes ≤ c.args.class = omega (arith, c.in-None.ensures.lookup.3, c.requires.2.len) in
    adds_nothing c.args.linked.now c.requires.0 c.args.class (selected_in c.args.table.now) past
