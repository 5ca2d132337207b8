use Rattle.std.proofs.Common.{refl, sym, ◌∙◌}
use Rattle.std.proofs.lemmas.Option.{none-some}
use Rattle.kb_report_tests.proofs.TestLaws.{carried_all, carried_places, parts_at, test_is}
use Rattle.kb_report_tests.proofs.text.test_of.Goals as goal

pub unreachable-requires : goal.unreachable-requires
unreachable-requires c =
    let found = carried_places c.args.world.now c.requires.carried.0 c.args.path.now c.args.ended.now c.requires.leaf c.requires.carried.1 in
    none-some found.0 (sym c.in_default.is ∙ c.in_ok-places.ensures ∙ found.1)

pub test_with-requires-clause-room : goal.test_with-requires-clause-room
test_with-requires-clause-room c =
    let states = carried_all c.final_heaps_are_whole.ensures c.args.world.now c.requires.carried.0 c.args.path.now c.args.ended.now c.requires.leaf c.requires.carried.1 in
    (parts_at c.args.world.now c.args.path.now c.args.ended.now c.in_ok-ending.heap c.args.ended.now.input.heap.objects c.literals.result states
    (c.in_ok-ending.ensures.heap c.args.ended.now c.requires.leaf) refl c.literals.ensures).room

pub test_with-requires-clause-parts : goal.test_with-requires-clause-parts
test_with-requires-clause-parts c =
    let states = carried_all c.final_heaps_are_whole.ensures c.args.world.now c.requires.carried.0 c.args.path.now c.args.ended.now c.requires.leaf c.requires.carried.1 in
    (parts_at c.args.world.now c.args.path.now c.args.ended.now c.in_ok-ending.heap c.args.ended.now.input.heap.objects c.literals.result states
    (c.in_ok-ending.ensures.heap c.args.ended.now c.requires.leaf) refl c.literals.ensures).parts

pub returns-clause-is : goal.returns-clause-is
returns-clause-is c =
    let states = carried_all c.final_heaps_are_whole.ensures c.args.world.now c.requires.carried.0 c.args.path.now c.args.ended.now c.requires.leaf c.requires.carried.1 in
    rw c.in_ok-test.ensures
    (test_is c.args.world.now c.args.report.now c.args.path.now c.args.ended.now c.args.report.now.target c.args.ended.now.input c.in_ok-ending.ending c.in_ok-ending.heap
    c.in_ok-ending.heap refl refl (c.in_ok-ending.ensures.ending c.args.ended.now c.requires.leaf)
    (c.in_ok-ending.ensures.heap c.args.ended.now c.requires.leaf) refl states c.requires.target c.requires.bounds c.tell_numbers.ensures)

pub returns-clause-test : goal.returns-clause-test
returns-clause-test c =
    rw (c.in_ok-test.ensures, c.in_ok-ending.ensures.ending c.args.ended.now c.requires.leaf, c.in_ok-ending.ensures.heap c.args.ended.now c.requires.leaf) refl
