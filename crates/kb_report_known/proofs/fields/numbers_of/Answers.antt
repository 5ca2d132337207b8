use Rattle.std.proofs.Common.{rules, ◌≡◌, ◌+◌, ◌<◌, length, sym, ◌∙◌}
use Rattle.std.proofs.lemmas.Bool.{ltb-true}
use Rattle.kb_report_known.proofs.TableLaws.{fields_step}
use Rattle.kb_report_known.specs.Tables.{find_in}
use Rattle.kb_report_known.proofs.fields.numbers_of.Goals as goal

pub loop-alloc-preserved : goal.loop-alloc-preserved
loop-alloc-preserved c =
    let next : c.in-Some.next ≡ c.loop-alloc.number + 1 = search rules in
    let inside : c.loop-alloc.number < length c.args.world.now.classes = ltb-true c.loop-alloc.number (length c.args.world.now.classes) (sym c.has_class.ensures ∙ c.loop-alloc-test.true) in
    fields_step c.args.world.now c.loop-alloc.number c.in-Some.next c.in_ok-named.named c.fields_of.result.now (find_in c.loop-alloc.numbers) (find_in c.add_fields.new.numbers) inside next
    c.in_ok-named.ensures c.fields_of.ensures c.loop-alloc.invariant c.in_ok-add_fields.ensures
