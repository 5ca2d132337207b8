use Rattle.std.proofs.Common.{rules, ◌≡◌, ◌+◌, ◌^◌, ◌<◌, ◌≤◌, length, sym, ◌∙◌, arith}
use Rattle.std.proofs.lemmas.Bool.{ltb-false, ltb-true}
use Rattle.kb_report_known.proofs.TableLaws.{few_all, few_step, table_all, table_step}
use Rattle.kb_report_known.specs.Tables.{most_in}
use Rattle.kb_report_known.proofs.fields.most_of.Goals as goal

pub loop-slots-preserved : goal.loop-slots-preserved
loop-slots-preserved c =
    let next : c.in-Some.next ≡ c.loop-slots.number + 1 = search rules in
    let inside : c.loop-slots.number < length c.args.world.now.classes = ltb-true c.loop-slots.number (length c.args.world.now.classes) (sym c.has_class.ensures ∙ c.loop-slots-test.true) in
    let small : length c.fields_of-slots.result.now ≤ 2 ^ 32 = search rules in (
      table_step c.args.world.now c.loop-slots.number c.in-Some.next c.fields_of-slots.result.now (most_in c.loop-slots.most) (most_in c.note_counts.new.most) next c.fields_of-slots.ensures c.loop-slots.invariant.0
          c.in_ok-note_counts.ensures,
      omega (arith, next, inside),
      few_step c.args.world.now c.loop-slots.number c.in-Some.next c.fields_of-slots.result.now next c.fields_of-slots.ensures small c.loop-slots.invariant.2,
    )

pub returns-clause-most : goal.returns-clause-most
returns-clause-most c =
    let past : length c.args.world.now.classes ≤ c.loop-slots.number = ltb-false c.loop-slots.number (length c.args.world.now.classes) (sym c.has_class.ensures ∙ c.loop-slots-test.false) in
    table_all c.args.world.now c.loop-slots.number (length c.args.world.now.classes) (most_in c.loop-slots.most) past c.loop-slots.invariant.0 c.loop-slots.invariant.1

pub returns-clause-few : goal.returns-clause-few
returns-clause-few c =
    let past : length c.args.world.now.classes ≤ c.loop-slots.number = ltb-false c.loop-slots.number (length c.args.world.now.classes) (sym c.has_class.ensures ∙ c.loop-slots-test.false) in
    few_all c.args.world.now c.loop-slots.number (length c.args.world.now.classes) past c.loop-slots.invariant.2
