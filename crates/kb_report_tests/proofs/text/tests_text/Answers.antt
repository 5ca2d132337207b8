use Rattle.std.proofs.Common.{arith, rules}
use Rattle.kb_report_tests.specs.Tests.{IsCarried, literals_in, tests_of}
use Rattle.kb_report_tests.proofs.TestTexts.{none_behind, all_behind, first_path_more, first_holds, others_hold}
use Rattle.kb_report_tests.proofs.text.tests_text.Goals as goal

pub loop-rest-init : goal.loop-rest-init
loop-rest-init c =
    rw c.as_slice-rest.ensures (none_behind (literals_in c.args.world.now) (tests_of c.args.world.now c.args.report.now) c.new-text.result.items (search rules), c.requires.carried)

pub write_path_tests-requires-clause-carried : goal.write_path_tests-requires-clause-carried
write_path_tests-requires-clause-carried c =
    let each = c.loop-rest.invariant.1 in
    (each.0, first_holds (IsCarried c.args.world.now each.0) c.loop-rest.rest.now c.path-item.result c.in-len1-up.len_at_least c.path-item.is each.1)

pub loop-rest-preserved : goal.loop-rest-preserved
loop-rest-preserved c =
    let each = c.loop-rest.invariant.1 in (
      first_path_more (literals_in c.args.world.now) c.args.world.now c.args.report.now (tests_of c.args.world.now c.args.report.now) c.loop-rest.rest.now c.path-item.result
          c.loop-rest.text.items c.write_path_tests.new.text.items c.in-len1-up.len_at_least c.path-item.is c.loop-rest.invariant.0 c.in_ok-write_path_tests.ensures,
      (each.0, others_hold (IsCarried c.args.world.now each.0) c.loop-rest.rest.now c.in-len1-up.len_at_least each.1),
    )

pub returns : goal.returns
returns c =
    all_behind (literals_in c.args.world.now) c.args.world.now c.args.report.now (tests_of c.args.world.now c.args.report.now) c.loop-rest.rest.now c.loop-rest.text.items
    (omega (arith, c.in_default.len_below)) c.loop-rest.invariant.0
