use Rattle.kb_report_text.specs.Blocks.{path_lines}
use Rattle.kb_path_words.proofs.TextLaws.{next_lines}
use Rattle.kb_report_text.proofs.report.write_paths.Goals as goal

pub loop-path-preserved : goal.loop-path-preserved
loop-path-preserved c =
    next_lines (path_lines c.args.world.now) c.args.paths.now c.loop-path.path-index c.path-item.result _ c.loop-path.text c.write_path.new.text c.loop-path-test.true c.path-item.is c.loop-path.invariant
    c.in_ok-write_path.ensures
