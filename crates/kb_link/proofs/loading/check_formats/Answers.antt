use Rattle.std.proofs.Common.{None, subst}
use Rattle.kb_format.specs.Faults.{Tells}
use Rattle.kb_link.specs.Links.{KeepsFormat}
use Rattle.kb_classes.proofs.Walks.{all_next}
use Rattle.kb_link.proofs.loading.check_formats.Goals as goal

pub loop-file-preserved : goal.loop-file-preserved
loop-file-preserved c =
    all_next KeepsFormat c.args.given.now c.loop-file.file c.index-given-file.result c.loop-file-test.true c.index-given-file.is c.loop-file.invariant
    (subst (Tells c.index-given-file.result.file) c.in-Ok-None.field-0-is c.in-Ok-None.ensures)
