use Rattle.kb_report_known.proofs.CountLaws.{kept_named}
use Rattle.kb_report_known.specs.Counts.{found_among}
use Rattle.kb_report_known.proofs.objects.Objects.name.Goals as goal

pub invariant_of-self : goal.invariant_of-self
invariant_of-self c =
    kept_named (found_among c.self.inside.known.entries) c.self.inside.count c.self.inside.missing c.args.number c.from-count.result c.saturating_add-self-inside.result c.self.invariant c.from-count.ensures c.ranges.number.fits
    c.if-count-self.false c.saturating_add-self-inside.ensures
