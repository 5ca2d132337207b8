use Rattle.std.proofs.Common.{refl, sym, ap, ◌∙◌}
use Rattle.kb_report_known.proofs.CountLaws.{kept_by_find}
use Rattle.kb_report_known.specs.declared.known.Known.{Known}
use Rattle.kb_report_known.proofs.objects.Objects.find.Goals as goal

pub invariant_of-self-2 : goal.invariant_of-self-2
invariant_of-self-2 c =
    kept_by_find c.args.self.now (record { entries = c.self.inside.known.entries; count = c.self.inside.count; unseen = c.self.inside.unseen; waiting = c.self.inside.waiting }) c.self.inside.missing c.args.number
    (record c.known-known.result { is_found = _ }) c.insert.new.self.entries (c.self.view_is ∙ c.name.ensures) c.self.invariant c.in_ok-insert.ensures.updates.0 c.saturating_sub-self-inside.result
    (ap (λ (k : Known). k.is_found) (sym c.known-known.ensures) ∙ c.if-known.false) refl c.saturating_sub-self-inside.ensures
