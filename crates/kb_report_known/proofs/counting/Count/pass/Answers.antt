use Rattle.std.proofs.Common.{ℕ, ◌+◌, ◌-◌, ◌^◌, min, refl, ap, ◌∙◌}
use Rattle.std.specs.Prelude.{nat_le}
use Rattle.std.specs.Option.{option_copied}
use Rattle.kb_report_known.proofs.CountLaws.{passes_one}
use Rattle.kb_report_known.proofs.counting.Count.pass.Goals as goal

pub returns : goal.returns
returns c objects is before range =
    passes_one (option_copied c.args.fields) objects c.args.self.now (record { next = c.saturating_add-next.result; missing = c.saturating_add-missing.result; ways = c.saturating_add-ways.result }) c.args.known
    (nat_le c.saturating_add-missing.result c.args.self.now.ways) is before range c.saturating_add-next.ensures
    (c.saturating_add-missing.ensures ∙ ap (λ (n : ℕ). min (c.args.self.now.missing + n) (2 ^ 64 - 1)) c.wanted.ensures)
    (c.saturating_add-ways.ensures ∙ ap (λ (n : ℕ). min (c.args.self.now.ways + n) (2 ^ 64 - 1)) c.ways.ensures) refl
