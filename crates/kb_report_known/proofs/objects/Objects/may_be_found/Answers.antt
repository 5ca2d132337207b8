use Rattle.std.proofs.Common.{refl, sym, ◌∙◌}
use Rattle.std.specs.Option.{option_copied}
use Rattle.std.proofs.lemmas.Bool.{eqb-true}
use Rattle.kb_report_known.proofs.CountLaws.{all_found, found_all}
use Rattle.kb_report_known.specs.Counts.{known_at, missing_below}
use Rattle.kb_report_known.proofs.objects.Objects.may_be_found.Goals as goal

pub returns-then-are_found : goal.returns-then-are_found
returns-then-are_found c = (
  (λ told. all_found (option_copied c.args.fields) c.args.self.now (eqb-true (missing_below (known_at c.args.self.now) c.args.self.now.count) 0 (sym c.are_found.ensures ∙ c.if-are_found.true))),
  (λ enough. refl),
)

pub returns : goal.returns
returns c =
    found_all (option_copied c.args.fields) c.args.self.now (record { entries = c.self.inside.known.entries; count = c.self.inside.count; unseen = c.self.inside.unseen; waiting = c.self.inside.waiting }) c.of_arguments-count.result
    c.iter.result c.self.inside.missing c.pass_all.result c.self.view_is c.of_arguments-count.ensures c.iter.ensures.rest c.iter.ensures.ordered c.iter.ensures.found c.self.invariant (c.pass_all.ensures _)
