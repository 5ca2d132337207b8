use Rattle.std.proofs.Common.{ap, ◌∙◌}
use Rattle.kb_asm_pool.specs.Items.{Entries}
use Rattle.kb_asm_pool.proofs.ItemLaws.{all_kept_within, all_kept_said}
use Rattle.kb_asm_pool.proofs.items.Items.place.Goals as goal

pub invariant_of-self : goal.invariant_of-self
invariant_of-self c = (
  c.place.ensures.distinct,
  all_kept_within c.self.inside.table c.place.new.self c.place.ensures.keeps c.self.inside.set.keys c.self.invariant.1,
)

pub returns-clause-says : goal.returns-clause-says
returns-clause-says c =
    all_kept_said c.self.inside.table c.place.new.self c.place.ensures.keeps c.self.inside.set.keys c.self.invariant.1
    ∙ ap (λ (e : Entries). e.says) c.self.view_is
