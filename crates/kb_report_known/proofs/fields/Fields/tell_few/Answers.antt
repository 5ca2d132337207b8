use Rattle.std.proofs.Common.{ℕ, List, length, ◌^◌, ◌≤◌, subst}
use Rattle.kb_classes.specs.World.{World}
use Rattle.kb_semantics.specs.Values.{slots_of_class}
use Rattle.kb_report_known.proofs.FieldLaws.{few_of_names}
use Rattle.kb_report_known.proofs.fields.Fields.tell_few.Goals as goal

pub returns : goal.returns
returns c = subst (λ (world : World). (name : List ℕ) → length (slots_of_class world name) ≤ 2 ^ 32) c.self.view_is (few_of_names c.self.inside.world.now c.self.invariant.2)
