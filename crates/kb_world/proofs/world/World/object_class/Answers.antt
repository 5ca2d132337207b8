use Rattle.std.proofs.Common.{◌≡◌, ap, ◌∙◌}
use Rattle.std.specs.Option.{option_map}
use Rattle.kb_names.specs.declared.types.ExactType.TheVariants as exact
use Rattle.kb_names.specs.declared.types.JType.TheVariants as types
use Rattle.kb_class.specs.declared.ids.ClassId.{ClassId}
use Rattle.kb_class.specs.Platform.{object_name}
use Rattle.kb_classes.specs.World.{World, number_in}
use Rattle.kb_world.proofs.Inside.{class_told}
use Rattle.kb_world.proofs.world.World.object_class.Goals as goal

pub returns-clause-number : goal.returns-clause-number
returns-clause-number c =
    let sought : option_map (λ (id : ClassId). id.0) c.class_of_text.result ≡ number_in c.linked.result.now.classes object_name = c.class_of_text.ensures in
    sought ∙ ap (λ (w : World). number_in w.classes object_name) c.linked.ensures

pub returns-clause-inside : goal.returns-clause-inside
returns-clause-inside c = class_told c.args.self.now (exact.Array types.Bool) c.class_of_text.result (returns-clause-number c)
