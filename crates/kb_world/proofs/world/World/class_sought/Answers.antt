use Rattle.std.proofs.Common.{◌≡◌, List, ℕ, sym, ap, ◌∙◌}
use Rattle.std.specs.Option.{option_map}
use Rattle.kb_names.specs.declared.types.ExactType.{ExactType}
use Rattle.kb_class.specs.declared.ids.ClassId.{ClassId}
use Rattle.kb_classes.specs.World.{World, number_in}
use Rattle.kb_resolution.specs.Lookup.{class_of}
use Rattle.kb_world.proofs.Inside.{class_told}
use Rattle.kb_world.proofs.world.World.class_sought.Goals as goal

pub returns-in-Class-clause-inside : goal.returns-in-Class-clause-inside
returns-in-Class-clause-inside c =
    let named : option_map (λ (id : ClassId). id.0) c.class_of_text.result ≡ class_of c.args.self.now c.args.of.now =
    c.class_of_text.ensures ∙ ap (λ (w : World). number_in w.classes c.as_slice.result.now) c.linked.ensures ∙ ap (λ (n : List ℕ). number_in c.args.self.now.classes n) c.as_slice.ensures.same
    ∙ ap (λ (t : ExactType). class_of c.args.self.now t) (sym c.in-Class.is) in
    class_told c.args.self.now c.args.of.now c.class_of_text.result named
