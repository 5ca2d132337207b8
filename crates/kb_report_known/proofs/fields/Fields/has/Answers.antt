use Rattle.std.proofs.Common.{◌≡◌, false, sym, subst, ◌∙◌}
use Rattle.kb_classes.specs.World.{World}
use Rattle.kb_report_known.proofs.FieldLaws.{below_of_name, is_not_there, is_there}
use Rattle.kb_report_known.specs.Fields.{is_below, is_there_below}
use Rattle.kb_report_known.proofs.fields.Fields.has.Goals as goal

pub returns-then-not-has_class : goal.returns-then-not-has_class
returns-then-not-has_class c =
    subst (λ (world : World). false ≡ is_there_below world c.args.class.0 c.args.field.class.0) c.self.view_is
    (is_not_there c.self.inside.world.now c.args.class.0 c.args.field.class.0 c.has_class.result c.has_class.ensures c.if-not-has_class.true)

pub returns : goal.returns
returns c =
    c.is_of.ensures
    ∙ subst (λ (world : World). is_below world c.name_of.result.now c.args.field.class.0 ≡ is_there_below world c.args.class.0 c.args.field.class.0) c.self.view_is
    (below_of_name c.self.inside.world.now c.name_of.ensures.linked c.args.class.0 c.args.field.class.0 c.name_of.result.now c.name_of.ensures.name
    ∙ sym (is_there c.self.inside.world.now c.args.class.0 c.args.field.class.0 c.has_class.result c.has_class.ensures c.if-not-has_class.false))
