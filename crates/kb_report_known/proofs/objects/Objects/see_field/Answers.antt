use Rattle.std.proofs.Common.{◌≡◌, true}
use Rattle.kb_names.specs.declared.types.ExactType.{ExactType}
use Rattle.kb_picture.specs.declared.picture.Length.{Length}
use Rattle.kb_report_known.proofs.CountLaws.{sees, sees_none}
use Rattle.kb_report_known.specs.Fields.{has_field_at}
use Rattle.kb_report_known.specs.Known.{IsShapeIn}
use Rattle.kb_report_known.specs.declared.known.Shape.TheVariants.{Fields}
use Rattle.kb_report_known.proofs.objects.Objects.see_field.Goals as goal

pub returns-in-Some : goal.returns-in-Some
returns-in-Some c =
    sees c.args.fields.now (λ (kind : ExactType) (length : Length). has_field_at c.args.fields.now kind c.args.field ≡ true) (IsShapeIn c.args.fields.now (Fields c.args.field)) c.args.object c.args.self.now c.see_slot.new.self
    c.shape.result c.with_field.result c.in-Some.shape c.see_slot.result c.shape.ensures c.in-Some.is c.with_field.ensures.shape c.with_field.ensures.names c.see_slot.ensures.seen c.see_slot.ensures.known

pub returns-in-None : goal.returns-in-None
returns-in-None c =
    sees_none c.args.fields.now (λ (kind : ExactType) (length : Length). has_field_at c.args.fields.now kind c.args.field ≡ true) (IsShapeIn c.args.fields.now (Fields c.args.field)) c.args.object c.args.self.now c.args.self.now
    c.shape.result c.with_field.result c.shape.ensures c.in-None.is c.with_field.ensures.shape
