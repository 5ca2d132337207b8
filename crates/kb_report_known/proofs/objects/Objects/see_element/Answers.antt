use Rattle.kb_names.specs.declared.types.ExactType.{ExactType}
use Rattle.kb_picture.specs.WellFormed.{HasElement}
use Rattle.kb_picture.specs.declared.picture.Length.{Length}
use Rattle.kb_report_known.proofs.CountLaws.{sees, sees_none}
use Rattle.kb_report_known.proofs.objects.Objects.see_element.Goals as goal

pub returns-in-Some : goal.returns-in-Some
returns-in-Some c world =
    sees world (λ (kind : ExactType) (length : Length). HasElement length c.args.index) (Unit {0}) c.args.array c.args.self.now c.see_slot.new.self c.shape.result c.with_element.result c.in-Some.shape c.see_slot.result
    c.shape.ensures c.in-Some.is (c.with_element.ensures.shape world) (λ named. c.with_element.ensures.names world) c.see_slot.ensures.seen c.see_slot.ensures.known

pub returns-in-None : goal.returns-in-None
returns-in-None c world =
    sees_none world (λ (kind : ExactType) (length : Length). HasElement length c.args.index) (Unit {0}) c.args.array c.args.self.now c.args.self.now c.shape.result c.with_element.result c.shape.ensures c.in-None.is
    (c.with_element.ensures.shape world)
