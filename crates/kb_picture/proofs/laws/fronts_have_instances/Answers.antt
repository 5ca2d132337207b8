use Rattle.kb_picture.proofs.InstanceLaws.{instance_front, short_instance}
use Rattle.kb_picture.proofs.laws.fronts_have_instances.Goals as goal

pub returns : goal.returns
returns c = record { front = instance_front; short = short_instance }
