use Rattle.kb_picture.proofs.FoundLaws.{int_found}
use Rattle.kb_picture.proofs.GrownPictures.{int_formed}
use Rattle.kb_picture.proofs.GrownShapes.{int_shape, int_places}
use Rattle.kb_picture.proofs.GrownTypes.{int_typed}
use Rattle.kb_picture.proofs.growth.pictures_grow_by_ints.Goals as goal

pub returns : goal.returns
returns c = record {
  formed = int_formed;
  found = λ world params picture slot unread first. int_found world params picture slot unread first;
  types = λ world id picture slot typed unread holds. int_typed world id picture slot typed unread holds;
  shape = int_shape;
  places = int_places;
}
