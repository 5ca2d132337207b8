use Rattle.kb_picture.proofs.FoundLaws.{choice_found}
use Rattle.kb_picture.proofs.GrownPictures.{choice_formed}
use Rattle.kb_picture.proofs.GrownShapes.{choice_shape, choice_places, new_place}
use Rattle.kb_picture.proofs.GrownTypes.{choice_typed}
use Rattle.kb_picture.proofs.growth.pictures_grow.Goals as goal

pub returns : goal.returns
returns c = record {
  formed = choice_formed;
  found = λ world params picture slot choice unread first. choice_found world params picture slot unread first choice;
  types = λ world id picture slot choice typed unread for_slot. choice_typed world id picture slot typed unread choice for_slot;
  shape = choice_shape;
  places = choice_places;
  new = new_place;
}
