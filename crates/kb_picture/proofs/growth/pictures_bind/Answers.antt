use Rattle.kb_picture.proofs.BoundPictures.{binding_formed, binding_found}
use Rattle.kb_picture.proofs.BoundShapes.{access_places, access_shape, alias_back, beyond_back, new_bound}
use Rattle.kb_picture.proofs.BoundTypes.{binding_typed}
use Rattle.kb_picture.proofs.growth.pictures_bind.Goals as goal

pub returns : goal.returns
returns c = record {
  formed = binding_formed;
  found = binding_found;
  types = λ world id picture number origin choice typed is_open for_loc. binding_typed world id picture number origin typed is_open choice for_loc;
  shape = λ world params picture number origin choice input is_open. access_shape world params picture number origin input is_open choice;
  places = λ world params picture number origin choice input is_open before after. access_places world params picture number origin input is_open choice before after;
  alias = λ world params picture number object place origin input is_open before after here. alias_back world params picture number origin input is_open before place here object after;
  beyond = λ world params picture number place origin input is_open before after here. beyond_back world params picture number origin input is_open before place here after;
  new = λ world params picture number place origin kind len input is_open before after at. new_bound world params picture number place origin kind len input is_open before after at;
}
