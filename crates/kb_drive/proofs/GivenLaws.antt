-- That an input has a picture's shape at one pair of lists of places.
use Rattle.kb_picture.specs.Laws.{OnePlaces}
use Rattle.kb_picture.proofs.ShapeLaws.{same_places}

pub one_places : OnePlaces
one_places picture input one other = same_places picture input other.places other.placed one
