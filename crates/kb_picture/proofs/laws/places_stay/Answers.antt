use Rattle.kb_picture.proofs.PlaceLaws.{places_seen, places_standing, places_object, places_loc}
use Rattle.kb_picture.proofs.laws.places_stay.Goals as goal

pub returns : goal.returns
returns c = record { seen = places_seen; standing = places_standing; object = places_object; loc = places_loc }
