use Rattle.kb_picture.proofs.EndingLaws.{whole_heap}
use Rattle.kb_picture.proofs.laws.final_heaps_are_whole.Goals as goal

pub returns : goal.returns
returns c = whole_heap
