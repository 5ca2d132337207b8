use Rattle.kb_drive.proofs.HeapLaws.{at_references, goes_on_reached}
use Rattle.kb_drive.proofs.HeapMethodLaws.{heap_methods_begin}
use Rattle.kb_drive.proofs.IntsStay.{ints_keep}
use Rattle.kb_drive.proofs.laws.heap_methods_stay.Goals as goal

pub returns-clause-begins : goal.returns-clause-begins
returns-clause-begins c = λ world method linked heap. heap_methods_begin world method linked heap

pub returns-clause-ints : goal.returns-clause-ints
returns-clause-ints c = λ world bounds state choice reached ints pool. ints_keep world bounds state choice reached ints pool

pub returns-clause-references : goal.returns-clause-references
returns-clause-references c = λ world bounds state choice range reached next offered pool. goes_on_reached world bounds state choice range reached next offered pool

pub returns-clause-at : goal.returns-clause-at
returns-clause-at c = λ world state reached next. at_references world state reached next
