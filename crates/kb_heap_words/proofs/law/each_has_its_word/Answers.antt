use Rattle.kb_heap_words.proofs.WordLaws.{same_exact, same_place, same_bound}
use Rattle.kb_heap_words.proofs.law.each_has_its_word.Goals as goal

pub returns-clause-types : goal.returns-clause-types
returns-clause-types c = same_exact

pub returns-clause-places : goal.returns-clause-places
returns-clause-places c = same_place

pub returns-clause-bounds : goal.returns-clause-bounds
returns-clause-bounds c = same_bound
