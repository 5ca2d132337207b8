use Rattle.std.proofs.Common.{length}
use Rattle.kb_grammar.specs.Reading.{values_of}
use Rattle.kb_code.specs.Reading.{item}
use Rattle.kb_code.proofs.Steps.{IsOnTheWay}
use Rattle.kb_code.proofs.decoding.walk.Given as goal

abbrev pub invariant-loop-reader : goal.invariant-loop-reader
invariant-loop-reader l = IsOnTheWay item l.items.items l.reader (values_of item l.code 0)

abbrev pub decreases-loop-reader : goal.decreases-loop-reader
decreases-loop-reader l = length l.reader.rest
