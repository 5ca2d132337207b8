use Rattle.std.proofs.Common.{◌≡◌, ◌-◌, drop}
use Rattle.kb_chain.specs.Clause.{assignment_of}
use Rattle.kb_circuit.specs.Meaning.{number, bits_under}
use Rattle.kb_blast.proofs.reading.int_of.Given as goal

abbrev pub invariant-loop-i : goal.invariant-loop-i
invariant-loop-i l = l.number ≡ number (bits_under (assignment_of l.bits) (drop (32 - l.i) l.word))
