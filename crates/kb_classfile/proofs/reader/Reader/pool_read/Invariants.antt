use Rattle.std.proofs.Common.{◌≡◌, ◌-◌, length}
use Rattle.kb_grammar.specs.Reading.{folded}
use Rattle.kb_classfile.specs.Reading.{next_number, no_entries}
use Rattle.kb_classfile.proofs.reader.Reader.pool_read.Given as goal

abbrev pub invariant-loop : goal.invariant-loop
invariant-loop l =
    (length l.pool.entries ≡ l.counter)
    × (folded next_number (l.count - l.counter) l.pool l.self ≡ folded next_number (l.count - 1) no_entries l.initial.self)
