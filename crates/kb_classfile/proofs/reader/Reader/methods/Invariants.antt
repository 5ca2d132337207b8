use Rattle.std.proofs.Common.{◌≡◌, ◌-◌, [], length}
use Rattle.kb_grammar.specs.Reading.{folded, one_more}
use Rattle.kb_classfile.specs.Reading.{method}
use Rattle.kb_classfile.proofs.reader.Reader.methods.Given as goal

abbrev pub invariant-loop-number : goal.invariant-loop-number
invariant-loop-number l =
    (length l.methods.items ≡ l.number)
    × (folded (one_more (method l.pool)) (l.count - l.number) l.methods.items l.self ≡ folded (one_more (method l.pool)) l.count [] l.initial.self)
