use Rattle.std.proofs.Common.{◌≡◌, ◌-◌, None}
use Rattle.kb_grammar.specs.Reading.{folded}
use Rattle.kb_classfile.specs.Reading.{method_attribute}
use Rattle.kb_classfile.proofs.reader.Reader.method_attributes.Given as goal

abbrev pub invariant-loop : goal.invariant-loop
invariant-loop l =
    folded (method_attribute l.pool l.number) (l.count - l.counter) l.code l.self ≡ folded (method_attribute l.pool l.number) l.count None l.initial.self
