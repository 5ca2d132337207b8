use Rattle.std.proofs.Common.{◌≡◌, ◌-◌}
use Rattle.kb_grammar.specs.Reading.{folded}
use Rattle.kb_classfile.specs.Reading.{skipped_attribute}
use Rattle.kb_classfile.proofs.reader.Reader.skipped_attributes.Given as goal

abbrev pub invariant-loop : goal.invariant-loop
invariant-loop l =
    folded (λ (none : Unit {0}). skipped_attribute l.pool) (l.count - l.counter) tt l.self ≡ folded (λ (none : Unit {0}). skipped_attribute l.pool) l.count tt l.initial.self
