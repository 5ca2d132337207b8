use Rattle.std.proofs.Common.{◌≡◌, ℕ, ◌-◌, []}
use Rattle.kb_grammar.specs.Reading.{folded, one_more}
use Rattle.kb_classfile.specs.Reading.{handler}
use Rattle.kb_classfile.proofs.reader.Reader.handlers.Given as goal

abbrev pub invariant-loop : goal.invariant-loop
invariant-loop l =
    folded (one_more (λ (number : ℕ). handler l.pool)) (l.count - l.counter) l.handlers.items l.self ≡ folded (one_more (λ (number : ℕ). handler l.pool)) l.count [] l.initial.self
