use Rattle.std.proofs.Common.{◌≡◌, ℕ, ◌-◌, []}
use Rattle.kb_grammar.specs.Reading.{folded, one_more}
use Rattle.kb_code.specs.Reading.{far}
use Rattle.kb_code.proofs.reader.Reader.targets.Given as goal

abbrev pub invariant-loop : goal.invariant-loop
invariant-loop l =
    folded (one_more (λ (number : ℕ). far l.from)) (l.count - l.counter) l.targets.items l.self ≡ folded (one_more (λ (number : ℕ). far l.from)) l.count [] l.initial.self
