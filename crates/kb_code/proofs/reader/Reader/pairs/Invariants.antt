use Rattle.std.proofs.Common.{◌≡◌, ℕ, ◌-◌, []}
use Rattle.kb_grammar.specs.Reading.{folded, one_more}
use Rattle.kb_code.specs.Reading.{pair}
use Rattle.kb_code.proofs.reader.Reader.pairs.Given as goal

abbrev pub invariant-loop : goal.invariant-loop
invariant-loop l =
    folded (one_more (λ (number : ℕ). pair l.from)) (l.count - l.counter) l.pairs.items l.self ≡ folded (one_more (λ (number : ℕ). pair l.from)) l.count [] l.initial.self
