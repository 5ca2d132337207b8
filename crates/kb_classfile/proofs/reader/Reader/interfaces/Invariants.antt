use Rattle.std.proofs.Common.{◌≡◌, ℕ, ◌-◌, []}
use Rattle.kb_grammar.specs.Reading.{folded, one_more}
use Rattle.kb_classfile.specs.declared.pool.EntryKind.TheVariants as kinds
use Rattle.kb_classfile.specs.Reading.{index_of}
use Rattle.kb_classfile.proofs.reader.Reader.interfaces.Given as goal

abbrev pub invariant-loop : goal.invariant-loop
invariant-loop l =
    folded (one_more (λ (number : ℕ). index_of kinds.Class l.pool)) (l.count - l.counter) l.interfaces.items l.self ≡ folded (one_more (λ (number : ℕ). index_of kinds.Class l.pool)) l.count [] l.initial.self
