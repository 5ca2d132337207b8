use Rattle.std.proofs.Common.{◌∙◌}
use Rattle.kb_numbers.proofs.PoolLaws.{written_numbered}
use Rattle.kb_numbers.proofs.written.written_numbers.Goals as goal

pub returns-clause-numbers : goal.returns-clause-numbers
returns-clause-numbers c = λ class methods_are no_fields no_entries.
    written_numbered c.written_pairs.new.texts class c.args.methods.now c.in_ok-pairs.pairs.items c.args.first c.in_ok-own.own methods_are no_fields no_entries c.in_ok-pairs.ensures.pairs
    (c.in_ok-own.ensures ∙ (λ i. record { first = c.args.first; methods = c.in_ok-pairs.pairs.items; fields = c.new.ensures.items i; entries = c.new-2.ensures.items i }))
