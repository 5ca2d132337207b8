use Rattle.std.proofs.Common.{◌≡◌, ◌≤◌, ◌++◌}
use Rattle.kb_chain.specs.Cnf.{AllWithin}
use Rattle.kb_blast.specs.Conditions.{variable_words}
use Rattle.kb_blast.specs.Meaning.{IsRising}
use Rattle.kb_blast.specs.Listing.{numbers_of, literals_of, words_in_front}
use Rattle.kb_blast.proofs.variables.variable_words.Given as goal

abbrev pub invariant-loop-number : goal.invariant-loop-number
invariant-loop-number l = record {
  rising : IsRising (numbers_of l.words.entries ++ numbers_of l.number-iterator);
  built : words_in_front l.words.entries (variable_words l.number-iterator l.builder) ≡ variable_words l.kinds.entries l.fn.builder;
  within : AllWithin l.builder.vars (literals_of l.words.entries);
  grows : l.fn.builder.vars ≤ l.builder.vars;
}
