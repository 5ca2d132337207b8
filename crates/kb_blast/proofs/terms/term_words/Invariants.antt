use Rattle.std.proofs.Common.{◌≡◌, ◌≤◌, [], length}
use Rattle.kb_chain.specs.Cnf.{AllWithin}
use Rattle.kb_blast.specs.Conditions.{term_words}
use Rattle.kb_blast.proofs.terms.term_words.Given as goal

abbrev pub invariant-loop-rest : goal.invariant-loop-rest
invariant-loop-rest l = record {
  built : term_words l.vars.entries l.words.items l.rest l.builder ≡ term_words l.vars.entries [] l.terms l.fn.builder;
  within : AllWithin l.builder.vars l.words.items;
  grows : l.fn.builder.vars ≤ l.builder.vars;
}

abbrev pub decreases-loop-rest : goal.decreases-loop-rest
decreases-loop-rest l = length l.rest
