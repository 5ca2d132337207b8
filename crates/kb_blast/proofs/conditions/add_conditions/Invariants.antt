use Rattle.std.proofs.Common.{◌≡◌, length}
use Rattle.kb_blast.specs.Query.{numbered_conditions}
use Rattle.kb_blast.specs.Conditions.{with_conditions}
use Rattle.kb_blast.proofs.conditions.add_conditions.Given as goal

abbrev pub invariant-loop-rest : goal.invariant-loop-rest
invariant-loop-rest l = record {
  same : l.builder.vars ≡ l.fn.builder.vars;
  built : with_conditions l.words (numbered_conditions l.numbering l.rest) l.builder ≡ with_conditions l.words (numbered_conditions l.numbering l.when) l.fn.builder;
}

abbrev pub decreases-loop-rest : goal.decreases-loop-rest
decreases-loop-rest l = length l.rest
