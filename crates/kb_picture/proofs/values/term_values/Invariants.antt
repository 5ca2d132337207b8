use Rattle.std.proofs.Common.{◌≡◌, length, fold}
use Rattle.kb_blast.specs.Meaning.{with_value, listed_values}
use Rattle.kb_picture.proofs.values.term_values.Given as goal

abbrev pub invariant-loop-rest : goal.invariant-loop-rest
invariant-loop-rest l = fold (with_value l.variables) l.values l.rest ≡ listed_values l.variables l.terms

abbrev pub decreases-loop-rest : goal.decreases-loop-rest
decreases-loop-rest l = length l.rest
