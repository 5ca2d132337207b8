use Rattle.std.proofs.Common.{◌≡◌, length}
use Rattle.std.specs.List.{list_all}
use Rattle.kb_terms.specs.Terms.{node_at}
use Rattle.kb_blast.specs.Query.{node_passes, is_comparison, roots_of}
use Rattle.kb_blast.proofs.fitness.can_blast.Given as goal

abbrev pub invariant-loop-rest : goal.invariant-loop-rest
invariant-loop-rest l =
    list_all (λ t. node_passes is_comparison (node_at l.pool t)) (roots_of l.rest) ≡ list_all (λ t. node_passes is_comparison (node_at l.pool t)) (roots_of l.when)

abbrev pub decreases-loop-rest : goal.decreases-loop-rest
decreases-loop-rest l = length l.rest
