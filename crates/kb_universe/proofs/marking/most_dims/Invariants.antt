use Rattle.std.proofs.Common.{◌≡◌, ℕ, ◌+◌, max, length, slice_index_or}
use Rattle.kb_universe.specs.Marks.{most_over}
use Rattle.kb_universe.proofs.marking.most_dims.Given as goal

abbrev pub invariant-loop-rest : goal.invariant-loop-rest
invariant-loop-rest l =
    (length l.most.items ≡ length l.linked.classes + 2)
    × ((e : ℕ) → max (slice_index_or l.most.items e 0) (most_over l.linked.classes e l.rest) ≡ most_over l.linked.classes e l.linked.universe)

abbrev pub decreases-loop-rest : goal.decreases-loop-rest
decreases-loop-rest l = length l.rest
