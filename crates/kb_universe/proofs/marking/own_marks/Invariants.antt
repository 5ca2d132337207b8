use Rattle.std.proofs.Common.{◌≡◌, ℕ, ◌||◌, false, length, slice_index_or}
use Rattle.std.specs.List.{list_any}
use Rattle.kb_universe.specs.Marks.{is_class_at}
use Rattle.kb_universe.proofs.marking.own_marks.Given as goal

abbrev pub invariant-loop-rest : goal.invariant-loop-rest
invariant-loop-rest l =
    (length l.own.items ≡ length l.linked.classes)
    × ((n : ℕ) → (slice_index_or l.own.items n false || list_any (is_class_at l.linked.classes n) l.rest) ≡ list_any (is_class_at l.linked.classes n) l.linked.universe)

abbrev pub decreases-loop-rest : goal.decreases-loop-rest
decreases-loop-rest l = length l.rest
