use Rattle.std.proofs.Common.{◌≡◌, ℕ, ◌+◌, ◌<◌, true, slice_index_or}
use Rattle.kb_classes.specs.Subtypes.{is_super}
use Rattle.kb_universe.proofs.marks.Marks.has_array_under.Given as goal

abbrev pub invariant-loop-low : goal.invariant-loop-low
invariant-loop-low l = (low : ℕ) → low < l.low → is_super l.linked.supers low l.high.0 ≡ true → l.dims < slice_index_or l.self.most.items (low + 2) 0 → ⊥
