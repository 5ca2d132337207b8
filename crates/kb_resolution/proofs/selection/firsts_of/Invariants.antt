use Rattle.std.proofs.Common.{◌≡◌, ℕ, length, Some, slice_get}
use Rattle.kb_resolution.specs.Tables.{first_of}
use Rattle.kb_resolution.proofs.selection.firsts_of.Given as goal

abbrev pub invariant-loop-number : goal.invariant-loop-number
invariant-loop-number l =
    (length l.firsts.items ≡ l.number) × ((class first : ℕ) → slice_get l.firsts.items class ≡ Some first → first ≡ first_of l.linked class) × (l.first ≡ first_of l.linked l.number)
