use Rattle.std.proofs.Common.{◌≡◌, ℕ, ◌+◌, ◌<◌, ◌≤◌, true, false, length, take, get_or}
use Rattle.kb_chain.specs.Index.{has_number}
use Rattle.kb_chain.specs.Needed.{is_kept, AreClosed, IsNeeded}
use Rattle.kb_chain.proofs.needed.needed_entries.Given as goal

abbrev pub invariant-loop-number : goal.invariant-loop-number
invariant-loop-number l = record {
  table : length l.needed.items ≡ length l.entries;
  marked : (k : ℕ) → has_number (take l.number-index l.numbers) k ≡ true → k < l.first + length l.entries → is_kept l.first l.needed.items k ≡ true;
  only : (i : ℕ) → get_or l.needed.items i false ≡ true → has_number (take l.number-index l.numbers) (l.first + i) ≡ true;
}

abbrev pub invariant-loop-end : goal.invariant-loop-end
invariant-loop-end l = record {
  below : l.end ≤ length l.entries;
  table : length l.needed.items ≡ length l.entries;
  marked : (k : ℕ) → has_number l.numbers k ≡ true → k < l.first + length l.entries → is_kept l.first l.needed.items k ≡ true;
  closed : AreClosed l.first l.entries l.needed.items l.end;
  only : (i : ℕ) → get_or l.needed.items i false ≡ true → IsNeeded l.first l.entries l.numbers (l.first + i);
}

abbrev pub decreases-loop-end : goal.decreases-loop-end
decreases-loop-end l = l.end
