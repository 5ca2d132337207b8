use Rattle.std.proofs.Common.{◌≡◌, ℕ, ◌+◌, ◌<◌, ◌≤◌, true, false, [], ◌∷◌, length, get_or}
use Rattle.kb_chain.specs.Needed.{is_kept, AreClosed, IsNeeded}
use Rattle.kb_log_cut.proofs.marking.needed_by.Given as goal

abbrev pub invariant-loop-end : goal.invariant-loop-end
invariant-loop-end l = record {
  below : l.end ≤ length l.entries;
  table : length l.needed.items ≡ length l.entries;
  marked : l.number < l.first + length l.entries → is_kept l.first l.needed.items l.number ≡ true;
  closed : AreClosed l.first l.entries l.needed.items l.end;
  only : (i : ℕ) → get_or l.needed.items i false ≡ true → IsNeeded l.first l.entries (l.number ∷ []) (l.first + i);
}

abbrev pub decreases-loop-end : goal.decreases-loop-end
decreases-loop-end l = l.end
