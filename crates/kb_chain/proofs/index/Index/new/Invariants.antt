use Rattle.std.proofs.Common.{◌≡◌, length}
use Rattle.kb_chain.proofs.index.Index.new.Given as goal

abbrev pub invariant-loop-place : goal.invariant-loop-place
invariant-loop-place l = length l.occurrences.items ≡ l._place
