use Rattle.std.proofs.Common.{◌≡◌, length, [], true, get_or, take, ℕ}
use Rattle.kb_chain.specs.Literal.{Literal, has, place_of}
use Rattle.kb_chain.specs.Index.{has_number}
use Rattle.kb_chain.proofs.index.Index.add.Given as goal

abbrev pub invariant-loop-literal : goal.invariant-loop-literal
invariant-loop-literal l = record {
  places : length l.self.occurrences.items ≡ length l.fn.self.occurrences.items;
  kept : (p k : ℕ) → has_number (get_or l.fn.self.occurrences.items p []) k ≡ true → has_number (get_or l.self.occurrences.items p []) k ≡ true;
  added : (m : Literal) → has (take l.literal-index l.literal-items) m ≡ true → has_number (get_or l.self.occurrences.items (place_of m) []) l.number ≡ true;
}
