use Rattle.std.proofs.Common.{◌≡◌, ◌++◌, length, IsTrue}
use Rattle.std.specs.List.{list_all, flat_map}
use Rattle.kb_writer.specs.Instructions.{HaveInts, is_far, pair_bytes}
use Rattle.kb_writer.proofs.switch_writer.push_pairs.Given as goal

abbrev pub invariant-loop-rest : goal.invariant-loop-rest
invariant-loop-rest l = record {
  bytes : l.into.items ++ flat_map (pair_bytes l.fn.from) l.rest ≡ l.fn.into.items ++ flat_map (pair_bytes l.fn.from) l.pairs;
  reached : IsTrue (list_all (λ pair. is_far l.fn.from pair.1) l.rest);
  ints : HaveInts l.rest → HaveInts l.pairs;
}

abbrev pub decreases-loop-rest : goal.decreases-loop-rest
decreases-loop-rest l = length l.rest
