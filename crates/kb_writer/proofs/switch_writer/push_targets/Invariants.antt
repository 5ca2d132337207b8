use Rattle.std.proofs.Common.{◌≡◌, ◌++◌, length, IsTrue}
use Rattle.std.specs.List.{list_all, flat_map}
use Rattle.kb_writer.specs.Instructions.{is_far, far}
use Rattle.kb_writer.proofs.switch_writer.push_targets.Given as goal

abbrev pub invariant-loop-rest : goal.invariant-loop-rest
invariant-loop-rest l = record {
  bytes : l.into.items ++ flat_map (far l.fn.from) l.rest ≡ l.fn.into.items ++ flat_map (far l.fn.from) l.targets;
  reached : IsTrue (list_all (is_far l.fn.from) l.rest);
}

abbrev pub decreases-loop-rest : goal.decreases-loop-rest
decreases-loop-rest l = length l.rest
