use Rattle.std.proofs.Common.{ℕ, ◌+◌, ◌-◌, length}
use Rattle.kb_replay.specs.Replays.{IsMarked}
use Rattle.kb_replay.proofs.checks.mark.Given as goal

abbrev pub invariant-loop-flags : goal.invariant-loop-flags
invariant-loop-flags l = record {
  alone : (number : ℕ) → IsMarked l.flags.items number → IsMarked l.fn.flags.items number;
  kept : (number : ℕ) → IsMarked l.fn.flags.items number → IsMarked l.flags.items number;
}

abbrev pub decreases-loop-flags : goal.decreases-loop-flags
decreases-loop-flags l = l.place + 1 - length l.flags.items
