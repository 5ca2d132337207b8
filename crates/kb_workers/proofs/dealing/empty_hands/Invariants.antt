use Rattle.std.proofs.Common.{◌≡◌, [], replicate}
use Rattle.kb_workers.proofs.dealing.empty_hands.Given as goal

abbrev pub invariant-loop : goal.invariant-loop
invariant-loop g l = l.hands ≡ replicate l.counter []
