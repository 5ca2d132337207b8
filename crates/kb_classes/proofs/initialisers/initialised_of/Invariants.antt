use Rattle.std.proofs.Common.{◌≡◌, map, take}
use Rattle.std.specs.List.{list_any}
use Rattle.kb_classes.specs.Initialisers.{is_marked}
use Rattle.kb_classes.proofs.initialisers.initialised_of.Given as goal

abbrev pub invariant-loop-chain : goal.invariant-loop-chain
invariant-loop-chain l = l.marks.items ≡ map (list_any (is_marked l.own.items)) (take l.chain-index l.chains)
