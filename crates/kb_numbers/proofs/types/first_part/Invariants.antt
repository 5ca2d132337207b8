use Rattle.std.proofs.Common.{◌-◌, drop, length}
use Rattle.kb_numbers.specs.Types.{IsPath}
use Rattle.kb_numbers.proofs.TypeLaws.{IsSoFar}
use Rattle.kb_numbers.proofs.types.first_part.Given as goal

abbrev pub invariant-loop-back : goal.invariant-loop-back
invariant-loop-back l = record {
  path : IsPath l.texts l.parts l.kind.result (drop (length l.kind.params - l.back) l.kind.params) l.number;
  alone : IsSoFar l.texts l.parts l.kind l.back l.number;
}
