use Rattle.std.proofs.Common.{◌≡◌, ◌++◌, length}
use Rattle.kb_lazy.specs.Choices.{aliases_from}
use Rattle.kb_lazy.proofs.choices.push_aliases.Given as goal

abbrev pub invariant-loop-rest : goal.invariant-loop-rest
invariant-loop-rest l =
    l.choices ++ aliases_from l.world l.kind l.number l.rest ≡ l.fn.choices ++ aliases_from l.world l.kind 0 l.picture.objects

abbrev pub decreases-loop-rest : goal.decreases-loop-rest
decreases-loop-rest l = length l.rest
