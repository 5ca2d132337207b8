use Rattle.std.proofs.Common.{◌≡◌, map, take}
use Rattle.kb_format.specs.Rules.{AllDiffer}
use Rattle.kb_format.specs.Members.{key_of}
use Rattle.kb_format.proofs.members.first_again.Given as goal

-- the set has the keys of the members so far, which differ
abbrev pub invariant-loop-member : goal.invariant-loop-member
invariant-loop-member l =
    (l.met.keys ≡ map (key_of l.numbers) (take l.member-index l.members))
    × AllDiffer (map (key_of l.numbers) (take l.member-index l.members))
