use Rattle.std.proofs.Common.{◌≡◌, ◌++◌, length}
use Rattle.std.specs.List.{flat_map}
use Rattle.kb_picture.specs.declared.path.Made.{Made}
use Rattle.kb_numbered.proofs.roots.add_made.Given as goal

abbrev pub invariant-loop-rest : goal.invariant-loop-rest
invariant-loop-rest l = l.values.items ++ flat_map (λ (object : Made). object.values) l.rest ≡ l.fn.values.items ++ flat_map (λ (object : Made). object.values) l.made

abbrev pub decreases-loop-rest : goal.decreases-loop-rest
decreases-loop-rest l = length l.rest
