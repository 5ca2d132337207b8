use Rattle.std.proofs.Common.{◌≡◌, map, take}
use Rattle.kb_semantics.specs.Values.{default_of}
use Rattle.kb_lookups.proofs.defaults.default_values.Given as goal

abbrev pub invariant-loop-place : goal.invariant-loop-place
invariant-loop-place g l = l.values ≡ map (λ place. default_of (g.P.Typed.kind place)) (take l.place-index l.places)
