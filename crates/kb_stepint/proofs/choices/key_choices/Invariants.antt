use Rattle.std.proofs.Common.{◌≡◌, ◌++◌, drop, filter, not}
use Rattle.kb_ways.specs.Asked.{is_refuted}
use Rattle.kb_stepint.specs.Choices.{key_conditions, keys_from}
use Rattle.kb_stepint.specs.Keys.{keys_of}
use Rattle.kb_stepint.proofs.choices.key_choices.Given as goal

abbrev pub invariant-loop-place : goal.invariant-loop-place
invariant-loop-place l =
    l.choices.items ++ filter (λ choice. not (is_refuted l.state (key_conditions l.x (keys_of l.keys) choice))) (keys_from l.place (drop l.place (keys_of l.keys)))
    ≡ filter (λ choice. not (is_refuted l.state (key_conditions l.x (keys_of l.keys) choice))) (keys_from 0 (keys_of l.keys))
