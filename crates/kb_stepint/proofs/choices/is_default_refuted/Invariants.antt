use Rattle.std.proofs.Common.{◌≡◌, ℕ, ℤ, drop, map, false}
use Rattle.kb_picture.specs.declared.choice.Choice.TheVariants.{Default}
use Rattle.kb_ways.specs.declared.condition.Side.TheVariants.{Term, Number}
use Rattle.kb_ways.specs.Asked.{equal_sides, is_refuted}
use Rattle.kb_stepint.specs.Choices.{key_conditions}
use Rattle.kb_stepint.specs.Keys.{keys_of}
use Rattle.kb_stepint.proofs.choices.is_default_refuted.Given as goal

abbrev pub invariant-loop-place : goal.invariant-loop-place
invariant-loop-place l =
    is_refuted l.state (map (λ (key : ℤ × ℕ). equal_sides (Term l.x) (Number key.0) false) (drop l.place (keys_of l.keys))) ≡ is_refuted l.state (key_conditions l.x (keys_of l.keys) Default)
