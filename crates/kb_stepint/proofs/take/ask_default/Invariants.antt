use Rattle.std.proofs.Common.{◌≡◌, ℕ, ℤ, drop, map, false}
use Rattle.kb_terms.specs.Terms.{Extends}
use Rattle.kb_picture.specs.declared.choice.Choice.TheVariants.{Default}
use Rattle.kb_ways.specs.declared.condition.Side.TheVariants.{Term, Number}
use Rattle.kb_ways.specs.Asked.{equal_sides, all_asked}
use Rattle.kb_stepint.specs.Choices.{key_conditions}
use Rattle.kb_stepint.specs.Keys.{keys_of}
use Rattle.kb_stepint.proofs.take.ask_default.Given as goal

abbrev pub invariant-loop-place : goal.invariant-loop-place
invariant-loop-place l = record {
  asked : all_asked l.state (map (λ (key : ℤ × ℕ). equal_sides (Term l.x) (Number key.0) false) (drop l.place (keys_of l.keys))) ≡ all_asked l.fn.state (key_conditions l.x (keys_of l.keys) Default);
  extends : Extends l.fn.state.nodes l.state.nodes;
}
