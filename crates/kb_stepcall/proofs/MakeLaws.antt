-- A step of `new` makes of a state what it makes of the configuration: an object behind those that the run has made.
use Rattle.std.proofs.Common.{◌≡◌, ℕ, List, [], Option, Some, None, ap, ◌∙◌}
use Rattle.kb_heap.specs.declared.bounds.Bounds.{Bounds}
use Rattle.kb_heap.specs.declared.heap.Value.{Value}
use Rattle.kb_classes.specs.World.{World, type_entry_of}
use Rattle.kb_semantics.specs.Config.{Setting, Config, Outcome, class_number}
use Rattle.kb_semantics.specs.Instructions.{class_of_entry, make_object, with, makes as machine_makes}
use Rattle.kb_semantics.specs.Looks.{stores}
use Rattle.kb_semantics.specs.Step.{step}
use Rattle.kb_semantics.specs.Values.{new_object}
use Rattle.kb_terms.proofs.Values.{Extends-refl}
use Rattle.kb_frames.specs.Cuts.{setting_of}
use Rattle.kb_frames.specs.Making.{new_sym_object}
use Rattle.kb_frames.specs.State.{State}
use Rattle.kb_ways.specs.Plans.{followed, here, planned}
use Rattle.kb_ways.proofs.MadeLaws.{makes_follow}
use Rattle.kb_ways.proofs.OutcomeWays.{ill_typed_is, made_heap}
use Rattle.kb_ways.proofs.PlannedLaws.{Follows, Situation, state_of}
use Rattle.kb_stepcall.specs.Making.{makes, makes_object}

module _ (world : World) (bounds : Bounds) (at : Situation world bounds) (next : ℕ) where
  abbrev s : Setting
  s = setting_of world bounds

  abbrev c : Config
  c = at.config

  abbrev state : State
  state = state_of world bounds at

  class_follows : (name : List ℕ) → stores s c ≡ [] → step s c ≡ machine_makes s next c (new_object world name) c.frame.stack → Follows world bounds at (followed world bounds next (makes world state name))
  class_follows name stored e =
      makes_follow world bounds at next 0 (new_sym_object world name) (new_object world name)
      (made_heap world bounds state at.sound at.input c at.stands at.frame at.callers at.sound.stage next state.nodes (Extends-refl state.nodes) state.when at.stands.stage.0 at.stands.stage.1 name) stored
      (e ∙ ap (λ (stack : List Value). machine_makes s next c (new_object world name) stack) at.stands.stage.0.stack)

  -- Where the state stands for c, `new` leads it where it leads the machine.
  pub makes_object_follows : (entry : ℕ) → stores s c ≡ [] → step s c ≡ make_object entry s next c → Follows world bounds at (followed world bounds next (makes_object world state entry))
  unfolding make_object
  makes_object_follows entry stored e =
      go (class_of_entry (type_entry_of world (here world state) entry)) (e ∙ ap (λ (class : ℕ). with s c (class_of_entry (type_entry_of world class entry)) steps) (ap (class_number world) at.stands.stage.0.method))
    where
      steps : List ℕ → Outcome
      steps name = machine_makes s next c (new_object world name) c.frame.stack

      go : (class : Option (List ℕ)) → step s c ≡ with s c class steps → Follows world bounds at (followed world bounds next (planned state class (makes world state)))
      go None e =
          ill_typed_is world bounds state at.sound at.input c at.stands at.frame at.callers at.sound.stage next state.nodes (Extends-refl state.nodes) state.when at.stands.stage.0 at.stands.stage.1 e
      go (Some name) e = class_follows name stored e
