-- newarray and anewarray make of a state what they make of the configuration, where the length is told: a negative one throws, and
-- one up to the bound gives an array behind the objects that the run has made.
use Rattle.std.proofs.Common.{◌≡◌, ℕ, ℤ, pos, negsuc, ◌≤◌, Bool, List, [], drop, Option, Some, None, refl, ap, ◌∙◌, if◌then◌else◌, le-leb}
use Rattle.std.specs.Option.{option_map}
use Rattle.kb_heap.specs.declared.bounds.Bound.TheVariants.{Alloc}
use Rattle.kb_heap.specs.declared.bounds.Bounds.{Bounds}
use Rattle.kb_heap.specs.declared.heap.Value.{Value}
use Rattle.kb_classes.specs.World.{World}
use Rattle.kb_names.specs.declared.types.JType.{JType}
use Rattle.kb_semantics.specs.Config.{Setting, Config}
use Rattle.kb_semantics.specs.Instructions.{make_array, makes, makes_array as machine_array, new_array, with}
use Rattle.kb_semantics.specs.Looks.{stores}
use Rattle.kb_semantics.specs.Operands.{Taken, an_int as machine_int}
use Rattle.kb_semantics.specs.Step.{step}
use Rattle.kb_semantics.specs.Ways.{ill_typed as ill_typed_step, negative_size, past}
use Rattle.kb_terms.specs.declared.node.TermId.{TermId}
use Rattle.kb_terms.proofs.Values.{Extends-refl}
use Rattle.kb_picture.specs.declared.choice.Choice.{Choice}
use Rattle.kb_picture.specs.declared.choice.Choice.TheVariants.{Negative, Size}
use Rattle.kb_picture.specs.Endings.{Reading}
use Rattle.kb_frames.specs.Cuts.{setting_of}
use Rattle.kb_frames.specs.Making.{new_sym_array}
use Rattle.kb_frames.specs.StandsFor.{reading_at, values_of_sym}
use Rattle.kb_frames.specs.State.{State}
use Rattle.kb_ways.specs.Operands.{an_int}
use Rattle.kb_ways.specs.Plans.{followed, planned}
use Rattle.kb_ways.specs.Ways.{Take, ill_typed}
use Rattle.kb_ways.proofs.MadeLaws.{makes_follow}
use Rattle.kb_ways.proofs.OutcomeWays.{array_heap, ill_typed_is, throws_is}
use Rattle.kb_ways.proofs.PlannedLaws.{Follows, Situation, state_of}
use Rattle.kb_steparray.specs.Effects.{makes_array, makes_chosen, makes_sized}
use Rattle.kb_steparray.proofs.OperandLaws.{int_value, one_int_is, top_int}

-- The length is told: it is the one that was chosen, and not above the bound. Of a choice that is none nothing is told.
abbrev pub IsLengthTold : Bounds → ℤ → Choice → Type 0
IsLengthTold bounds len Negative = (n : ℕ) × (len ≡ negsuc n)
IsLengthTold bounds len (Size count) = (len ≡ pos count) × (count ≤ bounds.run.alloc)
IsLengthTold bounds len _ = ⊥

module _ (world : World) (bounds : Bounds) (at : Situation world bounds) (next : ℕ) where
  abbrev s : Setting
  s = setting_of world bounds

  abbrev c : Config
  c = at.config

  abbrev state : State
  state = state_of world bounds at

  abbrev r : Reading
  r = reading_at world state at.input at.stands.instance_of.shape.places

  abbrev FollowsTo : Take → Type 0
  FollowsTo take = Follows world bounds at take

  abbrev rest : List Value
  rest = values_of_sym r (drop 1 at.frame.stack)

  ill : step s c ≡ ill_typed_step s c → FollowsTo (ill_typed world state)
  ill e = ill_typed_is world bounds state at.sound at.input c at.stands at.frame at.callers at.sound.stage next state.nodes (Extends-refl state.nodes) state.when at.stands.stage.0 at.stands.stage.1 e

  module _ (stored : stores s c ≡ []) where
    sized_follows : (component : JType) (count : ℕ) → count ≤ bounds.run.alloc → step s c ≡ machine_array s next c component (pos count) rest
        → FollowsTo (followed world bounds next (makes_sized world state component count))
    sized_follows component count within e =
        makes_follow world bounds at next 1 (new_sym_array component count) (new_array component count)
        (array_heap world bounds state at.sound at.input c at.stands at.frame at.callers at.sound.stage next state.nodes (Extends-refl state.nodes) state.when at.stands.stage.0 at.stands.stage.1 component count) stored
        (e ∙ ap (λ (b : Bool). if b then makes s next c (new_array component count) rest else past c Alloc) (le-leb count bounds.run.alloc within))

    chosen_follows : (component : JType) (len : ℤ) (choice : Choice) → IsLengthTold bounds len choice → step s c ≡ machine_array s next c component len rest
        → FollowsTo (followed world bounds next (makes_chosen world state choice component))
    chosen_follows component len Negative told e =
        throws_is world bounds state at.sound at.input c at.stands at.frame at.callers at.sound.stage next state.nodes (Extends-refl state.nodes) state.when at.stands.stage.0 at.stands.stage.1 stored negative_size
        (e ∙ ap (λ (z : ℤ). machine_array s next c component z rest) told.1)
    chosen_follows component len (Size count) told e = sized_follows component count told.1 (e ∙ ap (λ (z : ℤ). machine_array s next c component z rest) told.0)
    chosen_follows component len _ told e = absurd told

    by_int : (component : JType) (choice : Choice) (it : Option TermId) → ((x : TermId) → it ≡ Some x → IsLengthTold bounds (int_value r x) choice)
        → step s c ≡ with s c (option_map (top_int r at.frame.stack) it) (λ len. machine_array s next c component len.it len.rest)
        → FollowsTo (followed world bounds next (planned state it (λ (term : TermId). makes_chosen world state choice component)))
    by_int component choice None told e = ill e
    by_int component choice (Some x) told e = chosen_follows component (int_value r x) choice (told x refl) e

    -- Where the length is told, a new array leads the state where it leads the machine.
    pub makes_array_follows : (component : Option JType) (choice : Choice) → ((x : TermId) (type : JType) → component ≡ Some type → an_int at.frame.stack ≡ Some x → IsLengthTold bounds (int_value r x) choice)
        → step s c ≡ make_array component s next c → FollowsTo (followed world bounds next (makes_array world state choice component))
    unfolding make_array
    makes_array_follows None choice told e = ill e
    makes_array_follows (Some component) choice told e =
        by_int component choice (an_int at.frame.stack) (λ x is. told x component refl is)
        (e ∙ ap (λ (it : Option (Taken ℤ)). with s c it (λ len. machine_array s next c component len.it len.rest)) (ap machine_int at.stands.stage.0.stack ∙ one_int_is r at.frame.stack))
