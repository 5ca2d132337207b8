-- What `new` does to a state (JVMS 8 section 6.5, new): an object of the class is made, each slot with the default value of its
-- type, and its reference is on the top of the stack.
use Rattle.std.specs.Prelude.{ℕ, List, ◌∷◌, length, suc, if◌then◌else◌}
use Rattle.kb_classes.specs.World.{World, type_entry_of}
use Rattle.kb_semantics.specs.Config.{has_room}
use Rattle.kb_semantics.specs.Instructions.{class_of_entry}
use Rattle.kb_frames.specs.declared.value.SymValue.TheVariants.{New}
use Rattle.kb_frames.specs.State.{State}
use Rattle.kb_frames.specs.Lent.{stack_of}
use Rattle.kb_frames.specs.Making.{with_made}
use Rattle.kb_frames.specs.Next.{method_now}
use Rattle.kb_ways.specs.Plans.{Planned, here, plain, planned}
use Rattle.kb_ways.specs.Ways.{Fails, with_stack}

-- where the stack has no room for the reference, no object is made
abbrev pub makes : World → State → List ℕ → Planned
makes world state class =
    if has_room world (method_now state.method state.stage) (suc (length (stack_of state.stage)))
    then record { state = with_made world state class; way = with_stack state (New (length state.made) ∷ stack_of state.stage) }
    else plain state Fails

-- new
abbrev pub makes_object : World → State → ℕ → Planned
makes_object world state entry = planned state (class_of_entry (type_entry_of world (here world state) entry)) (makes world state)
