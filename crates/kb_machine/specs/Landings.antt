-- What an unwinding comes to.
use Rattle.std.specs.Prelude.{ℕ, List, [], ◌∷◌, drop, map}
use Rattle.std.specs.Option.{option_map_or}
use Rattle.kb_names.specs.declared.types.ExactType.{ExactType}
use Rattle.kb_heap.specs.declared.bounds.Bound.TheVariants.{Loops}
use Rattle.kb_heap.specs.declared.ending.Ending.TheVariants.{Threw}
use Rattle.kb_heap.specs.declared.heap.Heap.{Heap}
use Rattle.kb_heap.specs.declared.heap.Value.TheVariants.{Ref}
use Rattle.kb_semantics.specs.Config.{Setting, Config, Frame, Outcome, Ends}
use Rattle.kb_semantics.specs.Ways.{carries_out, ill_typed, lands, nearest_handler, past, standpoint}
use Rattle.kb_machine.specs.Turns.{setting_of}
use Rattle.kb_machine.specs.declared.turn.Turn.{Turn}
use Rattle.kb_machine.specs.declared.unwinding.Landing.{Landing}
use Rattle.kb_machine.specs.declared.unwinding.Landing.TheVariants as landings

-- what follows for an object, with the frames that are left and the heap that has it
abbrev pub landed : Turn → Landing → Config → Heap → ℕ → Frame → List Frame → Outcome
landed t landings.Caught c heap object frame callers = carries_out c (record frame { stack = Ref object ∷ [] }) callers heap
landed t landings.Uncaught c heap object frame callers = Ends (record { ending = Threw object; heap = heap })
landed t landings.IllTyped c heap object frame callers = ill_typed (setting_of t) c
landed t landings.PastLoops c heap object frame callers = past c Loops

-- what comes of an object of the heap that is thrown through these frames
abbrev pub unwound : Setting → Config → Heap → ℕ → ExactType → List Frame → Outcome
unwound s c heap object kind frames =
    option_map_or (λ (found : ℕ × ℕ). lands s c heap object found.1 (drop found.0 frames)) (nearest_handler s.world kind (map standpoint frames))
    (Ends (record { ending = Threw object; heap = heap }))
