-- What the machine's state stands for in one step, and what a step comes to.
use Rattle.std.specs.Prelude.{ℕ, ◌+◌}
use Rattle.kb_heap.specs.declared.ending.Ending.TheVariants as endings
use Rattle.kb_heap.specs.declared.ending.Ending.{Ending}
use Rattle.kb_heap.specs.declared.bounds.Bound.TheVariants.{Steps}
use Rattle.kb_classes.specs.World.{World}
use Rattle.kb_heap.specs.declared.heap.Heap.{Heap}
use Rattle.kb_semantics.specs.Config.{Setting, Config, Outcome, Goes, Ends, place_in_code}
use Rattle.kb_machine.specs.declared.state.State.{State}
use Rattle.kb_machine.specs.declared.turn.Turn.{Turn}
use Rattle.kb_machine.specs.declared.turn.Step.{Step}
use Rattle.kb_machine.specs.declared.turn.Step.TheVariants as steps

abbrev pub setting_of : Turn → Setting
setting_of t = record { world = t.world.now; bounds = t.bounds }

-- the configuration of a run over an input of so many objects that has reached the state
abbrev pub reached : ℕ → ℕ → State → Config
reached inputs carried m = record { frame = m.frame; callers = m.callers; heap = m.heap; inputs = inputs; carried = carried }

abbrev pub begun : ℕ → State → Config
begun inputs m = reached inputs 0 m

-- the configuration that the state stands for, where so many instructions were carried out
abbrev pub config_at : Turn → ℕ → State → Config
config_at t carried m = reached t.inputs carried m

abbrev pub config_of : Turn → State → Config
config_of t m = config_at t t.carried m

abbrev pub ended : Ending → Heap → Outcome
ended ending heap = Ends (record { ending = ending; heap = heap })

-- what a step comes to, which leaves the state
abbrev pub told : Turn → Step → State → Outcome
told t steps.Goes m = Goes (config_at t (t.carried + 1) m)
told t (steps.Returned value) m = ended (endings.Returned value) m.heap
told t (steps.Threw object) m = ended (endings.Threw object) m.heap
told t (steps.IllTyped method at) m = ended (endings.IllTyped (place_in_code t.world.now method at)) m.heap
told t (steps.Past bound) m = ended (endings.Past bound) m.heap

-- how the run ends, where a step ends it
abbrev pub ending_told : World → Step → Ending
ending_told world steps.Goes = endings.Past Steps
ending_told world (steps.Returned value) = endings.Returned value
ending_told world (steps.Threw object) = endings.Threw object
ending_told world (steps.IllTyped method at) = endings.IllTyped (place_in_code world method at)
ending_told world (steps.Past bound) = endings.Past bound
