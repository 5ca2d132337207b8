-- What was taken off a stack, and how a call finds its method.
use Rattle.std.specs.Prelude.{List, Option, option_map}
use Rattle.kb_heap.specs.declared.heap.Value.{Value}
use Rattle.kb_semantics.specs.Operands.{Taken}
use Rattle.kb_semantics.specs.Instructions.{CallKind, BySelection, Special, Static}
use Rattle.kb_stack.specs.declared.call.Call.{Call}
use Rattle.kb_stack.specs.declared.call.Call.TheVariants as found

-- what was taken, where something was, and what is left on the stack
abbrev pub as_taken : {A : Type 0} → Option A → List Value → Option (Taken A)
as_taken it rest = option_map (λ x. record { it = x; rest = rest }) it

abbrev pub kind_of : Call → CallKind
kind_of found.BySelection = BySelection
kind_of found.Special = Special
kind_of found.Static = Static
