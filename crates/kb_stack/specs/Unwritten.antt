-- Locals that are not kept, since they were never written.
use Rattle.std.specs.Prelude.{ℕ, ◌-◌, List, ◌++◌, length, replicate, Option, None}
use Rattle.kb_heap.specs.declared.heap.Value.{Value}

-- these locals, and behind them those that were never written, up to so many
abbrev pub with_unwritten : ℕ → List (Option Value) → List (Option Value)
with_unwritten count locals = locals ++ replicate (count - length locals) None
