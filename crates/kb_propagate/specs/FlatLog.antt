-- Entries of a log whose steps stand in one table.
use Rattle.std.specs.Prelude.{◌≡◌, ℕ, ◌≤◌, List, length, map, Some, slice_get}
use Rattle.kb_chain.specs.declared.log.Chain.{Chain}
use Rattle.kb_propagate.specs.Rows.{row_of}
use Rattle.kb_propagate.specs.declared.flat_log.Entry.{Entry}

abbrev pub chain_of : List (ℕ × ℕ) → Entry → Chain
chain_of steps entry = record { start = entry.start; steps = row_of steps entry.steps }

abbrev pub chains_of : List (ℕ × ℕ) → List Entry → List Chain
chains_of steps entries = map (chain_of steps) entries

-- the steps of each entry end in the table
abbrev pub StepsWithin : List (ℕ × ℕ) → List Entry → Type 0
StepsWithin steps entries =
    (k : ℕ) (entry : Entry) → slice_get entries k ≡ Some entry → (entry.steps.start ≤ entry.steps.end) × (entry.steps.end ≤ length steps)
