-- The lines of a log of resolutions, one for each entry: `learn`, the clause with which the chain begins, and of each step the
-- pivot and the clause (chains of resolutions as the trace formats of solvers list them: Zhang and Malik, 2003).
use Rattle.std.specs.Prelude.{◌≡◌, ℕ, ◌<◌, ◌^◌, List, ◌++◌, codes, map}
use Rattle.std.specs.List.{flat_map, AllByRecursion}
use Rattle.std.specs.Fmt.{decimal}
use Rattle.kb_chain.specs.declared.log.Chain.{Chain}
use Rattle.kb_chain.specs.declared.log.Log.{Log}

unfoldable pub step_text : ℕ × ℕ → List ℕ
step_text step = codes " " ++ (decimal step.0 ++ (codes " " ++ decimal step.1))

unfoldable pub learn_line : Chain → List ℕ
learn_line chain = codes "learn " ++ (decimal chain.start ++ flat_map step_text chain.steps)

-- the lines of a log, in the order of its entries
abbrev pub learn_lines : Log → List (List ℕ)
learn_lines log = map learn_line log.entries

-- a pivot and a clause by their numbers, of 32 bits
abbrev pub IsStep : ℕ × ℕ → Type 0
IsStep step = (step.0 < 2 ^ 32) × (step.1 < 2 ^ 32)

-- a chain that has a line
pub record IsChain (chain : Chain) : Type 0 where
  pub start : chain.start < 2 ^ 32
  pub steps : AllByRecursion IsStep chain.steps

-- the text spells the steps
abbrev pub SpellsSteps : List (ℕ × ℕ) → List ℕ → Type 0
SpellsSteps steps text = AllByRecursion IsStep steps × (text ≡ flat_map step_text steps)

-- the line spells the chain
abbrev pub SpellsChain : Chain → List ℕ → Type 0
SpellsChain chain line = IsChain chain × (line ≡ learn_line chain)

-- the lines spell the log
abbrev pub SpellsLog : Log → List (List ℕ) → Type 0
SpellsLog log lines = AllByRecursion IsChain log.entries × (lines ≡ learn_lines log)
