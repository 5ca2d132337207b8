-- The parts of a line and of a log that are read.
use Rattle.std.proofs.Common.{◌≡◌, ℕ, ◌<◌, ◌^◌, List, [], ◌∷◌, ◌++◌, map, refl, sym, ◌∙◌, append-nil, subst, arith}
use Rattle.std.specs.Prelude.{codes}
use Rattle.std.specs.List.{flat_map, AllByRecursion}
use Rattle.std.specs.Fmt.{decimal}
use Rattle.kb_chain.specs.declared.log.Chain.{Chain}
use Rattle.kb_chain.specs.declared.log.Log.{Log}
use Rattle.kb_grammar.specs.Lines.{IsTail}
use Rattle.kb_grammar.specs.LineFormats.{IsLineFormat}
use Rattle.kb_grammar.proofs.NumberLaws.{same_numbered}
use Rattle.kb_grammar.proofs.ListLaws.{is_tail}
use Rattle.kb_log_text.specs.Lines.{step_text, learn_line, IsStep, IsChain, SpellsSteps, SpellsChain, SpellsLog}
use Rattle.kb_log_text.proofs.LogLaws.{step_before, steps_apart, same_chains, log_lines}

-- ---- steps

-- no number is behind the second space
pub no_clause : (text others : List ℕ) (pivot : ℕ) → pivot < 2 ^ 32 → IsTail 32 others → text ≡ 32 ∷ (decimal pivot ++ others)
    → ((number : ℕ) (rest : List ℕ) → number < 2 ^ 32 → IsTail 32 rest → others ≡ 32 ∷ (decimal number ++ rest) → ⊥)
    → (step : ℕ × ℕ) (rest : List ℕ) → IsStep step → IsTail 32 rest → text ≡ step_text step ++ rest → ⊥
no_clause text others pivot small begins here none step rest is tail e =
    let parts = same_numbered 32 (32 ∷ []) pivot step.0 others (32 ∷ (decimal step.1 ++ rest)) (omega arith) small is.0 begins refl (sym here ∙ e ∙ step_before step rest) in
    none step.1 rest is.1 tail parts.1

-- ---- a line

pub no_start : (line : List ℕ) → ((number : ℕ) (rest : List ℕ) → number < 2 ^ 32 → IsTail 32 rest → line ≡ codes "learn " ++ (decimal number ++ rest) → ⊥)
    → (chain : Chain) → SpellsChain chain line → ⊥
unfolding learn_line
no_start line none chain spells = none chain.start (flat_map step_text chain.steps) spells.0.start (is_tail 32 IsStep step_text steps_apart chain.steps) spells.1

pub no_steps : (line rest : List ℕ) (start : ℕ) → start < 2 ^ 32 → IsTail 32 rest → line ≡ codes "learn " ++ (decimal start ++ rest)
    → ((steps : List (ℕ × ℕ)) → SpellsSteps steps rest → ⊥) → (chain : Chain) → SpellsChain chain line → ⊥
unfolding learn_line
no_steps line rest start small tail here none chain spells =
    let parts = same_numbered 32 (codes "learn ") start chain.start rest (flat_map step_text chain.steps) (omega arith) small spells.0.start tail (is_tail 32 IsStep step_text steps_apart chain.steps) (sym here ∙ spells.1) in
    none chain.steps (spells.0.steps, parts.1)

-- ---- logs, line by line

-- each line of a log is that of a chain
line_of : (chains : List Chain) (before after : List (List ℕ)) (line : List ℕ) → AllByRecursion IsChain chains → before ++ line ∷ after ≡ map learn_line chains → (chain : Chain) × SpellsChain chain line
line_of [] [] after line are e = absurd (none e)
  where
    none : line ∷ after ≡ [] → ⊥
    none f = cc
line_of [] (first ∷ before) after line are e = absurd (none e)
  where
    none : first ∷ (before ++ line ∷ after) ≡ [] → ⊥
    none f = cc
line_of (chain ∷ chains) [] after line are e = let same : line ≡ learn_line chain = cc in (chain, (are.0, same))
line_of (chain ∷ chains) (first ∷ before) after line are e = let rest : before ++ line ∷ after ≡ map learn_line chains = cc in line_of chains before after line are.1 rest

pub no_entry : (line : List ℕ) → ((chain : Chain) → SpellsChain chain line → ⊥) → (before after : List (List ℕ)) (whole : Log) → SpellsLog whole (before ++ line ∷ after) → ⊥
no_entry line none before after whole spells =
    let found = line_of whole.entries before after line spells.0 spells.1 in
    none found.0 found.1

-- each front of a log is a log
pub is_line_format : IsLineFormat SpellsLog SpellsLog
is_line_format = record {
  goes_on = λ front before spells. ([], front, subst (SpellsLog front) (sym (append-nil before)) spells);
  are_lines = log_lines;
  spells_one = λ one other lines p q. (let entries = same_chains one.entries other.entries p.0 q.0 (sym p.1 ∙ q.1) in λ i. record { entries = entries i });
}
