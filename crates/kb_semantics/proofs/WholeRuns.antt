-- Runs of the whole machine: one more step than there can be changes nothing, and a run goes on from each of its configurations.
use Rattle.std.proofs.Common.{◌≡◌, ℕ, zero, suc, ◌+◌, ◌≤◌, true, Option, Some, None, refl, ap, arith, nat_le, le-leb}
use Rattle.std.specs.Option.{option_map_or, option_and_then}
use Rattle.kb_code.specs.declared.instruction.Instr.{Instr}
use Rattle.kb_semantics.specs.Config.{Setting, Config, Outcome, Goes, Ends, instruction_at}
use Rattle.kb_semantics.specs.Step.{effect, step, follow, run, next_config, config_at}
use Rattle.kb_semantics.specs.Ways.{ill_typed}
use Rattle.kb_semantics.proofs.Progress.{Follows, if_follows}
use Rattle.kb_semantics.proofs.Effects.{effect_follows}

taken_up_follows : (s : Setting) (c : Config) (found : Option (Instr × ℕ)) → Follows c (option_map_or (λ (f : Instr × ℕ). effect f.0 s f.1 c) found (ill_typed s c))
taken_up_follows s c None = refl
taken_up_follows s c (Some found) = effect_follows s c found.0 found.1

-- each step: see `Follows`
pub step_follows : (s : Setting) (c : Config) → Follows c (step s c)
unfolding step
step_follows s c = if_follows s c (nat_le s.bounds.steps c.carried) _ _ refl (taken_up_follows s c (instruction_at s.world c.frame.method c.frame.at))

-- where as many instructions were carried out as may be, a run of whatever length ends as it does with none
ended_follow : (s : Setting) (k : ℕ) (c : Config) → s.bounds.steps ≤ c.carried → run k s c ≡ run zero s c
unfolding run step
ended_follow s zero c le = refl
ended_follow s (suc k) c le = let past : nat_le s.bounds.steps c.carried ≡ true = le-leb s.bounds.steps c.carried le in rw past refl

follow_on : (s : Setting) (n k : ℕ) (c : Config) (o : Outcome) → Follows c o → s.bounds.steps ≤ c.carried + suc n →
    ((d : Config) → s.bounds.steps ≤ d.carried + n → run (n + k) s d ≡ run n s d) → follow o (run (n + k) s) ≡ follow o (run n s)
follow_on s n k c (Goes d) on le ih = ih d (omega (arith, le, on.0))
follow_on s n k c (Ends e) on le ih = refl

-- The first number of `run` is no bound: a larger one gives the same, once the bound on steps is within it.
pub run_is_whole : (n k : ℕ) (s : Setting) (c : Config) → s.bounds.steps ≤ c.carried + n → run (n + k) s c ≡ run n s c
unfolding run
run_is_whole zero k s c le = let same : zero + k ≡ k = omega arith in rw same (ended_follow s k c (omega (arith, le)))
run_is_whole (suc n) k s c le = let same : suc n + k ≡ suc (n + k) = omega arith in rw same (follow_on s n k c (step s c) (step_follows s c) le (λ d more. run_is_whole n k s d more))

follow_config : (s : Setting) (n k : ℕ) (d : Config) (o : Outcome) → ((c : Config) → config_at s n c ≡ Some d → run (n + k) s c ≡ run k s d) →
    option_and_then (config_at s n) (next_config o) ≡ Some d → follow o (run (n + k) s) ≡ run k s d
follow_config s n k d (Goes c) ih at = ih c at
follow_config s n k d (Ends e) ih at = absurd cc

-- A run goes on from the configuration that it has after so many steps.
pub run_from : (n k : ℕ) (s : Setting) (c d : Config) → config_at s n c ≡ Some d → run (n + k) s c ≡ run k s d
unfolding run
run_from zero k s c d at = let none : zero + k ≡ k = omega arith in let same : c ≡ d = cc in rw none (ap (run k s) same)
run_from (suc n) k s c d at = let same : suc n + k ≡ suc (n + k) = omega arith in rw same (follow_config s n k d (step s c) (λ e later. run_from n k s e d later) at)
