-- How a run ends whose configuration behind so many steps is known.
use Rattle.std.proofs.Common.{◌≡◌, ℕ, suc, ◌+◌, Some, refl, sym, ap, ◌∙◌, arith}
use Rattle.kb_class.specs.declared.ids.MethodId.{MethodId}
use Rattle.kb_heap.specs.declared.heap.Input.{Input}
use Rattle.kb_semantics.specs.Config.{Setting, Config, Ended, Ends}
use Rattle.kb_semantics.specs.Step.{config_at, run, run_of, start_of, step}
use Rattle.kb_semantics.proofs.WholeRuns.{run_from, run_is_whole}

ends_there : (k : ℕ) (s : Setting) (c : Config) (e : Ended) → step s c ≡ Ends e → run (suc k) s c ≡ e
unfolding run
ends_there k s c e ends = rw ends refl

-- where the step behind so many ends the run, the run ends so
pub run_ends : (s : Setting) (method : MethodId) (input : Input) (n : ℕ) (c : Config) (e : Ended) → config_at s n (start_of s.world method input) ≡ Some c
    → step s c ≡ Ends e → run_of s method input ≡ e
run_ends s method input n c e at ends =
    let steps = s.bounds.steps in
    let whole = run_is_whole (suc steps) (n + 1) s (start_of s.world method input) (omega arith) in
    let same : suc steps + (n + 1) ≡ n + suc (suc steps) = omega arith in
    sym whole ∙ ap (λ (k : ℕ). run k s (start_of s.world method input)) same ∙ run_from n (suc (suc steps)) s (start_of s.world method input) c at
    ∙ ends_there (suc steps) s c e ends
