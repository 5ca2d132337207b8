-- The configuration that a state stands for has carried out as many instructions as the state, over the same input.
use Rattle.std.proofs.Common.{◌≡◌, ℕ, zero, suc, ◌+◌, Some, arith}
use Rattle.std.specs.Option.{option_and_then}
use Rattle.kb_heap.specs.declared.heap.Input.{Input}
use Rattle.kb_semantics.specs.Config.{Setting, Config, Outcome, Goes, Ends}
use Rattle.kb_semantics.specs.Step.{step, next_config, config_at}
use Rattle.kb_semantics.proofs.Progress.{Follows}
use Rattle.kb_semantics.proofs.WholeRuns.{step_follows}
use Rattle.kb_frames.specs.State.{State}
use Rattle.kb_frames.specs.StandsFor.{StandsFor, beginning_of}

carried_from : (n : ℕ) (s : Setting) (c d : Config) (o : Outcome) → Follows c o → ((next : Config) → config_at s n next ≡ Some d → d.carried ≡ next.carried + n)
    → option_and_then (config_at s n) (next_config o) ≡ Some d → d.carried ≡ c.carried + suc n
carried_from n s c d (Goes next) follows ih at = let later = ih next at in omega (arith, later, follows.0)
carried_from n s c d (Ends ended) follows ih at = absurd cc

carried_at : (n : ℕ) (s : Setting) (c d : Config) → config_at s n c ≡ Some d → d.carried ≡ c.carried + n
carried_at zero s c d at = let same : c ≡ d = cc in rw same (omega arith)
carried_at (suc n) s c d at = carried_from n s c d (step s c) (step_follows s c) (λ next later. carried_at n s next d later) at

-- the counters agree
pub counters_agree : (s : Setting) (state : State) (input : Input) (c : Config) → StandsFor s state input c → c.carried ≡ state.carried
counters_agree s state input c stands =
    let at = carried_at state.carried s (beginning_of s.world state input) c stands.run in
    omega (arith, at)
