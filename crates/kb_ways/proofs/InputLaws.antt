-- The configuration that a state stands for is one of a run over the same input.
use Rattle.std.proofs.Common.{◌≡◌, ℕ, zero, suc, length, Some, sym, ap, ◌∙◌}
use Rattle.std.specs.Option.{option_and_then}
use Rattle.kb_heap.specs.declared.heap.Input.{Input}
use Rattle.kb_semantics.specs.Config.{Setting, Config, Outcome, Goes, Ends}
use Rattle.kb_semantics.specs.Step.{config_at, next_config, step}
use Rattle.kb_semantics.proofs.Progress.{Follows}
use Rattle.kb_semantics.proofs.WholeRuns.{step_follows}
use Rattle.kb_frames.specs.State.{State}
use Rattle.kb_frames.specs.StandsFor.{StandsFor, beginning_of}

inputs_from : (n : ℕ) (s : Setting) (c d : Config) (o : Outcome) → Follows c o → ((next : Config) → config_at s n next ≡ Some d → d.inputs ≡ next.inputs)
    → option_and_then (config_at s n) (next_config o) ≡ Some d → d.inputs ≡ c.inputs
inputs_from n s c d (Goes next) follows ih at = ih next at ∙ follows.1
inputs_from n s c d (Ends ended) follows ih at = absurd cc

inputs_at : (n : ℕ) (s : Setting) (c d : Config) → config_at s n c ≡ Some d → d.inputs ≡ c.inputs
inputs_at zero s c d at = let same : c ≡ d = cc in ap (λ (x : Config). x.inputs) (sym same)
inputs_at (suc n) s c d at = inputs_from n s c d (step s c) (step_follows s c) (λ next later. inputs_at n s next d later) at

-- it tells how many objects the input has
pub inputs_agree : (s : Setting) (state : State) (input : Input) (c : Config) → StandsFor s state input c → c.inputs ≡ length input.heap.objects
inputs_agree s state input c stands = inputs_at state.carried s (beginning_of s.world state input) c stands.run
