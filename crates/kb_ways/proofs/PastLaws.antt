-- A run that has come to a configuration ends as the step from there ends: so a cut at a bound is licensed.
use Rattle.std.proofs.Common.{◌≡◌, ℕ, zero, suc, ◌+◌, ◌-◌, ◌<◌, ◌≤◌, Bool, true, false, nat_le, Some, refl, sym, ap, subst, ◌∙◌, option_and_then, if◌then◌else◌, arith}
use Rattle.std.specs.Option.{option_map_or}
use Rattle.std.proofs.lemmas.Bool.{leb-false, le-leb}
use Rattle.kb_heap.specs.declared.bounds.Bound.{Bound}
use Rattle.kb_heap.specs.declared.bounds.Bound.TheVariants.{Steps}
use Rattle.kb_heap.specs.declared.bounds.Bounds.{Bounds}
use Rattle.kb_heap.specs.declared.ending.Ending.TheVariants.{Past}
use Rattle.kb_heap.specs.declared.heap.Input.{Input}
use Rattle.kb_classes.specs.World.{World}
use Rattle.kb_semantics.specs.Config.{Setting, Config, Ended, Outcome, Goes, Ends, instruction_at}
use Rattle.kb_semantics.specs.Step.{effect, step, follow, run, run_of, next_config, config_at}
use Rattle.kb_semantics.specs.Ways.{ill_typed, past}
use Rattle.kb_semantics.proofs.Progress.{Follows}
use Rattle.kb_semantics.proofs.WholeRuns.{step_follows, run_from}
use Rattle.kb_frames.specs.Cuts.{setting_of, RunsPast}
use Rattle.kb_frames.specs.State.{State}
use Rattle.kb_frames.specs.StandsFor.{StandsFor, beginning_of}
use Rattle.kb_frames.proofs.RunLaws.{counters_agree}

-- a step that goes on is within the bound on steps
step_within : (s : Setting) (c d : Config) → step s c ≡ Goes d → c.carried < s.bounds.steps
unfolding step
step_within s c d e = go (nat_le s.bounds.steps c.carried) refl e where
  go : (b : Bool) → nat_le s.bounds.steps c.carried ≡ b
      → (if b then past c Steps else option_map_or (λ found. effect found.0 s found.1 c) (instruction_at s.world c.frame.method c.frame.at) (ill_typed s c)) ≡ Goes d → c.carried < s.bounds.steps
  go true is h = absurd cc
  go false is h = leb-false s.bounds.steps c.carried is

carried_one : (s : Setting) (c d : Config) → step s c ≡ Goes d → d.carried ≡ c.carried + 1
carried_one s c d e = (subst (Follows c) e (step_follows s c)).0

-- and so is each configuration of a run
within_at : (n : ℕ) (s : Setting) (c d : Config) → c.carried ≤ s.bounds.steps → config_at s n c ≡ Some d → d.carried ≤ s.bounds.steps
within_at zero s c d le at = let same : c ≡ d = cc in subst (λ (x : Config). x.carried ≤ s.bounds.steps) same le
within_at (suc n) s c d le at = go (λ next inside later. within_at n s next d inside later) (step s c) refl at where
  go : ((next : Config) → next.carried ≤ s.bounds.steps → config_at s n next ≡ Some d → d.carried ≤ s.bounds.steps)
      → (o : Outcome) → step s c ≡ o → option_and_then (config_at s n) (next_config o) ≡ Some d → d.carried ≤ s.bounds.steps
  go ih (Goes next) is h = ih next (omega (arith, step_within s c next is, carried_one s c next is)) h
  go ih (Ends e) is h = absurd cc

-- where the step passes a bound, so does the run
pub runs_past : (s : Setting) (state : State) (input : Input) (c : Config) (bound : Bound) → StandsFor s state input c → step s c ≡ past c bound
    → (run_of s state.method input).ending ≡ Past bound
unfolding run
runs_past s state input c bound stands e =
    let start = beginning_of s.world state input in
    let same : c.carried ≡ state.carried = counters_agree s state input c stands in
    let inside : c.carried ≤ s.bounds.steps = within_at state.carried s start c (omega arith) stands.run in
    let many : state.carried + suc (s.bounds.steps - state.carried) ≡ suc s.bounds.steps = omega (arith, same, inside) in
    let on : run (state.carried + suc (s.bounds.steps - state.carried)) s start ≡ run (suc (s.bounds.steps - state.carried)) s c =
    run_from state.carried (suc (s.bounds.steps - state.carried)) s start c stands.run in
    ap (λ (m : ℕ). (run m s start).ending) (sym many) ∙ ap (λ (x : Ended). x.ending) on
    ∙ ap (λ (o : Outcome). (follow o (run (s.bounds.steps - state.carried) s)).ending) e

-- where as many instructions were carried out as may be
pub cut_by_steps : (world : World) (bounds : Bounds) (state : State) (input : Input) (c : Config) → StandsFor (setting_of world bounds) state input c → bounds.run.steps ≤ state.carried
    → RunsPast world state.method bounds Steps input
unfolding step
cut_by_steps world bounds state input c stands le =
    let s : Setting = setting_of world bounds in
    let same : c.carried ≡ state.carried = counters_agree s state input c stands in
    let full : nat_le bounds.run.steps c.carried ≡ true = le-leb bounds.run.steps c.carried (omega (arith, le, same)) in
    let ends : step s c ≡ past c Steps = rw full refl in
    runs_past s state input c Steps stands ends
