-- What a configuration takes up, where its step is within the bound.
use Rattle.std.proofs.Common.{◌≡◌, ℕ, Bool, false, nat_le, Option, None, ap, ◌∙◌, if◌then◌else◌}
use Rattle.std.specs.Option.{option_map, option_map_or}
use Rattle.kb_code.specs.declared.instruction.Instr.{Instr}
use Rattle.kb_heap.specs.declared.bounds.Bound.TheVariants.{Steps}
use Rattle.kb_semantics.specs.Config.{Setting, Config, instruction_at}
use Rattle.kb_semantics.specs.Looks.{if_some, stored_by, stores}
use Rattle.kb_semantics.specs.Step.{effect, step}
use Rattle.kb_semantics.specs.Ways.{past, ill_typed as ill_typed_step}

-- ---- what a configuration takes up

module _ (s : Setting) (c : Config) (within : nat_le s.bounds.steps c.carried ≡ false) (found : Option (Instr × ℕ)) (at : instruction_at s.world c.frame.method c.frame.at ≡ found) where
  pub step_taken : step s c ≡ option_map_or (λ (f : Instr × ℕ). effect f.0 s f.1 c) found (ill_typed_step s c)
  unfolding step
  step_taken =
      ap (λ (b : Bool). if b then past c Steps else option_map_or (λ (f : Instr × ℕ). effect f.0 s f.1 c) (instruction_at s.world c.frame.method c.frame.at) (ill_typed_step s c)) within
      ∙ ap (λ (it : Option (Instr × ℕ)). option_map_or (λ (f : Instr × ℕ). effect f.0 s f.1 c) it (ill_typed_step s c)) at

  pub stores_taken : stores s c ≡ if_some (option_map (λ (f : Instr × ℕ). f.0) found) (λ (instr : Instr). stored_by instr s c)
  unfolding stores
  stores_taken =
      ap (λ (b : Bool). if_some (if b then None else option_map (λ (f : Instr × ℕ). f.0) (instruction_at s.world c.frame.method c.frame.at)) (λ (instr : Instr). stored_by instr s c)) within
      ∙ ap (λ (it : Option (Instr × ℕ)). if_some (option_map (λ (f : Instr × ℕ). f.0) it) (λ (instr : Instr). stored_by instr s c)) at
