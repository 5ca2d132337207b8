-- How an assembly is refused, and that it has one refusal, or ends.
use Rattle.std.proofs.Common.{◌≡◌, ◌≤◌, ℕ, List, length, Vec, Global, Err, sym, ◌∙◌, ap, arith, inl, inr}
use Rattle.kb_asm_check.proofs.OneLaws.{one_number, no_refusal}
use Rattle.kb_refusals.specs.declared.refusal.Refusal.{Refusal}
use Rattle.kb_refusals.specs.declared.refusal.Refusal.TheVariants as refusals
use Rattle.kb_refusals.specs.declared.refusal.TextRefusal.TheVariants as texts
use Rattle.kb_refusals.specs.declared.status.Status.{Status}
use Rattle.kiasan.specs.declared.refusals.Stop.{Stop}
use Rattle.kiasan.specs.declared.refusals.Stop.TheVariants.{Refused, ReadFault, NoMemory}
use Rattle.kiasan.specs.Answers.{refuses, ends, AssemblyRefuses, Carries, EndsAssembly, LineRefuses, RepliesAssembly, text_limit}
use Rattle.kiasan.specs.Refusals.{Gives}
use Rattle.kiasan.proofs.StageLaws.{HasOne}

pub assembly_stops : (bytes : List ℕ) (Passes : Vec ℕ Global → Type 0) (stop : Stop) → length bytes ≤ text_limit → Gives {A = Vec ℕ Global} ⊥ (LineRefuses bytes) Passes (Err stop) →
    Carries ⊥ (RepliesAssembly bytes) (Err stop)
assembly_stops bytes Passes (Refused refusal) within (number, is, unfit) = inr (number, is, within, unfit)
assembly_stops bytes Passes ReadFault within wrong = absurd wrong
assembly_stops bytes Passes NoMemory within none = tt

assembly_refusal : (bytes : List ℕ) (r s : Refusal) → AssemblyRefuses bytes r → AssemblyRefuses bytes s → r ≡ s
assembly_refusal bytes r s (inl a) (inl b) = a.0 ∙ sym b.0
assembly_refusal bytes r s (inl a) (inr b) = absurd (omega (arith, a.1, b.2))
assembly_refusal bytes r s (inr a) (inl b) = absurd (omega (arith, b.1, a.2))
assembly_refusal bytes r s (inr a) (inr b) = a.1 ∙ ap (λ (n : ℕ). refusals.Text (texts.AssemblyLine n)) (one_number bytes a.0 b.0 a.3 b.3) ∙ sym b.1

assembly_apart : (bytes : List ℕ) (r : Refusal) (status : Status) (text : List ℕ) → AssemblyRefuses bytes r → EndsAssembly bytes status text → ⊥
assembly_apart bytes r status text (inl a) end = let within : length bytes ≤ text_limit = end.within in omega (arith, a.1)
assembly_apart bytes r status text (inr a) end = no_refusal end.assembled.of bytes a.0 end.assembled.is_text a.3

-- two replies are the same refusal, or none is one
pub assembly_one : (Same : Status → List ℕ → Status → List ℕ → Type 0) (bytes : List ℕ) → ((s : Status) (t : List ℕ) (u : Status) (v : List ℕ) → Same s t u v) → HasOne Same (RepliesAssembly bytes)
assembly_one Same bytes same (refuses r) (refuses s) a b = assembly_refusal bytes r s a b
assembly_one Same bytes same (refuses r) (ends s t) a b = assembly_apart bytes r s t a b
assembly_one Same bytes same (ends s t) (refuses r) a b = assembly_apart bytes r s t b a
assembly_one Same bytes same (ends s t) (ends u v) a b = same s t u v
