use Rattle.std.proofs.Common.{◌≡◌, ◌<◌, ℕ, Some}
use Rattle.kb_code.specs.Names.{name_of}
use Rattle.kb_asm_text.proofs.shape.op_of.Given as goal

abbrev pub invariant-loop-op : goal.invariant-loop-op
invariant-loop-op l = (k : ℕ) → k < l.op → name_of k ≡ Some l.name → ⊥
