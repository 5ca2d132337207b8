-- The constant pool of the class of a text: what its lines need, each once, and the constants of ldc lines first.
use Rattle.std.specs.Prelude.{◌≡◌, ◌<◌, ◌≤◌, ℕ, true, List, length, Some}
use Rattle.std.specs.List.{list_any, flat_map}
use Rattle.kb_classfile.specs.declared.file.PoolEntry.{PoolEntry}
use Rattle.kb_classfile.specs.Pool.{entry_at}
use Rattle.kb_asm_text.specs.declared.line.Line.{Line}
use Rattle.kb_asm_pool.specs.Says.{Says, same}
use Rattle.kb_asm_pool.specs.Needs.{line_needs}
use Rattle.kb_asm_check.specs.Limits.{ldc_says}
use Rattle.kb_asm.specs.Entries.{EntrySays}

-- it is one of these
abbrev pub Has : List Says → Says → Type 0
Has says one = list_any (same one) says ≡ true

-- what these say is what the entries with the first numbers say
pub record HasFirst (pool : List PoolEntry) (says : List Says) : Type 0 where
  pub count : ℕ
  pub each : (one : Says) → Has says one → (number : ℕ) × (1 ≤ number) × (number ≤ count) × EntrySays pool one number
  pub only : (number : ℕ) → 1 ≤ number → number ≤ count → (one : Says) × Has says one × EntrySays pool one number

pub record IsPoolOf (of : List Line) (pool : List PoolEntry) : Type 0 where
  -- no entry stands twice
  pub once : (one other : ℕ) (entry : PoolEntry) → entry_at pool one ≡ Some entry → entry_at pool other ≡ Some entry → one ≡ other
  -- each need is there, and each entry is needed
  pub there : (one : Says) → Has (flat_map line_needs of) one → (number : ℕ) × EntrySays pool one number
  pub needed : (number : ℕ) → 1 ≤ number → number < length pool → (one : Says) × Has (flat_map line_needs of) one × EntrySays pool one number
  -- the constants of ldc lines have the first numbers
  pub first : HasFirst pool (flat_map ldc_says of)
