use Rattle.std.proofs.Common.{◌≡◌, ◌∷◌, map, take}
use Rattle.kb_classfile.specs.declared.file.PoolEntry.TheVariants as entries
use Rattle.kb_asm_pool.specs.Entries.{entry_of}
use Rattle.kb_asm_pool.proofs.items.Items.entries.Given as goal

abbrev pub invariant-loop-place : goal.invariant-loop-place
invariant-loop-place l = l.entries ≡ entries.Skipped ∷ map (entry_of l.self.says) (take l.place l.self.says)
