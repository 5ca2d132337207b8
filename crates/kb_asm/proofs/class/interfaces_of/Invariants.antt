use Rattle.std.proofs.Common.{◌≡◌, ℕ, List, ◌++◌, length, IsTrue}
use Rattle.std.specs.List.{AllZip}
use Rattle.kb_asm_pool.specs.Entries.{entries_of}
use Rattle.kb_asm.specs.Needs.{have_all}
use Rattle.kb_asm.specs.Parts.{parts}
use Rattle.kb_asm.specs.Entries.{SaysClass}
use Rattle.kb_asm.specs.Class.{interface_in}
use Rattle.kb_asm.proofs.class.interfaces_of.Given as goal

abbrev pub invariant-loop-rest : goal.invariant-loop-rest
invariant-loop-rest l = record {
  same : l.pool.says ≡ l.fn.pool.says;
  there : IsTrue (have_all l.fn.pool.says l.rest);
  made : (more : List ℕ) → AllZip (SaysClass (entries_of l.fn.pool.says)) (parts interface_in l.rest) more → AllZip (SaysClass (entries_of l.fn.pool.says)) (parts interface_in l.lines) (l.interfaces ++ more);
}

abbrev pub decreases-loop-rest : goal.decreases-loop-rest
decreases-loop-rest l = length l.rest
