use Rattle.std.proofs.Common.{◌≡◌, ℕ, true, List, ◌++◌, length, None, IsTrue}
use Rattle.std.specs.List.{AllByRecursion}
use Rattle.kb_grammar.specs.Grammar.{Each}
use Rattle.kb_asm_body.specs.Faults.{fault_from}
use Rattle.kb_asm_pool.specs.Entries.{entries_of}
use Rattle.kb_asm.specs.Needs.{have_all}
use Rattle.kb_asm.specs.Instructions.{EncodesLine}
use Rattle.kb_asm.specs.Working.{labels_of, IsFitLine}
use Rattle.kb_asm.proofs.instr.Body.bytes.Given as goal

abbrev pub invariant-loop-rest : goal.invariant-loop-rest
invariant-loop-rest l = record {
  same : l.pool.says ≡ l.fn.pool.says;
  there : IsTrue (have_all l.fn.pool.says l.rest);
  fit : AllByRecursion (IsFitLine l.fn.pool.says) l.rest;
  sound : (place : ℕ) × (fault_from (labels_of l.self.layout.now) true place (length l.code.items) l.rest ≡ None);
  bytes : (more : List ℕ) → Each (EncodesLine (entries_of l.fn.pool.says) (labels_of l.self.layout.now)) l.rest (length l.code.items) more
      → Each (EncodesLine (entries_of l.fn.pool.says) (labels_of l.self.layout.now)) l.lines 0 (l.code.items ++ more);
}

abbrev pub decreases-loop-rest : goal.decreases-loop-rest
decreases-loop-rest l = length l.rest
