use Rattle.std.proofs.Common.{◌≡◌, ℕ, true, List, ◌++◌, length, None, IsTrue}
use Rattle.std.specs.List.{AllZip}
use Rattle.kb_classfile.specs.declared.file.Handler.{Handler}
use Rattle.kb_asm_body.specs.Faults.{fault_from}
use Rattle.kb_asm_pool.specs.Entries.{entries_of}
use Rattle.kb_asm.specs.Needs.{have_all}
use Rattle.kb_asm.specs.Parts.{parts}
use Rattle.kb_asm.specs.Class.{handler_in, IsHandlerOf}
use Rattle.kb_asm.specs.Working.{labels_of}
use Rattle.kb_asm.proofs.instr.Body.handlers.Given as goal

abbrev pub invariant-loop-rest : goal.invariant-loop-rest
invariant-loop-rest l = record {
  same : l.pool.says ≡ l.fn.pool.says;
  there : IsTrue (have_all l.fn.pool.says l.rest);
  sound : (place at : ℕ) × (fault_from (labels_of l.self.layout.now) true place at l.rest ≡ None);
  made : (more : List Handler) → AllZip (IsHandlerOf (entries_of l.fn.pool.says) (labels_of l.self.layout.now)) (parts handler_in l.rest) more → AllZip (IsHandlerOf (entries_of l.fn.pool.says) (labels_of l.self.layout.now)) (parts handler_in l.lines) (l.handlers ++ more);
}

abbrev pub decreases-loop-rest : goal.decreases-loop-rest
decreases-loop-rest l = length l.rest
