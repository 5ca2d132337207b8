use Rattle.std.proofs.Common.{◌≡◌, true, false, ℕ, List, ◌++◌, length}
use Rattle.std.specs.List.{AllZip, list_any}
use Rattle.kb_asm_body.specs.Faults.{is_missing}
use Rattle.kb_asm.specs.Instructions.{LeadsTo}
use Rattle.kb_asm.specs.Working.{labels_of}
use Rattle.kb_asm.proofs.instr.Body.targets.Given as goal

abbrev pub invariant-loop-rest : goal.invariant-loop-rest
invariant-loop-rest l = record {
  there : list_any (is_missing (labels_of l.self.layout.now) true) l.rest ≡ false;
  made : (more : List ℕ) → AllZip (LeadsTo (labels_of l.self.layout.now)) l.rest more → AllZip (LeadsTo (labels_of l.self.layout.now)) l.labels (l.targets ++ more);
}

abbrev pub decreases-loop-rest : goal.decreases-loop-rest
decreases-loop-rest l = length l.rest
