use Rattle.std.proofs.Common.{◌≡◌, true, false, ℕ, ℤ, List, ◌++◌, length}
use Rattle.std.specs.List.{AllZip, list_any}
use Rattle.kb_asm_body.specs.Faults.{is_missing}
use Rattle.kb_asm.specs.Instructions.{IsPair}
use Rattle.kb_asm.specs.Working.{labels_of}
use Rattle.kb_asm.proofs.instr.Body.pairs.Given as goal

abbrev pub invariant-loop-rest : goal.invariant-loop-rest
invariant-loop-rest l = record {
  there : list_any (λ case. is_missing (labels_of l.self.layout.now) true case.target) l.rest ≡ false;
  made : (more : List (ℤ × ℕ)) → AllZip (IsPair (labels_of l.self.layout.now)) l.rest more → AllZip (IsPair (labels_of l.self.layout.now)) l.cases (l.pairs ++ more);
}

abbrev pub decreases-loop-rest : goal.decreases-loop-rest
decreases-loop-rest l = length l.rest
