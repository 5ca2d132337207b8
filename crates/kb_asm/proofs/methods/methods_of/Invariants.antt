use Rattle.std.proofs.Common.{◌≡◌, List, ◌++◌, length, IsTrue}
use Rattle.std.specs.List.{AllByRecursion, AllZip}
use Rattle.kb_classfile.specs.declared.file.Method.{Method}
use Rattle.kb_asm.specs.Needs.{have_all}
use Rattle.kb_asm.specs.Parts.{parts}
use Rattle.kb_asm.specs.Class.{method_in}
use Rattle.kb_asm.specs.Working.{IsFitLine, AreSound, IsReadyMethod}
use Rattle.kb_asm.proofs.methods.methods_of.Given as goal

abbrev pub invariant-loop-rest : goal.invariant-loop-rest
invariant-loop-rest l = record {
  same : l.pool.says ≡ l.fn.pool.says;
  there : IsTrue (have_all l.fn.pool.says l.rest);
  fit : AllByRecursion (IsFitLine l.fn.pool.says) l.rest;
  sound : AreSound l.rest;
  made : (more : List Method) → AllZip (IsReadyMethod l.fn.pool.says) (parts method_in l.rest) more → AllZip (IsReadyMethod l.fn.pool.says) (parts method_in l.lines) (l.methods ++ more);
}

abbrev pub decreases-loop-rest : goal.decreases-loop-rest
decreases-loop-rest l = length l.rest
