use Rattle.std.proofs.Common.{◌≡◌, List, ◌++◌, length, IsTrue}
use Rattle.std.specs.List.{AllZip}
use Rattle.kb_classfile.specs.declared.file.Field.{Field}
use Rattle.kb_asm_pool.specs.Entries.{entries_of}
use Rattle.kb_asm.specs.Needs.{have_all}
use Rattle.kb_asm.specs.Parts.{parts}
use Rattle.kb_asm.specs.Class.{field_in, IsFieldOf}
use Rattle.kb_asm.proofs.class.fields_of.Given as goal

abbrev pub invariant-loop-rest : goal.invariant-loop-rest
invariant-loop-rest l = record {
  same : l.pool.says ≡ l.fn.pool.says;
  there : IsTrue (have_all l.fn.pool.says l.rest);
  made : (more : List Field) → AllZip (IsFieldOf (entries_of l.fn.pool.says)) (parts field_in l.rest) more → AllZip (IsFieldOf (entries_of l.fn.pool.says)) (parts field_in l.lines) (l.fields ++ more);
}

abbrev pub decreases-loop-rest : goal.decreases-loop-rest
decreases-loop-rest l = length l.rest
