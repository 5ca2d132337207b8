use Rattle.std.proofs.Common.{List, ◌++◌, length}
use Rattle.std.specs.List.{AllByRecursion, AllZip}
use Rattle.kb_class.specs.declared.members.FieldInfo.{FieldInfo}
use Rattle.kb_class.specs.Loading.{IsFieldOf}
use Rattle.kb_class.specs.Tables.{IsFieldTold}
use Rattle.kb_class.proofs.loading.fields_of.Given as goal

abbrev pub invariant-loop-rest : goal.invariant-loop-rest
invariant-loop-rest l = record {
  told : AllByRecursion (IsFieldTold l.file l.names l.kinds) l.rest;
  made : (more : List FieldInfo) → AllZip (IsFieldOf l.file) l.rest more → AllZip (IsFieldOf l.file) l.file.fields (l.infos ++ more);
}

abbrev pub decreases-loop-rest : goal.decreases-loop-rest
decreases-loop-rest l = length l.rest
