-- The number with which the program ends.
use Rattle.std.specs.Prelude.{ℕ}
use Rattle.kb_dimacs_text.specs.declared.status.Status.{Status}
use Rattle.kb_dimacs_text.specs.declared.status.Status.TheVariants.{Satisfiable, Unsatisfiable, Unknown, Refused, ReadFault, WriteFault, Memory}

abbrev pub exit_code : Status → ℕ
exit_code Satisfiable = 10
exit_code Unsatisfiable = 20
exit_code Unknown = 0
exit_code Refused = 1
exit_code ReadFault = 6
exit_code WriteFault = 7
exit_code Memory = 8
