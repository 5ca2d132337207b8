-- The number with which the program ends.
use Rattle.std.specs.Prelude.{ℕ}
use Rattle.kb_refusals.specs.declared.status.Status.{Status}
use Rattle.kb_refusals.specs.declared.status.Status.TheVariants.{Complete, Partial, Words, Class, Link, Outside, ReadFault, WriteFault, Memory, Text, Differs}

abbrev pub status_number : Status → ℕ
status_number Complete = 0
status_number Partial = 1
status_number Words = 2
status_number Class = 3
status_number Link = 4
status_number Outside = 5
status_number ReadFault = 6
status_number WriteFault = 7
status_number Memory = 8
status_number Text = 9
status_number Differs = 10
