use Rattle.std.proofs.Common.{◌≡◌, ◌++◌, ◌≤◌, ◌+◌, length, take}
use Rattle.std.specs.Option.{option_copied}
use Rattle.kb_dimacs_text.specs.Lines.{lines}
use Rattle.kb_dimacs_text.specs.Fronts.{HasRead}
use Rattle.kb_dimacs_text.specs.Pieces.{lines_left, bytes_left}
use Rattle.kb_dimacs_text.proofs.read.read_dimacs.Given as goal

abbrev pub invariant-loop-rest : goal.invariant-loop-rest
invariant-loop-rest l = record {
  stands : HasRead l.front (take l.number (lines l.text));
  lines_are : take l.number (lines l.text) ++ lines_left (option_copied l.rest) ≡ lines l.text;
  number_is : l.number + length (lines_left (option_copied l.rest)) ≡ length (lines l.text);
  short : l.number + bytes_left (option_copied l.rest) ≤ length l.text + 1;
}

abbrev pub decreases-loop-rest : goal.decreases-loop-rest
decreases-loop-rest l = bytes_left (option_copied l.rest)
