use Rattle.std.proofs.Common.{◌≡◌, false, take}
use Rattle.std.specs.List.{All}
use Rattle.kb_dimacs_text.specs.Pieces.{separates}
use Rattle.kb_dimacs_text.proofs.lines.cut.Given as goal

abbrev pub invariant-loop-at : goal.invariant-loop-at
invariant-loop-at l = All (λ b. separates l.separator b ≡ false) (take l.at l.text)
