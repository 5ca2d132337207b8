use Rattle.std.proofs.Common.{◌≡◌, ◌++◌, map}
use Rattle.std.specs.Option.{option_copied}
use Rattle.kb_dimacs_text.specs.Lines.{words}
use Rattle.kb_dimacs_text.specs.Pieces.{words_left, bytes_left}
use Rattle.kb_dimacs_text.proofs.lines.words_of.Given as goal

abbrev pub invariant-loop-rest : goal.invariant-loop-rest
invariant-loop-rest l = map (λ w. w.now) l.found.items ++ words_left (option_copied l.rest) ≡ words l.line

abbrev pub decreases-loop-rest : goal.decreases-loop-rest
decreases-loop-rest l = bytes_left (option_copied l.rest)
