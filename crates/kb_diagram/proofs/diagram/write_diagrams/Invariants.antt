use Rattle.std.proofs.Common.{◌≡◌, ◌++◌, drop}
use Rattle.kb_diagram.specs.Diagram.{diagrams_text}
use Rattle.kb_diagram.proofs.diagram.write_diagrams.Given as goal

abbrev pub invariant-loop-path : goal.invariant-loop-path
invariant-loop-path l = l.initial.text ++ diagrams_text l.world l.paths ≡ l.text ++ diagrams_text l.world (drop l.path-index l.paths)
