use Rattle.std.proofs.Common.{◌≡◌, ◌++◌}
use Rattle.kb_diagram.specs.Diagram.{element_cells}
use Rattle.kb_diagram.specs.Tables.{held_in}
use Rattle.kb_diagram.proofs.objects.write_elements.Given as goal

abbrev pub invariant-loop-index : goal.invariant-loop-index
invariant-loop-index l = l.text ≡ l.initial.text ++ element_cells (held_in l.cells l.array) l.index
