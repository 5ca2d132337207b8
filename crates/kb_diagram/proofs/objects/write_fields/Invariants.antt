use Rattle.std.proofs.Common.{◌≡◌, ◌++◌, drop}
use Rattle.kb_diagram.specs.Diagram.{numbered_words, field_cell}
use Rattle.kb_diagram.specs.Tables.{held_in}
use Rattle.kb_diagram.proofs.objects.write_fields.Given as goal

abbrev pub invariant-loop-slot : goal.invariant-loop-slot
invariant-loop-slot l =
    l.initial.text ++ numbered_words (field_cell (held_in l.cells l.object)) 0 l.fields ≡ l.text ++ numbered_words (field_cell (held_in l.cells l.object)) l.slot (drop l.slot l.fields)
