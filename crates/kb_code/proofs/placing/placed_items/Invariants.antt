use Rattle.std.proofs.Common.{◌≡◌}
use Rattle.kb_code.specs.Answers.{each_of, placed_item}
use Rattle.kb_code.specs.Starts.{starts_in}
use Rattle.kb_code.proofs.Steps.{behind}
use Rattle.kb_code.proofs.placing.placed_items.Given as goal

abbrev pub invariant-loop-at : goal.invariant-loop-at
invariant-loop-at l = behind l.listing.items (each_of (placed_item (starts_in l.table)) l.at-iterator.rest.items) ≡ each_of (placed_item (starts_in l.table)) l.fn.items.items
