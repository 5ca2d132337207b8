use Rattle.std.proofs.Common.{false, IsTrue, sym, ◌∙◌, subst}
use Rattle.kb_test_lines.specs.Lines.{IsRunBounds}
use Rattle.kb_test_lines.proofs.BoundsLine.{are_numbers, same_bounds}
use Rattle.kb_test_lines.proofs.lines.read_bounds.Goals as goal

not_true : IsTrue false → ⊥
not_true h = cc

pub returns-then-not-are_in_range : goal.returns-then-not-are_in_range
returns-then-not-are_in_range c = λ b spells.
    let some = c.in_ok-bounds.ensures in
    let same = same_bounds b c.in_ok-bounds.bounds (are_numbers b spells.0) some.0 (sym spells.1 ∙ some.1) in
    not_true (c.if-not-are_in_range.ensures.1 (subst IsRunBounds same spells.0))
