use Rattle.std.proofs.Common.{ℕ, List, ◌++◌, ◌∷◌, ◌∙◌, ap}
use Rattle.std.specs.Prelude.{codes}
use Rattle.std.specs.Fmt.{decimal}
use Rattle.kb_test_lines.specs.Lines.{bounds_text}
use Rattle.kb_test_lines.proofs.BoundsLine.{after_alloc, after_loops, after_depth, bounds_text-is, same_parts}
use Rattle.kb_test_lines.proofs.lines.read_any_bounds.Goals as goal

pub returns-in_err-alloc : goal.returns-in_err-alloc
returns-in_err-alloc c = rw c.from_residual.ensures (λ b spells. c.in_err-alloc.ensures b.alloc (after_alloc b) spells.0.alloc (spells.1 ∙ bounds_text-is b))

pub returns-in_err-loops : goal.returns-in_err-loops
returns-in_err-loops c = rw c.from_residual-in_err-loops.ensures (λ b spells.
    let one = same_parts (codes "bounds alloc ") _ _ _ _ _ c.in_ok-alloc.ensures.0 spells.0.alloc c.in_ok-alloc.ensures.1 (spells.1 ∙ bounds_text-is b) in
    c.in_err-loops.ensures b.loops (after_loops b) spells.0.loops one.1)

pub returns-in_err-depth : goal.returns-in_err-depth
returns-in_err-depth c = rw c.from_residual-in_err-depth.ensures (λ b spells.
    let one = same_parts (codes "bounds alloc ") _ _ _ _ _ c.in_ok-alloc.ensures.0 spells.0.alloc c.in_ok-alloc.ensures.1 (spells.1 ∙ bounds_text-is b) in
    let two = same_parts (codes "loops ") _ _ _ _ _ c.in_ok-loops.ensures.0 spells.0.loops c.in_ok-loops.ensures.1 one.1 in
    c.in_err-depth.ensures b.depth (after_depth b) spells.0.depth two.1)

pub returns-in_err-steps : goal.returns-in_err-steps
returns-in_err-steps c = rw c.from_residual-in_err-steps.ensures (λ b spells.
    let one = same_parts (codes "bounds alloc ") _ _ _ _ _ c.in_ok-alloc.ensures.0 spells.0.alloc c.in_ok-alloc.ensures.1 (spells.1 ∙ bounds_text-is b) in
    let two = same_parts (codes "loops ") _ _ _ _ _ c.in_ok-loops.ensures.0 spells.0.loops c.in_ok-loops.ensures.1 one.1 in
    let three = same_parts (codes "depth ") _ _ _ _ _ c.in_ok-depth.ensures.0 spells.0.depth c.in_ok-depth.ensures.1 two.1 in
    c.in_err-steps.ensures b.steps (spells.0.steps, three.1))

pub returns : goal.returns
unfolding bounds_text
returns c = (
  record { alloc = c.in_ok-alloc.ensures.0; loops = c.in_ok-loops.ensures.0; depth = c.in_ok-depth.ensures.0; steps = c.in_ok-steps.ensures.0 },
  c.in_ok-alloc.ensures.1
      ∙ ap (λ (r : List ℕ). codes "bounds alloc " ++ (decimal c.in_ok-alloc.alloc ++ 32 ∷ r))
      (c.in_ok-loops.ensures.1
      ∙ ap (λ (r : List ℕ). codes "loops " ++ (decimal c.in_ok-loops.loops ++ 32 ∷ r))
      (c.in_ok-depth.ensures.1
      ∙ ap (λ (r : List ℕ). codes "depth " ++ (decimal c.in_ok-depth.depth ++ 32 ∷ r)) c.in_ok-steps.ensures.1)),
)
