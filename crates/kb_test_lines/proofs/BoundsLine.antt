-- The line of the bounds, number by number.
use Rattle.std.proofs.Common.{◌≡◌, ℕ, ◌<◌, ◌^◌, List, ◌∷◌, ◌++◌, refl, sym, ◌∙◌, ap, arith}
use Rattle.std.specs.Prelude.{codes}
use Rattle.std.specs.Fmt.{decimal}
use Rattle.kb_heap.specs.declared.bounds.RunBounds.{RunBounds}
use Rattle.kb_test_lines.specs.Lines.{bounds_text, IsRunBounds, IsAnyBounds}
use Rattle.std.proofs.lemmas.Fmt.{decimal_injective}
use Rattle.kb_grammar.proofs.WordLaws.{same_behind}
use Rattle.kb_grammar.proofs.NumberLaws.{same_number}

abbrev pub after_depth : RunBounds → List ℕ
after_depth bounds = codes "steps " ++ decimal bounds.steps

abbrev pub after_loops : RunBounds → List ℕ
after_loops bounds = codes "depth " ++ (decimal bounds.depth ++ 32 ∷ after_depth bounds)

abbrev pub after_alloc : RunBounds → List ℕ
after_alloc bounds = codes "loops " ++ (decimal bounds.loops ++ 32 ∷ after_loops bounds)

pub bounds_text-is : (bounds : RunBounds) → bounds_text bounds ≡ codes "bounds alloc " ++ (decimal bounds.alloc ++ 32 ∷ after_alloc bounds)
unfolding bounds_text
bounds_text-is bounds = refl

-- one text has one number and one rest behind a front
pub same_parts : (front text : List ℕ) (m n : ℕ) (us vs : List ℕ) → m < 2 ^ 32 → n < 2 ^ 32 → text ≡ front ++ (decimal m ++ 32 ∷ us) → text ≡ front ++ (decimal n ++ 32 ∷ vs) → (m ≡ n) × (us ≡ vs)
same_parts front text m n us vs p q e f = same_number front m n us vs p q (sym e ∙ f)

pub are_numbers : (bounds : RunBounds) → IsRunBounds bounds → IsAnyBounds bounds
are_numbers bounds h = record { alloc = omega (arith, h.alloc); loops = omega (arith, h.loops); depth = omega (arith, h.depth); steps = omega (arith, h.steps) }

abbrev bounds_of : ℕ → ℕ → ℕ → ℕ → RunBounds
bounds_of alloc loops depth steps = record { alloc = alloc; loops = loops; depth = depth; steps = steps }

-- one line has one list of bounds
pub same_bounds : (a b : RunBounds) → IsAnyBounds a → IsAnyBounds b → bounds_text a ≡ bounds_text b → a ≡ b
same_bounds a b p q e =
    let one = same_parts (codes "bounds alloc ") (bounds_text a) a.alloc b.alloc (after_alloc a) (after_alloc b) p.alloc q.alloc (bounds_text-is a) (e ∙ bounds_text-is b) in
    let two = same_parts (codes "loops ") (after_alloc a) a.loops b.loops (after_loops a) (after_loops b) p.loops q.loops refl one.1 in
    let three = same_parts (codes "depth ") (after_loops a) a.depth b.depth (after_depth a) (after_depth b) p.depth q.depth refl two.1 in
    let text : decimal a.steps ≡ decimal b.steps = same_behind (codes "steps ") (decimal a.steps) (decimal b.steps) three.1 in
    let four = decimal_injective a.steps b.steps (omega (arith, p.steps)) (omega (arith, q.steps)) text in
    made a b one.0 two.0 three.0 four
  where
    made : (a b : RunBounds) → a.alloc ≡ b.alloc → a.loops ≡ b.loops → a.depth ≡ b.depth → a.steps ≡ b.steps → a ≡ b
    made a b p q r s =
        ap (λ (n : ℕ). bounds_of n a.loops a.depth a.steps) p ∙ ap (λ (n : ℕ). bounds_of b.alloc n a.depth a.steps) q
        ∙ ap (λ (n : ℕ). bounds_of b.alloc b.loops n a.steps) r
        ∙ ap (λ (n : ℕ). bounds_of b.alloc b.loops b.depth n) s
