-- The first class on a circle.
use Rattle.std.proofs.Common.{◌≡◌, ℕ, zero, suc, ◌<◌, inl, inr, true, List, [], ◌∷◌, length, map, slice_index_or, refl, sym, ap, subst, arith}
use Rattle.kb_order.specs.Order.{stands, StandsOnCircle}
use Rattle.kb_class.specs.Class.{Class}
use Rattle.kb_classes.specs.declared.refusal.LinkRefusal.{LinkRefusal}
use Rattle.kb_classes.specs.declared.refusal.LinkRefusal.TheVariants as refusals
use Rattle.kb_classes.specs.Subtypes.{direct_supers, super_names, numbers_of}
use Rattle.kb_classes.specs.Rules.{HaveDifferentNames, HaveSupers, IsOnCircle}
use Rattle.kb_classes.specs.Refusals.{RefusesClasses}
use Rattle.kb_link.specs.Stops.{NamesClass}

directly_inside : (direct : List (List ℕ)) (low high : ℕ) → stands high (slice_index_or direct low []) ≡ true → low < length direct
directly_inside [] low high there = absurd cc
directly_inside (item ∷ direct) zero high there = omega arith
directly_inside (item ∷ direct) (suc low) high there = (let h : low < length direct = directly_inside direct low high there in omega (arith, h))

-- what stands on a circle is a class
pub circle_inside : (classes : List Class) (number : ℕ) → IsOnCircle classes number → number < length classes
circle_inside classes number on = subst (λ (n : ℕ). number < n) (as_many classes) (directly_inside (direct_supers classes) number on.0 on.1)
  where
    as_many : (cs : List Class) → length (map (λ (class : Class). numbers_of classes (super_names class)) cs) ≡ length cs
    as_many [] = refl
    as_many (c ∷ cs) = ap suc (as_many cs)

-- the name of the first one refuses the classes
pub circle_refuses : (classes : List Class) (number : ℕ) (told : LinkRefusal) → HaveDifferentNames classes → HaveSupers classes
    → StandsOnCircle (direct_supers classes) number → ((earlier : ℕ) → earlier < number → StandsOnCircle (direct_supers classes) earlier → ⊥)
    → NamesClass (λ name. refusals.Circle name) classes number told → RefusesClasses classes told
circle_refuses classes number told differ supers on first names =
    elim names [
      | inl named ↦ subst (RefusesClasses classes) (sym named.2) (differ, supers, record { number = number; named = named.1; on_circle = on; first = first })
      | inr none ↦ subst (RefusesClasses classes) (sym none) tt
    ]
