-- Laws of ways up.
use Rattle.std.proofs.Common.{◌≡◌, ℕ, ◌≤◌, ◌⊎◌, List, [], ◌∷◌, ◌++◌, ◌<◌, length, get_or, true, refl, sym, ap, ◌∙◌, inl, inr, subst}
use Rattle.std.proofs.lemmas.Bool.{false≢true}
use Rattle.std.proofs.lemmas.List.{get_or_past, get_or_default}
use Rattle.kb_order.specs.Order.{stands, IsDirectlyAbove, Climbs, IsAbove, IsStrictlyAbove}

-- what stands strictly above stands above
pub above_from_strictly : (direct : List (List ℕ)) (low high : ℕ) → IsStrictlyAbove direct low high → IsAbove direct low high
above_from_strictly direct low high h = (h.0 ∷ h.2.0, (h.1, h.2.1))

same_or_strictly : (direct : List (List ℕ)) (low : ℕ) (path : List ℕ) (high : ℕ) → Climbs direct low path high
    → (low ≡ high) ⊎ IsStrictlyAbove direct low high
same_or_strictly direct low [] high h = inl h
same_or_strictly direct low (next ∷ rest) high h = inr (next, h.0, (rest, h.1))

-- what stands above a number is that number, or stands strictly above it
pub same_or_strictly_above : (direct : List (List ℕ)) (low high : ℕ) → IsAbove direct low high → (low ≡ high) ⊎ IsStrictlyAbove direct low high
same_or_strictly_above direct low high h = same_or_strictly direct low h.0 high h.1

climbs_on : (direct : List (List ℕ)) (low : ℕ) (path : List ℕ) (middle : ℕ) (on : List ℕ) (high : ℕ) → Climbs direct low path middle
    → Climbs direct middle on high → Climbs direct low (path ++ on) high
climbs_on direct low [] middle on high h g = subst (λ z. Climbs direct z on high) (sym h) g
climbs_on direct low (next ∷ rest) middle on high h g = (h.0, climbs_on direct next rest middle on high h.1 g)

-- ways up go on
pub above_above : (direct : List (List ℕ)) (low middle high : ℕ) → IsAbove direct low middle → IsAbove direct middle high → IsAbove direct low high
above_above direct low middle high h g = (h.0 ++ g.0, climbs_on direct low h.0 middle g.0 high h.1 g.1)

pub strictly_above_strictly : (direct : List (List ℕ)) (low middle high : ℕ) → IsStrictlyAbove direct low middle
    → IsStrictlyAbove direct middle high → IsStrictlyAbove direct low high
strictly_above_strictly direct low middle high h g =
    (h.0, h.1, above_above direct h.0 middle high h.2 (above_from_strictly direct middle high g))

pub strictly_from_directly : (direct : List (List ℕ)) (low high : ℕ) → IsDirectlyAbove direct low high → IsStrictlyAbove direct low high
strictly_from_directly direct low high h = (high, h, ([], refl))

-- nothing stands above a number that has no item
pub nothing_above : (direct : List (List ℕ)) (low high : ℕ) → length direct ≤ low → IsDirectlyAbove direct low high → ⊥
nothing_above direct low high past h = false≢true (sym (ap (stands high) (get_or_past direct low [] past)) ∙ h)

-- what stands in an item stands directly above that item's number
pub directly_from_item : (direct : List (List ℕ)) (low : ℕ) (item : List ℕ) (high : ℕ) → low < length direct → item ≡ get_or direct low item
    → stands high item ≡ true → IsDirectlyAbove direct low high
directly_from_item direct low item high lt is s = ap (stands high) (get_or_default direct low [] item lt ∙ sym is) ∙ s
