-- Where a superclass stands in the chain of a class: as far from its end as its own chain is long.
use Rattle.std.proofs.Common.{◌≡◌, ℕ, zero, suc, ◌-◌, ◌<◌, ◌≤◌, ◌⊎◌, inl, inr, Bool, true, false, true≢false, ◌==◌, ◌||◌, List, [], ◌∷◌, length, drop, Option, Some, None, slice_get, slice_index_or, refl, sym, ap, ◌∙◌, arith, length-drop}
use Rattle.std.specs.List.{list_any}
use Rattle.std.specs.Option.{option_map_or}
use Rattle.std.proofs.lemmas.Bool.{eq-eqb, eqb-true}
use Rattle.std.proofs.lemmas.Option.{same_Some, none-some, slice_get_within}
use Rattle.kb_class.specs.Class.{Class}
use Rattle.kb_classes.specs.Subtypes.{AreChains, IsChain}
use Rattle.kb_classes.specs.World.{World, chain_of, parent_in}
use Rattle.kb_classes.proofs.Walks.{same_test}
use Rattle.kb_resolution.specs.Tables.{stands_at}
use Rattle.kb_universe.proofs.FoundMarks.{any_there}

past_end : {A : Type 0} (xs : List A) (i : ℕ) → slice_get xs i ≡ None → length xs ≤ i
past_end [] i at = omega arith
past_end (x ∷ xs) zero at = absurd cc
past_end (x ∷ xs) (suc i) at = (let rest : length xs ≤ i = past_end xs i at in omega (arith, rest))

none_past : (xs : List (List ℕ)) (i : ℕ) → length xs ≤ i → slice_index_or xs i [] ≡ []
none_past [] i past = refl
none_past (x ∷ xs) zero past = absurd (omega (arith, past))
none_past (x ∷ xs) (suc i) past = none_past xs i (omega (arith, past))

any_place : (n : ℕ) (xs : List ℕ) → list_any (λ above. above == n) xs ≡ true → (place : ℕ) × (slice_get xs place ≡ Some n)
any_place n [] e = absurd (true≢false (sym e))
any_place n (x ∷ xs) e = go (λ h. any_place n xs h) (x == n) refl where
  go : (list_any (λ above. above == n) xs ≡ true → (place : ℕ) × (slice_get xs place ≡ Some n)) → (b : Bool) → (x == n) ≡ b → (place : ℕ) × (slice_get (x ∷ xs) place ≡ Some n)
  go later true f = (0, ap (λ (m : ℕ). Some m) (eqb-true x n f))
  go later false f =
      let rest : list_any (λ above. above == n) xs ≡ true = sym (ap (λ (b : Bool). b || list_any (λ above. above == n) xs) f) ∙ e in
      let found : (place : ℕ) × (slice_get xs place ≡ Some n) = later rest in
      (suc found.0, found.1)

module _ (world : World) (chains : AreChains world.classes world.chains) where
  -- a chain is empty, or it is a number alone or before the chain of another one
  abbrev IsLinkedUp : ℕ → Type 0
  IsLinkedUp low = (chain_of world low ≡ []) ⊎ ((chain_of world low ≡ low ∷ []) ⊎ ((parent : ℕ) × (chain_of world low ≡ low ∷ chain_of world parent)))

  chain_is : (low : ℕ) → IsLinkedUp low
  chain_is low = go (slice_get world.classes low) refl where
    up : (class : Class) (o : Option ℕ) → IsChain world.chains low o (chain_of world low) → IsLinkedUp low
    up class None is = inr (inl is)
    up class (Some parent) is = inr (inr (parent, is))

    go : (o : Option Class) → slice_get world.classes low ≡ o → IsLinkedUp low
    go None at =
        let past : length world.classes ≤ low = past_end world.classes low at in
        inl (none_past world.chains low (omega (arith, past, chains.len)))
    go (Some class) at = up class (parent_in world.classes class) (chains.each low class at)

  -- what stands from a superclass on is its own chain
  chain_behind : (place low high : ℕ) → slice_get (chain_of world low) place ≡ Some high → drop place (chain_of world low) ≡ chain_of world high
  chain_behind zero low high at = go (chain_is low) where
    first : (chain : List ℕ) (rest : List ℕ) → chain_of world low ≡ chain → chain ≡ low ∷ rest → chain_of world low ≡ chain_of world high
    first chain rest is begins =
        let same : low ≡ high = same_Some low high (sym (ap (λ (xs : List ℕ). slice_get xs 0) (is ∙ begins)) ∙ at) in
        ap (chain_of world) same

    go : IsLinkedUp low → chain_of world low ≡ chain_of world high
    go (inl is) = absurd (none-some high (sym (ap (λ (xs : List ℕ). slice_get xs 0) is) ∙ at))
    go (inr (inl is)) = first (low ∷ []) [] is refl
    go (inr (inr h)) = first (low ∷ chain_of world h.0) (chain_of world h.0) h.1 refl
  chain_behind (suc place) low high at = go (λ l h. chain_behind place l high h) (chain_is low) where
    go : ((l : ℕ) → slice_get (chain_of world l) place ≡ Some high → drop place (chain_of world l) ≡ chain_of world high) → IsLinkedUp low → drop (suc place) (chain_of world low) ≡ chain_of world high
    go later (inl is) = absurd (none-some high (sym (ap (λ (xs : List ℕ). slice_get xs (suc place)) is) ∙ at))
    go later (inr (inl is)) = absurd (none-some high (sym (ap (λ (xs : List ℕ). slice_get xs (suc place)) is) ∙ at))
    go later (inr (inr h)) = ap (λ (xs : List ℕ). drop (suc place) xs) h.1 ∙ later h.0 (sym (ap (λ (xs : List ℕ). slice_get xs (suc place)) h.1) ∙ at)

  -- a number stands in a chain where the lengths of the two chains tell, or nowhere
  pub stands : (low high : ℕ) → stands_at (chain_of world low) (length (chain_of world low) - length (chain_of world high)) high ≡ list_any (λ above. above == high) (chain_of world low)
  stands low high = same_test (stands_at chain place high) (list_any (λ above. above == high) chain) there back where
    chain : List ℕ
    chain = chain_of world low

    place : ℕ
    place = length (chain_of world low) - length (chain_of world high)

    there : stands_at (chain_of world low) (length (chain_of world low) - length (chain_of world high)) high ≡ true → list_any (λ above. above == high) (chain_of world low) ≡ true
    there e = go (slice_get (chain_of world low) (length (chain_of world low) - length (chain_of world high))) refl where
      go : (o : Option ℕ) → slice_get (chain_of world low) (length (chain_of world low) - length (chain_of world high)) ≡ o → list_any (λ above. above == high) (chain_of world low) ≡ true
      go None at = absurd (true≢false (sym e ∙ ap (λ (o : Option ℕ). option_map_or (λ (above : ℕ). above == high) o false) at))
      go (Some above) at =
          let same : above ≡ high = eqb-true above high (sym (ap (λ (o : Option ℕ). option_map_or (λ (a : ℕ). a == high) o false) at) ∙ e) in
          any_there (chain_of world low) (length (chain_of world low) - length (chain_of world high)) high (at ∙ ap (λ (n : ℕ). Some n) same)

    back : list_any (λ above. above == high) (chain_of world low) ≡ true → stands_at (chain_of world low) (length (chain_of world low) - length (chain_of world high)) high ≡ true
    back e =
        let found = any_place high (chain_of world low) e in
        let inside : found.0 < length (chain_of world low) = slice_get_within (chain_of world low) found.0 high found.1 in
        let left : length (drop found.0 (chain_of world low)) ≡ length (chain_of world low) - found.0 = length-drop found.0 (chain_of world low) in
        let own : length (drop found.0 (chain_of world low)) ≡ length (chain_of world high) = ap length (chain_behind found.0 low high found.1) in
        let same : length (chain_of world low) - length (chain_of world high) ≡ found.0 = omega (arith, inside, left, own) in
        ap (λ (q : ℕ). stands_at (chain_of world low) q high) same ∙ ap (λ (o : Option ℕ). option_map_or (λ (above : ℕ). above == high) o false) found.1 ∙ eq-eqb high high refl
