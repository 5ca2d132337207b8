-- The first of some items that is such.
use Rattle.std.proofs.Common.{◌≡◌, ℕ, zero, suc, ◌<◌, Bool, true, false, true≢false, if◌then◌else◌, List, [], ◌∷◌, ◌++◌, length, Option, Some, None, slice_get, refl, sym, ap, ◌∙◌}
use Rattle.std.specs.List.{AllZip}
use Rattle.std.specs.Option.{option_map, option_or}
use Rattle.std.proofs.lemmas.Option.{same_Some, none-some, slice_get_within}
use Rattle.kb_numbers.specs.Places.{place_where}

module _ {A : Type 0} (is : A → Bool) where
  -- the item at the place is such
  pub place_there : (xs : List A) (i : ℕ) → place_where is xs ≡ Some i → (x : A) × (slice_get xs i ≡ Some x) × (is x ≡ true)
  place_there [] i at = absurd cc
  place_there (x ∷ xs) i at = go (λ n h. place_there xs n h) (is x) refl where
    go : ((n : ℕ) → place_where is xs ≡ Some n → (y : A) × (slice_get xs n ≡ Some y) × (is y ≡ true)) → (b : Bool) → is x ≡ b → (y : A) × (slice_get (x ∷ xs) i ≡ Some y) × (is y ≡ true)
    go later true e =
        let first : place_where is (x ∷ xs) ≡ Some 0 = (rw e refl) in
        let zeroth : 0 ≡ i = same_Some 0 i (sym first ∙ at) in
        (x, ap (λ (n : ℕ). slice_get (x ∷ xs) n) (sym zeroth), e)
    go later false e = behind (place_where is xs) refl where
      behind : (o : Option ℕ) → place_where is xs ≡ o → (y : A) × (slice_get (x ∷ xs) i ≡ Some y) × (is y ≡ true)
      behind None none =
          let no : place_where is (x ∷ xs) ≡ None = (rw e (ap (option_map suc) none)) in
          absurd (none-some i (sym no ∙ at))
      behind (Some before) some =
          let there : place_where is (x ∷ xs) ≡ Some (suc before) = (rw e (ap (option_map suc) some)) in
          let next : suc before ≡ i = same_Some (suc before) i (sym there ∙ at) in
          let found = later before some in
          (found.0, ap (λ (n : ℕ). slice_get (x ∷ xs) n) (sym next) ∙ found.1, found.2)

  -- where there is no place, no item is such
  pub place_nowhere : (xs : List A) (i : ℕ) (x : A) → place_where is xs ≡ None → slice_get xs i ≡ Some x → is x ≡ true → ⊥
  place_nowhere [] i x none at such = absurd cc
  place_nowhere (w ∷ xs) i x none at such = go (λ n y a b c. place_nowhere xs n y a b c) (is w) refl i at where
    go : ((n : ℕ) (y : A) → place_where is xs ≡ None → slice_get xs n ≡ Some y → is y ≡ true → ⊥) → (b : Bool) → is w ≡ b → (n : ℕ) → slice_get (w ∷ xs) n ≡ Some x → ⊥
    go later true e n there =
        let first : place_where is (w ∷ xs) ≡ Some 0 = (rw e refl) in
        none-some 0 (sym none ∙ first)
    go later false e zero there =
        let same : w ≡ x = same_Some w x there in
        true≢false (sym such ∙ ap is (sym same) ∙ e)
    go later false e (suc n) there = behind (place_where is xs) refl where
      behind : (o : Option ℕ) → place_where is xs ≡ o → ⊥
      behind None nowhere = later n x nowhere there such
      behind (Some before) some =
          let found : place_where is (w ∷ xs) ≡ Some (suc before) = (rw e (ap (option_map suc) some)) in
          none-some (suc before) (sym none ∙ found)

  -- an item that is such has a place
  pub place_somewhere : (xs : List A) (i : ℕ) (x : A) → slice_get xs i ≡ Some x → is x ≡ true → (place : ℕ) × (place_where is xs ≡ Some place)
  place_somewhere xs i x at such = go (place_where is xs) refl where
    go : (o : Option ℕ) → place_where is xs ≡ o → (place : ℕ) × (place_where is xs ≡ Some place)
    go None none = absurd (place_nowhere xs i x none at such)
    go (Some place) some = (place, some)

  -- the place is one of the list
  pub place_inside : (xs : List A) (i : ℕ) → place_where is xs ≡ Some i → i < length xs
  place_inside xs i at = (let found = place_there xs i at in slice_get_within xs i found.0 found.1)

  -- ---- one item more

  place_step : (b : Bool) (whole o : Option ℕ) (c : Bool) (n : ℕ) → whole ≡ option_or o (if c then Some n else None)
      → (if b then Some 0 else option_map suc whole) ≡ option_or (if b then Some 0 else option_map suc o) (if c then Some (suc n) else None)
  place_step true whole o c n e = refl
  place_step false whole (Some m) c n e = ap (option_map suc) e
  place_step false whole None true n e = ap (option_map suc) e
  place_step false whole None false n e = ap (option_map suc) e

  pub place_pushed : (xs : List A) (x : A) → place_where is (xs ++ x ∷ []) ≡ option_or (place_where is xs) (if is x then Some (length xs) else None)
  place_pushed [] x = refl
  place_pushed (y ∷ xs) x = place_step (is y) (place_where is (xs ++ x ∷ [])) (place_where is xs) (is x) (length xs) (place_pushed xs x)

-- the same place in two lists
pub place_beside : {A B : Type 0} (p : A → Bool) (q : B → Bool) (xs : List A) (ys : List B) → AllZip (λ x y. p x ≡ q y) xs ys → place_where p xs ≡ place_where q ys
place_beside p q [] [] same = refl
place_beside p q [] (y ∷ ys) same = absurd same
place_beside p q (x ∷ xs) [] same = absurd same
place_beside p q (x ∷ xs) (y ∷ ys) same =
    ap (λ (b : Bool). if b then Some 0 else option_map suc (place_where p xs)) same.0 ∙ ap (λ (o : Option ℕ). if q y then Some 0 else option_map suc o) (place_beside p q xs ys same.1)
