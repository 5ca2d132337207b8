-- Lists by the places of their items.
use Rattle.std.proofs.Common.{◌≡◌, ℕ, zero, suc, ◌⊎◌, inl, inr, List, [], ◌∷◌, ◌++◌, length, Some, slice_get, refl, ap, subst}
use Rattle.std.specs.List.{AllZip}

-- ---- lists place by place

module _ {A B : Type 0} (R : A → B → Type 0) where
  pub zip_pushed : (xs : List A) (ys : List B) (x : A) (y : B) → AllZip R xs ys → R x y → AllZip R (xs ++ x ∷ []) (ys ++ y ∷ [])
  zip_pushed [] [] x y each one = (one, tt)
  zip_pushed [] (w ∷ ys) x y each one = absurd each
  zip_pushed (v ∷ xs) [] x y each one = absurd each
  zip_pushed (v ∷ xs) (w ∷ ys) x y each one = (each.0, zip_pushed xs ys x y each.1 one)

  pub zip_at : (xs : List A) (ys : List B) (i : ℕ) (x : A) → AllZip R xs ys → slice_get xs i ≡ Some x → (y : B) × (slice_get ys i ≡ Some y) × R x y
  zip_at [] [] i x each at = absurd cc
  zip_at [] (w ∷ ys) i x each at = absurd each
  zip_at (v ∷ xs) [] i x each at = absurd each
  zip_at (v ∷ xs) (w ∷ ys) zero x each at =
      let same : v ≡ x = cc in
      (w, refl, subst (λ u. R u w) same each.0)
  zip_at (v ∷ xs) (w ∷ ys) (suc i) x each at = zip_at xs ys i x each.1 at

  pub zip_back : (xs : List A) (ys : List B) (i : ℕ) (y : B) → AllZip R xs ys → slice_get ys i ≡ Some y → (x : A) × (slice_get xs i ≡ Some x) × R x y
  zip_back [] [] i y each at = absurd cc
  zip_back [] (w ∷ ys) i y each at = absurd each
  zip_back (v ∷ xs) [] i y each at = absurd each
  zip_back (v ∷ xs) (w ∷ ys) zero y each at =
      let same : w ≡ y = cc in
      (v, refl, subst (λ u. R v u) same each.0)
  zip_back (v ∷ xs) (w ∷ ys) (suc i) y each at = zip_back xs ys i y each.1 at

  pub zip_length : (xs : List A) (ys : List B) → AllZip R xs ys → length ys ≡ length xs
  zip_length [] [] each = refl
  zip_length [] (w ∷ ys) each = absurd each
  zip_length (v ∷ xs) [] each = absurd each
  zip_length (v ∷ xs) (w ∷ ys) each = ap suc (zip_length xs ys each.1)

-- ---- one item more

module _ {A : Type 0} where
  pub get_kept : (xs : List A) (y : A) (i : ℕ) (x : A) → slice_get xs i ≡ Some x → slice_get (xs ++ y ∷ []) i ≡ Some x
  get_kept [] y i x at = absurd cc
  get_kept (w ∷ xs) y zero x at = at
  get_kept (w ∷ xs) y (suc i) x at = get_kept xs y i x at

  pub get_last : (xs : List A) (y : A) → slice_get (xs ++ y ∷ []) (length xs) ≡ Some y
  get_last [] y = refl
  get_last (w ∷ xs) y = get_last xs y

  pub get_pushed : (xs : List A) (y : A) (i : ℕ) (x : A) → slice_get (xs ++ y ∷ []) i ≡ Some x → (slice_get xs i ≡ Some x) ⊎ ((i ≡ length xs) × (y ≡ x))
  get_pushed [] y zero x at = inr (refl, cc)
  get_pushed [] y (suc i) x at = absurd cc
  get_pushed (w ∷ xs) y zero x at = inl at
  get_pushed (w ∷ xs) y (suc i) x at =
      elim (get_pushed xs y i x at) [ inl h ↦ inl h | inr h ↦ inr (ap suc h.0, h.1) ]
