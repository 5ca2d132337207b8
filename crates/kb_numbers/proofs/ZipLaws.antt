-- Lists place by place.
use Rattle.std.proofs.Common.{◌≡◌, ℕ, zero, suc, ◌+◌, ◌<◌, List, [], ◌∷◌, ◌++◌, length, map, take, get_or, Some, slice_get, refl, sym, ap, subst, ◌∙◌, arith}
use Rattle.std.specs.List.{AllByRecursion, AllZip}
use Rattle.std.proofs.lemmas.Grind.{take_at_read}
use Rattle.std.proofs.lemmas.Option.{same_Some, none-some, get_or_from_slice_get, slice_get_within}

module _ {A B : Type 0} where
  pub zip_as : (R S : A → B → Type 0) (xs : List A) (ys : List B) → ((x : A) (y : B) → R x y → S x y) → AllZip R xs ys → AllZip S xs ys
  zip_as R S [] [] same each = tt
  zip_as R S [] (y ∷ ys) same each = absurd each
  zip_as R S (x ∷ xs) [] same each = absurd each
  zip_as R S (x ∷ xs) (y ∷ ys) same each = (same x y each.0, zip_as R S xs ys same each.1)

  zip_more : (R : A → B → Type 0) (xs : List A) (ys : List B) (x : A) (y : B) → AllZip R xs ys → R x y → AllZip R (xs ++ x ∷ []) (ys ++ y ∷ [])
  zip_more R [] [] x y each one = (one, tt)
  zip_more R [] (w ∷ ys) x y each one = absurd each
  zip_more R (v ∷ xs) [] x y each one = absurd each
  zip_more R (v ∷ xs) (w ∷ ys) x y each one = (each.0, zip_more R xs ys x y each.1 one)

  -- one item more of a list, and of what stands beside it
  pub zip_next : (R : A → B → Type 0) (xs : List A) (ys zs : List B) (i : ℕ) (x : A) (y : B) → i < length xs → x ≡ get_or xs i x → zs ≡ ys ++ y ∷ [] → AllZip R (take i xs) ys → R x y
      → AllZip R (take (i + 1) xs) zs
  zip_next R xs ys zs i x y inside at pushed each one =
      let taken : take (i + 1) xs ≡ take i xs ++ x ∷ [] = (take_at_read xs i x inside).1 ∙ ap (λ (z : A). take i xs ++ z ∷ []) (sym at) in
      subst (λ (us : List A). AllZip R us zs) (sym taken) (subst (λ (vs : List B). AllZip R (take i xs ++ x ∷ []) vs) (sym pushed) (zip_more R (take i xs) ys x y each one))

  -- one item more of both
  pub zip_taken : (R : A → B → Type 0) (xs : List A) (ys : List B) (i : ℕ) (x : A) (y : B) → slice_get xs i ≡ Some x → slice_get ys i ≡ Some y → AllZip R (take i xs) (take i ys) → R x y
      → AllZip R (take (i + 1) xs) (take (i + 1) ys)
  zip_taken R xs ys i x y at beside each one =
      let first : take (i + 1) xs ≡ take i xs ++ x ∷ [] =
      (take_at_read xs i x (slice_get_within xs i x at)).1 ∙ ap (λ (z : A). take i xs ++ z ∷ []) (get_or_from_slice_get xs i x x at) in
      let second : take (i + 1) ys ≡ take i ys ++ y ∷ [] =
      (take_at_read ys i y (slice_get_within ys i y beside)).1 ∙ ap (λ (z : B). take i ys ++ z ∷ []) (get_or_from_slice_get ys i y y beside) in
      subst (λ (us : List A). AllZip R us (take (i + 1) ys)) (sym first)
      (subst (λ (vs : List B). AllZip R (take i xs ++ x ∷ []) vs) (sym second) (zip_more R (take i xs) (take i ys) x y each one))

  pub zip_both : (R : A → B → Type 0) (xs us : List A) (ys vs : List B) → AllZip R xs ys → AllZip R us vs → AllZip R (xs ++ us) (ys ++ vs)
  zip_both R [] us [] vs first second = second
  zip_both R [] us (y ∷ ys) vs first second = absurd first
  zip_both R (x ∷ xs) us [] vs first second = absurd first
  zip_both R (x ∷ xs) us (y ∷ ys) vs first second = (first.0, zip_both R xs us ys vs first.1 second)

  -- what stands beside an item
  pub zip_there : (R : A → B → Type 0) (xs : List A) (ys : List B) (i : ℕ) (x : A) → AllZip R xs ys → slice_get xs i ≡ Some x → (y : B) × (slice_get ys i ≡ Some y) × R x y
  zip_there R [] [] i x each at = absurd (none-some x at)
  zip_there R [] (w ∷ ys) i x each at = absurd each
  zip_there R (v ∷ xs) [] i x each at = absurd each
  zip_there R (v ∷ xs) (w ∷ ys) zero x each at = (w, refl, subst (λ (u : A). R u w) (same_Some v x at) each.0)
  zip_there R (v ∷ xs) (w ∷ ys) (suc i) x each at = zip_there R xs ys i x each.1 at

  pub zip_from : (R : A → B → Type 0) (xs : List A) (ys : List B) (i : ℕ) (y : B) → AllZip R xs ys → slice_get ys i ≡ Some y → (x : A) × (slice_get xs i ≡ Some x) × R x y
  zip_from R [] [] i y each at = absurd (none-some y at)
  zip_from R [] (w ∷ ys) i y each at = absurd each
  zip_from R (v ∷ xs) [] i y each at = absurd each
  zip_from R (v ∷ xs) (w ∷ ys) zero y each at = (v, refl, subst (λ (u : B). R v u) (same_Some w y at) each.0)
  zip_from R (v ∷ xs) (w ∷ ys) (suc i) y each at = zip_from R xs ys i y each.1 at

  pub zip_long : (R : A → B → Type 0) (xs : List A) (ys : List B) → AllZip R xs ys → length ys ≡ length xs
  zip_long R [] [] each = refl
  zip_long R [] (w ∷ ys) each = absurd each
  zip_long R (v ∷ xs) [] each = absurd each
  zip_long R (v ∷ xs) (w ∷ ys) each = ap suc (zip_long R xs ys each.1)

-- a list beside what is made of another one that stands beside it
pub zip_mapped : {A B C : Type 0} (P : A → B → Type 0) (f : A → C) (R : B → C → Type 0) (xs : List A) (ys : List B) → ((x : A) (y : B) → P x y → R y (f x)) → AllZip P xs ys → AllZip R ys (map f xs)
zip_mapped P f R [] [] right each = tt
zip_mapped P f R [] (y ∷ ys) right each = absurd each
zip_mapped P f R (x ∷ xs) [] right each = absurd each
zip_mapped P f R (x ∷ xs) (y ∷ ys) right each = (right x y each.0, zip_mapped P f R xs ys right each.1)

-- what holds of each item holds of one that is read
pub all_read : {A : Type 0} (P : A → Type 0) (xs : List A) (i : ℕ) (x : A) → i < length xs → x ≡ get_or xs i x → AllByRecursion P xs → P x
all_read P [] i x inside is all = absurd (let no : ⊥ = omega (arith, inside) in no)
all_read P (y ∷ ys) zero x inside is all = subst P (sym is) all.0
all_read P (y ∷ ys) (suc i) x inside is all = all_read P ys i x (omega (arith, inside)) is all.1
