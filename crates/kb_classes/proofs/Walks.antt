-- Walks over lists: what holds of all items, and where it ends; tests.
use Rattle.std.proofs.Common.{◌≡◌, ℕ, zero, suc, ◌+◌, ◌-◌, ◌<◌, ◌≤◌, Bool, true, false, List, [], ◌∷◌, ◌++◌, length, take, drop, get_or, slice_get, Some, map, refl, sym, ap, subst, ◌∙◌, arith}
use Rattle.std.specs.List.{AllByRecursion}
use Rattle.std.proofs.lemmas.Grind.{take_at_read}
use Rattle.std.proofs.lemmas.List.{take_all}
use Rattle.std.proofs.lemmas.Option.{same_Some}

module _ {A : Type 0} (P : A → Type 0) where
  pub pushed : (xs : List A) (x : A) → AllByRecursion P xs → P x → AllByRecursion P (xs ++ x ∷ [])
  pushed [] x all one = (one, tt)
  pushed (w ∷ xs) x all one = (all.0, pushed xs x all.1 one)

  -- one item more
  pub all_next : (xs : List A) (i : ℕ) (x : A) → i < length xs → x ≡ get_or xs i x → AllByRecursion P (take i xs) → P x → AllByRecursion P (take (i + 1) xs)
  all_next xs i x inside is all one =
      let taken : take (i + 1) xs ≡ take i xs ++ x ∷ [] = (take_at_read xs i x inside).1 ∙ ap (λ (y : A). take i xs ++ y ∷ []) (sym is) in
      subst (AllByRecursion P) (sym taken) (pushed (take i xs) x all one)

  -- an item of which it does not hold
  pub not_all : (xs : List A) (i : ℕ) (x : A) → i < length xs → x ≡ get_or xs i x → (P x → ⊥) → AllByRecursion P xs → ⊥
  not_all [] i x inside is none all = absurd (omega (arith, inside))
  not_all (w ∷ xs) zero x inside is none all = none (subst P (sym is) all.0)
  not_all (w ∷ xs) (suc i) x inside is none all = not_all xs i x (omega (arith, inside)) is none all.1

  -- it holds of each item
  pub all_get : (xs : List A) (i : ℕ) (x : A) → AllByRecursion P xs → slice_get xs i ≡ Some x → P x
  all_get [] i x all at = absurd cc
  all_get (w ∷ xs) zero x all at =
      let same : w ≡ x = cc in
      subst P same all.0
  all_get (w ∷ xs) (suc i) x all at = all_get xs i x all.1 at

  -- it holds of the first items
  pub all_front : (xs ys : List A) → AllByRecursion P (xs ++ ys) → AllByRecursion P xs
  all_front [] ys all = tt
  all_front (w ∷ xs) ys all = (all.0, all_front xs ys all.1)

-- ---- the rest of a list

-- the next item of the rest, and what stands behind it
pub next_rest : {A : Type 0} (rest : List A) (x : A) → 1 ≤ length rest → x ≡ get_or rest 0 x → rest ≡ x ∷ take (length rest - 1) (drop 1 rest)
next_rest [] x some is = absurd (omega (arith, some))
next_rest (y ∷ others) x some is =
    let long : length others ≤ length (y ∷ others) - 1 = omega arith in
    let same : take (length (y ∷ others) - 1) others ≡ others = take_all (length (y ∷ others) - 1) others long in
    let head : x ≡ y = is in
    ap (λ z. z ∷ others) (sym head) ∙ ap (λ zs. x ∷ zs) (sym same)

-- ---- lists of what is made of each item

module _ {A B : Type 0} (f : A → B) (P : B → Type 0) where
  pub all_made : (xs : List A) → AllByRecursion (λ (x : A). P (f x)) xs → AllByRecursion P (map f xs)
  all_made [] all = tt
  all_made (x ∷ xs) all = (all.0, all_made xs all.1)

  pub made_all : (xs : List A) → AllByRecursion P (map f xs) → AllByRecursion (λ (x : A). P (f x)) xs
  made_all [] all = tt
  made_all (x ∷ xs) all = (all.0, made_all xs all.1)

pub map_twice : {A B C : Type 0} (f : A → B) (g : B → C) (xs : List A) → map g (map f xs) ≡ map (λ (x : A). g (f x)) xs
map_twice f g [] = refl
map_twice f g (x ∷ xs) = ap (λ (ys : List _). g (f x) ∷ ys) (map_twice f g xs)

-- ---- a list cut at an item

module _ {A : Type 0} where
  taken_suc : (xs : List A) (place : ℕ) (x : A) → slice_get xs place ≡ Some x → take (suc place) xs ≡ take place xs ++ x ∷ []
  taken_suc [] place x there = absurd cc
  taken_suc (y ∷ xs) zero x there = ap (λ (z : A). z ∷ []) (same_Some y x there)
  taken_suc (y ∷ xs) (suc place) x there = ap (λ (zs : List A). y ∷ zs) (taken_suc xs place x there)

  pub taken_next : (xs : List A) (place : ℕ) (x : A) → slice_get xs place ≡ Some x → take (place + 1) xs ≡ take place xs ++ x ∷ []
  taken_next xs place x there = (let next : place + 1 ≡ suc place = omega arith in ap (λ (n : ℕ). take n xs) next ∙ taken_suc xs place x there)

  front_and_rest : (xs : List A) (n : ℕ) → xs ≡ take n xs ++ drop n xs
  front_and_rest [] zero = refl
  front_and_rest [] (suc n) = refl
  front_and_rest (y ∷ xs) zero = refl
  front_and_rest (y ∷ xs) (suc n) = ap (λ (zs : List A). y ∷ zs) (front_and_rest xs n)

  pub cut_at : (xs : List A) (place : ℕ) (x : A) → slice_get xs place ≡ Some x → xs ≡ (take place xs ++ x ∷ []) ++ drop (place + 1) xs
  cut_at xs place x there = front_and_rest xs (place + 1) ∙ ap (λ (ys : List A). ys ++ drop (place + 1) xs) (taken_next xs place x there)

  pub all_taken : (xs : List A) (n : ℕ) → length xs ≤ n → take n xs ≡ xs
  all_taken [] zero long = refl
  all_taken [] (suc n) long = refl
  all_taken (x ∷ xs) zero long = absurd (omega (arith, long))
  all_taken (x ∷ xs) (suc n) long = ap (λ (ys : List A). x ∷ ys) (all_taken xs n (omega (arith, long)))

-- ---- tests

-- two tests that tell the same
pub same_test : (a b : Bool) → (a ≡ true → b ≡ true) → (b ≡ true → a ≡ true) → a ≡ b
same_test true b to from = sym (to refl)
same_test false true to from = from refl
same_test false false to from = refl
