-- What stands in lists.
use Rattle.std.proofs.Common.{◌≡◌, ◌≢◌, ℕ, zero, suc, ◌+◌, ◌<◌, ◌⊎◌, inl, inr, List, [], ◌∷◌, ◌++◌, map, filter_map, option_to_list, length, take, get_or, replicate, Option, Some, None, slice_get, slice_set, refl, sym, ap, subst, ◌∙◌, arith}
use Rattle.std.specs.List.{AllByRecursion, AllZip, cons_option}
use Rattle.std.proofs.lemmas.Grind.{take_at_read}
use Rattle.std.proofs.lemmas.List.Elements.{filter_map-append}
use Rattle.kb_class.specs.Naming.{Has}

module _ {A : Type 0} where
  pub has_first : (x : A) (xs : List A) → Has (x ∷ xs) x
  has_first x xs = (0, refl)

  pub has_later : (x y : A) (xs : List A) → Has xs y → Has (x ∷ xs) y
  has_later x y xs has = (suc has.0, has.1)

  -- it is the first, or stands behind it
  pub has_cases : (x y : A) (xs : List A) → Has (x ∷ xs) y → (x ≡ y) ⊎ Has xs y
  has_cases x y xs has = go has.0 has.1 where
    go : (place : ℕ) → slice_get (x ∷ xs) place ≡ Some y → (x ≡ y) ⊎ Has xs y
    go zero at = inl cc
    go (suc place) at = inr (place, at)

  pub has_none : (y : A) → Has [] y → ⊥
  has_none y has = absurd cc

  pub has_left : (xs ys : List A) (x : A) → Has xs x → Has (xs ++ ys) x
  has_left [] ys x has = absurd (has_none x has)
  has_left (w ∷ xs) ys x has =
      elim (has_cases w x xs has) [ inl same ↦ subst (λ (v : A). Has (w ∷ (xs ++ ys)) v) same (has_first w (xs ++ ys)) | inr later ↦ has_later w x (xs ++ ys) (has_left xs ys x later) ]

  pub has_right : (xs ys : List A) (x : A) → Has ys x → Has (xs ++ ys) x
  has_right [] ys x has = has
  has_right (w ∷ xs) ys x has = has_later w x (xs ++ ys) (has_right xs ys x has)

  pub has_either : (xs ys : List A) (x : A) → Has (xs ++ ys) x → Has xs x ⊎ Has ys x
  has_either [] ys x has = inr has
  has_either (w ∷ xs) ys x has =
      elim (has_cases w x (xs ++ ys) has) [
        | inl same ↦ inl (subst (λ (v : A). Has (w ∷ xs) v) same (has_first w xs))
        | inr later ↦ elim (has_either xs ys x later) [ inl h ↦ inl (has_later w x xs h) | inr h ↦ inr h ]
      ]

  -- ---- what holds of all

  pub all_has : (P : A → Type 0) (xs : List A) (x : A) → AllByRecursion P xs → Has xs x → P x
  all_has P [] x all has = absurd (has_none x has)
  all_has P (w ∷ xs) x all has = elim (has_cases w x xs has) [ inl same ↦ subst P same all.0 | inr later ↦ all_has P xs x all.1 later ]

  pub all_by_has : (P : A → Type 0) (xs : List A) → ((x : A) → Has xs x → P x) → AllByRecursion P xs
  all_by_has P [] each = tt
  all_by_has P (w ∷ xs) each = (each w (has_first w xs), all_by_has P xs (λ x has. each x (has_later w x xs has)))

  -- ---- one item changed

  pub set_here : (xs : List A) (i : ℕ) (y : A) → i < length xs → slice_get (slice_set xs i y) i ≡ Some y
  set_here [] i y inside = absurd (omega (arith, inside))
  set_here (w ∷ xs) zero y inside = refl
  set_here (w ∷ xs) (suc i) y inside = set_here xs i y (omega (arith, inside))

  pub set_other : (xs : List A) (i k : ℕ) (y : A) → i ≢ k → slice_get (slice_set xs i y) k ≡ slice_get xs k
  set_other [] i k y apart = refl
  set_other (w ∷ xs) zero zero y apart = absurd (apart refl)
  set_other (w ∷ xs) zero (suc k) y apart = refl
  set_other (w ∷ xs) (suc i) zero y apart = refl
  set_other (w ∷ xs) (suc i) (suc k) y apart = set_other xs i k y (λ e. apart (ap suc e))

  pub set_size : (xs : List A) (i : ℕ) (y : A) → length (slice_set xs i y) ≡ length xs
  set_size [] i y = refl
  set_size (w ∷ xs) zero y = refl
  set_size (w ∷ xs) (suc i) y = ap suc (set_size xs i y)

  pub get_inside : (xs : List A) (i : ℕ) (x : A) → slice_get xs i ≡ Some x → i < length xs
  get_inside [] i x at = absurd cc
  get_inside (w ∷ xs) zero x at = omega arith
  get_inside (w ∷ xs) (suc i) x at =
      let below : i < length xs = get_inside xs i x at in
      omega (arith, below)

  pub get_of_same : (n i : ℕ) (x y : A) → slice_get (replicate n x) i ≡ Some y → x ≡ y
  get_of_same zero i x y at = absurd cc
  get_of_same (suc n) zero x y at = cc
  get_of_same (suc n) (suc i) x y at = get_of_same n i x y at

-- ---- what is made of each item

module _ {A B : Type 0} where
  pub map_has : (f : A → B) (xs : List A) (x : A) → Has xs x → Has (map f xs) (f x)
  map_has f [] x has = absurd (has_none x has)
  map_has f (w ∷ xs) x has =
      elim (has_cases w x xs has) [
        | inl same ↦ subst (λ (v : A). Has (f w ∷ map f xs) (f v)) same (has_first (f w) (map f xs))
        | inr later ↦ has_later (f w) (f x) (map f xs) (map_has f xs x later)
      ]

  pub has_mapped : (f : A → B) (xs : List A) (y : B) → Has (map f xs) y → (x : A) × Has xs x × (f x ≡ y)
  has_mapped f [] y has = absurd (has_none y has)
  has_mapped f (w ∷ xs) y has =
      elim (has_cases (f w) y (map f xs) has) [
        | inl same ↦ (w, has_first w xs, same)
        | inr later ↦ (let found = has_mapped f xs y later in (found.0, has_later w found.0 xs found.1, found.2))
      ]

  pub filter_has : (h : A → Option B) (xs : List A) (x : A) (y : B) → Has xs x → h x ≡ Some y → Has (filter_map h xs) y
  filter_has h [] x y has is = absurd (has_none x has)
  filter_has h (w ∷ xs) x y has is = go (λ (later : Has xs x). filter_has h xs x y later is) (h w) refl (has_cases w x xs has) where
    go : (Has xs x → Has (filter_map h xs) y) → (o : Option B) → h w ≡ o → (w ≡ x) ⊎ Has xs x → Has (cons_option o (filter_map h xs)) y
    go again None e (inl same) =
        let none : h x ≡ None = sym (ap h same) ∙ e in
        absurd cc
    go again None e (inr later) = again later
    go again (Some v) e (inl same) =
        let all : Some v ≡ Some y = sym e ∙ ap h same ∙ is in
        let one : v ≡ y = cc in
        subst (λ (u : B). Has (v ∷ filter_map h xs) u) one (has_first v (filter_map h xs))
    go again (Some v) e (inr later) = has_later v y (filter_map h xs) (again later)

  pub has_filtered : (h : A → Option B) (xs : List A) (y : B) → Has (filter_map h xs) y → (x : A) × Has xs x × (h x ≡ Some y)
  has_filtered h [] y has = absurd (has_none y has)
  has_filtered h (w ∷ xs) y has = go (λ (later : Has (filter_map h xs) y). has_filtered h xs y later) (h w) refl has where
    go : (Has (filter_map h xs) y → (x : A) × Has xs x × (h x ≡ Some y)) → (o : Option B) → h w ≡ o → Has (cons_option o (filter_map h xs)) y → (x : A) × Has (w ∷ xs) x × (h x ≡ Some y)
    go again None e has = (let found = again has in (found.0, has_later w found.0 xs found.1, found.2))
    go again (Some v) e has =
        elim (has_cases v y (filter_map h xs) has) [
          | inl same ↦ (w, has_first w xs, e ∙ ap (λ (u : B). Some u) same)
          | inr later ↦ (let found = again later in (found.0, has_later w found.0 xs found.1, found.2))
        ]

  -- ---- lists place by place

  pub zip_made : (R : A → B → Type 0) (f : A → B) (xs : List A) → ((x : A) → Has xs x → R x (f x)) → AllZip R xs (map f xs)
  zip_made R f [] each = tt
  zip_made R f (w ∷ xs) each = (each w (has_first w xs), zip_made R f xs (λ x has. each x (has_later w x xs has)))

  pub zip_has : (R : A → B → Type 0) (xs : List A) (ys : List B) (x : A) → AllZip R xs ys → Has xs x → (y : B) × Has ys y × R x y
  zip_has R [] ys x each has = absurd (has_none x has)
  zip_has R (w ∷ xs) [] x each has = absurd each
  zip_has R (w ∷ xs) (v ∷ ys) x each has =
      elim (has_cases w x xs has) [
        | inl same ↦ (v, has_first v ys, subst (λ (u : A). R u v) same each.0)
        | inr later ↦ (let found = zip_has R xs ys x each.1 later in (found.0, has_later v found.0 ys found.1, found.2))
      ]

  pub has_zipped : (R : A → B → Type 0) (xs : List A) (ys : List B) (y : B) → AllZip R xs ys → Has ys y → (x : A) × Has xs x × R x y
  has_zipped R xs [] y each has = absurd (has_none y has)
  has_zipped R [] (v ∷ ys) y each has = absurd each
  has_zipped R (w ∷ xs) (v ∷ ys) y each has =
      elim (has_cases v y ys has) [
        | inl same ↦ (w, has_first w xs, subst (λ (u : B). R w u) same each.0)
        | inr later ↦ (let found = has_zipped R xs ys y each.1 later in (found.0, has_later w found.0 xs found.1, found.2))
      ]

  -- where each item has one partner at the most, a list has one
  pub zip_one : (R : A → B → Type 0) (xs : List A) (ys zs : List B) → ((x : A) (y z : B) → R x y → R x z → y ≡ z) → AllZip R xs ys → AllZip R xs zs → ys ≡ zs
  zip_one R [] [] [] one each other = refl
  zip_one R [] (v ∷ ys) zs one each other = absurd each
  zip_one R [] [] (u ∷ zs) one each other = absurd other
  zip_one R (w ∷ xs) [] zs one each other = absurd each
  zip_one R (w ∷ xs) (v ∷ ys) [] one each other = absurd other
  zip_one R (w ∷ xs) (v ∷ ys) (u ∷ zs) one each other =
      let first : v ≡ u = one w v u each.0 other.0 in
      let rest : ys ≡ zs = zip_one R xs ys zs one each.1 other.1 in
      rw (first, rest) refl

alone : {B : Type 0} (o : Option B) → cons_option o [] ≡ option_to_list o
alone None = refl
alone (Some y) = refl

-- one item more, of those for which something is told
pub filter_next : {A B : Type 0} (h : A → Option B) (xs : List A) (i : ℕ) (x : A) → i < length xs → x ≡ get_or xs i x
    → filter_map h (take (i + 1) xs) ≡ filter_map h (take i xs) ++ option_to_list (h x)
filter_next h xs i x inside is =
    let taken : take (i + 1) xs ≡ take i xs ++ x ∷ [] = (take_at_read xs i x inside).1 ∙ ap (λ y. take i xs ++ y ∷ []) (sym is) in
    ap (filter_map h) taken ∙ filter_map-append h (take i xs) (x ∷ []) ∙ ap (λ ys. filter_map h (take i xs) ++ ys) (alone (h x))

pub no_items : {A : Type 0} (xs : List A) → length xs < 1 → xs ≡ []
no_items [] few = refl
no_items (x ∷ xs) few = absurd (omega (arith, few))
