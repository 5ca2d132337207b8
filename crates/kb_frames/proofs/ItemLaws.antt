-- What each item of a list has, each item of a list made of it has.
use Rattle.std.proofs.Common.{◌≡◌, ℕ, zero, suc, Bool, true, false, List, [], ◌∷◌, ◌++◌, map, drop, filter_map, replicate, Option, Some, None, refl, sym, ap, subst, ◌∙◌, slice_get, slice_set}
use Rattle.std.specs.List.{cons_option, list_any}
use Rattle.std.specs.Option.{option_map_or, option_map, option_and_then}
use Rattle.std.proofs.lemmas.Bool.{or_parts}
use Rattle.kb_semantics.specs.Looks.{only_where}
use Rattle.kb_frames.specs.States.{Each}

pub no_items : {A : Type 0} (P : A → Type 0) → Each P []
no_items P = λ i item at. absurd cc

pub each_cons : {A : Type 0} (P : A → Type 0) (x : A) (xs : List A) → P x → Each P xs → Each P (x ∷ xs)
each_cons {A} P x xs p each = λ i item at. go i item at where
  go : (i : ℕ) (item : A) → slice_get (x ∷ xs) i ≡ Some item → P item
  go zero item at = let same : x ≡ item = cc in subst P same p
  go (suc i) item at = each i item at

pub each_rest : {A : Type 0} (P : A → Type 0) (x : A) (xs : List A) → Each P (x ∷ xs) → Each P xs
each_rest P x xs each = λ i item at. each (suc i) item at

pub each_append : {A : Type 0} (P : A → Type 0) (xs ys : List A) → Each P xs → Each P ys → Each P (xs ++ ys)
each_append P [] ys each more = more
each_append P (x ∷ xs) ys each more = each_cons P x (xs ++ ys) (each 0 x refl) (each_append P xs ys (each_rest P x xs each) more)

pub each_drop : {A : Type 0} (P : A → Type 0) (n : ℕ) (xs : List A) → Each P xs → Each P (drop n xs)
each_drop P zero xs each = each
each_drop P (suc n) [] each = each
each_drop P (suc n) (x ∷ xs) each = each_drop P n xs (each_rest P x xs each)

pub each_map : {A B : Type 0} (P : B → Type 0) (f : A → B) (xs : List A) → ((x : A) → P (f x)) → Each P (map f xs)
each_map P f [] h = no_items P
each_map P f (x ∷ xs) h = each_cons P (f x) (map f xs) (h x) (each_map P f xs h)

-- where each item goes, it keeps the property
pub each_mapped : {A B : Type 0} (P : A → Type 0) (Q : B → Type 0) (f : A → B) (xs : List A) → ((x : A) → P x → Q (f x)) → Each P xs → Each Q (map f xs)
each_mapped P Q f [] h each = no_items Q
each_mapped P Q f (x ∷ xs) h each = each_cons Q (f x) (map f xs) (h x (each 0 x refl)) (each_mapped P Q f xs h (each_rest P x xs each))

-- the items at some places
pub each_picked : {A : Type 0} (P : A → Type 0) (xs : List A) (places : List ℕ) → Each P xs → Each P (filter_map (λ (place : ℕ). slice_get xs place) places)
each_picked P xs [] each = no_items P
each_picked {A} P xs (place ∷ places) each = go (each_picked P xs places each) (slice_get xs place) refl where
  go : Each P (filter_map (λ (p : ℕ). slice_get xs p) places) → (it : Option A) → slice_get xs place ≡ it → Each P (cons_option it (filter_map (λ (p : ℕ). slice_get xs p) places))
  go rest None at = rest
  go rest (Some x) at = each_cons P x (filter_map (λ (p : ℕ). slice_get xs p) places) (each place x at) rest

pub each_set : {A : Type 0} (P : A → Type 0) (xs : List A) (i : ℕ) (y : A) → P y → Each P xs → Each P (slice_set xs i y)
each_set P [] i y p each = each
each_set P (x ∷ xs) zero y p each = each_cons P y xs p (each_rest P x xs each)
each_set P (x ∷ xs) (suc i) y p each = each_cons P x (slice_set xs i y) (each 0 x refl) (each_set P xs i y p (each_rest P x xs each))

pub each_copy : {A : Type 0} (P : A → Type 0) (n : ℕ) (x : A) → P x → Each P (replicate n x)
each_copy P zero x p = no_items P
each_copy P (suc n) x p = each_cons P x (replicate n x) p (each_copy P n x p)

-- ---- choices

-- what an optional item leads to has the property, where each item that it can be leads to such
pub option_has_at : {A B : Type 0} (P : B → Type 0) (it : Option A) (f : A → B) (y : B) → ((x : A) → it ≡ Some x → P (f x)) → P y → P (option_map_or f it y)
option_has_at P None f y h hy = hy
option_has_at P (Some x) f y h hy = h x refl

-- what an item that is there where a test passes leads to has the property
pub only_has : {A B : Type 0} (P : B → Type 0) (b : Bool) (x : A) (f : A → B) (y : B) → P (f x) → P y → P (option_map_or f (only_where b x) y)
only_has P true x f y h hy = h
only_has P false x f y h hy = hy

-- a test that no item passes does not pass for one of them
pub none_passes : {A : Type 0} (p : A → Bool) (xs : List A) (i : ℕ) (x : A) → list_any p xs ≡ false → slice_get xs i ≡ Some x → p x ≡ false
none_passes p [] i x none at = absurd cc
none_passes p (y ∷ ys) zero x none at =
    let same : y ≡ x = cc in
    ap p (sym same) ∙ (or_parts (p y) (list_any p ys) none).0
none_passes p (y ∷ ys) (suc i) x none at = none_passes p ys i x (or_parts (p y) (list_any p ys) none).1 at

-- ---- operands

-- both of two operands are
pub two_parts : {A B : Type 0} (first : Option A) (second : Option B) (p : B × A) → option_and_then (λ right. option_map (λ left. (left, right)) second) first ≡ Some p → (first ≡ Some p.1) × (second ≡ Some p.0)
two_parts None second p e = absurd cc
two_parts (Some r) None p e = absurd cc
two_parts (Some r) (Some l) p e = let same : (l, r) ≡ p = cc in (ap (λ q. Some q.1) same, ap (λ q. Some q.0) same)
