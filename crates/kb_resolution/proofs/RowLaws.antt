-- Rows of what entries stand for.
use Rattle.std.proofs.Common.{◌≡◌, ◌<◌, ◌≤◌, ◌+◌, ℕ, List, [], ◌∷◌, ◌++◌, length, get_or, false, Option, Some, None, slice_get, min, inl, inr, below_more, sym, ap, subst, ◌∙◌, arith}
use Rattle.std.proofs.lemmas.List.{get_or_append_left, get_or_push, get_or_past, length_push}
use Rattle.std.proofs.lemmas.Option.{slice_get_past, slice_get_cases}
use Rattle.std.specs.Option.{option_and_then, option_map_or}
use Rattle.kb_class.specs.Class.{Class, Sought, reference_of_entry}
use Rattle.kb_classes.specs.World.{World}
use Rattle.kb_classes.proofs.Places.{get_pushed}
use Rattle.kb_resolution.specs.Lookup.{sought_at, class_of_sought, slot_of_sought, method_of_sought, special_of_sought}
use Rattle.kb_resolution.specs.Tables.{StandsFor, IsResolved, IsRow, left_out_of, nothing, owner_of}
use Rattle.kb_resolution.specs.declared.resolved.Resolved.{Resolved}

-- ---- what an entry stands for

pub sought_told : (world : World) (class entry : ℕ) (of : Class) (sought : Option Sought) → slice_get world.classes class ≡ Some of
    → sought ≡ reference_of_entry (slice_get of.entries entry) → sought_at world class entry ≡ sought
sought_told world class entry of sought there is =
    ap (λ (o : Option Class). option_and_then (λ (c : Class). reference_of_entry (slice_get c.entries entry)) o) there ∙ sym is

module _ (world : World) (class entry : ℕ) where
  pub stands : (sought : Sought) (told : Resolved) → sought_at world class entry ≡ Some sought → StandsFor world class sought told → IsResolved world class entry told
  stands sought told at is = record {
    is_declaring = is.is_declaring ∙ sym (ap (λ (o : Option Sought). option_and_then (class_of_sought world) o) at);
    is_slot = is.is_slot ∙ sym (ap (λ (o : Option Sought). option_and_then (slot_of_sought world) o) at);
    is_method = is.is_method ∙ sym (ap (λ (o : Option Sought). option_and_then (method_of_sought world) o) at);
    is_special = is.is_special ∙ sym (ap (λ (o : Option Sought). option_and_then (special_of_sought world class) o) at);
    is_left_out = is.is_left_out ∙ sym (ap (λ (o : Option Sought). option_map_or left_out_of o false) at);
    is_owner = is.is_owner ∙ sym (ap (λ (o : Option Sought). option_and_then (owner_of world) o) at);
  }

  pub stands_for_nothing : sought_at world class entry ≡ None → IsResolved world class entry nothing
  stands_for_nothing at = record {
    is_declaring = sym (ap (λ (o : Option Sought). option_and_then (class_of_sought world) o) at);
    is_slot = sym (ap (λ (o : Option Sought). option_and_then (slot_of_sought world) o) at);
    is_method = sym (ap (λ (o : Option Sought). option_and_then (method_of_sought world) o) at);
    is_special = sym (ap (λ (o : Option Sought). option_and_then (special_of_sought world class) o) at);
    is_left_out = sym (ap (λ (o : Option Sought). option_map_or left_out_of o false) at);
    is_owner = sym (ap (λ (o : Option Sought). option_and_then (owner_of world) o) at);
  }

  -- the class has no entry of that number
  pub past_entries : (of : Class) → slice_get world.classes class ≡ Some of → length of.entries ≤ entry → IsResolved world class entry nothing
  past_entries of there past =
      stands_for_nothing (sought_told world class entry of None there (sym (ap reference_of_entry (slice_get_past of.entries entry past))))

-- ---- rows

more_items : {A : Type 0} (xs after : List A) (x : A) (n : ℕ) → after ≡ xs ++ x ∷ [] → length xs ≡ n → length after ≡ n + 1
more_items xs after x n is count = ap length is ∙ length_push xs x ∙ ap (λ (m : ℕ). m + 1) count

module _ {A : Type 0} (P : ℕ → A → Type 0) where
  -- one item more
  pub each_pushed : (xs : List A) (x d : A) (n : ℕ) → length xs ≡ n → ((k : ℕ) → k < n → P k (get_or xs k d)) → P n x → (k : ℕ) → k < n + 1 → P k (get_or (xs ++ x ∷ []) k d)
  each_pushed xs x d n count each one =
      below_more (λ k. P k (get_or (xs ++ x ∷ []) k d)) n
      (λ k below. subst (P k) (sym (get_or_append_left xs (x ∷ []) d k (omega (arith, below, count)))) (each k below))
      (subst (P n) (sym (get_or_push xs x d n count)) one)

  pub one_more : (xs after : List A) (x d : A) (n : ℕ) → after ≡ xs ++ x ∷ [] → length xs ≡ n → ((k : ℕ) → k < n → P k (get_or xs k d)) → P n x
      → (length after ≡ n + 1) × ((k : ℕ) → k < n + 1 → P k (get_or after k d))
  one_more xs after x d n is count each one = (
    more_items xs after x n is count,
    subst (λ (ys : List A). (k : ℕ) → k < n + 1 → P k (get_or ys k d)) (sym is) (each_pushed xs x d n count each one),
  )

  -- the same of items that are there
  pub one_more_there : (xs after : List A) (x : A) (n : ℕ) → after ≡ xs ++ x ∷ [] → length xs ≡ n → ((k : ℕ) (y : A) → slice_get xs k ≡ Some y → P k y) → P n x
      → (length after ≡ n + 1) × ((k : ℕ) (y : A) → slice_get after k ≡ Some y → P k y)
  one_more_there xs after x n is count each one = (
    more_items xs after x n is count,
    λ k y at.
        elim (get_pushed xs x k y (subst (λ (ys : List A). slice_get ys k ≡ Some y) is at)) [
          | inl old ↦ each k y old
          | inr new ↦ (let place : n ≡ k = sym count ∙ sym new.0 in subst (λ (z : A). P k z) new.1 (subst (λ (i : ℕ). P i x) place one))
        ],
  )

-- a row that has each entry of the class with a number of 16 bits
pub is_row : (world : World) (class : ℕ) (of : Class) (row : List Resolved) (count : ℕ) → slice_get world.classes class ≡ Some of → count ≡ min (length of.entries) 65536 → length row ≡ count
    → ((k : ℕ) → k < count → IsResolved world class k (get_or row k nothing)) → IsRow world class row
is_row world class of row count there most len each entry few =
    elim (slice_get_cases row entry).1 [
      | inl h ↦ each entry (omega (arith, h.1, len))
      | inr h ↦ (let past : length of.entries ≤ entry = omega (arith, h.0, len, most, few) in
          subst (IsResolved world class entry) (sym (get_or_past row entry nothing h.0)) (past_entries world class entry of there past))
    ]
