-- The place of the first item that is such.
use Rattle.std.proofs.Common.{◌≡◌, ℕ, suc, Bool, true, false, ◌||◌, List, [], ◌∷◌, Option, Some, None, slice_get, is_some, refl, sym, ◌∙◌, if◌then◌else◌}
use Rattle.std.specs.List.{list_any}
use Rattle.std.specs.Option.{option_map, option_and_then}
use Rattle.kb_link.specs.Members.{place_where}

some_further : (o : Option ℕ) → is_some (option_map suc o) ≡ is_some o
some_further None = refl
some_further (Some n) = refl

any_step : (b : Bool) (any : Bool) (rest : Option ℕ) → any ≡ is_some rest → (b || any) ≡ is_some (if b then Some 0 else option_map suc rest)
any_step true any rest h = refl
any_step false any rest h = h ∙ sym (some_further rest)

module _ {A : Type 0} (is : A → Bool) where
  pub any_place : (xs : List A) → list_any is xs ≡ is_some (place_where is xs)
  any_place [] = refl
  any_place (x ∷ xs) = any_step (is x) (list_any is xs) (place_where is xs) (any_place xs)

  get_further : (x : A) (xs : List A) (o : Option ℕ) → option_and_then (slice_get (x ∷ xs)) (option_map suc o) ≡ option_and_then (slice_get xs) o
  get_further x xs None = refl
  get_further x xs (Some n) = refl

  pub get_first : (x : A) (xs : List A) (b : Bool) (rest : Option ℕ) (found : Option A) → found ≡ option_and_then (slice_get xs) rest
      → (if b then Some x else found) ≡ option_and_then (slice_get (x ∷ xs)) (if b then Some 0 else option_map suc rest)
  get_first x xs true rest found h = refl
  get_first x xs false rest found h = h ∙ sym (get_further x xs rest)
