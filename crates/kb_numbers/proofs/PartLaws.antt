-- Parts in a list in which each stands once.
use Rattle.std.proofs.Common.{◌≡◌, ℕ, ◌+◌, ◌<◌, ◌≤◌, ◌^◌, Bool, true, false, true≢false, if◌then◌else◌, List, [], ◌∷◌, ◌++◌, position, Option, Some, None, IfSome, IfNone, slice_get, get_or, sym, ap, ◌∙◌, arith}
use Rattle.std.specs.List.{list_any}
use Rattle.std.proofs.lemmas.Option.{none-some, slice_get-get_or}
use Rattle.std.proofs.lemmas.List.Quantifiers.{position-Some}
use Rattle.std.proofs.lemmas.Map.Keys.{any_passes_from_place}
use Rattle.kb_texts.specs.Texts.{AreDistinct, Keeps}
use Rattle.kb_texts.proofs.TextLaws.{distinct_if_new, slice_get-append}
use Rattle.kb_numbers.specs.declared.parts.Part.{Part}
use Rattle.kb_numbers.specs.Types.{HasPart, is_part}
use Rattle.kb_numbers.proofs.TypeLaws.{part_is, part_self}

module _ (parts : List Part) (part : Part) where
  pub distinct_more : AreDistinct parts → AreDistinct (if list_any (is_part part) parts then parts else parts ++ part ∷ [])
  distinct_more = distinct_if_new parts part (is_part part) (part_self part)

  pub kept_more : Keeps parts (if list_any (is_part part) parts then parts else parts ++ part ∷ [])
  kept_more place x = go (list_any (is_part part) parts)
    where
      go : (b : Bool) → slice_get parts place ≡ Some x → slice_get (if b then parts else parts ++ part ∷ []) place ≡ Some x
      go true e = e
      go false e = slice_get-append parts (part ∷ []) place x e

  -- the part that is stored at the place is that one
  pub number_there : (found : Part) (place number : ℕ) → slice_get parts place ≡ Some found → is_part part found ≡ true → number ≡ place + 1 → number < 2 ^ 32 → HasPart parts part number
  number_there found place number at same is fits = record {
    place = place;
    number_is = omega (arith, is);
    fits = fits;
    there = at ∙ ap (λ (p : Part). Some p) (sym (part_is part found same));
  }

  -- ---- a part that is looked up

  place_found : (xs : List Part) (at : ℕ) → position (is_part part) xs ≡ Some at → slice_get xs at ≡ Some part
  place_found [] at e = absurd (none-some at e)
  place_found (x ∷ xs) at e =
      let found = position-Some (is_part part) (x ∷ xs) at x e in
      slice_get-get_or (x ∷ xs) at x found.0 ∙ ap (λ (p : Part). Some p) (sym (part_is part (get_or (x ∷ xs) at x) found.1))

  pub part_at : (place : ℕ) → Some place ≡ position (is_part part) parts → (told : Option ℕ) → IfSome told (λ n. n ≡ place + 1) → IfSome told (λ n. n < 2 ^ 32) → IfSome told (HasPart parts part)
  part_at place found None is fits = tt
  part_at place found (Some number) is fits = record { place = place; number_is = omega (arith, is); fits = fits; there = place_found parts place (sym found) }

  pub missing_part : (number : ℕ) → HasPart parts part number → false ≡ list_any (is_part part) parts → ⊥
  missing_part number has none = true≢false (sym (any_passes_from_place (is_part part) parts has.place part has.there (part_self part)) ∙ sym none)

  pub found_part : AreDistinct parts → (number : ℕ) → HasPart parts part number → (place : ℕ) → Some place ≡ position (is_part part) parts → (told : Option ℕ)
      → IfSome told (λ n. n ≡ place + 1) → IfNone told (2 ^ 32 ≤ place + 1) → told ≡ Some number
  found_part distinct number has place found None some none =
      let same : place ≡ has.place = distinct place has.place part (place_found parts place (sym found)) has.there in
      let is = has.number_is in
      let fits = has.fits in
      absurd (let no : ⊥ = omega (arith, same, is, fits, none) in no)
  found_part distinct number has place found (Some n) some none =
      let same : place ≡ has.place = distinct place has.place part (place_found parts place (sym found)) has.there in
      let is = has.number_is in
      ap (λ (m : ℕ). Some m) (let e : n ≡ number = omega (arith, same, is, some) in e)
