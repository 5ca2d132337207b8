-- The instruction at an offset, by its place in the listing.
use Rattle.std.proofs.Common.{◌≡◌, ℕ, suc, Bool, true, false, List, [], ◌∷◌, Option, Some, None, nat_eq, refl, ◌∙◌}
use Rattle.std.specs.Option.{option_map}
use Rattle.kb_code.specs.declared.instruction.Instr.{Instr}
use Rattle.kb_classes.specs.Placing.{place_of_offset}
use Rattle.kb_semantics.specs.Config.{instruction_in}
use Rattle.kb_lookups.specs.Listings.{from_place}

behind_item : (item : ℕ × Instr) (rest : List (ℕ × Instr)) (size : ℕ) (place : Option ℕ) → from_place rest size place ≡ from_place (item ∷ rest) size (option_map suc place)
behind_item item rest size None = refl
behind_item item rest size (Some place) = refl

pub by_place : (items : List (ℕ × Instr)) (size at : ℕ) → instruction_in items size at ≡ from_place items size (place_of_offset items at)
by_place [] size at = refl
by_place (item ∷ rest) size at = go (by_place rest size at) (nat_eq item.0 at) refl where
  go : instruction_in rest size at ≡ from_place rest size (place_of_offset rest at) → (same : Bool) → nat_eq item.0 at ≡ same →
      instruction_in (item ∷ rest) size at ≡ from_place (item ∷ rest) size (place_of_offset (item ∷ rest) at)
  go later true e = rw e refl
  go later false e = rw e (later ∙ behind_item item rest size (place_of_offset rest at))
