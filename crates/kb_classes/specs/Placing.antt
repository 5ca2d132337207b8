-- The places of instructions in a listing by their offsets (JVMS 8 section 4.7.3), and tables that answer for them.
use Rattle.std.specs.Prelude.{◌≡◌, ℕ, suc, ◌==◌, List, [], ◌∷◌, Option, Some, None, slice_get, if◌then◌else◌}
use Rattle.std.specs.Option.{option_map, option_and_then}
use Rattle.kb_code.specs.declared.instruction.Instr.{Instr}
use Rattle.kb_class.specs.declared.members.MethodCode.{MethodCode}
use Rattle.kb_class.specs.declared.members.MethodInfo.{MethodInfo}

-- the place of the first instruction at that offset
abbrev pub place_of_offset : List (ℕ × Instr) → ℕ → Option ℕ
place_of_offset [] at = None
place_of_offset (item ∷ items) at = if item.0 == at then Some 0 else option_map suc (place_of_offset items at)

-- that in the listing of a method's code: None where there is no code
abbrev pub place_in : Option MethodInfo → ℕ → Option ℕ
place_in method at =
    option_and_then (λ (code : MethodCode). place_of_offset code.listing.items at) (option_and_then (λ (m : MethodInfo). m.code) method)

-- ---- tables by offset

-- what a table has at an offset: None behind its end
abbrev pub placed_at : List (Option ℕ) → ℕ → Option ℕ
placed_at table at = option_and_then (λ place. place) (slice_get table at)

-- the table has the place of each instruction of the method
abbrev pub IsPlacing : Option MethodInfo → List (Option ℕ) → Type 0
IsPlacing method table = (at : ℕ) → placed_at table at ≡ place_in method at

-- a table of each method, in order
abbrev pub ArePlacings : List MethodInfo → List (List (Option ℕ)) → Type 0
ArePlacings methods tables =
    (number at : ℕ) → option_and_then (λ table. placed_at table at) (slice_get tables number) ≡ place_in (slice_get methods number) at
