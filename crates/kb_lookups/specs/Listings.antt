-- What stands at an offset of a method's code (JVMS 8 section 4.7.3).
use Rattle.std.specs.Prelude.{ℕ, suc, List, drop, option_map, Option, Some, None, slice_get}
use Rattle.kb_code.specs.Listing.{offset_of}
use Rattle.kb_code.specs.declared.instruction.Instr.{Instr}
use Rattle.kb_lookups.specs.declared.listing.Found.{Found}

abbrev pub plain_found : Found → Instr × ℕ
plain_found found = (found.instr.now, found.next)

-- the instruction at a place, and the offset of the one behind it
abbrev pub from_place : List (ℕ × Instr) → ℕ → Option ℕ → Option (Instr × ℕ)
from_place items size None = None
from_place items size (Some place) = option_map (λ (item : ℕ × Instr). (item.1, offset_of (drop (suc place) items) size)) (slice_get items place)
