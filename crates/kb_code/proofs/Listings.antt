-- The offsets of a listing rise up to the end of the code.
use Rattle.std.proofs.Common.{◌≡◌, ℕ, ◌+◌, ◌≤◌, List, [], ◌∷◌, length, ap, ◌∙◌, arith, length-append}
use Rattle.kb_code.specs.declared.instruction.Instr.{Instr}
use Rattle.kb_code.specs.Listing.{SpellsItem, ListsFrom, IsRising, IsLaidOut}
use Rattle.kb_code.proofs.ItemLaws.{item_takes}

-- an instruction takes a byte at least
spelled_by_some : (item : ℕ × Instr) (at : ℕ) (text : List ℕ) → SpellsItem item at text → 1 ≤ length text
spelled_by_some item at text s = item_takes (item.0, s.1.loose) at text (s.0, s.1.spelled)

rising_earlier : (at low : ℕ) (listing : List (ℕ × Instr)) (size : ℕ) → low ≤ at → IsRising at listing size → IsRising low listing size
rising_earlier at low [] size below h = omega (arith, below, h)
rising_earlier at low (x ∷ xs) size below h = (omega (arith, below, h.0), h.1)

listed_rising : (at size : ℕ) (listing : List (ℕ × Instr)) (code : List ℕ) → at + length code ≡ size → ListsFrom at listing code → IsRising at listing size
listed_rising at size [] code end h = omega (arith, end)
listed_rising at size (item ∷ rest) code end h =
    let some = spelled_by_some item at h.front h.begins in
    let long : length code ≡ length h.front + length h.back = ap length h.parts ∙ length-append h.front h.back in
    let later : IsRising (at + length h.front) rest size = listed_rising (at + length h.front) size rest h.back (omega (arith, end, long)) h.ends in
    (omega (arith, h.begins.0), rising_earlier (at + length h.front) (item.0 + 1) rest size (omega (arith, h.begins.0, some)) later)

pub listed_laid_out : (listing : List (ℕ × Instr)) (code : List ℕ) → ListsFrom 0 listing code → IsLaidOut listing (length code)
listed_laid_out [] code h = record { first = ap length h; rising = omega arith }
listed_laid_out (item ∷ rest) code h = record { first = h.begins.0; rising = listed_rising 0 (length code) (item ∷ rest) code (omega arith) h }
