-- Lemmas on the calls of a shelf in memory that fail.
use Rattle.std.proofs.Common.{◌≡◌, ℕ, Some, List, length, Contains, inl, inr, false, eqb, get_or, arith}
use Rattle.std.specs.List.{AllWithin}
use Rattle.kb_outside.specs.Memory.{ShelfState, bytes_of, FailsOn}

-- what no element equals is not in the list
unlisted : (xs : List ℕ) (x : ℕ) → AllWithin (λ y. eqb y x ≡ false) xs 0 (length xs) → Contains xs x → ⊥
unlisted xs x all h =
    let other : eqb (get_or xs h.0 x) x ≡ false = all h.0 x (omega arith) h.1 in
    let same : get_or xs h.0 x ≡ x = h.2 in
    grind (arith, other, same)

-- a call whose number is not listed, on a file that is there, does not fail
pub FailsOn-found : (shelf : ShelfState) (name bytes : List ℕ) → AllWithin (λ y. eqb y shelf.calls ≡ false) shelf.fails 0 (length shelf.fails)
    → Some bytes ≡ bytes_of shelf.files name → FailsOn shelf name → ⊥
FailsOn-found shelf name bytes all found (inl listed) = unlisted _ _ all listed
FailsOn-found shelf name bytes all found (inr none) = cc
