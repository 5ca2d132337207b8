-- What the table of objects and the count over it stand for.
use Rattle.std.specs.Prelude.{◌≡◌, ℕ, suc, ◌-◌, ◌^◌, ◌<◌, ◌≤◌, min, Bool, true, false, List, [], ◌∷◌, Option, None}
use Rattle.kb_classes.specs.World.{World}
use Rattle.kb_report_known.specs.Counts.{NamedObjects, known_at, known_of, missing_below, ways_below}
use Rattle.kb_report_known.specs.Known.{nothing_known}
use Rattle.kb_report_known.specs.declared.counting.Count.{Count}
use Rattle.kb_report_known.specs.declared.known.Known.{Known}

-- ---- the table

-- The table has objects with numbers below the count, which is in its range, and so many of them are not found.
pub record IsKept (found : ℕ → Option Known) (count missing : ℕ) : Type 0 where
  pub inside : (number : ℕ) → count ≤ number → found number ≡ None
  pub range : count ≤ 2 ^ 32
  pub missing_is : missing ≡ missing_below (λ number. known_of (found number)) count

-- the entries are those of the objects from a number on, by rising number; of the others nothing is known
abbrev pub AreLeft : (ℕ → Known) → ℕ → ℕ → List (ℕ × Known) → Type 0
AreLeft known count next [] = (number : ℕ) → next ≤ number → known number ≡ nothing_known
AreLeft known count next (entry ∷ entries) =
    (next ≤ entry.0) × (entry.0 < count) × ((number : ℕ) → next ≤ number → number < entry.0 → known number ≡ nothing_known) × (known entry.0 ≡ entry.1) × AreLeft known count (suc entry.0) entries

-- ---- the count

-- The count is that of the objects below its next one, up to each of which there are enough ways.
pub record IsCount (fields : Option World) (objects : NamedObjects) (count : Count) : Type 0 where
  pub range : count.next ≤ 2 ^ 32
  pub missing_is : count.missing ≡ missing_below (known_at objects) count.next
  pub ways_are : count.ways ≡ min (ways_below fields objects count.next) (2 ^ 64 - 1)
  pub enough : (number : ℕ) → number < count.next → missing_below (known_at objects) (suc number) ≤ ways_below fields objects number

-- it is the count of the first so many objects, or up to one of them there are not enough ways
abbrev pub Passes : Option World → NamedObjects → ℕ → Count → Bool → Type 0
Passes fields objects number after true = (after.next ≡ number) × IsCount fields objects after
Passes fields objects number after false = (one : ℕ) × (one < number) × (ways_below fields objects one < missing_below (known_at objects) (suc one))
