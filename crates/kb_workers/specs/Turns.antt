-- Lists dealt to workers who take turns, and put together again.
use Rattle.std.specs.Prelude.{◌≡◌, ℕ, zero, suc, List, [], ◌∷◌, ◌++◌, Option, Some, None}

-- Every item behind which `others` items are left out, from the one behind the first `skip` on: of workers who take turns, each
-- with so many others, what the one with `skip` workers before it gets.
abbrev pub stride : {T : Type 0} → ℕ → ℕ → List T → List T
stride others skip [] = []
stride others zero (item ∷ items) = item ∷ stride others others items
stride others (suc skip) (item ∷ items) = stride others skip items

-- the lists of so many workers, the first of which has `skip` workers before it
abbrev pub strides_from : {T : Type 0} → ℕ → ℕ → ℕ → List T → List (List T)
strides_from others zero skip items = []
strides_from others (suc count) skip items = stride others skip items ∷ strides_from others count (suc skip) items

-- the lists of all workers: item i is the one of worker i mod n at place i div n, where n is one more than each has others
unfoldable pub strides : {T : Type 0} → ℕ → List T → List (List T)
strides others items = strides_from others (suc others) zero items

-- So many items, one of each list in turn: entry i is the one of list i mod n at place i div n, where there are n lists. It ends
-- where a list in its turn has none.
abbrev pub merged : {T : Type 0} → ℕ → List (List T) → List T
merged zero lists = []
merged (suc count) [] = []
merged (suc count) ([] ∷ lists) = []
merged (suc count) ((item ∷ items) ∷ lists) = item ∷ merged count (lists ++ items ∷ [])

-- the first list's first item is taken, and the list then stands behind the others
abbrev pub TakesTurn : {T : Type 0} → List (List T) → Option T → List (List T) → Type 0
TakesTurn [] taken new = taken ≡ None
TakesTurn ([] ∷ lists) taken new = taken ≡ None
TakesTurn ((item ∷ items) ∷ lists) taken new = (taken ≡ Some item) × (new ≡ lists ++ items ∷ [])
