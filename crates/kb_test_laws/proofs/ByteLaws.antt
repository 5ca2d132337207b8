-- Texts of bytes: their parts are of bytes, and so is each text of the pool of a class file that bytes spell.
use Rattle.std.proofs.Common.{◌≡◌, ℕ, zero, suc, ◌+◌, Bool, true, false, List, [], ◌∷◌, ◌++◌, length, drop, Some, slice_get, sym, subst}
use Rattle.std.specs.List.{AllByRecursion}
use Rattle.kb_names.specs.Bytes.{AreBytes}
use Rattle.kb_names.proofs.Choices.{passed}
use Rattle.kb_class.proofs.Lists.{all_has}
use Rattle.kb_classfile.specs.declared.file.ClassFile.{ClassFile}
use Rattle.kb_classfile.specs.declared.file.PoolEntry.{PoolEntry}
use Rattle.kb_classfile.specs.declared.file.PoolEntry.TheVariants as entries
use Rattle.kb_classfile.specs.Pool.{text_of, utf8_in}
use Rattle.kb_classfile.specs.Spelling.{is_wide, SpellsInfo, SpellsEntry, SpellsSecond, SpellsEntries, Spells}

-- ---- parts of a text

pub bytes_front : (xs ys : List ℕ) → AreBytes (xs ++ ys) → AreBytes xs
bytes_front [] ys are = tt
bytes_front (x ∷ xs) ys are = (are.0, bytes_front xs ys are.1)

pub bytes_behind : (xs ys : List ℕ) → AreBytes (xs ++ ys) → AreBytes ys
bytes_behind [] ys are = are
bytes_behind (x ∷ xs) ys are = bytes_behind xs ys are.1

front_is : (bytes front back : List ℕ) → bytes ≡ front ++ back → AreBytes bytes → AreBytes front
front_is bytes front back parts are = bytes_front front back (subst AreBytes parts are)

behind_is : (bytes front back : List ℕ) → bytes ≡ front ++ back → AreBytes bytes → AreBytes back
behind_is bytes front back parts are = bytes_behind front back (subst AreBytes parts are)

-- ---- entries of a pool

-- where the entry is a text, it is of bytes
abbrev HasBytes : PoolEntry → Type 0
HasBytes (entries.Utf8 text) = AreBytes text
HasBytes _ = Unit {0}

info_bytes : (tag : ℕ) (entry : PoolEntry) (at : ℕ) (bytes : List ℕ) → SpellsInfo tag entry at bytes → AreBytes bytes → HasBytes entry
info_bytes tag (entries.Utf8 text) at bytes spells are =
    let items = spells.1 in
    subst AreBytes items.ends (behind_is bytes items.front items.back items.parts are)
info_bytes tag _ at bytes spells are = tt

entry_bytes : (entry : PoolEntry) (at : ℕ) (bytes : List ℕ) → SpellsEntry entry at bytes → AreBytes bytes → HasBytes entry
entry_bytes entry at bytes spells are =
    let items = spells.1 in
    info_bytes spells.0 entry (at + length items.front) items.back items.ends (behind_is bytes items.front items.back items.parts are)

-- the second number of a wide entry has no bytes of its own
second_bytes : (entry : PoolEntry) (others : List PoolEntry) (at : ℕ) (bytes : List ℕ) → (SpellsEntries false others at bytes → AllByRecursion HasBytes others)
    → SpellsSecond entry (SpellsEntries false others) at bytes → AllByRecursion HasBytes (entry ∷ others)
second_bytes entries.Second others at bytes rest spells = (tt, rest spells)
second_bytes _ others at bytes rest spells = absurd spells

entries_bytes : (due : Bool) (pool : List PoolEntry) (at : ℕ) (bytes : List ℕ) → SpellsEntries due pool at bytes → AreBytes bytes → AllByRecursion HasBytes pool
entries_bytes due [] at bytes spells are = tt
entries_bytes true (entry ∷ others) at bytes spells are = second_bytes entry others at bytes (λ rest. entries_bytes false others at bytes rest are) spells
entries_bytes false (entry ∷ others) at bytes spells are = (
  entry_bytes entry at spells.front spells.begins (front_is bytes spells.front spells.back spells.parts are),
  entries_bytes (is_wide entry) others (at + length spells.front) spells.back spells.ends (behind_is bytes spells.front spells.back spells.parts are),
)

-- ---- texts of a pool

text_bytes : (entry : PoolEntry) (text : List ℕ) → text_of entry ≡ Some text → HasBytes entry → AreBytes text
text_bytes (entries.Utf8 found) text e has =
    let same : found ≡ text = cc in
    subst AreBytes same has
text_bytes _ text e has = absurd cc

listed_bytes : (pool : List PoolEntry) (index : ℕ) (text : List ℕ) → AllByRecursion HasBytes pool → utf8_in pool index ≡ Some text → AreBytes text
listed_bytes pool index text all at =
    let found = passed text_of (slice_get pool index) text at in
    text_bytes found.0 text found.2 (all_has HasBytes pool found.0 all (index, found.1))

-- the entry with the number 0 is no text
pool_texts : (pool : List PoolEntry) (index : ℕ) (text : List ℕ) → slice_get pool 0 ≡ Some entries.Skipped → AllByRecursion HasBytes (drop 1 pool) → utf8_in pool index ≡ Some text → AreBytes text
pool_texts [] index text zeroth all at = absurd cc
pool_texts (first ∷ others) zero text zeroth all at =
    let none : first ≡ entries.Skipped = cc in
    text_bytes first text at (subst HasBytes (sym none) tt)
pool_texts (first ∷ others) (suc index) text zeroth all at = listed_bytes others index text all at

pub file_texts : (file : ClassFile) (bytes : List ℕ) → AreBytes bytes → Spells file bytes → (index : ℕ) (text : List ℕ) → utf8_in file.pool index ≡ Some text → AreBytes text
file_texts file bytes are spells index text at =
    let behind_magic = behind_is bytes spells.front spells.back spells.parts are in
    let version = spells.ends in
    let behind_version = behind_is spells.back version.front version.back version.parts behind_magic in
    let pool = version.ends in
    let of_pool = front_is version.back pool.front pool.back pool.parts behind_version in
    let items = pool.begins.items in
    pool_texts file.pool index text pool.begins.zeroth (entries_bytes false (drop 1 file.pool) _ items.back items.ends (behind_is pool.front items.front items.back items.parts of_pool)) at
