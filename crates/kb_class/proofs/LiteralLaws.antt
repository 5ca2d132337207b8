-- The texts of String entries, by a table.
use Rattle.std.proofs.Common.{◌≡◌, ◌↔◌, ℕ, List, map, Option, Some, None, slice_get, option_map, Result, Ok, Err, IfOk, refl, sym, ap, subst, ◌∙◌}
use Rattle.std.specs.List.{AllByRecursion}
use Rattle.kb_classfile.specs.declared.file.PoolEntry.{PoolEntry}
use Rattle.kb_classfile.specs.declared.file.PoolEntry.TheVariants as entries
use Rattle.kb_classfile.specs.Pool.{utf8_in}
use Rattle.kb_names.specs.declared.types.ExactType.{ExactType}
use Rattle.kb_class.specs.declared.members.MemberKind.{MemberKind}
use Rattle.kb_class.specs.Class.{Entry, TextEntry, text_of_entry}
use Rattle.kb_class.specs.Naming.{Has}
use Rattle.kb_class.specs.Loaded.{told_at, told_text, text_told, entry_told}
use Rattle.kb_class.specs.Tables.{literal_index_of, literal_numbers, SpellsItself, IsSpelled, IsTable}
use Rattle.kb_class.proofs.Lists.{map_has, has_mapped, filter_has, has_filtered, all_by_has}
use Rattle.kb_class.proofs.EntryLooks.{text_of_told}
use Rattle.kb_class.proofs.PoolLaws.{same_some}
use Rattle.kb_class.proofs.TableLaws.{told_stands, stands_told}

module _ (pool : List PoolEntry) where
  -- an entry with such a number names its text by it
  by_number : (entry : PoolEntry) (number : ℕ) → literal_index_of pool entry ≡ Some number → (entry ≡ entries.Str number) × (text : List ℕ) × (utf8_in pool number ≡ Some text)
  by_number (entries.Str own) number e = go (utf8_in pool own) refl e where
    go : (o : Option (List ℕ)) → utf8_in pool own ≡ o → option_map (λ (found : List ℕ). own) o ≡ Some number
        → (entries.Str own ≡ entries.Str number) × (text : List ℕ) × (utf8_in pool number ≡ Some text)
    go None at is = absurd cc
    go (Some found) at is =
        let same : own ≡ number = cc in
        (ap (λ (n : ℕ). entries.Str n) same, found, subst (λ (n : ℕ). utf8_in pool n ≡ Some found) same at)
  by_number (entries.Utf8 text) number e = absurd cc
  by_number (entries.Integer value) number e = absurd cc
  by_number entries.Wide number e = absurd cc
  by_number entries.Second number e = absurd cc
  by_number (entries.Class name) number e = absurd cc
  by_number (entries.Field class name_type) number e = absurd cc
  by_number (entries.Method class name_type) number e = absurd cc
  by_number (entries.InterfaceMethod class name_type) number e = absurd cc
  by_number (entries.NameType name kind) number e = absurd cc
  by_number entries.Skipped number e = absurd cc

  -- an entry with such a text names it by some number
  by_text : (entry : PoolEntry) (text : List ℕ) → told_text pool (Some entry) ≡ Some text → (number : ℕ) × (entry ≡ entries.Str number) × (utf8_in pool number ≡ Some text)
  by_text (entries.Str number) text e = (number, refl, e)
  by_text (entries.Utf8 own) text e = absurd cc
  by_text (entries.Integer value) text e = absurd cc
  by_text entries.Wide text e = absurd cc
  by_text entries.Second text e = absurd cc
  by_text (entries.Class name) text e = absurd cc
  by_text (entries.Field class name_type) text e = absurd cc
  by_text (entries.Method class name_type) text e = absurd cc
  by_text (entries.InterfaceMethod class name_type) text e = absurd cc
  by_text (entries.NameType name kind) text e = absurd cc
  by_text entries.Skipped text e = absurd cc

  -- a text stands at each of the numbers
  pub literals_spelled : AllByRecursion (IsSpelled SpellsItself pool) (literal_numbers pool)
  literals_spelled = all_by_has (IsSpelled SpellsItself pool) (literal_numbers pool) (λ number has.
      let entry = has_filtered (literal_index_of pool) pool number has in
      let is = by_number entry.0 number entry.2 in
      (is.1, is.2, (is.1, refl)))

  module _ (texts : List (Option (List ℕ))) (told : IsTable SpellsItself pool (literal_numbers pool) texts) where
    -- each text of the table stands at its number
    pub literal_at : (number : ℕ) (text : List ℕ) → slice_get texts number ≡ Some (Some text) → utf8_in pool number ≡ Some text
    literal_at number text at =
        let right = (told.right number text (stands_told texts number text at)).1 in
        right.1 ∙ ap (λ (t : List ℕ). Some t) (sym right.2)

    module _ (types : List (Option ExactType)) (kinds : List (Option MemberKind)) where
      literal_stands : (text : List ℕ) → Has texts (Some text) → Has (map (entry_told pool types kinds) pool) (TextEntry text)
      literal_stands text has =
          let right = told.right has.0 text (stands_told texts has.0 text has.1) in
          let entry = has_filtered (literal_index_of pool) pool has.0 right.0 in
          let there : Has pool (entries.Str has.0) = subst (λ (e : PoolEntry). Has pool e) (by_number entry.0 has.0 entry.2).0 entry.1 in
          let stands = map_has (entry_told pool types kinds) pool (entries.Str has.0) there in
          subst (λ (o : Option (List ℕ)). Has (map (entry_told pool types kinds) pool) (text_told o)) (literal_at has.0 text has.1) stands

      -- an entry that is such a text names it by some number
      told_as_text : (entry : PoolEntry) (text : List ℕ) → entry_told pool types kinds entry ≡ TextEntry text → (number : ℕ) × (entry ≡ entries.Str number) × (utf8_in pool number ≡ Some text)
      told_as_text entry text e = by_text entry text (sym (text_of_told pool types kinds (Some entry)) ∙ ap (λ (told_entry : Entry). text_of_entry (Some told_entry)) e)

      string_has : (number : ℕ) (text : List ℕ) → Has pool (entries.Str number) → utf8_in pool number ≡ Some text → Has texts (Some text)
      string_has number text there at =
          let index : literal_index_of pool (entries.Str number) ≡ Some number = ap (λ (o : Option (List ℕ)). option_map (λ (found : List ℕ). number) o) at in
          let found = told.whole number (filter_has (literal_index_of pool) pool (entries.Str number) number there index) in
          (number, told_stands texts number text (found.1 ∙ ap (λ (t : List ℕ). Some t) (same number text found.0 at found.1)))
        where
          same : (at : ℕ) (text value : List ℕ) → utf8_in pool at ≡ Some text → told_at texts at ≡ Some value → value ≡ text
          same at text value is found =
              let right = (told.right at value found).1 in
              right.2 ∙ same_some (utf8_in pool at) right.0 text right.1 is

      standing_literal : (text : List ℕ) → Has (map (entry_told pool types kinds) pool) (TextEntry text) → Has texts (Some text)
      standing_literal text has =
          let entry = has_mapped (entry_told pool types kinds) pool (TextEntry text) has in
          let string = told_as_text entry.0 text entry.2 in
          string_has string.0 text (subst (λ (e : PoolEntry). Has pool e) string.1 entry.1) string.2

      -- the table has the texts of String entries
      pub literals_told : (text : List ℕ) → Has texts (Some text) ↔ Has (map (entry_told pool types kinds) pool) (TextEntry text)
      literals_told text = (literal_stands text, standing_literal text)

-- what follows of what is answered
pub answered_so : {A E : Type 0} (result : Result A E) (P Q : A → Type 0) → IfOk result P → ((x : A) → P x → Q x) → IfOk result Q
answered_so (Ok x) P Q is follows = follows x is
answered_so (Err e) P Q is follows = tt
