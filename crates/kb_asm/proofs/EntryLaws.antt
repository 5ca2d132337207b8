-- The entries of a pool that has all that its entries name.
use Rattle.std.proofs.Common.{◌≡◌, ℕ, suc, ◌+◌, ◌<◌, ◌≤◌, Bool, true, false, true≢false, ◌||◌, cond, ltb, List, [], ◌∷◌, length, slice_get, position, find, Option, None, Some, refl, sym, ap, subst, ◌∙◌, arith, lt-ltb}
use Rattle.std.specs.List.{list_any, position_or_len}
use Rattle.std.specs.Option.{option_map}
use Rattle.std.proofs.lemmas.Bool.{and_parts}
use Rattle.std.proofs.lemmas.List.Folds.{find_at}
use Rattle.std.proofs.lemmas.Option.{slice_get-map, slice_get_within}
use Rattle.kb_classfile.specs.declared.file.PoolEntry.{PoolEntry}
use Rattle.kb_classfile.specs.Pool.{entry_at}
use Rattle.kb_asm_pool.specs.Says.{Says, text, int, class, string, name_type, member, same, all_added}
use Rattle.kb_asm_pool.specs.Entries.{number_at, number_in, entry_of, entries_of}
use Rattle.kb_asm_pool.proofs.ItemLaws.{same-true}
use Rattle.kb_asm.specs.Pool.{Has}
use Rattle.kb_asm.specs.Entries.{SaysText, SaysClass, SaysNameType, EntrySays}
use Rattle.kb_asm.specs.Needs.{named, have, IsWhole}
use Rattle.kb_asm.proofs.SaysLaws.{already, from_place}

-- ---- numbers

pub at_number : (says : List Says) (place : ℕ) (one : Says) → slice_get says place ≡ Some one → entry_at (entries_of says) (place + 1) ≡ Some (entry_of says one)
at_number says place one e =
    let next : place + 1 ≡ suc place = omega arith in
    ap (entry_at (entries_of says)) next ∙ slice_get-map (entry_of says) says place ∙ ap (λ (o : Option Says). option_map (entry_of says) o) e

found : (test : Says → Bool) (says : List Says) → list_any test says ≡ true → (one : Says) × (find test says ≡ Some one) × (test one ≡ true)
found test [] h = absurd (true≢false (sym h))
found test (one ∷ says) h = go (test one) refl (λ m. found test says m) h
  where
    go : (b : Bool) → test one ≡ b → (list_any test says ≡ true → (other : Says) × (find test says ≡ Some other) × (test other ≡ true))
        → (b || list_any test says) ≡ true → (other : Says) × (cond b (Some one) (find test says) ≡ Some other) × (test other ≡ true)
    go true e more m = (one, refl, e)
    go false e more m = more m

pub number_there : (says : List Says) (one : Says) → Has says one → (place : ℕ) × (slice_get says place ≡ Some one) × (number_in says one ≡ place + 1)
number_there says one h =
    let f = found (same one) says h in
    let place = position_or_len (same one) says in
    let at : slice_get says place ≡ Some f.0 = sym (find_at (same one) says) ∙ f.1 in
    let within : ltb place (length says) ≡ true = lt-ltb place (length says) (slice_get_within says place f.0 at) in
    let is : position (same one) says ≡ Some place = ap (λ (b : Bool). cond b (Some place) None) within in
    (place, at ∙ ap (λ (s : Says). Some s) (sym (same-true one f.0 f.2)), ap (λ (o : Option ℕ). number_at o) is)

there_is : (says : List Says) (one : Says) → Has says one → entry_at (entries_of says) (number_in says one) ≡ Some (entry_of says one)
there_is says one h =
    let n = number_there says one h in
    ap (entry_at (entries_of says)) n.2 ∙ at_number says n.0 one n.1

-- ---- what entries say

module _ (says : List Says) (closed : (one : Says) → Has says one → have says (named one) ≡ true) where
  pub first_named : (one need : Says) (needs : List Says) → named one ≡ need ∷ needs → Has says one → Has says need
  first_named one need needs e h = (and_parts (list_any (same need) says) (have says needs) (subst (λ (l : List Says). have says l ≡ true) e (closed one h))).0

  pub second_named : (one first second : Says) → named one ≡ first ∷ second ∷ [] → Has says one → Has says second
  second_named one first second e h =
      let p = and_parts (list_any (same first) says) (have says (second ∷ [])) (subst (λ (l : List Says). have says l ≡ true) e (closed one h)) in
      (and_parts (list_any (same second) says) true p.1).0

  text_there : (bytes : List ℕ) → Has says (text bytes) → SaysText (entries_of says) bytes (number_in says (text bytes))
  text_there bytes h = there_is says (text bytes) h

  class_there : (name : List ℕ) → Has says (class name) → SaysClass (entries_of says) name (number_in says (class name))
  class_there name h =
      (number_in says (text name), there_is says (class name) h, text_there name (first_named (class name) (text name) [] refl h))

  pair_there : (name kind : List ℕ) → Has says (name_type name kind) → SaysNameType (entries_of says) name kind (number_in says (name_type name kind))
  pair_there name kind h = (
    number_in says (text name),
    number_in says (text kind),
    there_is says (name_type name kind) h,
    text_there name (first_named (name_type name kind) (text name) (text kind ∷ []) refl h),
    text_there kind (second_named (name_type name kind) (text name) (text kind) refl h),
  )

  pub there_says : (one : Says) → Has says one → EntrySays (entries_of says) one (number_in says one)
  there_says (text bytes) h = text_there bytes h
  there_says (int value) h = there_is says (int value) h
  there_says (class name) h = class_there name h
  there_says (string of) h =
      (number_in says (text of), there_is says (string of) h, text_there of (first_named (string of) (text of) [] refl h))
  there_says (name_type name kind) h = pair_there name kind h
  there_says (member of owner name kind) h = (
    number_in says (class owner),
    number_in says (name_type name kind),
    there_is says (member of owner name kind) h,
    class_there owner (first_named (member of owner name kind) (class owner) (name_type name kind ∷ []) refl h),
    pair_there name kind (second_named (member of owner name kind) (class owner) (name_type name kind) refl h),
  )

-- an entry that is the one of a number says what that says
pub same_entry : (pool : List PoolEntry) (one : Says) (number other : ℕ) → entry_at pool number ≡ entry_at pool other → EntrySays pool one number → EntrySays pool one other
same_entry pool (text bytes) number other e s = sym e ∙ s
same_entry pool (int value) number other e s = sym e ∙ s
same_entry pool (class name) number other e s = (s.0, sym e ∙ s.1, s.2)
same_entry pool (string of) number other e s = (s.0, sym e ∙ s.1, s.2)
same_entry pool (name_type name kind) number other e s = (s.0, s.1, sym e ∙ s.2, s.3, s.4)
same_entry pool (member of owner name kind) number other e s = (s.0, s.1, sym e ∙ s.2, s.3, s.4)

pub says_at : (says : List Says) → ((one : Says) → Has says one → have says (named one) ≡ true) → (one : Says) (place : ℕ) → Has says one → slice_get says place ≡ Some one
    → EntrySays (entries_of says) one (place + 1)
says_at says closed one place h e =
    same_entry (entries_of says) one (number_in says one) (place + 1) (there_is says one h ∙ sym (at_number says place one e)) (there_says says closed one h)

-- ---- numbers that are handed out

-- what was there already, and its number
module _ (says new needs : List Says) (one : Says) (place : ℕ) (whole : IsWhole says) (there : have says needs ≡ true)
    (grown : new ≡ all_added says needs) (at : slice_get new place ≡ Some one) where
  pub not_grown : new ≡ says
  not_grown = grown ∙ already says needs there

  at_place : slice_get says place ≡ Some one
  at_place = subst (λ (l : List Says). slice_get l place ≡ Some one) not_grown at

  pub has_number : place < 65535
  has_number =
      let within : place < length says = slice_get_within says place one at_place in
      let few : length says ≤ 65534 = whole.few in
      omega arith

  pub is_number : EntrySays (entries_of says) one (place + 1)
  is_number = says_at says whole.closed one place (from_place says place one at_place) at_place
