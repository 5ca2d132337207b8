-- What a table has for a slot, and what a list says of it.
use Rattle.std.proofs.Common.{◌≡◌, ℕ, ◌-◌, ◌<◌, ◌≤◌, ◌==◌, ◌&&◌, Bool, true, false, if◌then◌else◌, List, [], ◌∷◌, length, map, drop, take, get_or, codes, Option, Some, None, refl, sym, ap, subst, ◌∙◌, arith}
use Rattle.std.proofs.lemmas.List.{take_all}
use Rattle.std.specs.HashMap.{HashMap, IsEmpty}
use Rattle.std.specs.Map.{lookup}
use Rattle.std.specs.Option.{option_map, option_map_or, option_or}
use Rattle.kb_path_words.specs.Words.{seen_text, out_text}
use Rattle.kb_picture.specs.declared.path.Out.{Out}
use Rattle.kb_picture.specs.declared.path.Write.{Write}
use Rattle.kb_picture.specs.declared.picture.Origin.{Origin}
use Rattle.kb_picture.specs.declared.picture.PicLoc.{PicLoc}
use Rattle.kb_picture.specs.declared.picture.Picture.{Picture}
use Rattle.kb_picture.specs.declared.picture.Seen.{Seen}
use Rattle.kb_diagram.specs.declared.cells.Cell.{Cell}
use Rattle.kb_diagram.specs.declared.cells.Cell.TheVariants.{Shown, Written}
use Rattle.kb_diagram.specs.declared.cells.Slot.{Slot}
use Rattle.kb_diagram.specs.Cells.{is_slot, last_said, shown_as, cell_before, written, cell_after}
use Rattle.kb_diagram.specs.Tables.{cell_in, cell_text, held_in, seen_cell, written_cell, HasMore, HasSeen}

-- ---- a list that is put into a table, one by one

module _ {A : Type 0} (say : A → Origin × Cell) (start : ℕ → ℕ → Option Cell) where
  -- the table has now, with the rest, what it had at the start with all of them
  abbrev pub Goes : (ℕ → ℕ → Option Cell) → List A → List A → Type 0
  Goes now all rest =
      (object number : ℕ) → option_or (last_said (map say all) object number) (start object number) ≡ option_or (last_said (map say rest) object number) (now object number)

  said_next : (later : Option Cell) (b : Bool) (said : Cell) (before : Option Cell)
      → option_or (option_or later (if b then Some said else None)) before ≡ option_or later (if b then Some said else before)
  said_next None true said before = refl
  said_next None false said before = refl
  said_next (Some last) b said before = refl

  goes_next : (now next : ℕ → ℕ → Option Cell) (all others : List A) (x : A) → Goes now all (x ∷ others)
      → ((object number : ℕ) → next object number ≡ (if is_slot object number (say x).0 then Some (say x).1 else now object number)) → Goes next all others
  goes_next now next all others x goes put object number =
      goes object number
      ∙ said_next (last_said (map say others) object number) (is_slot object number (say x).0) (say x).1 (now object number)
      ∙ ap (λ (c : Option Cell). option_or (last_said (map say others) object number) c) (sym (put object number))

  pub goes_more : (now next : ℕ → ℕ → Option Cell) (all rest : List A) (none : A) → 1 ≤ length rest → Goes now all rest
      → ((object number : ℕ) → next object number ≡ (if is_slot object number (say (get_or rest 0 none)).0 then Some (say (get_or rest 0 none)).1 else now object number))
      → Goes next all (take (length rest - 1) (drop 1 rest))
  goes_more now next all [] none some goes put = absurd (omega (arith, some))
  goes_more now next all (y ∷ others) none some goes put =
      let long : length others ≤ length (y ∷ others) - 1 = omega arith in
      let same : take (length (y ∷ others) - 1) others ≡ others = take_all (length (y ∷ others) - 1) others long in
      subst (Goes next all) (sym same) (goes_next now next all others y goes put)

  pub goes_done : (now : ℕ → ℕ → Option Cell) (all rest : List A) → length rest < 1 → Goes now all rest
      → (object number : ℕ) → now object number ≡ option_or (last_said (map say all) object number) (start object number)
  goes_done now all [] none goes object number = sym (goes object number)
  goes_done now all (x ∷ rest) none goes object number = absurd (omega (arith, none))

-- ---- a table that was empty

none_behind : {A : Type 0} (o : Option A) → option_or o None ≡ o
none_behind None = refl
none_behind (Some a) = refl

module _ {S : Type 0} where
  none_in : (cells : HashMap Slot Cell S) (object number : ℕ) → IsEmpty cells → cell_in cells object number ≡ None
  none_in cells object number empty = ap (λ (es : List (Slot × Cell)). lookup (λ (key : Slot). (object == key.object) && (number == key.number)) es) empty

  pub seen_from_none : (picture : Picture) (before after : HashMap Slot Cell S) → IsEmpty before → HasMore (map (seen_cell picture.locs) picture.seen) before after → HasSeen picture after
  seen_from_none picture before after empty more object number =
      let said = last_said (map (seen_cell picture.locs) picture.seen) object number in
      more object number ∙ ap (λ (c : Option Cell). option_or said c) (none_in before object number empty) ∙ none_behind said

-- ---- what is said, and how it is written

said_of : {A B : Type 0} (f : A → B) (later : Option A) (b : Bool) (said : A)
    → option_or (option_map f later) (if b then Some (f said) else None) ≡ option_map f (option_or later (if b then Some said else None))
said_of f None true said = refl
said_of f None false said = refl
said_of f (Some last) b said = refl

seen_said : (locs : List PicLoc) (seen : List (Origin × Seen)) (object number : ℕ)
    → last_said (map (seen_cell locs) seen) object number ≡ option_map (λ (s : Seen). Shown (shown_as locs s)) (last_said seen object number)
seen_said locs [] object number = refl
seen_said locs (slot ∷ seen) object number =
    let b = is_slot object number slot.0 in
    ap (λ (later : Option Cell). option_or later (if b then Some (Shown (shown_as locs slot.1)) else None)) (seen_said locs seen object number)
    ∙ said_of (λ (s : Seen). Shown (shown_as locs s)) (last_said seen object number) b slot.1

writes_said : (writes : List Write) (object number : ℕ) → last_said (map written_cell writes) object number ≡ option_map Written (last_said (written writes) object number)
writes_said [] object number = refl
writes_said (write ∷ writes) object number =
    let b = is_slot object number write.slot in
    ap (λ (later : Option Cell). option_or later (if b then Some (Written write.value) else None)) (writes_said writes object number)
    ∙ said_of Written (last_said (written writes) object number) b write.value

shown : (locs : List PicLoc) (seen : Option Seen)
    → cell_text (option_map (λ (s : Seen). Shown (shown_as locs s)) seen) ≡ option_map_or (λ (s : Seen). seen_text (shown_as locs s)) seen (codes "?")
unfolding cell_text
shown locs None = refl
shown locs (Some seen) = refl

left : (last : Option Out) (before : Option Cell) → cell_text (option_or (option_map Written last) before) ≡ option_map_or out_text last (cell_text before)
unfolding cell_text
left None before = refl
left (Some out) before = refl

module _ {S : Type 0} (picture : Picture) where
  pub held_before : (cells : HashMap Slot Cell S) → HasSeen picture cells → (object number : ℕ) → held_in cells object number ≡ cell_before picture object number
  unfolding cell_before
  held_before cells has object number =
      ap cell_text (has object number ∙ seen_said picture.locs picture.seen object number) ∙ shown picture.locs (last_said picture.seen object number)

  pub held_after : (writes : List Write) (before after : HashMap Slot Cell S) → HasSeen picture before → HasMore (map written_cell writes) before after → (object number : ℕ)
      → held_in after object number ≡ cell_after picture writes object number
  unfolding cell_after
  held_after writes before after has more object number =
      ap cell_text (more object number ∙ ap (λ (o : Option Cell). option_or o (cell_in before object number)) (writes_said writes object number))
      ∙ left (last_said (written writes) object number) (cell_in before object number)
      ∙ ap (λ (t : List ℕ). option_map_or out_text (last_said (written writes) object number) t) (held_before before has object number)
