-- Lists that are dealt, and put together again.
use Rattle.std.proofs.Common.{◌≡◌, ℕ, zero, suc, ◌+◌, ◌<◌, List, [], ◌∷◌, ◌++◌, length, replicate, Option, Some, None, refl, sym, ap, ◌∙◌, subst, arith}
use Rattle.std.specs.List.{All}
use Rattle.std.proofs.lemmas.List.{append-nil, append_assoc, same_from_push}
use Rattle.std.proofs.lemmas.List.Elements.{All-nil, All-cons, All-head, All-tail}
use Rattle.kb_workers.specs.Mapped.{AreMapped}
use Rattle.kb_workers.specs.Turns.{stride, strides_from, strides, merged, TakesTurn}
use Rattle.kb_workers.proofs.MappedLaws.{mapped_more}

module _ {T : Type 0} where
  strides_nil : (others count skip : ℕ) → strides_from {T = T} others count skip [] ≡ replicate count []
  strides_nil others zero skip = refl
  strides_nil others (suc count) skip = ap (λ (lists : List (List T)). [] ∷ lists) (strides_nil others count (suc skip))

  -- no pieces dealt to all
  pub nothing_dealt : (others : ℕ) → strides {T = T} others [] ≡ replicate (suc others) []
  unfolding strides
  nothing_dealt others = strides_nil others (suc others) zero

  -- those who have one more worker before them get what they got without the first item
  strides_behind : (others count skip : ℕ) (item : T) (items : List T) → strides_from others count (suc skip) (item ∷ items) ≡ strides_from others count skip items
  strides_behind others zero skip item items = refl
  strides_behind others (suc count) skip item items = ap (λ (lists : List (List T)). stride others skip items ∷ lists) (strides_behind others count (suc skip) item items)

  -- one worker more stands behind the others
  strides_last : (others count skip : ℕ) (items : List T) → strides_from others (suc count) skip items ≡ strides_from others count skip items ++ stride others (count + skip) items ∷ []
  strides_last others zero skip items = ap (λ (n : ℕ). stride others n items ∷ []) (omega arith)
  strides_last others (suc count) skip items =
      ap (λ (lists : List (List T)). stride others skip items ∷ lists)
      (strides_last others count (suc skip) items ∙ ap (λ (n : ℕ). strides_from others count (suc skip) items ++ stride others n items ∷ []) (omega arith))

  -- what all but the last get, and what the last gets
  pub last_apart : (others : ℕ) (items : List T) → strides others items ≡ strides_from others others zero items ++ stride others others items ∷ []
  unfolding strides
  last_apart others items = strides_last others others zero items ∙ ap (λ (n : ℕ). strides_from others others zero items ++ stride others n items ∷ []) (omega arith)

  -- the first item goes to the worker whose turn is first, and who would be the last of the others
  pub first_apart : (others : ℕ) (item : T) (items : List T) → strides others (item ∷ items) ≡ (item ∷ stride others others items) ∷ strides_from others others zero items
  unfolding strides
  first_apart others item items = ap (λ (lists : List (List T)). (item ∷ stride others others items) ∷ lists) (strides_behind others others zero item items)

  -- merged strides of a list are the list
  pub merged_strides : (others : ℕ) (items : List T) → merged (length items) (strides others items) ≡ items
  merged_strides others [] = refl
  merged_strides others (item ∷ items) =
      ap (merged (suc (length items))) (first_apart others item items)
      ∙ ap (λ (lists : List (List T)). item ∷ merged (length items) lists) (sym (last_apart others items))
      ∙ ap (λ (xs : List T). item ∷ xs) (merged_strides others items)

  -- the last list with the item in front, before the others: the item is dealt before those that are
  pub dealt_before : (others : ℕ) (item : T) (rest : List T) (hands front : List (List T)) (last : List T) → hands ≡ front ++ last ∷ [] → hands ≡ strides others rest
      → (item ∷ last) ∷ front ≡ strides others (item ∷ rest)
  dealt_before others item rest hands front last apart same =
      let parts = same_from_push front (strides_from others others zero rest) last (stride others others rest) (sym apart ∙ same ∙ last_apart others rest) in
      ap (λ (xs : List T). (item ∷ xs) ∷ front) parts.1
      ∙ ap (λ (lists : List (List T)). (item ∷ stride others others rest) ∷ lists) parts.0
      ∙ sym (first_apart others item rest)

  -- there is a hand
  pub some_hand : (others : ℕ) (rest : List T) → [] ≡ strides others rest → ⊥
  unfolding strides
  some_hand others rest e = cc

-- ---- what holds of all pieces holds of all that are dealt

module _ {T : Type 0} (P : T → Type 0) where
  all_of_stride : (others skip : ℕ) (items : List T) → All P items → All P (stride others skip items)
  all_of_stride others skip [] all = All-nil P
  all_of_stride others zero (item ∷ items) all = All-cons P item (stride others others items) (All-head P item items all) (all_of_stride others others items (All-tail P item items all))
  all_of_stride others (suc skip) (item ∷ items) all = all_of_stride others skip items (All-tail P item items all)

  all_of_strides : (others count skip : ℕ) (items : List T) → All P items → All (All P) (strides_from others count skip items)
  all_of_strides others zero skip items all = All-nil (All P)
  all_of_strides others (suc count) skip items all =
      All-cons (All P) (stride others skip items) (strides_from others count (suc skip) items) (all_of_stride others skip items all) (all_of_strides others count (suc skip) items all)

  pub dealt_accepted : (others : ℕ) (items : List T) (hands : List (List T)) → hands ≡ strides others items → All P items → All (All P) hands
  unfolding strides
  dealt_accepted others items hands same all = subst (All (All P)) (sym same) (all_of_strides others (suc others) zero items all)

-- ---- answers

module _ {T R : Type 0} (work : T → R → Type 0) where
  -- the answers for what is dealt, put together, are those for the pieces
  merged_answers : (others : ℕ) (pieces : List T) (lists : List (List R)) → AreMapped (AreMapped work) (strides others pieces) lists → AreMapped work pieces (merged (length pieces) lists)
  merged_answers others [] lists mapped = tt
  merged_answers others (piece ∷ pieces) lists mapped =
      apart (merged_answers others pieces) lists (subst (λ (hands : List (List T)). AreMapped (AreMapped work) hands lists) (first_apart others piece pieces) mapped)
    where
      apart : ((lists : List (List R)) → AreMapped (AreMapped work) (strides others pieces) lists → AreMapped work pieces (merged (length pieces) lists)) → (lists : List (List R))
          → AreMapped (AreMapped work) ((piece ∷ stride others others pieces) ∷ strides_from others others zero pieces) lists → AreMapped work (piece ∷ pieces) (merged (suc (length pieces)) lists)
      apart goes_on [] m = absurd m
      apart goes_on ([] ∷ lists) m = absurd m.0
      apart goes_on ((answer ∷ answers) ∷ lists) m = (
        m.0.0,
        goes_on (lists ++ answers ∷ [])
            (subst (λ (hands : List (List T)). AreMapped (AreMapped work) hands (lists ++ answers ∷ [])) (sym (last_apart others pieces))
            (mapped_more (AreMapped work) (strides_from others others zero pieces) lists (stride others others pieces) answers m.1 m.0.1)),
      )

  pub merged_mapped : (others : ℕ) (pieces : List T) (hands : List (List T)) (lists : List (List R)) (count : ℕ) (all : List R) → hands ≡ strides others pieces → count ≡ length pieces
      → AreMapped (AreMapped work) hands lists → all ≡ merged count lists → AreMapped work pieces all
  merged_mapped others pieces hands lists count all dealt counted mapped same =
      subst (AreMapped work pieces) (sym (same ∙ ap (λ (n : ℕ). merged n lists) counted))
      (merged_answers others pieces lists (subst (λ (hs : List (List T)). AreMapped (AreMapped work) hs lists) dealt mapped))

-- ---- turns

module _ {T : Type 0} where
  pub takes_turn : (lists rest new : List (List T)) (list left : List T) (item : T) → lists ≡ list ∷ rest → list ≡ item ∷ left → new ≡ rest ++ left ∷ [] → TakesTurn lists (Some item) new
  takes_turn lists rest new list left item first same behind =
      subst (λ (all : List (List T)). TakesTurn all (Some item) new) (sym (first ∙ ap (λ (xs : List T). xs ∷ rest) same)) (refl, behind)

  pub no_turn : (lists rest new : List (List T)) (list : List T) → lists ≡ list ∷ rest → list ≡ [] → TakesTurn lists None new
  no_turn lists rest new list first same = subst (λ (all : List (List T)). TakesTurn all None new) (sym (first ∙ ap (λ (xs : List T). xs ∷ rest) same)) refl

  pub no_list : (lists new : List (List T)) → lists ≡ [] → TakesTurn lists None new
  no_list lists new none = subst (λ (all : List (List T)). TakesTurn all None new) (sym none) refl

  -- so many more items follow
  pub merged_more : (lists new : List (List T)) (item : T) (before all : List T) (count : ℕ) → TakesTurn lists (Some item) new → before ++ merged (suc count) lists ≡ all → (before ++ item ∷ []) ++ merged count new ≡ all
  merged_more [] new item before all count turn same = absurd cc
  merged_more ([] ∷ lists) new item before all count turn same = absurd cc
  merged_more ((first ∷ items) ∷ lists) new item before all count turn same =
      append_assoc before (item ∷ []) (merged count new)
      ∙ ap (λ (rest : List T). before ++ rest) (ap (λ (lists : List (List T)). item ∷ merged count lists) turn.1 ∙ ap (λ (x : T). x ∷ merged count (lists ++ items ∷ [])) (taken turn.0))
      ∙ same
    where
      taken : {x y : T} → Some x ≡ Some y → x ≡ y
      taken e = cc

  pub merged_end : (lists new : List (List T)) (before all : List T) (count : ℕ) → TakesTurn lists None new → before ++ merged (suc count) lists ≡ all → before ≡ all
  merged_end [] new before all count turn same = sym (append-nil before) ∙ same
  merged_end ([] ∷ lists) new before all count turn same = sym (append-nil before) ∙ same
  merged_end ((first ∷ items) ∷ lists) new before all count turn same = absurd cc
