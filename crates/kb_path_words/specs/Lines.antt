-- Lists of lines and of words, the decisions of a path, and the first line of its leaf.
use Rattle.std.specs.Prelude.{ℕ, ◌+◌, List, [], ◌∷◌, ◌++◌, codes, length, Some, None}
use Rattle.std.specs.List.{flat_map}
use Rattle.std.specs.Fmt.{decimal}
use Rattle.kb_heap_words.specs.Words.{place_text, bound_name}
use Rattle.kb_path_words.specs.Words.{out_text}
use Rattle.kb_picture.specs.declared.path.SymEnding.{SymEnding}
use Rattle.kb_picture.specs.declared.path.SymEnding.TheVariants.{Returned, Threw, IllTyped}
use Rattle.kb_picture.specs.declared.path.Leaf.{Leaf}
use Rattle.kb_picture.specs.declared.path.Leaf.TheVariants.{Ended as EndedLeaf, Cut, Undecided, Open}

-- a line for each of a list, with its number, from n on
abbrev pub numbered_lines : {A : Type 0} → (ℕ → A → List ℕ) → ℕ → List A → List (List ℕ)
numbered_lines line n [] = []
numbered_lines line n (x ∷ xs) = line n x ∷ numbered_lines line (n + 1) xs

-- the words, each with a space before it
abbrev pub spaced : {A : Type 0} → (A → List ℕ) → List A → List ℕ
spaced word xs = flat_map (λ x. codes " " ++ word x) xs

-- ---- the decisions

unfoldable pub further_decisions : List ℕ → List ℕ
further_decisions numbers = flat_map (λ number. codes "." ++ decimal number) numbers

-- the decisions, joined by dots; `-` where there are none
unfoldable pub decisions_text : List ℕ → List ℕ
decisions_text [] = codes "-"
decisions_text (number ∷ numbers) = decimal number ++ further_decisions numbers

-- ---- the leaf

unfoldable pub ending_line : SymEnding → List ℕ
ending_line (Returned None) = codes "returns"
ending_line (Returned (Some value)) = codes "returns " ++ out_text value
ending_line (Threw value) = codes "throws " ++ out_text value
ending_line (IllTyped place) = codes "illtyped " ++ place_text place

-- the first line of a leaf
unfoldable pub leaf_line : Leaf → List ℕ
leaf_line (EndedLeaf ended) = ending_line ended.ending
leaf_line (Cut bound input) = codes "cut " ++ bound_name bound
leaf_line (Undecided log) = codes "undecided " ++ decimal (length log.entries)
leaf_line Open = codes "open"
