-- The diagram of a path, line by line: the objects of its picture before the run and, where the path has ended, after it, with what
-- stands in each slot; the objects that the run made; and the first line of the leaf. A line has no line feed in it; the text of
-- lines puts one behind each.
use Rattle.std.specs.Prelude.{ℕ, zero, suc, ◌+◌, List, [], ◌∷◌, ◌++◌, codes, slice_get}
use Rattle.std.specs.List.{flat_map}
use Rattle.std.specs.Option.{option_map_or}
use Rattle.std.specs.Fmt.{decimal}
use Rattle.kb_grammar.specs.Lines.{lines_text}
use Rattle.kb_classes.specs.World.{World}
use Rattle.kb_classes.specs.declared.slots.FieldSlot.{FieldSlot}
use Rattle.kb_names.specs.Escapes.{name_text}
use Rattle.kb_names.specs.declared.types.ExactType.{ExactType}
use Rattle.kb_names.specs.declared.types.ExactType.TheVariants as exact
use Rattle.kb_semantics.specs.Values.{slots_of_class}
use Rattle.kb_heap_words.specs.Words.{exact_text}
use Rattle.kb_path_words.specs.Words.{out_text}
use Rattle.kb_path_words.specs.Lines.{numbered_lines, decisions_text, leaf_line}
use Rattle.kb_picture.specs.declared.path.Out.{Out}
use Rattle.kb_picture.specs.declared.path.Made.{Made}
use Rattle.kb_picture.specs.declared.path.Ended.{Ended}
use Rattle.kb_picture.specs.declared.path.Leaf.{Leaf}
use Rattle.kb_picture.specs.declared.path.Leaf.TheVariants.{Ended as EndedLeaf, Cut, Undecided, Open}
use Rattle.kb_picture.specs.declared.path.Path.{Path}
use Rattle.kb_picture.specs.declared.picture.Length.{Length}
use Rattle.kb_picture.specs.declared.picture.Length.TheVariants.{Plain, Is, Above}
use Rattle.kb_picture.specs.declared.picture.PicObject.{PicObject}
use Rattle.kb_picture.specs.declared.picture.Picture.{Picture}
use Rattle.kb_diagram.specs.Cells.{cell_before, cell_after}

-- ---- cells

-- a word for each of a list, with its number, from n on
abbrev pub numbered_words : {A : Type 0} → (ℕ → A → List ℕ) → ℕ → List A → List ℕ
numbered_words word n [] = []
numbered_words word n (x ∷ xs) = word n x ++ numbered_words word (n + 1) xs

-- a slot by its name, with a space before it
abbrev pub cell_front : List ℕ → List ℕ
cell_front name = codes " " ++ (name ++ codes "=")

-- and with what it holds
unfoldable pub cell_word : List ℕ → List ℕ → List ℕ
cell_word name held = cell_front name ++ held

abbrev pub field_cell : (ℕ → List ℕ) → ℕ → FieldSlot → List ℕ
field_cell held slot field = cell_word (name_text field.name) (held slot)

-- the first so many elements of an array, each by its index
abbrev pub element_cells : (ℕ → List ℕ) → ℕ → List ℕ
element_cells held zero = []
element_cells held (suc n) = element_cells held n ++ cell_word (decimal n) (held n)

-- those of an array; one that is longer than is known shows none
abbrev pub array_cells : (ℕ → List ℕ) → Length → List ℕ
array_cells held Plain = []
array_cells held (Is n) = element_cells held n
array_cells held (Above n) = []

-- the slots of an object of the picture: the fields of its class by their names, or the elements of an array
abbrev pub object_cells : World → (ℕ → List ℕ) → ExactType → Length → List ℕ
object_cells world held (exact.Class name) len = numbered_words (field_cell held) 0 (slots_of_class world name)
object_cells world held (exact.Array component) len = array_cells held len

-- the name of the field of that slot; nothing where there is none
abbrev pub field_name : List FieldSlot → ℕ → List ℕ
field_name fields slot = option_map_or (λ (field : FieldSlot). name_text field.name) (slice_get fields slot) []

-- the values of an object that the run made
abbrev pub made_cells : World → ExactType → List Out → List ℕ
made_cells world (exact.Class name) values = numbered_words (λ slot out. cell_word (field_name (slots_of_class world name) slot) (out_text out)) 0 values
made_cells world (exact.Array component) values = numbered_words (λ index out. cell_word (decimal index) (out_text out)) 0 values

-- ---- lines

unfoldable pub title_line : List ℕ → List ℕ
title_line decisions = codes "diagram " ++ decisions_text decisions

-- an object of the picture, where its slots hold that
unfoldable pub object_line : World → (ℕ → ℕ → List ℕ) → ℕ → PicObject → List ℕ
object_line world held number object =
    codes "o" ++ (decimal number ++ (codes " " ++ (exact_text object.kind ++ object_cells world (held number) object.kind object.length)))

unfoldable pub made_line : World → ℕ → Made → List ℕ
made_line world number made = codes "n" ++ (decimal number ++ (codes " " ++ (exact_text made.kind ++ made_cells world made.kind made.values)))

-- the objects of the picture before the run
unfoldable pub before_lines : World → Picture → List (List ℕ)
before_lines world picture = codes "before" ∷ numbered_lines (object_line world (cell_before picture)) 0 picture.objects

-- the same objects after a run that has ended, then those that it made
unfoldable pub after_lines : World → Picture → Ended → List (List ℕ)
after_lines world picture ended =
    codes "after" ∷ (numbered_lines (object_line world (cell_after picture ended.writes)) 0 picture.objects ++ numbered_lines (made_line world) 0 ended.made)

-- nothing is shown after a run whose end the path does not state
abbrev pub end_lines : World → Picture → Leaf → List (List ℕ)
end_lines world picture (EndedLeaf ended) = after_lines world picture ended
end_lines world picture (Cut bound input) = []
end_lines world picture (Undecided log) = []
end_lines world picture Open = []

unfoldable pub heap_lines : World → Path → List (List ℕ)
heap_lines world path = before_lines world path.picture ++ end_lines world path.picture path.leaf

-- The lines of a diagram.
unfoldable pub diagram_lines : World → Path → List (List ℕ)
diagram_lines world path = title_line path.decisions ∷ (heap_lines world path ++ leaf_line path.leaf ∷ [])

-- The text of the diagram of a path of the world.
unfoldable pub diagram_text : World → Path → List ℕ
diagram_text world path = lines_text (diagram_lines world path)

-- That of the diagrams of some paths, in order.
unfoldable pub diagrams_text : World → List Path → List ℕ
diagrams_text world paths = flat_map (diagram_text world) paths
