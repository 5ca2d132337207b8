-- The block of a path, line by line: its decisions, what it sees, its locations and objects, its terms and conditions, and its
-- leaf. A line has no line feed in it; the text of lines puts one behind each.
use Rattle.std.specs.Prelude.{ℕ, Bool, cond, List, [], ◌∷◌, ◌++◌, codes, map}
use Rattle.std.specs.Fmt.{decimal}
use Rattle.kb_heap.specs.declared.heap.Value.{Value}
use Rattle.kb_heap.specs.declared.heap.Object.{Object}
use Rattle.kb_heap.specs.declared.heap.Input.{Input}
use Rattle.kb_classes.specs.World.{World}
use Rattle.kb_log_text.specs.Lines.{learn_lines}
use Rattle.kb_heap_words.specs.Words.{exact_text}
use Rattle.kb_path_words.specs.Words.{seen_text, standing_text, length_text, term_text, out_text, value_text}
use Rattle.kb_path_words.specs.Lines.{numbered_lines, spaced, decisions_text, leaf_line}
use Rattle.kb_terms.specs.declared.listing.Term.{Term}
use Rattle.kb_picture.specs.declared.path.Write.{Write}
use Rattle.kb_picture.specs.declared.path.Made.{Made}
use Rattle.kb_picture.specs.declared.path.Leaf.{Leaf}
use Rattle.kb_picture.specs.declared.path.Leaf.TheVariants.{Ended as EndedLeaf, Cut, Undecided, Open}
use Rattle.kb_picture.specs.declared.path.Path.{Path}
use Rattle.kb_picture.specs.declared.picture.Origin.{Origin}
use Rattle.kb_picture.specs.declared.picture.PicLoc.{PicLoc}
use Rattle.kb_picture.specs.declared.picture.PicObject.{PicObject}
use Rattle.kb_picture.specs.declared.picture.Picture.{Picture}
use Rattle.kb_picture.specs.declared.picture.Seen.{Seen}
use Rattle.kb_report_text.specs.Slots.{slot_text}

-- ---- the path and its picture

unfoldable pub path_line : List ℕ → List ℕ
path_line decisions = codes "path " ++ decisions_text decisions

unfoldable pub see_line : World → List PicObject → Origin × Seen → List ℕ
see_line world objects slot = codes "see " ++ (slot_text world objects slot.0 ++ (codes " " ++ seen_text slot.1))

unfoldable pub loc_line : ℕ → PicLoc → List ℕ
loc_line number loc = codes "loc l" ++ (decimal number ++ (codes " " ++ standing_text loc.standing))

unfoldable pub obj_line : World → List PicObject → ℕ → PicObject → List ℕ
obj_line world objects number object =
    codes "obj o" ++ (decimal number ++ (codes " " ++ (exact_text object.kind ++ (length_text object.length ++ (codes " " ++ slot_text world objects object.origin)))))

unfoldable pub picture_lines : World → Picture → List (List ℕ)
picture_lines world picture =
    map (see_line world picture.objects) picture.seen ++ (numbered_lines loc_line 0 picture.locs ++ numbered_lines (obj_line world picture.objects) 0 picture.objects)

-- ---- terms and conditions

unfoldable pub let_line : ℕ → Term → List ℕ
let_line number term = codes "let t" ++ (decimal number ++ (codes " " ++ term_text term))

unfoldable pub when_line : ℕ × Bool → List ℕ
when_line condition = codes "when " ++ (cond condition.1 [] (codes "not ") ++ (codes "t" ++ decimal condition.0))

-- ---- leaves

unfoldable pub set_line : World → List PicObject → Write → List ℕ
set_line world objects write = codes "set " ++ (slot_text world objects write.slot ++ (codes " " ++ out_text write.value))

unfoldable pub new_line : ℕ → Made → List ℕ
new_line number made = codes "new n" ++ (decimal number ++ (codes " " ++ (exact_text made.kind ++ spaced out_text made.values)))

unfoldable pub arg_line : Value → List ℕ
arg_line value = codes "arg " ++ value_text value

unfoldable pub in_line : ℕ → Object → List ℕ
in_line number object = codes "in i" ++ (decimal number ++ (codes " " ++ (exact_text object.kind ++ spaced value_text object.values)))

-- an input: its arguments, and its objects
unfoldable pub input_lines : Input → List (List ℕ)
input_lines input = map arg_line input.args ++ numbered_lines in_line 0 input.heap.objects

-- the lines behind it: what an ended path wrote and made, and its input; the input of one that is cut; the log of one that is undecided
unfoldable pub further_lines : World → List PicObject → Leaf → List (List ℕ)
further_lines world objects (EndedLeaf ended) = map (set_line world objects) ended.writes ++ (numbered_lines new_line 0 ended.made ++ input_lines ended.input)
further_lines world objects (Cut bound input) = input_lines input
further_lines world objects (Undecided log) = learn_lines log
further_lines world objects Open = []

unfoldable pub leaf_lines : World → List PicObject → Leaf → List (List ℕ)
leaf_lines world objects leaf = leaf_line leaf ∷ further_lines world objects leaf

-- the block of a path
unfoldable pub path_lines : World → Path → List (List ℕ)
path_lines world path = path_line path.decisions ∷ (picture_lines world path.picture ++ (numbered_lines let_line 0 path.terms ++ (map when_line path.when
    ++ leaf_lines world path.picture.objects path.leaf)))
