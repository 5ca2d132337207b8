-- Lists of what is written, that grow at their ends.
use Rattle.std.proofs.Common.{◌≡◌, ℕ, ◌+◌, ◌-◌, ◌≤◌, List, [], ◌∷◌, ◌++◌, length, take, drop, get_or, Option, ap, ◌∙◌, arith, append_assoc}
use Rattle.std.specs.Prelude.{slice_get}
use Rattle.std.proofs.lemmas.List.{take_all}
use Rattle.kb_picture.specs.declared.picture.PicLoc.{PicLoc}
use Rattle.kb_picture.specs.declared.picture.PicObject.{PicObject}
use Rattle.kb_picture.specs.declared.path.Write.{Write}
use Rattle.kb_frames.specs.declared.value.Cell.{Cell}
use Rattle.kb_stated.specs.Stated.{object_writes, writes_from}

-- the first item, and the others
front_is : {X : Type 0} (rest : List X) (item : X) → 1 ≤ length rest → item ≡ get_or rest 0 item → item ∷ take (length rest - 1) (drop 1 rest) ≡ rest
front_is [] item some e = absurd (omega (arith, some))
front_is {X} (first ∷ others) item some e =
    let short : length others ≤ length (first ∷ others) - 1 = omega arith in
    ap (λ (x : X). x ∷ take (length (first ∷ others) - 1) others) e ∙ ap (λ (l : List X). first ∷ l) (take_all (length (first ∷ others) - 1) others short)

-- the writes of one object more
pub next_object : (locs : List PicLoc) (objects : List PicObject) (number next : ℕ) (before after : List Write) (object : Option PicObject) (slots item : List Cell) (rest : List (List Cell))
    → object ≡ slice_get objects number → slots ≡ item → 1 ≤ length rest → item ≡ get_or rest 0 item → next ≡ number + 1
    → after ≡ before ++ object_writes locs object number slots
    → after ++ writes_from locs objects next (take (length rest - 1) (drop 1 rest)) ≡ before ++ writes_from locs objects number rest
next_object locs objects number next before after object slots item rest found same some front more added =
    ap (λ n. after ++ writes_from locs objects n (take (length rest - 1) (drop 1 rest))) more
    ∙ ap (λ (l : List Write). l ++ writes_from locs objects (number + 1) (take (length rest - 1) (drop 1 rest))) (added ∙ ap (λ (o : Option PicObject). before ++ object_writes locs o number slots) found ∙ ap (λ (s : List Cell). before ++ object_writes locs (slice_get objects number) number s) same)
    ∙ append_assoc before (object_writes locs (slice_get objects number) number item) (writes_from locs objects (number + 1) (take (length rest - 1) (drop 1 rest)))
    ∙ ap (λ (cells : List (List Cell)). before ++ writes_from locs objects number cells) (front_is rest item some front)
