use Rattle.std.proofs.Common.{◌≡◌, ◌++◌, ℕ, List, codes, map, ap, subst, ◌∙◌}
use Rattle.std.proofs.lemmas.Result.{on_ok_weaker}
use Rattle.kb_grammar.specs.Lines.{lines_text}
use Rattle.kb_path_words.specs.Lines.{numbered_lines}
use Rattle.kb_path_words.proofs.TextLaws.{line_joined, two_joined}
use Rattle.kb_picture.specs.declared.path.Made.{Made}
use Rattle.kb_picture.specs.declared.path.Write.{Write}
use Rattle.kb_picture.specs.declared.picture.PicObject.{PicObject}
use Rattle.kb_diagram.specs.Cells.{cell_after}
use Rattle.kb_diagram.specs.Diagram.{object_line, made_line, after_lines}
use Rattle.kb_diagram.specs.Tables.{held_in, written_cell, HasMore}
use Rattle.kb_diagram.proofs.CellLaws.{held_after}
use Rattle.kb_diagram.proofs.LineLaws.{same_lines}
use Rattle.kb_diagram.proofs.heaps.write_after.Goals as goal

pub returns : goal.returns
unfolding after_lines
returns c =
    let world = c.args.world.now in
    let picture = c.args.picture.now in
    let ended = c.args.ended.now in
    let cells = c.put_writes.new.cells in
    let more : HasMore (map written_cell ended.writes) c.args.cells.now cells =
    subst (λ (writes : List Write). HasMore (map written_cell writes) c.args.cells.now cells) c.as_slice.ensures c.in_ok-put_writes.ensures in
    let objects = numbered_lines (object_line world (cell_after picture ended.writes)) 0 picture.objects in
    let drawn : c.write_objects.new.text ≡ c.put.new.self ++ lines_text objects =
    c.in_ok-write_objects.ensures
    ∙ ap (λ (os : List PicObject). c.put.new.self ++ lines_text (numbered_lines (object_line world (held_in cells)) 0 os)) c.as_slice-2.ensures
    ∙ ap (λ (ls : List (List ℕ)). c.put.new.self ++ lines_text ls)
    (same_lines world (held_in cells) (cell_after picture ended.writes) (held_after picture ended.writes c.args.cells.now cells c.requires more) 0 picture.objects) in
    on_ok_weaker c.write_made.result
    (λ last. line_joined c.args.text.now c.put.new.self c.write_made.new.text (codes "after") (objects ++ numbered_lines (made_line world) 0 ended.made) c.in_ok-put.ensures
    (two_joined c.put.new.self c.write_objects.new.text c.write_made.new.text objects (numbered_lines (made_line world) 0 ended.made) drawn
    (last ∙ ap (λ (ms : List Made). c.write_objects.new.text ++ lines_text (numbered_lines (made_line world) 0 ms)) c.as_slice-3.ensures)))
    c.write_made.ensures
