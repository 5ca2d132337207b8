use Rattle.std.proofs.Common.{◌++◌, ℕ, List, codes, map, ap, subst, ◌∙◌}
use Rattle.std.proofs.lemmas.Result.{on_ok_weaker}
use Rattle.kb_grammar.specs.Lines.{lines_text}
use Rattle.kb_path_words.specs.Lines.{numbered_lines}
use Rattle.kb_path_words.proofs.TextLaws.{line_joined}
use Rattle.kb_picture.specs.declared.picture.Origin.{Origin}
use Rattle.kb_picture.specs.declared.picture.PicLoc.{PicLoc}
use Rattle.kb_picture.specs.declared.picture.PicObject.{PicObject}
use Rattle.kb_picture.specs.declared.picture.Seen.{Seen}
use Rattle.kb_diagram.specs.Cells.{cell_before}
use Rattle.kb_diagram.specs.Diagram.{object_line, before_lines}
use Rattle.kb_diagram.specs.Tables.{held_in, seen_cell, HasMore, HasSeen}
use Rattle.kb_diagram.proofs.CellLaws.{held_before, seen_from_none}
use Rattle.kb_diagram.proofs.LineLaws.{same_lines}
use Rattle.kb_diagram.proofs.heaps.write_before.Goals as goal

pub returns-clause-text : goal.returns-clause-text
unfolding before_lines
returns-clause-text c =
    let world = c.args.world.now in
    let picture = c.args.picture.now in
    let cells = c.put_seen.new.cells in
    let more : HasMore (map (seen_cell picture.locs) picture.seen) c.args.cells.now cells =
    subst (λ (seen : List (Origin × Seen)). HasMore (map (seen_cell picture.locs) seen) c.args.cells.now cells) c.as_slice-2.ensures
    (subst (λ (locs : List PicLoc). HasMore (map (seen_cell locs) c.as_slice-2.result.now) c.args.cells.now cells) c.as_slice.ensures c.in_ok-put_seen.ensures) in
    let has : HasSeen picture cells = seen_from_none picture c.args.cells.now cells c.requires more in
    on_ok_weaker c.write_objects.result
    (λ last. line_joined c.args.text.now c.put.new.self c.write_objects.new.text (codes "before") (numbered_lines (object_line world (cell_before picture)) 0 picture.objects) c.in_ok-put.ensures
    (last
    ∙ ap (λ (os : List PicObject). c.put.new.self ++ lines_text (numbered_lines (object_line world (held_in cells)) 0 os)) c.as_slice-3.ensures
    ∙ ap (λ (ls : List (List ℕ)). c.put.new.self ++ lines_text ls) (same_lines world (held_in cells) (cell_before picture) (held_before picture cells has) 0 picture.objects)))
    c.write_objects.ensures

pub returns-clause-cells : goal.returns-clause-cells
returns-clause-cells c =
    let picture = c.args.picture.now in
    let cells = c.put_seen.new.cells in
    let more : HasMore (map (seen_cell picture.locs) picture.seen) c.args.cells.now cells =
    subst (λ (seen : List (Origin × Seen)). HasMore (map (seen_cell picture.locs) seen) c.args.cells.now cells) c.as_slice-2.ensures
    (subst (λ (locs : List PicLoc). HasMore (map (seen_cell locs) c.as_slice-2.result.now) c.args.cells.now cells) c.as_slice.ensures c.in_ok-put_seen.ensures) in
    on_ok_weaker c.write_objects.result (λ last. seen_from_none picture c.args.cells.now cells c.requires more) c.write_objects.ensures
