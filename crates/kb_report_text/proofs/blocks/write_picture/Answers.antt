use Rattle.std.proofs.Common.{◌≡◌, ◌++◌, List, map, ap, ◌∙◌}
use Rattle.std.proofs.lemmas.Result.{on_ok_weaker}
use Rattle.kb_grammar.specs.Lines.{lines_text}
use Rattle.kb_picture.specs.declared.picture.PicObject.{PicObject}
use Rattle.kb_picture.specs.declared.picture.PicLoc.{PicLoc}
use Rattle.kb_picture.specs.declared.picture.Origin.{Origin}
use Rattle.kb_picture.specs.declared.picture.Seen.{Seen}
use Rattle.kb_path_words.specs.Lines.{numbered_lines}
use Rattle.kb_report_text.specs.Blocks.{see_line, loc_line, obj_line, picture_lines}
use Rattle.kb_path_words.proofs.TextLaws.{three_joined}
use Rattle.kb_report_text.proofs.blocks.write_picture.Goals as goal

pub returns : goal.returns
unfolding picture_lines
returns c =
    let world = c.args.world.now in
    let picture = c.args.picture.now in
    let objects : c.as_slice-objects.result.now ≡ picture.objects = c.as_slice-objects.ensures in
    let slots : c.write_slots.new.text ≡ c.args.text.now ++ lines_text (map (see_line world picture.objects) picture.seen) =
    c.in_ok-write_slots.ensures
    ∙ ap (λ (os : List PicObject). c.args.text.now ++ lines_text (map (see_line world os) c.as_slice.result.now)) objects
    ∙ ap (λ (seen : List (Origin × Seen)). c.args.text.now ++ lines_text (map (see_line world picture.objects) seen)) c.as_slice.ensures in
    let locs : c.write_locs.new.text ≡ c.write_slots.new.text ++ lines_text (numbered_lines loc_line 0 picture.locs) =
    c.in_ok-write_locs.ensures ∙ ap (λ (ls : List PicLoc). c.write_slots.new.text ++ lines_text (numbered_lines loc_line 0 ls)) c.as_slice-2.ensures in
    on_ok_weaker c.write_objects.result
    (λ last. three_joined c.args.text.now c.write_slots.new.text c.write_locs.new.text c.write_objects.new.text (map (see_line world picture.objects) picture.seen) (numbered_lines loc_line 0 picture.locs)
    (numbered_lines (obj_line world picture.objects) 0 picture.objects) slots locs
    (last ∙ ap (λ (os : List PicObject). c.write_locs.new.text ++ lines_text (numbered_lines (obj_line world os) 0 os)) objects))
    c.write_objects.ensures
