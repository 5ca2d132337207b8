use Rattle.std.proofs.Common.{◌≡◌, ◌++◌, List, map, ap, ◌∙◌}
use Rattle.std.proofs.lemmas.Result.{on_ok_weaker}
use Rattle.kb_grammar.specs.Lines.{lines_text}
use Rattle.kb_picture.specs.declared.path.Write.{Write}
use Rattle.kb_picture.specs.declared.path.Made.{Made}
use Rattle.kb_path_words.specs.Lines.{numbered_lines}
use Rattle.kb_report_text.specs.Blocks.{set_line, new_line, input_lines}
use Rattle.kb_path_words.proofs.TextLaws.{three_joined}
use Rattle.kb_report_text.proofs.leaves.write_ended.Goals as goal

pub returns : goal.returns
returns c =
    let ended = c.args.ended.now in
    let set = set_line c.args.world.now c.args.objects.now in
    let writes : c.write_writes.new.text ≡ c.args.text.now ++ lines_text (map set ended.writes) =
    c.in_ok-write_writes.ensures ∙ ap (λ (ws : List Write). c.args.text.now ++ lines_text (map set ws)) c.as_slice.ensures in
    let made : c.write_made.new.text ≡ c.write_writes.new.text ++ lines_text (numbered_lines new_line 0 ended.made) =
    c.in_ok-write_made.ensures ∙ ap (λ (ms : List Made). c.write_writes.new.text ++ lines_text (numbered_lines new_line 0 ms)) c.as_slice-2.ensures in
    on_ok_weaker c.write_input.result
    (λ last. three_joined c.args.text.now c.write_writes.new.text c.write_made.new.text c.write_input.new.text (map set ended.writes) (numbered_lines new_line 0 ended.made) (input_lines ended.input) writes made last)
    c.write_input.ensures
