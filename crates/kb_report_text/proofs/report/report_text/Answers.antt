use Rattle.std.proofs.Common.{◌≡◌, ◌++◌, ◌∷◌, [], List, ℕ, ap, ◌∙◌}
use Rattle.std.specs.List.{flat_map}
use Rattle.kb_grammar.specs.Lines.{lines_text}
use Rattle.kb_classes.specs.World.{World}
use Rattle.kb_picture.specs.declared.path.Path.{Path}
use Rattle.kb_report_text.specs.Blocks.{path_lines}
use Rattle.kb_report_text.specs.Report.{head_lines, total_line, report_lines, report_text}
use Rattle.kb_path_words.proofs.TextLaws.{three_joined}
use Rattle.kb_report_text.proofs.report.report_text.Goals as goal

pub returns-clause-text : goal.returns-clause-text
unfolding report_text report_lines
returns-clause-text c =
    let world = c.args.world.now in
    let report = c.args.report.now in
    let head : c.write_head.new.text ≡ [] ++ lines_text (head_lines report) = c.in_ok-write_head.ensures ∙ ap (λ (t : List ℕ). t ++ lines_text (head_lines report)) c.new-text.ensures in
    let paths : c.write_paths.new.text ≡ c.write_head.new.text ++ lines_text (flat_map (path_lines world) report.leaves) =
    c.in_ok-write_paths.ensures
    ∙ ap (λ (w : World). c.write_head.new.text ++ lines_text (flat_map (path_lines w) c.as_slice.result.now)) c.in_ok-named.ensures
    ∙ ap (λ (ps : List Path). c.write_head.new.text ++ lines_text (flat_map (path_lines world) ps)) c.as_slice.ensures in
    let total : c.write_total.new.text ≡ c.write_paths.new.text ++ lines_text (total_line report.leaves ∷ []) =
    c.in_ok-write_total.ensures ∙ ap (λ (ps : List Path). c.write_paths.new.text ++ (total_line ps ++ 10 ∷ [])) c.as_slice-2.ensures in
    c.into_bytes.ensures
    ∙ three_joined [] c.write_head.new.text c.write_paths.new.text c.write_total.new.text (head_lines report) (flat_map (path_lines world) report.leaves) (total_line report.leaves ∷ []) head paths total
