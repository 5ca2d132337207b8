use Rattle.std.proofs.Common.{◌≡◌, ◌++◌, ◌∷◌, [], List, ℕ, Bool, map, ap, ◌∙◌}
use Rattle.std.proofs.lemmas.Result.{on_ok_weaker}
use Rattle.kb_grammar.specs.Lines.{lines_text}
use Rattle.kb_terms.specs.declared.listing.Term.{Term}
use Rattle.kb_picture.specs.declared.picture.PicObject.{PicObject}
use Rattle.kb_path_words.specs.Lines.{numbered_lines}
use Rattle.kb_report_text.specs.Blocks.{path_line, picture_lines, let_line, when_line, leaf_lines, path_lines}
use Rattle.kb_path_words.proofs.TextLaws.{block_joined}
use Rattle.kb_report_text.proofs.blocks.write_path.Goals as goal

pub returns : goal.returns
unfolding path_lines
returns c =
    let world = c.args.world.now in
    let path = c.args.path.now in
    let decisions : c.write_path_line.new.text ≡ c.args.text.now ++ (path_line path.decisions ++ 10 ∷ []) =
    c.in_ok-write_path_line.ensures ∙ ap (λ (ns : List ℕ). c.args.text.now ++ (path_line ns ++ 10 ∷ [])) c.as_slice.ensures in
    let terms : c.write_terms.new.text ≡ c.write_picture.new.text ++ lines_text (numbered_lines let_line 0 path.terms) =
    c.in_ok-write_terms.ensures ∙ ap (λ (ts : List Term). c.write_picture.new.text ++ lines_text (numbered_lines let_line 0 ts)) c.as_slice-2.ensures in
    let when : c.write_conditions.new.text ≡ c.write_terms.new.text ++ lines_text (map when_line path.when) =
    c.in_ok-write_conditions.ensures ∙ ap (λ (ws : List (ℕ × Bool)). c.write_terms.new.text ++ lines_text (map when_line ws)) c.as_slice-3.ensures in
    on_ok_weaker c.write_leaf.result
    (λ last. block_joined c.args.text.now c.write_path_line.new.text c.write_picture.new.text c.write_terms.new.text c.write_conditions.new.text c.write_leaf.new.text (path_line path.decisions)
    (picture_lines world path.picture) (numbered_lines let_line 0 path.terms) (map when_line path.when) (leaf_lines world path.picture.objects path.leaf) decisions c.in_ok-write_picture.ensures terms when
    (last ∙ ap (λ (os : List PicObject). c.write_conditions.new.text ++ lines_text (leaf_lines world os path.leaf)) c.as_slice-4.ensures))
    c.write_leaf.ensures
