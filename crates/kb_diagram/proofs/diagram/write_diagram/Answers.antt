use Rattle.std.proofs.Common.{◌≡◌, ◌++◌, ◌∷◌, [], ℕ, List, ap, append_assoc, ◌∙◌}
use Rattle.std.proofs.lemmas.Result.{on_ok_weaker}
use Rattle.kb_grammar.specs.Lines.{lines_text}
use Rattle.kb_path_words.specs.Lines.{leaf_line}
use Rattle.kb_path_words.proofs.TextLaws.{line_joined, two_joined}
use Rattle.kb_diagram.specs.Diagram.{title_line, heap_lines, diagram_lines, diagram_text}
use Rattle.kb_diagram.proofs.diagram.write_diagram.Goals as goal

pub returns : goal.returns
unfolding diagram_text diagram_lines
returns c =
    let path = c.args.path.now in
    let world = c.args.world.now in
    let title : c.write_title.new.text ≡ c.args.text.now ++ (title_line path.decisions ++ 10 ∷ []) =
    c.in_ok-write_title.ensures ∙ ap (λ (ns : List ℕ). c.args.text.now ++ (title_line ns ++ 10 ∷ [])) c.as_slice.ensures in
    on_ok_weaker c.end_line.result
    (λ last.
    let leaf : c.end_line.new.self ≡ c.write_heaps.new.text ++ lines_text (leaf_line path.leaf ∷ []) =
    last ∙ ap (λ (t : List ℕ). t ++ 10 ∷ []) c.in_ok-write_leaf_line.ensures ∙ append_assoc c.write_heaps.new.text (leaf_line path.leaf) (10 ∷ []) in
    line_joined c.args.text.now c.write_title.new.text c.end_line.new.self (title_line path.decisions) (heap_lines world path ++ leaf_line path.leaf ∷ []) title
    (two_joined c.write_title.new.text c.write_heaps.new.text c.end_line.new.self (heap_lines world path) (leaf_line path.leaf ∷ []) c.in_ok-write_heaps.ensures leaf))
    c.end_line.ensures
