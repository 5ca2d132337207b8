use Rattle.std.proofs.lemmas.Result.{on_ok_weaker}
use Rattle.kb_path_words.proofs.TextLaws.{two_joined}
use Rattle.kb_diagram.specs.Diagram.{before_lines, end_lines, heap_lines}
use Rattle.kb_diagram.proofs.heaps.write_heaps.Goals as goal

pub returns : goal.returns
unfolding heap_lines
returns c =
    let path = c.args.path.now in
    let world = c.args.world.now in
    on_ok_weaker c.write_end.result
    (λ last. two_joined c.args.text.now c.write_before.new.text c.write_end.new.text (before_lines world path.picture) (end_lines world path.picture path.leaf) c.in_ok-write_before.ensures.text last)
    c.write_end.ensures
