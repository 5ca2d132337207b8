use Rattle.std.proofs.Common.{◌≡◌, sym, ap, ◌∙◌}
use Rattle.kb_picture.specs.declared.path.Ended.{Ended as Stated}
use Rattle.kb_picture.specs.declared.path.Leaf.TheVariants.{Ended as EndedLeaf}
use Rattle.kb_picture.specs.Endings.{Reading, ending_at, heap_at, reading_of, ending_of, final_heap_of}
use Rattle.kb_picture.proofs.ending.ending_at.Goals as goal

pub returns-clause-ending : goal.returns-clause-ending
unfolding ending_of
returns-clause-ending c = λ ended is.
    let leaf : EndedLeaf c.in-Ended.ended ≡ EndedLeaf ended = sym c.in-Ended.is ∙ is in
    let same : c.in-Ended.ended ≡ ended = cc in
    c.in_ok-end.ensures.ending
    ∙ ap (λ (r : Reading). ending_at r c.in-Ended.ended.ending) c.in_ok-reading.ensures
    ∙ ap (λ (e : Stated). ending_at (reading_of c.args.world.now c.args.path.now c.args.input.now) e.ending) same

pub returns-clause-heap : goal.returns-clause-heap
unfolding final_heap_of
returns-clause-heap c = λ ended is.
    let leaf : EndedLeaf c.in-Ended.ended ≡ EndedLeaf ended = sym c.in-Ended.is ∙ is in
    let same : c.in-Ended.ended ≡ ended = cc in
    c.in_ok-end.ensures.heap
    ∙ ap (λ (r : Reading). heap_at r c.args.input.now.heap c.in-Ended.ended.writes c.in-Ended.ended.made) c.in_ok-reading.ensures
    ∙ ap (λ (e : Stated). heap_at (reading_of c.args.world.now c.args.path.now c.args.input.now) c.args.input.now.heap e.writes e.made) same
