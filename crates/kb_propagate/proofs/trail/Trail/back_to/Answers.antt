use Rattle.std.proofs.Common.{◌≡◌, ◌<◌, ap, sym, ◌∙◌, subst, take, drop, ◌++◌, length, arith, List, Bool}
use Rattle.std.proofs.lemmas.List.{get_or_read}
use Rattle.kb_chain.specs.Literal.{Literal}
use Rattle.kb_chain.specs.Trail.{IsMarked}
use Rattle.kb_chain.proofs.WorkingLaws.{take_marks}
use Rattle.kb_propagate.specs.Trail.{Assigned, level_start}
use Rattle.kb_propagate.specs.Tables.{IsTabled, IsDistinct}
use Rattle.kb_propagate.proofs.TrailLaws.{IsTabled-cut, IsDistinct-from}
use Rattle.kb_propagate.proofs.trail.Trail.back_to.Goals as goal

pub unmark-requires-clause-distinct : goal.unmark-requires-clause-distinct
unmark-requires-clause-distinct c =
    subst (λ (z : List Literal). IsDistinct (take c.self.inside.count z)) (sym c.deref.ensures.value)
    (IsDistinct-from c.self.inside.limit c.self.inside.marks.items c.self.inside.reached.items c.self.inside.forced_by.items c.self.inside.positions.items
    c.self.inside.count c.self.inside.begins.items c.self.invariant)

pub invariant_of-self : goal.invariant_of-self
invariant_of-self c =
    let i = c.self.inside in
    let new = c.unmark.new.marks in
    let size : i.marks.len ≡ length new = omega (arith, c.unmark.auto.marks) in
    let whole : take i.marks.len (new ++ drop (length new) i.marks.items) ≡ new = take_marks i.marks.len new (drop (length new) i.marks.items) size in
    let level : c.args.level < length i.begins.items = subst (λ (z : Assigned). c.args.level < length z.starts) (sym c.self.view_is) c.requires in
    let cut : c.index-cut.result.now ≡ level_start i.begins.items c.args.level = get_or_read i.begins.items c.args.level c.index-cut.result.now level c.index-cut.ensures 0 in
    let same : length new ≡ length i.marks.items = c.unmark.auto.marks ∙ ap length c.as_mut_slice.ensures.value in
    subst (λ (z : List Bool). IsTabled i.limit z i.reached.items i.forced_by.items i.positions.items c.index-cut.result.now c.truncate.new.self.items) (sym whole)
    (subst (λ z. IsTabled i.limit new i.reached.items i.forced_by.items i.positions.items c.index-cut.result.now z) (sym c.truncate.ensures.items)
    (subst (λ k. IsTabled i.limit new i.reached.items i.forced_by.items i.positions.items k (take c.args.level i.begins.items)) (sym cut)
    (IsTabled-cut i.limit i.marks.items new i.reached.items i.forced_by.items i.positions.items i.count i.begins.items c.args.level c.self.invariant level same
    (subst (λ k. IsMarked new (take k (take i.count i.reached.items))) cut
    (subst (λ (z : List Literal). IsMarked new (take c.index-cut.result.now (take i.count z))) c.deref.ensures.value c.unmark.ensures)))))
