use Rattle.std.proofs.Common.{◌≡◌, ◌∙◌, ◌+◌, ◌<◌, ◌++◌, ◌∷◌, [], ap, sym, length, drop, false, get_or, arith}
use Rattle.std.proofs.lemmas.List.{get_or_default}
use Rattle.kb_log_cut.specs.Cutting.{Marking, number_among, renumbered, marked_entries}
use Rattle.kb_log_cut.proofs.CuttingLaws.{marked_more, marked_less}
use Rattle.kb_log_cut.proofs.cutting.Numbering.marked_entries.Goals as goal
use Rattle.kb_log_cut.proofs.cutting.Numbering.marked_entries.Goals.{then-index+in_ok-chain+in_ok-push, else-index}

pub loop-number-preserved : goal.loop-number-preserved
loop-number-preserved c =
    let m = c.args.self.now in
    let n = c.loop-number.number in
    let entries = c.args.entries.now in
    let marks : c.self.inside.marks.items ≡ m.marks = ap (λ (z : Marking). z.marks) c.self.view_is in
    let size = ap length marks in
    let table : length m.marks ≡ length entries = c.requires in
    let inside : n < length c.self.inside.marks.items = omega (arith, c.loop-number-test.true, size, table) in
    let read : get_or m.marks n false ≡ c.index.result.now =
    ap (λ z. get_or z n false) (sym marks) ∙ (sym (get_or_default c.self.inside.marks.items n c.index.result.now false inside) ∙ sym c.index.ensures) in
    elim c.if-index.branch [
      | then-index+in_ok-chain+in_ok-push w ↦
          ap (λ z. z ++ marked_entries m (n + 1) (drop (n + 1) entries)) (w.kept-is ∙ (w.in_ok-push.ensures.ok
          ∙ ap (λ z. c.loop-number.kept ++ z ∷ []) (w.in_ok-chain.ensures ∙ ap (renumbered (number_among m)) w.index-entries-number.is)))
          ∙ (marked_more m n entries c.loop-number.kept w.index-entries-number.result c.loop-number-test.true (read ∙ w.if-index.true) ∙ c.loop-number.invariant)
      | else-index w ↦
          ap (λ z. z ++ marked_entries m (n + 1) (drop (n + 1) entries)) w.kept-is
          ∙ (marked_less m n entries c.loop-number.kept (get_or entries n (record { start = 0; steps = [] })) c.loop-number-test.true (read ∙ w.if-index.false) ∙ c.loop-number.invariant)
    ]
