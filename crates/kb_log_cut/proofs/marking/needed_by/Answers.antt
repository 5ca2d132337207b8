use Rattle.std.proofs.Common.{◌≡◌, ◌∙◌, refl, sym, ap, subst, length, arith, ◌<◌, ◌-◌, ◌+◌, [], ◌∷◌, ◌++◌, true, false, take, drop, inl, inr, List, Bool, ℕ, get_or}
use Rattle.std.proofs.lemmas.Bool.{false≢true}
use Rattle.std.proofs.lemmas.List.{get_or_default}
use Rattle.std.proofs.lemmas.Option.{get_or_from_slice_get, slice_get_read}
use Rattle.std.proofs.Math.Seq.{take-append_seam}
use Rattle.kb_chain.specs.Needed.{is_kept, AreClosed, cites}
use Rattle.kb_chain.specs.declared.log.Chain.{Chain}
use Rattle.kb_chain.proofs.NeededLaws.{closed_more, needed_cited}
use Rattle.kb_log_cut.proofs.marking.needed_by.Goals as goal

pub loop-end-preserved-then-index : goal.loop-end-preserved-then-index
loop-end-preserved-then-index c =
    let old = c.loop-end.needed.items in
    let new = c.mark_cited.new.needed in
    let same : c.as_mut_slice-then-index.result.now ≡ old = c.as_mut_slice-then-index.ensures.value in
    let size : length new ≡ length old = omega (arith, c.mark_cited.auto.needed, ap length same) in
    let whole : c.loop-end.needed.len ≡ length new = omega (arith, c.mark_cited.auto.needed, c.as_mut_slice-then-index.ensures.len) in
    let shown : take c.loop-end.needed.len (new ++ drop (length new) old) ≡ new =
    ap (λ n. take n (new ++ drop (length new) old)) whole ∙ take-append_seam new (drop (length new) old) in
    let kept : (k : ℕ) → is_kept c.args.first old k ≡ true → is_kept c.args.first new k ≡ true =
    λ k e. c.mark_cited.ensures.kept k (ap (λ (z : List Bool). is_kept c.args.first z k) same ∙ e) in
    let last : c.loop-end.end - 1 + 1 ≡ c.loop-end.end = omega (arith, c.loop-end-test.true) in
    let closed : AreClosed c.args.first c.args.entries.now new (c.loop-end.end - 1) =
    closed_more c.args.first c.args.entries.now old new (c.loop-end.end - 1)
    (subst (λ (z : ℕ). AreClosed c.args.first c.args.entries.now old z) (sym last) c.loop-end.invariant.closed)
    kept (λ i le. c.mark_cited.ensures.later i le ∙ ap (λ (z : List Bool). get_or z i false) same)
    (λ entry at marked k cited lt. c.mark_cited.ensures.marked k
    (ap (λ (z : Chain). cites z k) (c.index-entries-end.is ∙ get_or_from_slice_get c.args.entries.now (c.loop-end.end - 1) entry c.index-entries-end.result at) ∙ cited) lt) in
    record {
      below = omega (arith, c.loop-end.invariant.below);
      table = ap length shown ∙ (size ∙ c.loop-end.invariant.table);
      marked = λ lt. ap (λ (z : List Bool). is_kept c.args.first z c.args.number) shown ∙ kept c.args.number (c.loop-end.invariant.marked lt);
      closed = subst (λ (z : List Bool). AreClosed c.args.first c.args.entries.now z (c.loop-end.end - 1)) (sym shown) closed;
      only = λ i m. elim (c.mark_cited.ensures.only i (ap (λ (z : List Bool). get_or z i false) (sym shown) ∙ m)) [
        | inl s ↦ c.loop-end.invariant.only i (ap (λ (z : List Bool). get_or z i false) (sym same) ∙ s)
        | inr s ↦ needed_cited c.args.first c.args.entries.now (c.args.number ∷ []) (c.loop-end.end - 1) i c.index-entries-end.result
            (slice_get_read c.args.entries.now (length c.args.entries.now) (c.loop-end.end - 1) c.index-entries-end.result refl (omega (arith, c.loop-end-test.true, c.loop-end.invariant.below)) c.index-entries-end.is)
            (c.loop-end.invariant.only (c.loop-end.end - 1)
            (sym (get_or_default old (c.loop-end.end - 1) c.index.result.now false (omega (arith, c.loop-end-test.true, c.loop-end.invariant.below, c.loop-end.invariant.table))) ∙ (sym c.index.ensures ∙ c.if-index.true)))
            s.0 s.1
      ];
    }

pub loop-end-preserved : goal.loop-end-preserved
loop-end-preserved c =
    let old = c.loop-end.needed.items in
    let last : c.loop-end.end - 1 + 1 ≡ c.loop-end.end = omega (arith, c.loop-end-test.true) in
    let inside : c.loop-end.end - 1 < length old = omega (arith, c.loop-end-test.true, c.loop-end.invariant.below, c.loop-end.invariant.table) in
    record {
      below = omega (arith, c.loop-end.invariant.below);
      table = c.loop-end.invariant.table;
      marked = c.loop-end.invariant.marked;
      closed = closed_more c.args.first c.args.entries.now old old (c.loop-end.end - 1)
          (subst (λ (z : ℕ). AreClosed c.args.first c.args.entries.now old z) (sym last) c.loop-end.invariant.closed)
          (λ k e. e) (λ i le. refl)
          (λ entry at marked k cited lt. absurd (false≢true (sym c.if-index.false ∙ (c.index.ensures ∙ (get_or_default old (c.loop-end.end - 1) c.index.result.now false inside ∙ marked)))));
      only = c.loop-end.invariant.only;
    }

pub returns-clause-closed : goal.returns-clause-closed
returns-clause-closed c =
    let none : c.loop-end.end ≡ 0 = omega (arith, c.loop-end-test.false) in
    subst (λ (z : ℕ). AreClosed c.args.first c.args.entries.now c.loop-end.needed.items z) none c.loop-end.invariant.closed
