use Rattle.std.proofs.Common.{◌≡◌, ◌+◌, ◌<◌, ◌∙◌, ap, sym, subst, true, length, arith}
use Rattle.std.proofs.lemmas.List.{nil_from_length}
use Rattle.kb_chain.specs.Cnf.{Cnf}
use Rattle.kb_chain.specs.Propagation.{UnitRefutes}
use Rattle.kb_propagate.specs.Base.{IsConflict}
use Rattle.kb_propagate.specs.Rows.{rows_of}
use Rattle.kb_propagate.specs.Watches.{pairs_of, IsAwake}
use Rattle.kb_propagate.proofs.BaseLaws.{doomed_from, not_refuted}
use Rattle.kb_propagate.proofs.WatchLaws.{at_some}
use Rattle.kb_sat.proofs.solver.advance.Goals as goal

pub returns-then-level-eq0-clause-advance : goal.returns-then-level-eq0-clause-advance
returns-then-level-eq0-clause-advance c =
    let s = c.run.new.self.base in
    let h = c.in_ok-number.ensures.keeps.stands in
    let conflict : IsConflict (rows_of s.clauses) s.trail c.in-Some.number × IsAwake (pairs_of s.clauses) c.in-Some.number =
    at_some c.in_ok-number.field-0 c.in-Some.number (λ n. IsConflict (rows_of s.clauses) s.trail n × IsAwake (pairs_of s.clauses) n) c.in-Some.is c.in_ok-number.ensures.conflict in
    let d = doomed_from s.formula.now s.entries (rows_of s.clauses) (pairs_of s.clauses) s.watches.lists.items s.trail s.whole c.in-Some.number h conflict.0 conflict.1 in (
      record {
        level = nil_from_length s.trail.starts (sym c.level.ensures ∙ c.if-level-eq0.true);
        clauses = h.clauses;
        derives = h.derives;
        reasons = d.0;
        conflict = d.1;
      },
      c.in_ok-number.ensures.keeps.entries,
    )

pub returns-then-not-is_due-clause-advance : goal.returns-then-not-is_due-clause-advance
returns-then-not-is_due-clause-advance c =
    let s = c.run.new.self.base in
    let more : length c.learn.new.self.base.entries ≡ length s.entries + 1 = c.in_ok-learn.ensures.entries in
    let same : length s.entries ≡ length c.args.search.now.base.entries = ap length c.in_ok-number.ensures.keeps.entries in
    let lt : 0 < length s.trail.starts = omega (arith, c.if-level-eq0.false, c.level.ensures) in (
      c.in_ok-learn.ensures.ready,
      omega (arith, more, same),
      λ w. (let whole : s.whole ≡ true = sym c.in_ok-learn.ensures.whole ∙ w in
          subst (λ (z : Cnf). UnitRefutes z.clauses → ⊥) (sym c.in_ok-learn.ensures.goes_on.formula)
          (not_refuted s.formula.now s.entries (rows_of s.clauses) (pairs_of s.clauses) s.watches.lists.items s.trail s.whole c.in_ok-number.ensures.keeps.stands c.tell_trail.ensures
          (c.in_ok-number.ensures.keeps.stands.fresh whole).0 lt)),
    )

pub returns-clause-advance : goal.returns-clause-advance
returns-clause-advance c =
    let s = c.run.new.self.base in
    let kept : length c.restart.new.self.base.entries ≡ length c.learn.new.self.base.entries = ap length c.in_ok-restart.ensures.keeps.entries in
    let more : length c.learn.new.self.base.entries ≡ length s.entries + 1 = c.in_ok-learn.ensures.entries in
    let same : length s.entries ≡ length c.args.search.now.base.entries = ap length c.in_ok-number.ensures.keeps.entries in
    let lt : 0 < length s.trail.starts = omega (arith, c.if-level-eq0.false, c.level.ensures) in (
      c.in_ok-restart.ensures.ready,
      omega (arith, kept, more, same),
      λ w. (let whole : s.whole ≡ true = sym (c.in_ok-restart.ensures.keeps.whole ∙ c.in_ok-learn.ensures.whole) ∙ w in
          subst (λ (z : Cnf). UnitRefutes z.clauses → ⊥) (sym (c.in_ok-restart.ensures.keeps.formula ∙ c.in_ok-learn.ensures.goes_on.formula))
          (not_refuted s.formula.now s.entries (rows_of s.clauses) (pairs_of s.clauses) s.watches.lists.items s.trail s.whole c.in_ok-number.ensures.keeps.stands c.tell_trail.ensures
          (c.in_ok-number.ensures.keeps.stands.fresh whole).0 lt)),
    )
