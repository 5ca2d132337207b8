use Rattle.std.proofs.Common.{◌≡◌, ◌∙◌, ap, sym, subst, length, arith}
use Rattle.std.proofs.lemmas.List.{take_all}
use Rattle.kb_chain.specs.Literal.{has}
use Rattle.kb_propagate.specs.Base.{IsConflict}
use Rattle.kb_propagate.specs.Base.{IsPropagated, IsReady}
use Rattle.kb_propagate.specs.Rows.{rows_of}
use Rattle.kb_propagate.specs.Watches.{pairs_of, IsAwake, Quiet}
use Rattle.kb_propagate.proofs.BaseLaws.{doomed_from}
use Rattle.kb_propagate.proofs.WatchLaws.{at_none, at_some}
use Rattle.kb_sat.specs.declared.search.Search.{Search}
use Rattle.kb_sat.proofs.solver.prepare.Goals as goal

pub returns-in-Some : goal.returns-in-Some
returns-in-Some c =
    let s = c.settle.new.self.base in
    let h = c.in_ok-number.ensures.keeps.stands in
    let conflict : IsConflict (rows_of s.clauses) s.trail c.in-Some.number × IsAwake (pairs_of s.clauses) c.in-Some.number =
    at_some c.in_ok-number.field-0 c.in-Some.number (λ n. IsConflict (rows_of s.clauses) s.trail n × IsAwake (pairs_of s.clauses) n) c.in-Some.is c.in_ok-number.ensures.conflict in
    let d = doomed_from s.formula.now s.entries (rows_of s.clauses) (pairs_of s.clauses) s.watches.lists.items s.trail s.whole c.in-Some.number h conflict.0 conflict.1 in (
      record {
        level = c.in_ok-number.ensures.grows.starts ∙ (ap (λ (z : Search). z.base.trail.starts) c.get_mut.ensures.value ∙ c.requires.level);
        clauses = h.clauses;
        derives = h.derives;
        reasons = d.0;
        conflict = d.1;
      },
      c.in_ok-number.ensures.keeps.formula ∙ ap (λ (z : Search). z.base.formula.now) c.get_mut.ensures.value,
      c.in_ok-number.ensures.keeps.entries ∙ (ap (λ (z : Search). z.base.entries) c.get_mut.ensures.value ∙ c.requires.entries),
    )

pub eliminate-requires-clause-ready : goal.eliminate-requires-clause-ready
eliminate-requires-clause-ready c =
    let s = c.settle.new.self.base in
    let settled = at_none c.in_ok-number.field-0 (IsPropagated s) c.in_default.is c.in_ok-number.ensures.settled in
    let at : s.head ≡ length s.trail.literals = settled.head in
    let ready : IsReady s = record {
      head = omega (arith, at);
      quiet = subst (λ z. Quiet (rows_of s.clauses) (pairs_of s.clauses) (has z) (has s.trail.literals)) (sym (take_all s.head s.trail.literals (omega (arith, at)))) settled.quiet;
    } in
    subst (λ (z : Search). IsReady z.base) (sym c.get_mut-2.ensures.value) ready
