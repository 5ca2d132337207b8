use Rattle.std.proofs.Common.{◌<◌, ◌≤◌, ap, sym, subst, length, take, arith}
use Rattle.kb_chain.specs.Literal.{has}
use Rattle.kb_propagate.specs.Trail.{Assigned, cut_back, before_level, level_start}
use Rattle.kb_propagate.specs.Rows.{rows_of}
use Rattle.kb_propagate.specs.Watches.{pairs_of, Quiet}
use Rattle.kb_propagate.specs.declared.watches.Watches.{Watches}
use Rattle.kb_propagate.proofs.BaseLaws.{IsBase_same, IsBase-cut, quiet-cut}
use Rattle.kb_sat.proofs.search.Search.restart.Goals as goal

pub returns-clause-keeps : goal.returns-clause-keeps
returns-clause-keeps c =
    let s = c.args.self.now.base in
    let g = c.in_ok-go_back.ensures in
    let n = c.go_back.new.self.base in
    let lt : 0 < length s.trail.starts = omega (arith, c.if-level-eq0.false, c.level.ensures) in
    record {
      stands = IsBase_same n.formula.now s.formula.now n.entries s.entries (rows_of n.clauses) (rows_of s.clauses) (pairs_of n.clauses) (pairs_of s.clauses) n.watches.lists.items s.watches.lists.items
          n.trail (cut_back s.trail 0) n.whole s.whole g.formula g.entries (ap rows_of g.clauses) (ap pairs_of g.clauses) (ap (λ (w : Watches). w.lists.items) g.watches) g.trail g.whole
          (IsBase-cut s.formula.now s.entries (rows_of s.clauses) (pairs_of s.clauses) s.watches.lists.items s.trail 0 s.whole c.requires.stands c.tell_trail.ensures lt);
      equipped = g.equipped;
      formula = g.formula;
      entries = g.entries;
      whole = g.whole;
    }

pub returns-clause-ready : goal.returns-clause-ready
returns-clause-ready c =
    let s = c.args.self.now.base in
    let g = c.in_ok-go_back.ensures in
    let n = c.go_back.new.self.base in
    let t = s.trail in
    let lt : 0 < length t.starts = omega (arith, c.if-level-eq0.false, c.level.ensures) in
    let r = quiet-cut s.formula.now s.entries (rows_of s.clauses) (pairs_of s.clauses) s.watches.lists.items t s.whole 0 c.requires.stands c.tell_trail.ensures lt in
    record {
      head = subst (λ m. m ≤ length n.trail.literals) (sym g.head) (subst (λ (z : Assigned). level_start t.starts 0 ≤ length z.literals) (sym g.trail) r.0);
      quiet = subst (λ z. Quiet (rows_of z) (pairs_of z) (has (take n.head n.trail.literals)) (has n.trail.literals)) (sym g.clauses)
          (subst (λ (z : Assigned). Quiet (rows_of s.clauses) (pairs_of s.clauses) (has (take n.head z.literals)) (has z.literals)) (sym g.trail)
          (subst (λ m. Quiet (rows_of s.clauses) (pairs_of s.clauses) (has (take m (before_level t 0))) (has (before_level t 0))) (sym g.head) r.1));
    }
