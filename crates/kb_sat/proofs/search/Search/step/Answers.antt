use Rattle.std.proofs.Common.{◌≡◌, ◌+◌, ◌≤◌, ◌∙◌, ap, sym, subst, length, take, [], ◌∷◌, ◌++◌, arith}
use Rattle.std.proofs.lemmas.List.{length_push}
use Rattle.kb_chain.specs.Literal.{has}
use Rattle.kb_chain.proofs.PropagationLaws.{IsFrontOf-length}
use Rattle.kb_propagate.specs.Trail.{Assigned}
use Rattle.kb_propagate.specs.Rows.{rows_of}
use Rattle.kb_propagate.specs.Watches.{pairs_of, Quiet}
use Rattle.kb_propagate.specs.Base.{IsBase, IsPropagated}
use Rattle.kb_propagate.proofs.WatchLaws.{at_none}
use Rattle.kb_propagate.proofs.BaseLaws.{IsBase-decided, quiet-decided}
use Rattle.kb_sat.specs.Analysis.{IsClean}
use Rattle.kb_sat.proofs.search.Search.step.Goals as goal

pub returns-clause-keeps : goal.returns-clause-keeps
returns-clause-keeps c =
    let s = c.settle.new.self.base in
    let k = c.in_ok-number.ensures.keeps in
    let vars : c.decide.new.self.vars ≡ s.trail.vars = ap (λ (z : Assigned). z.vars) c.in_ok-decide.ensures in
    record {
      stands = subst (λ z. IsBase s.formula.now s.entries (rows_of s.clauses) (pairs_of s.clauses) s.watches.lists.items z s.whole) (sym c.in_ok-decide.ensures)
          (IsBase-decided s.formula.now s.entries (rows_of s.clauses) (pairs_of s.clauses) s.watches.lists.items s.trail c.in-Some-pick.literal s.whole
          k.stands c.tell_trail-2.ensures
          (at_none c.in_ok-number.field-0 (IsPropagated s) c.in_default.is c.in_ok-number.ensures.settled).quiet);
      equipped = record {
        order = c.pick.ensures.order ∙ (k.equipped.order ∙ sym vars);
        phases = k.equipped.phases ∙ ap (λ n. n + 1) (sym vars);
        clean = subst (λ n. IsClean n c.settle.new.self.marks) (sym vars) k.equipped.clean;
      };
      formula = k.formula;
      entries = k.entries;
      whole = k.whole;
    }

pub returns-clause-step : goal.returns-clause-step
returns-clause-step c =
    let s = c.settle.new.self.base in
    let t = c.args.self.now.base.trail in
    let settled = at_none c.in_ok-number.field-0 (IsPropagated s) c.in_default.is c.in_ok-number.ensures.settled in
    let after : c.decide.new.self.literals ≡ s.trail.literals ++ c.in-Some-pick.literal ∷ [] = ap (λ (z : Assigned). z.literals) c.in_ok-decide.ensures in
    let more : length c.decide.new.self.literals ≡ length s.trail.literals + 1 = ap length after ∙ length_push s.trail.literals c.in-Some-pick.literal in
    let grown : length t.literals ≤ length s.trail.literals = IsFrontOf-length t.literals s.trail.literals c.in_ok-number.ensures.grows.literals in
    let at : s.head ≡ length s.trail.literals = settled.head in (
      record {
        head = omega (arith, more, at);
        quiet = subst (λ n. Quiet (rows_of s.clauses) (pairs_of s.clauses) (has (take n c.decide.new.self.literals)) (has c.decide.new.self.literals)) (sym at)
            (subst (λ z. Quiet (rows_of s.clauses) (pairs_of s.clauses) (has (take (length s.trail.literals) z)) (has z)) (sym after)
            (quiet-decided (rows_of s.clauses) (pairs_of s.clauses) s.trail.literals c.in-Some-pick.literal settled.quiet));
      },
      omega (arith, more, grown),
      c.tell_trail-3.ensures.room,
    )
