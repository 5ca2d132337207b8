use Rattle.std.proofs.Common.{◌≡◌, ℕ, ap, sym, subst, take, false, Some, ◌+◌, ◌*◌, ◌<◌, ◌≤◌, ◌∙◌, refl, length, [], ◌∷◌, ◌++◌, arith}
use Rattle.std.proofs.lemmas.List.{length_push}
use Rattle.kb_chain.specs.Literal.{has, place_of}
use Rattle.kb_chain.specs.declared.log.Chain.{Chain}
use Rattle.kb_eliminate.proofs.ResolventLaws.{IsAdded-from, IsDerived-at, IsBase-add, IsBase-unit, Quiet-add, Quiet-unit}
use Rattle.kb_propagate.specs.Rows.{rows_of, awake_clause}
use Rattle.kb_propagate.specs.Trail.{Assigned}
use Rattle.kb_propagate.specs.Watches.{pairs_of, paired, put_pair, Quiet}
use Rattle.kb_propagate.proofs.BaseLaws.{IsBase_same}
use Rattle.kb_propagate.proofs.JustifyLaws.{pushed}
use Rattle.kb_propagate.proofs.ClausesLaws.{rows_pushed}
use Rattle.kb_propagate.proofs.PairLaws.{pairs_pushed}
use Rattle.kb_eliminate.proofs.resolvents.add_resolvent.Goals as goal

pub watch_pair-requires-clause-first : goal.watch_pair-requires-clause-first
watch_pair-requires-clause-first c =
    let s = c.args.base.now in
    let w = c.requires.stands.watching in
    let p = IsAdded-from s.trail (rows_of s.clauses) (pairs_of s.clauses) s.watches.lists.items w c.args.left c.args.right c.requires.left c.requires.right c.args.pivot c.args.row.now
    c.requires.resolvent c.requires.some c.index-row-0.result c.second_of.result c.index-row-0.is c.second_of.ensures in
    let low : place_of c.index-row-0.result < 2 * s.trail.vars + 2 = p.within c.index-row-0.result p.first in
    let places : length s.watches.lists.items ≡ 2 * s.trail.vars + 2 = w.places in
    omega (arith, low, places)

pub watch_pair-requires-clause-second : goal.watch_pair-requires-clause-second
watch_pair-requires-clause-second c =
    let s = c.args.base.now in
    let w = c.requires.stands.watching in
    let p = IsAdded-from s.trail (rows_of s.clauses) (pairs_of s.clauses) s.watches.lists.items w c.args.left c.args.right c.requires.left c.requires.right c.args.pivot c.args.row.now
    c.requires.resolvent c.requires.some c.index-row-0.result c.second_of.result c.index-row-0.is c.second_of.ensures in
    let low : place_of c.second_of.result < 2 * s.trail.vars + 2 = p.within c.second_of.result p.second in
    let places : length s.watches.lists.items ≡ 2 * s.trail.vars + 2 = w.places in
    omega (arith, low, places)

pub assign-requires-clause-place : goal.assign-requires-clause-place
assign-requires-clause-place c =
    let s = c.args.base.now in
    let p = IsAdded-from s.trail (rows_of s.clauses) (pairs_of s.clauses) s.watches.lists.items c.requires.stands.watching c.args.left c.args.right c.requires.left c.requires.right c.args.pivot
    c.args.row.now c.requires.resolvent c.requires.some c.index-row-0.result c.second_of.result c.index-row-0.is c.second_of.ensures in
    p.within c.index-row-0.result p.first

pub assign-requires-clause-unassigned : goal.assign-requires-clause-unassigned
assign-requires-clause-unassigned c =
    let s = c.args.base.now in
    let p = IsAdded-from s.trail (rows_of s.clauses) (pairs_of s.clauses) s.watches.lists.items c.requires.stands.watching c.args.left c.args.right c.requires.left c.requires.right c.args.pivot
    c.args.row.now c.requires.resolvent c.requires.some c.index-row-0.result c.second_of.result c.index-row-0.is c.second_of.ensures in
    (p.valueless c.index-row-0.result p.first).0

pub assign-requires-clause-possible : goal.assign-requires-clause-possible
assign-requires-clause-possible c =
    let s = c.args.base.now in
    let p = IsAdded-from s.trail (rows_of s.clauses) (pairs_of s.clauses) s.watches.lists.items c.requires.stands.watching c.args.left c.args.right c.requires.left c.requires.right c.args.pivot
    c.args.row.now c.requires.resolvent c.requires.some c.index-row-0.result c.second_of.result c.index-row-0.is c.second_of.ensures in
    (p.valueless c.index-row-0.result p.first).1

pub returns-then-row-eq1-clause-stands : goal.returns-then-row-eq1-clause-stands
returns-then-row-eq1-clause-stands c =
    let s = c.args.base.now in
    let h = c.requires.stands in
    let a = c.index-row-0.result in
    let b = c.second_of.result in
    let n = c.len-number.result in
    let row = c.args.row.now in
    let chain : Chain = record { start = c.args.left; steps = (c.variable.result, c.args.right) ∷ [] } in
    let one : length row ≡ 1 = c.if-row-eq1.true in
    let steps : (c.variable.result, c.args.right) ∷ [] ≡ (c.args.pivot.variable, c.args.right) ∷ [] = ap (λ (v : ℕ). (v, c.args.right) ∷ []) c.variable.ensures.value in
    let p = IsAdded-from s.trail (rows_of s.clauses) (pairs_of s.clauses) s.watches.lists.items h.watching c.args.left c.args.right c.requires.left c.requires.right c.args.pivot row
    c.requires.resolvent c.requires.some a b c.index-row-0.is c.second_of.ensures in
    let d = IsDerived-at h.clauses (rows_of s.clauses) s.trail h.justified c.requires.level c.args.left c.args.right c.args.pivot row chain c.requires.left c.requires.right c.requires.absent
    c.requires.possible c.requires.resolvent refl steps in
    IsBase_same s.formula.now s.formula.now c.push.new.self (s.entries ++ chain ∷ []) (rows_of c.push-2.new.self) (rows_of s.clauses ++ row ∷ []) (pairs_of c.push-2.new.self)
    (pairs_of s.clauses ++ paired a b ∷ []) c.watch_pair.new.watches.lists.items (put_pair s.watches.lists.items a b n) c.assign.new.self (pushed s.trail a (Some n) s.trail.starts) false false
    refl c.in_ok-push.ensures (ap rows_of c.in_ok-push-2.ensures ∙ rows_pushed s.clauses (awake_clause row))
    (ap pairs_of c.in_ok-push-2.ensures ∙ pairs_pushed s.clauses row a b c.requires.some c.index-row-0.is c.second_of.ensures) c.in_ok-watch_pair.ensures c.assign.ensures refl
    (IsBase-unit s.formula.now (s.entries ++ chain ∷ []) (rows_of s.clauses) (pairs_of s.clauses ++ paired a b ∷ []) (put_pair s.watches.lists.items a b n) s.trail row a b n c.requires.level c.tell_trail.ensures p one c.len-number.ensures
    (IsBase-add s.formula.now s.entries (rows_of s.clauses) (pairs_of s.clauses) s.watches.lists.items s.trail s.whole h chain row a b n c.requires.level d p c.len-number.ensures))

pub returns-then-row-eq1-clause-ready : goal.returns-then-row-eq1-clause-ready
returns-then-row-eq1-clause-ready c =
    let s = c.args.base.now in
    let w = c.requires.stands.watching in
    let a = c.index-row-0.result in
    let b = c.second_of.result in
    let row = c.args.row.now in
    let le : s.head ≤ length s.trail.literals = c.requires.ready.head in
    let more : length (s.trail.literals ++ a ∷ []) ≡ length s.trail.literals + 1 = length_push s.trail.literals a in
    let p = IsAdded-from s.trail (rows_of s.clauses) (pairs_of s.clauses) s.watches.lists.items w c.args.left c.args.right c.requires.left c.requires.right c.args.pivot row
    c.requires.resolvent c.requires.some a b c.index-row-0.is c.second_of.ensures in
    record {
      head = rw c.assign.ensures (omega (arith, le, more));
      quiet = subst (λ z. Quiet z (pairs_of c.push-2.new.self) (has (take s.head c.assign.new.self.literals)) (has c.assign.new.self.literals)) (sym (ap rows_of c.in_ok-push-2.ensures ∙ rows_pushed s.clauses (awake_clause row)))
          (subst (λ z. Quiet (rows_of s.clauses ++ row ∷ []) z (has (take s.head c.assign.new.self.literals)) (has c.assign.new.self.literals)) (sym (ap pairs_of c.in_ok-push-2.ensures ∙ pairs_pushed s.clauses row a b c.requires.some c.index-row-0.is c.second_of.ensures))
          (subst (λ (z : Assigned). Quiet (rows_of s.clauses ++ row ∷ []) (pairs_of s.clauses ++ paired a b ∷ []) (has (take s.head z.literals)) (has z.literals)) (sym c.assign.ensures)
          (Quiet-unit (rows_of s.clauses) (pairs_of s.clauses) s.trail s.head row a b w.count p le c.requires.ready.quiet)));
    }

pub returns-else-row-eq1-clause-stands : goal.returns-else-row-eq1-clause-stands
returns-else-row-eq1-clause-stands c =
    let s = c.args.base.now in
    let h = c.requires.stands in
    let a = c.index-row-0.result in
    let b = c.second_of.result in
    let row = c.args.row.now in
    let chain : Chain = record { start = c.args.left; steps = (c.variable.result, c.args.right) ∷ [] } in
    let steps : (c.variable.result, c.args.right) ∷ [] ≡ (c.args.pivot.variable, c.args.right) ∷ [] = ap (λ (v : ℕ). (v, c.args.right) ∷ []) c.variable.ensures.value in
    let p = IsAdded-from s.trail (rows_of s.clauses) (pairs_of s.clauses) s.watches.lists.items h.watching c.args.left c.args.right c.requires.left c.requires.right c.args.pivot row
    c.requires.resolvent c.requires.some a b c.index-row-0.is c.second_of.ensures in
    let d = IsDerived-at h.clauses (rows_of s.clauses) s.trail h.justified c.requires.level c.args.left c.args.right c.args.pivot row chain c.requires.left c.requires.right c.requires.absent
    c.requires.possible c.requires.resolvent refl steps in
    IsBase_same s.formula.now s.formula.now c.push.new.self (s.entries ++ chain ∷ []) (rows_of c.push-2.new.self) (rows_of s.clauses ++ row ∷ []) (pairs_of c.push-2.new.self)
    (pairs_of s.clauses ++ paired a b ∷ []) c.watch_pair.new.watches.lists.items (put_pair s.watches.lists.items a b c.len-number.result) s.trail s.trail false false
    refl c.in_ok-push.ensures (ap rows_of c.in_ok-push-2.ensures ∙ rows_pushed s.clauses (awake_clause row))
    (ap pairs_of c.in_ok-push-2.ensures ∙ pairs_pushed s.clauses row a b c.requires.some c.index-row-0.is c.second_of.ensures) c.in_ok-watch_pair.ensures refl refl
    (IsBase-add s.formula.now s.entries (rows_of s.clauses) (pairs_of s.clauses) s.watches.lists.items s.trail s.whole h chain row a b c.len-number.result c.requires.level d p c.len-number.ensures)

pub returns-else-row-eq1-clause-ready : goal.returns-else-row-eq1-clause-ready
returns-else-row-eq1-clause-ready c =
    let s = c.args.base.now in
    let w = c.requires.stands.watching in
    let a = c.index-row-0.result in
    let b = c.second_of.result in
    let row = c.args.row.now in
    let p = IsAdded-from s.trail (rows_of s.clauses) (pairs_of s.clauses) s.watches.lists.items w c.args.left c.args.right c.requires.left c.requires.right c.args.pivot row
    c.requires.resolvent c.requires.some a b c.index-row-0.is c.second_of.ensures in
    record {
      head = c.requires.ready.head;
      quiet = subst (λ z. Quiet z (pairs_of c.push-2.new.self) (has (take s.head s.trail.literals)) (has s.trail.literals)) (sym (ap rows_of c.in_ok-push-2.ensures ∙ rows_pushed s.clauses (awake_clause row)))
          (subst (λ z. Quiet (rows_of s.clauses ++ row ∷ []) z (has (take s.head s.trail.literals)) (has s.trail.literals)) (sym (ap pairs_of c.in_ok-push-2.ensures ∙ pairs_pushed s.clauses row a b c.requires.some c.index-row-0.is c.second_of.ensures))
          (Quiet-add (rows_of s.clauses) (pairs_of s.clauses) s.trail s.head row a b w.count p c.if-row-eq1.false c.requires.ready.quiet));
    }
