use Rattle.std.proofs.Common.{◌≡◌, ◌+◌, ◌-◌, ◌*◌, ◌<◌, ◌≤◌, ◌∙◌, ap, sym, subst, length, take, [], ◌∷◌, ◌++◌, arith, Some, get_or}
use Rattle.kb_chain.specs.Literal.{has, negated, place_of}
use Rattle.kb_propagate.specs.Trail.{Assigned, before_level, level_start}
use Rattle.kb_propagate.specs.Rows.{rows_of, awake_clause}
use Rattle.kb_propagate.specs.Watches.{pairs_of, Quiet, paired, put_pair}
use Rattle.kb_propagate.specs.Base.{IsSecondLiteral}
use Rattle.kb_propagate.specs.declared.watches.Watches.{Watches}
use Rattle.kb_propagate.proofs.JustifyLaws.{pushed}
use Rattle.kb_propagate.proofs.BaseLaws.{not_false_before, IsBase_same}
use Rattle.kb_sat.proofs.LearnLaws.{learned_false, IsAsserting-from, IsBase-learn, ready-learn, learned_trail, asserting_place, asserting_absent}
use Rattle.kb_sat.specs.Analysis.{IsClean}
use Rattle.kb_sat.specs.declared.analysis.Marks.{Marks}
use Rattle.kb_propagate.proofs.ClausesLaws.{rows_pushed}
use Rattle.kb_propagate.proofs.Places.{some_in}
use Rattle.kb_propagate.proofs.PairLaws.{pairs_pushed}
use Rattle.kb_sat.proofs.search.Search.learn.Goals as goal

pub analyse-requires-clause-last : goal.analyse-requires-clause-last
analyse-requires-clause-last c row e =
    let s = c.args.self.now.base in
    let lt : length s.trail.starts - 1 < length s.trail.starts = (let n : 0 < length s.trail.starts = c.requires.level in omega (arith, n)) in
    not_false_before s.formula.now s.entries (rows_of s.clauses) (pairs_of s.clauses) s.watches.lists.items s.trail s.whole c.requires.stands c.tell_trail.ensures (length s.trail.starts - 1) lt c.args.conflict row e c.requires.awake

pub levels_of-levels-requires : goal.levels_of-levels-requires
levels_of-levels-requires c m e =
    let l = c.in_ok-learned.learned in
    let k = c.in_ok-learned.ensures.learned c.requires.stands.clauses c.requires.stands.justified in
    learned_false c.requires.stands.clauses c.args.self.now.base.trail l.chain l.literals l.level k m (ap (λ z. has z m) (sym c.as_slice.ensures) ∙ e)

pub keep-requires-clause-first : goal.keep-requires-clause-first
keep-requires-clause-first c =
    let s = c.args.self.now.base in
    let t = s.trail in
    let l = c.in_ok-learned.learned in
    let k = c.in_ok-learned.ensures.learned c.requires.stands.clauses c.requires.stands.justified in
    let a = c.index-row-0.result in
    let b = c.second_of-second.result in
    let p = IsAsserting-from c.requires.stands.clauses t l.chain l.literals l.level a b c.tell_trail.ensures k
    (c.index-row-0.is ∙ ap (λ z. get_or z 0 a) c.as_slice-row.ensures) (subst (λ z. IsSecondLiteral z b) c.as_slice-row.ensures c.second_of-second.ensures) in
    let low : place_of a < 2 * t.vars + 2 = asserting_place t l.literals l.level a b c.tell_trail.ensures p a p.first in
    let places : length s.watches.lists.items ≡ 2 * t.vars + 2 = c.requires.stands.watching.places in
    subst (λ (w : Watches). place_of a < length w.lists.items) (sym c.in_ok-go_back.ensures.watches) (omega (arith, low, places))

pub keep-requires-clause-second : goal.keep-requires-clause-second
keep-requires-clause-second c =
    let s = c.args.self.now.base in
    let t = s.trail in
    let l = c.in_ok-learned.learned in
    let k = c.in_ok-learned.ensures.learned c.requires.stands.clauses c.requires.stands.justified in
    let a = c.index-row-0.result in
    let b = c.second_of-second.result in
    let p = IsAsserting-from c.requires.stands.clauses t l.chain l.literals l.level a b c.tell_trail.ensures k
    (c.index-row-0.is ∙ ap (λ z. get_or z 0 a) c.as_slice-row.ensures) (subst (λ z. IsSecondLiteral z b) c.as_slice-row.ensures c.second_of-second.ensures) in
    let low : place_of b < 2 * t.vars + 2 = asserting_place t l.literals l.level a b c.tell_trail.ensures p b p.second in
    let places : length s.watches.lists.items ≡ 2 * t.vars + 2 = c.requires.stands.watching.places in
    subst (λ (w : Watches). place_of b < length w.lists.items) (sym c.in_ok-go_back.ensures.watches) (omega (arith, low, places))

pub keep-requires-clause-place : goal.keep-requires-clause-place
keep-requires-clause-place c =
    let s = c.args.self.now.base in
    let t = s.trail in
    let l = c.in_ok-learned.learned in
    let k = c.in_ok-learned.ensures.learned c.requires.stands.clauses c.requires.stands.justified in
    let a = c.index-row-0.result in
    let b = c.second_of-second.result in
    let p = IsAsserting-from c.requires.stands.clauses t l.chain l.literals l.level a b c.tell_trail.ensures k
    (c.index-row-0.is ∙ ap (λ z. get_or z 0 a) c.as_slice-row.ensures) (subst (λ z. IsSecondLiteral z b) c.as_slice-row.ensures c.second_of-second.ensures) in
    subst (λ (z : Assigned). place_of a < 2 * z.vars + 2) (sym c.in_ok-go_back.ensures.trail) (asserting_place t l.literals l.level a b c.tell_trail.ensures p a p.first)

pub keep-requires-clause-unassigned : goal.keep-requires-clause-unassigned
keep-requires-clause-unassigned c =
    let s = c.args.self.now.base in
    let t = s.trail in
    let l = c.in_ok-learned.learned in
    let k = c.in_ok-learned.ensures.learned c.requires.stands.clauses c.requires.stands.justified in
    let a = c.index-row-0.result in
    let b = c.second_of-second.result in
    let p = IsAsserting-from c.requires.stands.clauses t l.chain l.literals l.level a b c.tell_trail.ensures k
    (c.index-row-0.is ∙ ap (λ z. get_or z 0 a) c.as_slice-row.ensures) (subst (λ z. IsSecondLiteral z b) c.as_slice-row.ensures c.second_of-second.ensures) in
    ap (λ (z : Assigned). has z.literals a) c.in_ok-go_back.ensures.trail ∙ asserting_absent t l.literals l.level a b c.tell_trail.ensures p

pub keep-requires-clause-possible : goal.keep-requires-clause-possible
keep-requires-clause-possible c =
    let s = c.args.self.now.base in
    let t = s.trail in
    let l = c.in_ok-learned.learned in
    let k = c.in_ok-learned.ensures.learned c.requires.stands.clauses c.requires.stands.justified in
    let a = c.index-row-0.result in
    let b = c.second_of-second.result in
    let p = IsAsserting-from c.requires.stands.clauses t l.chain l.literals l.level a b c.tell_trail.ensures k
    (c.index-row-0.is ∙ ap (λ z. get_or z 0 a) c.as_slice-row.ensures) (subst (λ z. IsSecondLiteral z b) c.as_slice-row.ensures c.second_of-second.ensures) in
    ap (λ (z : Assigned). has z.literals (negated a)) c.in_ok-go_back.ensures.trail ∙ p.free l.level (omega arith)

pub returns-clause-goes_on : goal.returns-clause-goes_on
returns-clause-goes_on c =
    let s = c.args.self.now.base in
    let t = s.trail in
    let l = c.in_ok-learned.learned in
    let k = c.in_ok-learned.ensures.learned c.requires.stands.clauses c.requires.stands.justified in
    let a = c.index-row-0.result in
    let b = c.second_of-second.result in
    let p = IsAsserting-from c.requires.stands.clauses t l.chain l.literals l.level a b c.tell_trail.ensures k
    (c.index-row-0.is ∙ ap (λ z. get_or z 0 a) c.as_slice-row.ensures) (subst (λ z. IsSecondLiteral z b) c.as_slice-row.ensures c.second_of-second.ensures) in
    let n = length (rows_of c.go_back.new.self.base.clauses) in
    let g = c.in_ok-go_back.ensures in
    let kept = c.in_ok-keep.ensures in
    let new = c.keep.new.self in
    let clauses : new.base.clauses ≡ s.clauses ++ awake_clause l.literals ∷ [] =
    kept.clauses ∙ (ap (λ z. z ++ awake_clause c.as_slice-row.result.now ∷ []) g.clauses ∙ ap (λ z. s.clauses ++ awake_clause z ∷ []) c.as_slice-row.ensures) in
    let rows : rows_of new.base.clauses ≡ rows_of s.clauses ++ l.literals ∷ [] = ap rows_of clauses ∙ rows_pushed s.clauses (awake_clause l.literals) in
    let pairs : pairs_of new.base.clauses ≡ pairs_of s.clauses ++ paired a b ∷ [] =
    ap pairs_of clauses ∙ pairs_pushed s.clauses l.literals a b (some_in l.literals a p.first) (c.index-row-0.is ∙ ap (λ z. get_or z 0 a) c.as_slice-row.ensures)
    (subst (λ z. IsSecondLiteral z b) c.as_slice-row.ensures c.second_of-second.ensures) in
    let trail : new.base.trail ≡ learned_trail t l.level a n = kept.trail ∙ ap (λ (z : Assigned). pushed z a (Some n) z.starts) g.trail in
    let lists : new.base.watches.lists.items ≡ put_pair s.watches.lists.items a b n = kept.lists ∙ ap (λ (w : Watches). put_pair w.lists.items a b n) g.watches in
    let vars : new.base.trail.vars ≡ c.go_back.new.self.base.trail.vars = ap (λ (z : Assigned). z.vars) kept.trail in
    let stands = IsBase_same new.base.formula.now s.formula.now new.base.entries (s.entries ++ l.chain ∷ []) (rows_of new.base.clauses) (rows_of s.clauses ++ l.literals ∷ [])
    (pairs_of new.base.clauses) (pairs_of s.clauses ++ paired a b ∷ []) new.base.watches.lists.items (put_pair s.watches.lists.items a b n)
    new.base.trail (learned_trail t l.level a n) new.base.whole s.whole
    (kept.formula ∙ g.formula) (kept.entries ∙ (g.entries ∙ (c.in_ok-push.ensures ∙ ap (λ z. s.entries ++ record { start = l.chain.start; steps = z } ∷ []) c.as_slice-2.ensures))) rows pairs lists trail (kept.whole ∙ g.whole)
    (IsBase-learn s.formula.now s.entries (rows_of s.clauses) (pairs_of s.clauses) s.watches.lists.items t s.whole c.requires.stands l.chain l.literals l.level a b n c.tell_trail.ensures k p (ap (λ z. length (rows_of z)) g.clauses)) in
    record {
      stands = stands;
      equipped = record {
        order = kept.tables.0 ∙ (g.equipped.order ∙ sym vars);
        phases = ap (λ (z : _). length z.items) kept.tables.1 ∙ (g.equipped.phases ∙ ap (λ m. m + 1) (sym vars));
        clean = subst (λ m. IsClean m new.marks) (sym vars) (subst (λ (z : Marks). IsClean c.go_back.new.self.base.trail.vars z) (sym kept.tables.2) g.equipped.clean);
      };
      formula = kept.formula ∙ g.formula;
    }

pub returns-clause-ready : goal.returns-clause-ready
returns-clause-ready c =
    let s = c.args.self.now.base in
    let t = s.trail in
    let l = c.in_ok-learned.learned in
    let k = c.in_ok-learned.ensures.learned c.requires.stands.clauses c.requires.stands.justified in
    let a = c.index-row-0.result in
    let b = c.second_of-second.result in
    let p = IsAsserting-from c.requires.stands.clauses t l.chain l.literals l.level a b c.tell_trail.ensures k
    (c.index-row-0.is ∙ ap (λ z. get_or z 0 a) c.as_slice-row.ensures) (subst (λ z. IsSecondLiteral z b) c.as_slice-row.ensures c.second_of-second.ensures) in
    let n = length (rows_of c.go_back.new.self.base.clauses) in
    let g = c.in_ok-go_back.ensures in
    let kept = c.in_ok-keep.ensures in
    let new = c.keep.new.self in
    let clauses : new.base.clauses ≡ s.clauses ++ awake_clause l.literals ∷ [] =
    kept.clauses ∙ (ap (λ z. z ++ awake_clause c.as_slice-row.result.now ∷ []) g.clauses ∙ ap (λ z. s.clauses ++ awake_clause z ∷ []) c.as_slice-row.ensures) in
    let rows : rows_of new.base.clauses ≡ rows_of s.clauses ++ l.literals ∷ [] = ap rows_of clauses ∙ rows_pushed s.clauses (awake_clause l.literals) in
    let pairs : pairs_of new.base.clauses ≡ pairs_of s.clauses ++ paired a b ∷ [] =
    ap pairs_of clauses ∙ pairs_pushed s.clauses l.literals a b (some_in l.literals a p.first) (c.index-row-0.is ∙ ap (λ z. get_or z 0 a) c.as_slice-row.ensures)
    (subst (λ z. IsSecondLiteral z b) c.as_slice-row.ensures c.second_of-second.ensures) in
    let trail : new.base.trail ≡ learned_trail t l.level a n = kept.trail ∙ ap (λ (z : Assigned). pushed z a (Some n) z.starts) g.trail in
    let r = ready-learn s.formula.now s.entries (rows_of s.clauses) (pairs_of s.clauses) s.watches.lists.items t s.whole c.requires.stands l.literals l.level a b c.tell_trail.ensures k.below p in
    let head : new.base.head ≡ level_start t.starts l.level = kept.head ∙ g.head in
    record {
      head = subst (λ m. m ≤ length new.base.trail.literals) (sym head) (subst (λ (z : Assigned). level_start t.starts l.level ≤ length z.literals) (sym trail) r.0);
      quiet = subst (λ z. Quiet z (pairs_of new.base.clauses) (has (take new.base.head new.base.trail.literals)) (has new.base.trail.literals)) (sym rows)
          (subst (λ z. Quiet (rows_of s.clauses ++ l.literals ∷ []) z (has (take new.base.head new.base.trail.literals)) (has new.base.trail.literals)) (sym pairs)
          (subst (λ (z : Assigned). Quiet (rows_of s.clauses ++ l.literals ∷ []) (pairs_of s.clauses ++ paired a b ∷ []) (has (take new.base.head z.literals)) (has z.literals)) (sym trail)
          (subst (λ m. Quiet (rows_of s.clauses ++ l.literals ∷ []) (pairs_of s.clauses ++ paired a b ∷ []) (has (take m (before_level t l.level ++ a ∷ []))) (has (before_level t l.level ++ a ∷ []))) (sym head) r.1)));
    }
