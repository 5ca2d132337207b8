use Rattle.std.proofs.Common.{◌≡◌, ◌<◌, ◌≤◌, ◌∙◌, ◌++◌, ◌∷◌, sym, ap, subst, refl, false, length, take, drop, Option, Some, None, arith, ℕ, List, []}
use Rattle.std.specs.Vec.{with_item, with_items}
use Rattle.std.specs.Option.{IfSome, option_or}
use Rattle.std.specs.List.Sorted.{IsNonDecreasingBy}
use Rattle.kb_chain.specs.Literal.{Literal, negated}
use Rattle.kb_chain.specs.Index.{has_number}
use Rattle.kb_sat.specs.Analysis.{is_seen, AreMarked, IsReached, ArePut}
use Rattle.kb_sat.specs.declared.analysis.Marks.{Marks}
use Rattle.kb_propagate.proofs.Places.{at_has}
use Rattle.kb_sat.proofs.MarkedLaws.{variable_inside, once_of, read_at, seen_read}
use Rattle.kb_sat.proofs.ReasonLaws.{front, zero_below}
use Rattle.kb_sat.proofs.MinimiseLaws.{number_last, front_rising, AreMarked-sorted, AreMarked-done, popped, AreMarked-popped, reached_kept, reached_away, IsPlaced, put_more, reached_end, clean_end}
use Rattle.kb_propagate.specs.Rows.{rows_of}
use Rattle.kb_sat.proofs.analysis.minimise.Goals as goal

no_items : (xs : List ℕ) → length xs ≡ 0 → xs ≡ []
no_items [] e = refl
no_items (x ∷ xs) e = absurd (omega (arith, e))

-- the position that was put first stays above
lower_bound : (highest : Option ℕ) (end p : ℕ) → p ≤ end → IfSome highest (λ q. end ≤ q) → IfSome highest (λ q. p ≤ q)
lower_bound None end p le h = tt
lower_bound (Some q) end p le h = let k : end ≤ q = h in omega (arith, le, k)

placed : (highest : Option ℕ) (p : ℕ) (later : Option ℕ) → later ≡ option_or highest (Some p) → IsPlaced highest p later
placed None p later e = e
placed (Some q) p later e = e

pub loop-position-init : goal.loop-position-init
loop-position-init c =
    let whole : c.args.marks.now.lower.len ≡ length c.sort.new.positions = omega (arith, c.sort.auto.positions, c.as_mut_slice.ensures.len) in
    let shown : take c.args.marks.now.lower.len (c.sort.new.positions ++ drop (length c.sort.new.positions) c.args.marks.now.lower.items) ≡ c.sort.new.positions =
    front c.args.marks.now.lower.len c.sort.new.positions (drop (length c.sort.new.positions) c.args.marks.now.lower.items) whole in
    let sorted : Marks = record c.args.marks.now { lower = with_items c.args.marks.now.lower c.sort.new.positions } in
    record {
      rising = subst (λ (z : List ℕ). IsNonDecreasingBy (λ p. p) z) (sym shown) c.sort.ensures.rising;
      put = refl;
      bound = (
        c.args.levels.start,
        zero_below c.args.trail.now c.args.levels c.tell_trail.ensures c.requires.levels,
        (omega arith),
        tt,
        AreMarked-sorted c.args.trail.now.vars c.args.trail.now.literals c.args.levels c.args.levels.start c.args.marks.now sorted refl refl
            (λ p. ap (λ (z : List ℕ). has_number z p) shown ∙ (c.sort.ensures.same p ∙ ap (λ (z : List ℕ). has_number z p) c.as_mut_slice.ensures.value)) c.requires.marked,
        λ all number justified r. r,
      );
    }

pub offset_bounds-literals-position : goal.offset_bounds-literals-position
offset_bounds-literals-position c =
    let shape : c.loop-position.marks.lower.items ≡ c.pop.new.self.items ++ c.in-Some.position ∷ [] = c.in-Some.ensures.items in
    let found = c.loop-position.invariant.bound.4.lower c.in-Some.position (number_last c.loop-position.marks.lower.items c.pop.new.self.items c.in-Some.position shape) in
    let inside : c.in-Some.position < length c.args.trail.now.literals = found.2 in
    let same : length c.literals.result.now ≡ length c.args.trail.now.literals = ap length c.literals.ensures.value in
    omega (arith, inside, same)

pub bounds-literals-position : goal.bounds-literals-position
bounds-literals-position c =
    let shape : c.loop-position.marks.lower.items ≡ c.pop.new.self.items ++ c.in-Some.position ∷ [] = c.in-Some.ensures.items in
    let found = c.loop-position.invariant.bound.4.lower c.in-Some.position (number_last c.loop-position.marks.lower.items c.pop.new.self.items c.in-Some.position shape) in
    let inside : c.in-Some.position < length c.args.trail.now.literals = found.2 in
    let same : length c.literals.result.now ≡ length c.args.trail.now.literals = ap length c.literals.ensures.value in
    omega (arith, inside, same)

pub index-requires : goal.index-requires
index-requires c =
    let shape : c.loop-position.marks.lower.items ≡ c.pop.new.self.items ++ c.in-Some.position ∷ [] = c.in-Some.ensures.items in
    let found = c.loop-position.invariant.bound.4.lower c.in-Some.position (number_last c.loop-position.marks.lower.items c.pop.new.self.items c.in-Some.position shape) in
    let inside : c.in-Some.position < length c.args.trail.now.literals = found.2 in
    let at = read_at c.literals.result.now c.args.trail.now.literals c.in-Some.position c.index-literals-position.result c.literals.ensures.value inside c.index-literals-position.is in
    let size = variable_inside c.args.trail.now c.index-literals-position.result c.literals.ensures.trail (at_has c.args.trail.now.literals c.in-Some.position c.index-literals-position.result at) in
    let table : c.variable-variable.result < length c.loop-position.marks.seen.items = omega (arith, c.loop-position.invariant.bound.4.table, size) in
    omega (arith, table)

pub loop-position-preserved-then-not-index : goal.loop-position-preserved-then-not-index
loop-position-preserved-then-not-index c =
    let shape : c.loop-position.marks.lower.items ≡ c.pop.new.self.items ++ c.in-Some.position ∷ [] = c.in-Some.ensures.items in
    let found = c.loop-position.invariant.bound.4.lower c.in-Some.position (number_last c.loop-position.marks.lower.items c.pop.new.self.items c.in-Some.position shape) in
    let inside : c.in-Some.position < length c.args.trail.now.literals = found.2 in
    let at = read_at c.literals.result.now c.args.trail.now.literals c.in-Some.position c.index-literals-position.result c.literals.ensures.value inside c.index-literals-position.is in
    let size = variable_inside c.args.trail.now c.index-literals-position.result c.literals.ensures.trail (at_has c.args.trail.now.literals c.in-Some.position c.index-literals-position.result at) in
    let table : c.variable-variable.result < length c.loop-position.marks.seen.items = omega (arith, c.loop-position.invariant.bound.4.table, size) in
    let seen : is_seen c.loop-position.marks.seen.items c.index-literals-position.result.variable ≡ c.index.result.now =
    seen_read c.loop-position.marks.seen.items c.variable-variable.result c.index-literals-position.result.variable c.index.result.now c.variable-variable.ensures.value table c.index.ensures in
    let later : Marks = record c.loop-position.marks { lower = c.pop.new.self } in
    record {
      rising = front_rising c.loop-position.marks.lower.items c.pop.new.self.items c.in-Some.position shape c.loop-position.invariant.rising;
      put = c.loop-position.invariant.put;
      bound = (
        c.loop-position.invariant.bound.0,
        c.loop-position.invariant.bound.1,
        c.loop-position.invariant.bound.2,
        c.loop-position.invariant.bound.3,
        AreMarked-done c.args.trail.now.vars c.args.trail.now.literals c.args.levels c.loop-position.invariant.bound.0 c.loop-position.marks later c.in-Some.position
            c.index-literals-position.result at (seen ∙ c.if-not-index.true) shape refl refl c.loop-position.invariant.bound.4,
        c.loop-position.invariant.bound.5,
      );
    }

pub index_mut-requires : goal.index_mut-requires
index_mut-requires c =
    let shape : c.loop-position.marks.lower.items ≡ c.pop.new.self.items ++ c.in-Some.position ∷ [] = c.in-Some.ensures.items in
    let found = c.loop-position.invariant.bound.4.lower c.in-Some.position (number_last c.loop-position.marks.lower.items c.pop.new.self.items c.in-Some.position shape) in
    let inside : c.in-Some.position < length c.args.trail.now.literals = found.2 in
    let at = read_at c.literals.result.now c.args.trail.now.literals c.in-Some.position c.index-literals-position.result c.literals.ensures.value inside c.index-literals-position.is in
    let size = variable_inside c.args.trail.now c.index-literals-position.result c.literals.ensures.trail (at_has c.args.trail.now.literals c.in-Some.position c.index-literals-position.result at) in
    let table : c.variable-variable.result < length c.loop-position.marks.seen.items = omega (arith, c.loop-position.invariant.bound.4.table, size) in
    omega (arith, table)

pub adds_nothing-requires-clause-inside : goal.adds_nothing-requires-clause-inside
adds_nothing-requires-clause-inside c =
    let shape : c.loop-position.marks.lower.items ≡ c.pop.new.self.items ++ c.in-Some.position ∷ [] = c.in-Some.ensures.items in
    let found = c.loop-position.invariant.bound.4.lower c.in-Some.position (number_last c.loop-position.marks.lower.items c.pop.new.self.items c.in-Some.position shape) in
    let inside : c.in-Some.position < length c.args.trail.now.literals = found.2 in
    inside

pub loop-position-preserved-in-Continue-1 : goal.loop-position-preserved-in-Continue-1
loop-position-preserved-in-Continue-1 c =
    let shape : c.loop-position.marks.lower.items ≡ c.pop.new.self.items ++ c.in-Some.position ∷ [] = c.in-Some.ensures.items in
    let found = c.loop-position.invariant.bound.4.lower c.in-Some.position (number_last c.loop-position.marks.lower.items c.pop.new.self.items c.in-Some.position shape) in
    let inside : c.in-Some.position < length c.args.trail.now.literals = found.2 in
    let at = read_at c.literals.result.now c.args.trail.now.literals c.in-Some.position c.index-literals-position.result c.literals.ensures.value inside c.index-literals-position.is in
    let size = variable_inside c.args.trail.now c.index-literals-position.result c.literals.ensures.trail (at_has c.args.trail.now.literals c.in-Some.position c.index-literals-position.result at) in
    let table : c.variable-variable.result < length c.loop-position.marks.seen.items = omega (arith, c.loop-position.invariant.bound.4.table, size) in
    let seen : is_seen c.loop-position.marks.seen.items c.index-literals-position.result.variable ≡ c.index.result.now =
    seen_read c.loop-position.marks.seen.items c.variable-variable.result c.index-literals-position.result.variable c.index.result.now c.variable-variable.ensures.value table c.index.ensures in
    let marked = seen ∙ c.if-not-index.false in
    let once = once_of c.args.trail.now c.tell_trail.ensures c.tell_once.ensures in
    let top = popped c.args.trail.now.vars c.args.trail.now.literals c.args.levels c.loop-position.invariant.bound.0 c.loop-position.marks c.pop.new.self.items c.in-Some.position
    c.index-literals-position.result once at marked shape c.loop-position.invariant.rising c.loop-position.invariant.bound.2 c.loop-position.invariant.bound.4 in
    let later : Marks = record c.loop-position.marks { seen = with_item c.loop-position.marks.seen c.variable-variable.result false; lower = c.pop.new.self } in
    let done : AreMarked c.args.trail.now.vars c.args.trail.now.literals c.args.levels c.in-Some.position later =
    AreMarked-popped c.args.trail.now.vars c.args.trail.now.literals c.args.levels c.loop-position.invariant.bound.0 c.loop-position.marks later c.in-Some.position
    c.index-literals-position.result c.variable-variable.result once at c.variable-variable.ensures.value (omega (arith, size)) top shape refl refl
    c.loop-position.invariant.bound.2 c.loop-position.invariant.bound.4 in
    let below : c.in-Some.position ≤ c.args.levels.start = omega (arith, top.below) in
    let ahead : c.in-Some.position < c.loop-position.invariant.bound.0 = top.inside in
    record {
      rising = front_rising c.loop-position.marks.lower.items c.pop.new.self.items c.in-Some.position shape c.loop-position.invariant.rising;
      put = c.loop-position.invariant.put;
      bound = (
        c.in-Some.position,
        top.low,
        below,
        lower_bound c.loop-position.highest c.loop-position.invariant.bound.0 c.in-Some.position (omega (arith, ahead)) c.loop-position.invariant.bound.3,
        done,
        λ all number justified r. subst (λ (z : List (ℕ × ℕ)). IsReached all number z c.args.trail.now.literals c.args.levels.zero c.in-Some.position later.seen.items c.loop-position.row.items)
            (sym c.in_ok-push-in-Some-adds_nothing.ensures.items)
            (reached_away all (rows_of c.args.clauses.now) c.args.trail.now number c.loop-position.steps.items c.args.levels c.loop-position.invariant.bound.0 c.in-Some.position
            c.loop-position.marks.seen.items c.loop-position.row.items c.index-literals-position.result c.in-Some-adds_nothing.number c.variable-variable.result c.tell_trail.ensures once
            c.requires.levels justified at c.in-Some-adds_nothing.ensures.reason c.variable-variable.ensures.value marked top c.in-Some-adds_nothing.ensures.covered
            (c.loop-position.invariant.bound.5 all number justified r)),
      );
    }

pub loop-position-preserved : goal.loop-position-preserved
loop-position-preserved c =
    let shape : c.loop-position.marks.lower.items ≡ c.pop.new.self.items ++ c.in-Some.position ∷ [] = c.in-Some.ensures.items in
    let found = c.loop-position.invariant.bound.4.lower c.in-Some.position (number_last c.loop-position.marks.lower.items c.pop.new.self.items c.in-Some.position shape) in
    let inside : c.in-Some.position < length c.args.trail.now.literals = found.2 in
    let at = read_at c.literals.result.now c.args.trail.now.literals c.in-Some.position c.index-literals-position.result c.literals.ensures.value inside c.index-literals-position.is in
    let size = variable_inside c.args.trail.now c.index-literals-position.result c.literals.ensures.trail (at_has c.args.trail.now.literals c.in-Some.position c.index-literals-position.result at) in
    let table : c.variable-variable.result < length c.loop-position.marks.seen.items = omega (arith, c.loop-position.invariant.bound.4.table, size) in
    let seen : is_seen c.loop-position.marks.seen.items c.index-literals-position.result.variable ≡ c.index.result.now =
    seen_read c.loop-position.marks.seen.items c.variable-variable.result c.index-literals-position.result.variable c.index.result.now c.variable-variable.ensures.value table c.index.ensures in
    let marked = seen ∙ c.if-not-index.false in
    let once = once_of c.args.trail.now c.tell_trail.ensures c.tell_once.ensures in
    let top = popped c.args.trail.now.vars c.args.trail.now.literals c.args.levels c.loop-position.invariant.bound.0 c.loop-position.marks c.pop.new.self.items c.in-Some.position
    c.index-literals-position.result once at marked shape c.loop-position.invariant.rising c.loop-position.invariant.bound.2 c.loop-position.invariant.bound.4 in
    let later : Marks = record c.loop-position.marks { seen = with_item c.loop-position.marks.seen c.variable-variable.result false; lower = c.pop.new.self } in
    let done : AreMarked c.args.trail.now.vars c.args.trail.now.literals c.args.levels c.in-Some.position later =
    AreMarked-popped c.args.trail.now.vars c.args.trail.now.literals c.args.levels c.loop-position.invariant.bound.0 c.loop-position.marks later c.in-Some.position
    c.index-literals-position.result c.variable-variable.result once at c.variable-variable.ensures.value (omega (arith, size)) top shape refl refl
    c.loop-position.invariant.bound.2 c.loop-position.invariant.bound.4 in
    let below : c.in-Some.position ≤ c.args.levels.start = omega (arith, top.below) in
    let ahead : c.in-Some.position < c.loop-position.invariant.bound.0 = top.inside in
    let put = put_more c.args.trail.now.literals c.args.levels c.args.row.now.items c.loop-position.row.items c.loop-position.highest c.or-highest.result c.loop-position.invariant.bound.0
    c.in-Some.position c.index-literals-position.result at top.low top.below ahead c.loop-position.invariant.bound.3
    (placed c.loop-position.highest c.in-Some.position c.or-highest.result c.or-highest.ensures) c.loop-position.invariant.put in
    let pushed : c.push-in-None.new.self.items ≡ c.loop-position.row.items ++ negated c.index-literals-position.result ∷ [] =
    c.in_ok-push-in-None.ensures.items ∙ ap (λ (z : Literal). c.loop-position.row.items ++ z ∷ []) c.negated.ensures in
    record {
      rising = front_rising c.loop-position.marks.lower.items c.pop.new.self.items c.in-Some.position shape c.loop-position.invariant.rising;
      put = subst (λ (z : List Literal). ArePut c.args.trail.now.literals c.args.levels c.args.row.now.items z c.or-highest.result) (sym pushed) put.0;
      bound = (
        c.in-Some.position,
        top.low,
        below,
        put.1,
        done,
        λ all number justified r. subst (λ (z : List Literal). IsReached all number c.loop-position.steps.items c.args.trail.now.literals c.args.levels.zero c.in-Some.position later.seen.items z)
            (sym pushed)
            (reached_kept all number c.loop-position.steps.items c.args.trail.now.literals c.args.levels c.loop-position.invariant.bound.0 c.in-Some.position
            c.loop-position.marks.seen.items c.loop-position.row.items c.index-literals-position.result c.variable-variable.result once at c.variable-variable.ensures.value marked top
            (c.loop-position.invariant.bound.5 all number justified r)),
      );
    }

pub returns-clause-reached : goal.returns-clause-reached
returns-clause-reached c all number justified r =
    reached_end all number c.loop-position.steps.items c.args.trail.now.vars c.args.trail.now.literals c.args.levels c.loop-position.invariant.bound.0 c.loop-position.marks
    c.loop-position.row.items c.loop-position.invariant.bound.1 c.loop-position.invariant.bound.2
    (no_items c.loop-position.marks.lower.items (omega (arith, c.in_default.ensures.cases.0))) c.loop-position.invariant.bound.4
    (c.loop-position.invariant.bound.5 all number justified r)

pub returns-clause-clean : goal.returns-clause-clean
returns-clause-clean c =
    let later : Marks = record c.loop-position.marks { lower = c.pop.new.self } in
    let done = clean_end c.args.trail.now.vars c.args.trail.now.literals c.args.levels c.loop-position.invariant.bound.0 c.loop-position.marks c.loop-position.invariant.bound.2
    (no_items c.loop-position.marks.lower.items (omega (arith, c.in_default.ensures.cases.0))) c.loop-position.invariant.bound.4 in
    record { table = done.table; unseen = done.unseen; lower = no_items c.pop.new.self.items (omega (arith, c.in_default.ensures.cases.1)); pending = done.pending }
