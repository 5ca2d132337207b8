use Rattle.std.proofs.Common.{◌≡◌, ◌-◌, ◌∙◌, ◌++◌, ◌∷◌, [], sym, ap, subst, length, ℕ, List}
use Rattle.kb_chain.specs.declared.log.Chain.{Chain}
use Rattle.kb_chain.specs.Literal.{Literal, has, negated}
use Rattle.kb_propagate.specs.Trail.{before_level, level_start}
use Rattle.kb_sat.specs.Analysis.{IsLevels, IsReached, ArePut}
use Rattle.kb_sat.specs.declared.analysis.Levels.{Levels}
use Rattle.kb_sat.proofs.MarkedLaws.{once_of}
use Rattle.kb_sat.proofs.AnalysisLaws.{AreMarked-clean, conflict_false, false_before, some_pending, some_open, reached_start, leveled_some, leveled_none, learned_of}
use Rattle.kb_sat.proofs.analysis.analyse.Goals as goal
use Rattle.kb_propagate.specs.Rows.{rows_of}
use Rattle.kb_sat.proofs.analysis.analyse.Goals.{in-Some, in-None}

pub mark_others-requires-clause-marked : goal.mark_others-requires-clause-marked
mark_others-requires-clause-marked c =
    let levels : Levels = record { zero = c.start.result; start = c.start-2.result } in (
      length c.args.trail.now.literals,
      AreMarked-clean c.args.trail.now.vars c.args.trail.now.literals levels c.args.marks.now c.requires.clean,
      false_before c.args.trail.now.literals c.literals.result.now
          (conflict_false (rows_of c.args.clauses.now) c.args.trail.now c.args.number c.literals.result.now c.requires.conflict c.literals.ensures),
    )

pub resolve_level-requires-clause-marked : goal.resolve_level-requires-clause-marked
resolve_level-requires-clause-marked c =
    let levels : Levels = record { zero = c.start.result; start = c.start-2.result } in
    c.in_ok-mark_others.ensures.marked (length c.args.trail.now.literals)
    (AreMarked-clean c.args.trail.now.vars c.args.trail.now.literals levels c.args.marks.now c.requires.clean)
    (false_before c.args.trail.now.literals c.literals.result.now
    (conflict_false (rows_of c.args.clauses.now) c.args.trail.now c.args.number c.literals.result.now c.requires.conflict c.literals.ensures))

pub resolve_level-requires-clause-pending : goal.resolve_level-requires-clause-pending
resolve_level-requires-clause-pending c =
    let levels : Levels = record { zero = c.start.result; start = c.start-2.result } in
    let is : IsLevels c.args.trail.now levels = record {
      above = c.requires.level;
      zero = c.start.ensures.value;
      start = c.start-2.ensures.value ∙ ap (λ k. level_start c.args.trail.now.starts (k - 1)) c.level.ensures;
    } in
    let negates = conflict_false (rows_of c.args.clauses.now) c.args.trail.now c.args.number c.literals.result.now c.requires.conflict c.literals.ensures in
    some_pending c.args.trail.now levels c.literals.result.now c.args.marks.now c.mark_others.new.self c.tell_trail.ensures is c.requires.clean c.in_ok-mark_others.ensures.marks
    (c.in_ok-mark_others.ensures.marked (length c.args.trail.now.literals)
    (AreMarked-clean c.args.trail.now.vars c.args.trail.now.literals levels c.args.marks.now c.requires.clean) (false_before c.args.trail.now.literals c.literals.result.now negates))
    negates (c.requires.last c.literals.result.now c.literals.ensures)

pub returns-clause-learned : goal.returns-clause-learned
returns-clause-learned c all justified =
    let levels : Levels = record { zero = c.start.result; start = c.start-2.result } in
    let is : IsLevels c.args.trail.now levels = record {
      above = c.requires.level;
      zero = c.start.ensures.value;
      start = c.start-2.ensures.value ∙ ap (λ k. level_start c.args.trail.now.starts (k - 1)) c.level.ensures;
    } in
    let negates = conflict_false (rows_of c.args.clauses.now) c.args.trail.now c.args.number c.literals.result.now c.requires.conflict c.literals.ensures in
    let once = once_of c.args.trail.now c.tell_trail.ensures c.tell_once.ensures in
    let number : ℕ = c.args.number in
    let first : c.push.new.self.items ≡ negated c.in_ok-point.point ∷ [] =
    c.in_ok-push.ensures.items ∙ (ap (λ (z : List Literal). z ++ c.negated.result ∷ []) c.new-literals.ensures.items ∙ ap (λ (z : Literal). z ∷ []) c.negated.ensures) in
    let begun = subst (λ (z : List (ℕ × ℕ)). IsReached all number z c.args.trail.now.literals levels.zero (length c.args.trail.now.literals) c.mark_others.new.self.seen.items [])
    (sym c.new-steps.ensures.items)
    (reached_start all (rows_of c.args.clauses.now) c.args.trail.now levels number c.literals.result.now c.args.marks.now c.mark_others.new.self once is justified c.literals.ensures
    (some_open (has (before_level c.args.trail.now (length c.args.trail.now.starts - 1))) c.literals.result.now (c.requires.last c.literals.result.now c.literals.ensures)) negates c.requires.clean c.in_ok-mark_others.ensures.marks) in
    let pointed = c.in_ok-point.ensures.reached all number justified begun in
    let ended : IsReached all number c.minimise.new.steps.items c.args.trail.now.literals levels.zero levels.zero c.minimise.new.marks.seen.items c.minimise.new.row.items =
    c.in_ok-highest.ensures.reached all number justified
    (subst (λ (z : List Literal). IsReached all number c.resolve_level.new.steps.items c.args.trail.now.literals levels.zero levels.start c.resolve_level.new.marks.seen.items z)
    (sym first) pointed) in
    let chain : Chain = record { start = number; steps = c.from_vec.result } in
    learned_of all c.args.trail.now levels chain c.minimise.new.marks.seen.items c.from_vec-2.result c.in_ok-point.point c.in_ok-point.ensures.point.0 c.in_ok-highest.highest
    c.match-highest.level c.tell_trail.ensures once is c.in_ok-point.ensures.point.1 c.in_ok-point.ensures.point.2
    (subst (λ (z : List Literal). ArePut c.args.trail.now.literals levels (negated c.in_ok-point.point ∷ []) z c.in_ok-highest.highest) (sym c.from_vec-2.ensures)
    (subst (λ (z : List Literal). ArePut c.args.trail.now.literals levels z c.minimise.new.row.items c.in_ok-highest.highest) first c.in_ok-highest.ensures.put))
    (elim c.match-highest.branch [
      | in-Some w ↦ leveled_some c.args.trail.now c.in_ok-highest.highest w.in-Some.position c.match-highest.level w.level_of-level.result w.in-Some.is w.level-is
          w.level_of-level.ensures.inside w.level_of-level.ensures.below w.level_of-level.ensures.above
      | in-None w ↦ leveled_none c.args.trail.now c.in_ok-highest.highest c.match-highest.level w.in-None.is w.level-is
    ])
    (subst (λ (z : List Literal). IsReached all number c.from_vec.result c.args.trail.now.literals levels.zero levels.zero c.minimise.new.marks.seen.items z) (sym c.from_vec-2.ensures)
    (subst (λ (z : List (ℕ × ℕ)). IsReached all number z c.args.trail.now.literals levels.zero levels.zero c.minimise.new.marks.seen.items c.minimise.new.row.items)
    (sym c.from_vec.ensures) ended))
