-- The state of a search.
use Rattle.std.specs.Prelude.{◌≡◌, ℕ, ◌+◌, ◌*◌, ◌<◌, ◌≤◌, Bool, List, length}
use Rattle.kb_propagate.specs.Base.{Stands, IsReady, IsConflict, IsComplete}
use Rattle.kb_propagate.specs.Rows.{rows_of}
use Rattle.kb_propagate.specs.Watches.{pairs_of, IsAwake}
use Rattle.kb_sat.specs.Analysis.{IsClean}
use Rattle.kb_sat.specs.declared.analysis.Marks.{Marks}
use Rattle.kb_sat.specs.declared.search.Search.{Search}
use Rattle.kb_sat.specs.declared.search.Step.{Step}
use Rattle.kb_sat.specs.declared.search.Step.TheVariants.{Conflict, Complete, Decided}

-- the tables of the heuristics
pub record IsEquipped (vars heap : ℕ) (signs : List Bool) (marks : Marks) : Type 0 where
  pub order : heap ≡ vars
  pub phases : length signs ≡ vars + 1
  pub clean : IsClean vars marks

abbrev pub Equipped : Search → Type 0
Equipped s = IsEquipped s.base.trail.vars s.order s.phases.items s.marks

-- the search goes on with the same formula
pub record GoesOn (old new : Search) : Type 0 where
  pub stands : Stands new.base
  pub equipped : Equipped new
  pub formula : new.base.formula.now ≡ old.base.formula.now

-- and with the same log, and with all clauses watched if they were
pub record Keeps (old new : Search) : Type 0 where
  pub stands : Stands new.base
  pub equipped : Equipped new
  pub formula : new.base.formula.now ≡ old.base.formula.now
  pub entries : new.base.entries ≡ old.base.entries
  pub whole : new.base.whole ≡ old.base.whole

-- what a step of the search came to
abbrev pub StepIs : Search → Search → Step → Type 0
StepIs old new (Conflict number) =
    IsConflict (rows_of new.base.clauses) new.base.trail number × IsAwake (pairs_of new.base.clauses) number
StepIs old new Complete = IsComplete new.base
StepIs old new Decided =
    IsReady new.base × (length old.base.trail.literals < length new.base.trail.literals)
    × (length new.base.trail.literals ≤ 2 * new.base.trail.vars + 2)
