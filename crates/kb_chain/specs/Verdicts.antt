-- What the two checks of a log answer.
use Rattle.std.specs.Prelude.{◌≡◌, List, length, ◌⊎◌}
use Rattle.kb_chain.specs.Literal.{Literal}
use Rattle.kb_chain.specs.Chains.{IsFirstBadEntry, IsAnyEntry, Derives, IsRefutation}
use Rattle.kb_chain.specs.Propagation.{IsNew, IsFresh}
use Rattle.kb_chain.specs.declared.log.Chain.{Chain}
use Rattle.kb_chain.specs.declared.log.Verdict.{Verdict}
use Rattle.kb_chain.specs.declared.log.Verdict.TheVariants.{Good, Bad}

-- good: a refutation. Bad at i: entry i is the first that does not derive; or all derive, i is their number, and the log is no refutation
abbrev pub JudgesRefutation : List (List Literal) → List Chain → Verdict → Type 0
JudgesRefutation clauses entries Good = IsRefutation clauses entries
JudgesRefutation clauses entries (Bad i) =
    IsFirstBadEntry IsAnyEntry clauses entries i
    ⊎ (Derives clauses entries × (i ≡ length entries) × (IsRefutation clauses entries → ⊥))

-- good: all entries are fresh. Bad at i: entry i is the first that is not
abbrev pub JudgesFresh : List (List Literal) → List Chain → Verdict → Type 0
JudgesFresh clauses entries Good = IsFresh clauses entries
JudgesFresh clauses entries (Bad i) = IsFirstBadEntry IsNew clauses entries i
