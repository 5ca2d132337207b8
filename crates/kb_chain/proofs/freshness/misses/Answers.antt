use Rattle.std.proofs.Common.{◌∙◌, ap, List, length, take}
use Rattle.kb_chain.specs.Literal.{Literal}
use Rattle.kb_chain.proofs.freshness.misses.Goals as goal

pub returns-clause-root : goal.returns-clause-root
returns-clause-root c =
    c.go_back.ensures.literals
    ∙ (ap (λ (z : List Literal). take (length z) c.goes_on.new.trail.literals) c.literals-root.ensures.value ∙ c.in_ok-missed.ensures.extended)
