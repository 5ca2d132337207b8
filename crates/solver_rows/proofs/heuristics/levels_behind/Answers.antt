use Rattle.std.proofs.Common.{◌∙◌, sym}
use Rattle.kb_chain.specs.Literal.{has}
use Rattle.kb_chain.proofs.PropagationLaws.{all_negated-at}
use Rattle.solver_rows.proofs.heuristics.levels_behind.Goals as goal

pub levels_of-requires : goal.levels_of-requires
levels_of-requires c =
    all_negated-at (has c.args.trail.now.literals) c.args.literals.now (sym c.are_false-known.ensures ∙ c.if-not-known.false)
