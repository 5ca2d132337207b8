use Rattle.std.proofs.Common.{◌∙◌, sym, ap, subst, arith}
use Rattle.kb_terms.specs.Terms.{variables_of, IsPool}
use Rattle.kb_terms.proofs.Computing.{IsPool-take}
use Rattle.kb_terms.proofs.Cuts.{variables-gone}
use Rattle.kb_terms.proofs.pool.Pool.cut_to.Goals as goal

pub overflow_sub-self : goal.overflow_sub-self
overflow_sub-self c =
    omega (arith, variables-gone c.self.inside.nodes.keys c.as_slice.result.now c.args.terms _ c.variables_among.ensures c.as_slice.ensures.keys, c.self.invariant.1)

pub invariant_of-self : goal.invariant_of-self
invariant_of-self c =
    let old = c.self.inside.nodes.keys in
    let left = c.truncate.ensures.keys in (
      subst IsPool (sym left) (IsPool-take old c.args.terms c.self.invariant.0),
      omega (arith, variables-gone old c.as_slice.result.now c.args.terms _ c.variables_among.ensures c.as_slice.ensures.keys, c.self.invariant.1) ∙ ap variables_of (sym left),
    )

pub returns-clause-formed : goal.returns-clause-formed
returns-clause-formed c = subst IsPool (sym c.truncate.ensures.keys) (IsPool-take c.self.inside.nodes.keys c.args.terms c.self.invariant.0)
