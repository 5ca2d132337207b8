use Rattle.std.proofs.Common.{sym, subst, ◌∙◌, ap, ◌++◌, ◌∷◌, []}
use Rattle.kb_chain.specs.Cnf.{IsWithin}
use Rattle.kb_circuit.proofs.Formulas.{circuit_with_clause, within-clause_of}
use Rattle.kb_circuit.proofs.builder.Builder.clause.Goals as goal

pub add-requires : goal.add-requires
add-requires c =
    let f = c.self.inside.formula in
    rw c.in_ok-clause.ensures (within-clause_of f.vars c.args.literals.now (subst (λ g. IsWithin g.vars c.args.literals.now) (sym c.self.view_is) c.requires))

pub invariant_of-self-2 : goal.invariant_of-self-2
invariant_of-self-2 c =
    let f = c.self.inside.formula in
    circuit_with_clause f c.add.new.self c.args.literals.now c.self.invariant
    (subst (λ g. IsWithin g.vars c.args.literals.now) (sym c.self.view_is) c.requires) c.in_ok-add.ensures.vars
    (c.in_ok-add.ensures.ok ∙ ap (λ k. f.clauses ++ k ∷ []) c.in_ok-clause.ensures)
