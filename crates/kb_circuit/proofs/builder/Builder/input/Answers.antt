use Rattle.std.proofs.Common.{◌∙◌, ℕ, List, ◌∷◌, sym, ap, subst}
use Rattle.std.specs.Prelude.{IfOk}
use Rattle.kb_circuit.specs.Meaning.{IsFree}
use Rattle.kb_circuit.proofs.Formulas.{circuit_with_variable, circuit_same}
use Rattle.kb_circuit.proofs.Computing.{free_input}
use Rattle.kb_circuit.proofs.builder.Builder.input.Goals as goal
use Rattle.kb_circuit.proofs.builder.Builder.input.Goals.{in-Some, in-None}

pub invariant_of-self : goal.invariant_of-self
invariant_of-self c =
    elim c.match-add_variable.branch [
      | in-Some w ↦ circuit_with_variable c.self.inside.formula c.add_variable.new.self c.self.invariant w.in-Some.ensures.some.1 w.in-Some.ensures.clauses
      | in-None w ↦ circuit_same c.self.inside.formula c.add_variable.new.self c.self.invariant w.in-None.ensures.unchanged w.in-None.ensures.clauses
    ]

pub returns-clause-free : goal.returns-clause-free
returns-clause-free c =
    elim c.match-add_variable.branch [
      | in-Some w ↦ subst (λ r. IfOk r (λ l. (inputs : List ℕ) → IsFree inputs c.args.self.now → IsFree (l.variable ∷ inputs) c.add_variable.new.self)) (sym w.result-is)
          (λ inputs h. free_input inputs c.self.inside.formula c.add_variable.new.self w.in-Some.literal.variable c.self.invariant.within
          (ap (λ l. l.variable) w.in-Some.ensures.some.0 ∙ w.in-Some.ensures.some.1) w.in-Some.ensures.some.1 w.in-Some.ensures.clauses
          (subst (IsFree inputs) (sym c.self.view_is) h))
      | in-None w ↦ subst (λ r. IfOk r (λ l. (inputs : List ℕ) → IsFree inputs c.args.self.now → IsFree (l.variable ∷ inputs) c.add_variable.new.self)) (sym w.result-is) tt
    ]
