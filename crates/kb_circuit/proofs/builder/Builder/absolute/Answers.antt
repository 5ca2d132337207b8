use Rattle.std.proofs.Common.{ap, ◌∙◌, subst}
use Rattle.kb_chain.specs.Cnf.{IsWithin}
use Rattle.kb_chain.proofs.CnfLaws.{IsWithin_more}
use Rattle.kb_circuit.specs.Words.{bitwise}
use Rattle.kb_circuit.specs.Division.{sign_of, absolute}
use Rattle.kb_circuit.specs.declared.gate.Gate.TheVariants.{Mux}
use Rattle.kb_circuit.proofs.Computing.{if_ok}
use Rattle.kb_circuit.proofs.Dividing.{absolute_gives}
use Rattle.kb_circuit.proofs.DividingLoops.{sign_is}
use Rattle.kb_circuit.proofs.builder.Builder.absolute.Goals as goal

pub bitwise-requires-clause-right : goal.bitwise-requires-clause-right
bitwise-requires-clause-right c = IsWithin_more _ _ _ c.neg.ensures.grows c.requires

pub returns-clause-within : goal.returns-clause-within
unfolding absolute
returns-clause-within c =
    let of = c.args.of.now in
    if_ok c.bitwise.result c.bitwise.ensures.built (λ out built.
    subst (λ r. IsWithin r.1.vars r.0)
    (ap (λ r. bitwise (Mux (sign_of of)) r.0 of r.1) c.in_ok-negative.ensures.formula
    ∙ (ap (λ s. bitwise (Mux s) c.in_ok-negative.negative of c.neg.new.self) (sign_is of c.index-of-31.result c.told-of) ∙ built))
    (absolute_gives of c.args.self.now c.truth-truth.ensures.circuit.variable c.told-of c.requires).within)
