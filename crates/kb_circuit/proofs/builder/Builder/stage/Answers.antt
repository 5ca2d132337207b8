use Rattle.std.proofs.Common.{◌∙◌, sym, ap, subst, arith}
use Rattle.kb_chain.specs.Cnf.{IsWithin}
use Rattle.kb_circuit.specs.Words.{bitwise}
use Rattle.kb_circuit.specs.Shifts.{stage}
use Rattle.kb_circuit.specs.declared.gate.Gate.TheVariants.{Mux}
use Rattle.kb_circuit.proofs.Computing.{if_ok}
use Rattle.kb_circuit.proofs.Shifting.{within-moved, stage_gives}
use Rattle.kb_circuit.proofs.builder.Builder.stage.Goals as goal

pub bitwise-requires-clause-left : goal.bitwise-requires-clause-left
bitwise-requires-clause-left c =
    rw c.moved-moved.ensures (within-moved c.args.shift c.args.self.now.vars c.args.places c.args.bits.now c.truth-truth.ensures.circuit.variable c.requires.bits)

pub returns-clause-within : goal.returns-clause-within
unfolding stage
returns-clause-within c =
    if_ok c.bitwise.result c.bitwise.ensures.built (λ out built.
    subst (λ r. IsWithin r.1.vars r.0) (ap (λ m. bitwise (Mux c.args.by) m c.args.bits.now c.args.self.now) (sym c.moved-moved.ensures) ∙ built)
    (stage_gives c.args.shift c.args.places c.args.by c.args.bits.now c.args.self.now c.truth-truth.ensures.circuit.variable (omega arith) c.requires.by c.requires.bits).within)
