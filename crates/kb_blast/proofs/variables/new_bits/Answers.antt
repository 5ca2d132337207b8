use Rattle.std.proofs.Common.{◌≡◌, ◌+◌, ◌∙◌, sym, ap, arith}
use Rattle.std.proofs.lemmas.List.{length-set}
use Rattle.kb_chain.proofs.CnfLaws.{IsWithin_more}
use Rattle.kb_circuit.proofs.Loops.{within-set}
use Rattle.kb_blast.proofs.Loops.{new_bits_next, new_bits_ends}
use Rattle.kb_blast.proofs.variables.new_bits.Goals as goal

pub loop-i-preserved : goal.loop-i-preserved
loop-i-preserved c =
    let before = c.loop-i.builder.vars in
    let after = c.input.new.self.vars in
    let grows : after ≡ before + 1 = ap (λ f. f.vars) c.in_ok-bits.ensures.formula in
    let new : c.in_ok-bits.field-0.variable ≡ before + 1 = ap (λ l. l.variable) c.in_ok-bits.ensures.literal in
    record {
      long = length-set c.loop-i.bits c.loop-i.i c.in_ok-bits.field-0 ∙ c.loop-i.invariant.long;
      within = within-set after c.loop-i.bits c.loop-i.i c.in_ok-bits.field-0 (omega arith) (IsWithin_more before after c.loop-i.bits (omega arith) c.loop-i.invariant.within);
      built = new_bits_next c.loop-i.bits c.loop-i.i c.in_ok-bits.field-0 c.loop-i.builder c.input.new.self c.loop-i-test.true (omega (arith, c.loop-i.invariant.long))
          c.in_ok-bits.ensures.literal c.in_ok-bits.ensures.formula
          ∙ c.loop-i.invariant.built;
      grows = let a = c.loop-i.invariant.grows in omega arith;
    }

pub returns-clause-built : goal.returns-clause-built
returns-clause-built c =
    sym c.loop-i.invariant.built ∙ new_bits_ends c.loop-i.bits c.loop-i.i c.loop-i.builder c.loop-i-test.false (omega (arith, c.loop-i.invariant.long, c.loop-i-test.false))
