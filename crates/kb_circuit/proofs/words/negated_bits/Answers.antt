use Rattle.std.proofs.Common.{◌∙◌, sym, arith}
use Rattle.std.proofs.lemmas.List.{length-set}
use Rattle.kb_circuit.proofs.Loops.{negated_next, negated_ends}
use Rattle.kb_circuit.proofs.words.negated_bits.Goals as goal

pub loop-i-preserved : goal.loop-i-preserved
loop-i-preserved c =
    record {
      long = length-set c.loop-i.out c.loop-i.i c.negated.result ∙ c.loop-i.invariant.long;
      negated = negated_next c.args.bits.now c.loop-i.out c.loop-i.i c.index-bits-i.result c.negated.result (omega arith) (omega arith) c.negated.ensures
          ∙ c.loop-i.invariant.negated;
    }

pub returns : goal.returns
returns c = sym (negated_ends c.args.bits.now c.loop-i.out c.loop-i.i (omega arith) (omega arith)) ∙ c.loop-i.invariant.negated
