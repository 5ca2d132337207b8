use Rattle.std.proofs.Common.{◌∙◌, refl, ap, arith, map}
use Rattle.std.proofs.lemmas.List.{length-set}
use Rattle.kb_chain.specs.Literal.{literal}
use Rattle.kb_blast.specs.Conditions.{bits, constant_word}
use Rattle.kb_blast.proofs.Loops.{constant_next}
use Rattle.kb_blast.proofs.terms.constant_word.Goals as goal

pub loop-i-init : goal.loop-i-init
unfolding constant_word
loop-i-init c = record { long = refl; built = ap (λ n. map (literal 1) (bits 32 n)) c.cast_unsigned-rest.ensures }

pub loop-i-preserved : goal.loop-i-preserved
loop-i-preserved c =
    record {
      long = length-set c.loop-i.bits c.loop-i.i c.new.result ∙ c.loop-i.invariant.long;
      built = constant_next c.loop-i.bits c.loop-i.i c.loop-i.rest c.new.result c.loop-i-test.true (omega arith) c.new.ensures ∙ c.loop-i.invariant.built;
    }
