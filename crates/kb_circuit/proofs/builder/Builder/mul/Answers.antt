use Rattle.std.proofs.Common.{◌≡◌, ◌∙◌, sym, subst, arith}
use Rattle.kb_arith.specs.Word.{word_mul}
use Rattle.kb_chain.proofs.CnfLaws.{IsWithin_more}
use Rattle.kb_circuit.specs.Multiplication.{mul_word}
use Rattle.kb_circuit.specs.Meaning.{Computes}
use Rattle.kb_circuit.proofs.Multiplying.{mul_computes}
use Rattle.kb_circuit.proofs.MultiplyingLoops.{rows_begin, rows_next, rows_end}
use Rattle.kb_circuit.proofs.builder.Builder.mul.Goals as goal

pub loop-j-init : goal.loop-j-init
loop-j-init c =
    record {
      grows = c.row.ensures.grows;
      within = c.in_ok-sum.ensures.within;
      built = rows_begin c.args.left.now c.args.right.now c.index-right-0.result (c.in_ok-sum.sum, c.row.new.self) c.args.self.now (omega arith) c.in_ok-sum.ensures.built;
    }

pub with_row-requires-clause-left : goal.with_row-requires-clause-left
with_row-requires-clause-left c = IsWithin_more c.args.self.now.vars c.loop-j.self.vars c.args.left.now c.loop-j.invariant.grows c.requires.left

pub loop-j-preserved : goal.loop-j-preserved
loop-j-preserved c =
    record {
      grows = let a = c.loop-j.invariant.grows in let b = c.with_row.ensures.grows in omega arith;
      within = c.in_ok-sum-2.ensures.within;
      built = rows_next c.loop-j.j c.loop-j.sum c.args.left.now c.args.right.now c.index-right-j.result (c.in_ok-sum-2.sum, c.with_row.new.self) c.loop-j.self
          (omega arith) c.in_ok-sum-2.ensures.built
          ∙ c.loop-j.invariant.built;
    }

built : (c : goal.After-loop-j) → mul_word c.args.left.now c.args.right.now c.args.self.now ≡ (c.loop-j.sum, c.loop-j.self)
built c = sym c.loop-j.invariant.built ∙ rows_end c.loop-j.j c.loop-j.sum c.args.left.now c.args.right.now c.loop-j.self (omega arith)

pub returns-clause-formula : goal.returns-clause-formula
returns-clause-formula c = built c

pub returns-clause-value : goal.returns-clause-value
returns-clause-value c =
    let left = c.args.left.now in
    let right = c.args.right.now in
    subst (λ r. Computes word_mul left right c.args.self.now r.0 r.1) (built c)
    (mul_computes left right c.args.self.now c.truth-truth.ensures.circuit c.told-left c.told-right c.requires.left c.requires.right)
