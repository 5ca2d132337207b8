-- The circuit of each operation computes it.
use Rattle.std.proofs.Common.{◌≡◌, ℤ, pos, List, length, get_or, refl, sym, ◌∙◌}
use Rattle.kb_arith.specs.Word.{word_neg}
use Rattle.kb_chain.specs.Literal.{Literal}
use Rattle.kb_chain.specs.Cnf.{Cnf}
use Rattle.kb_circuit.specs.Circuit.{falsity, IsCircuit, BeginsTrue}
use Rattle.kb_circuit.specs.Words.{and_word, or_word, xor_word, add_word, sub_word, neg_word, eq_word, lt_word, ult_word}
use Rattle.kb_circuit.specs.Shifts.{shl_word, shr_word, ushr_word}
use Rattle.kb_circuit.specs.Multiplication.{mul_word}
use Rattle.kb_circuit.specs.Division.{div_word, rem_word}
use Rattle.kb_circuit.specs.Meaning.{int_under, Defines, Computes}
use Rattle.kb_circuit.proofs.Beginning.{circuit-computed, keeps-add, keeps-sub, keeps-neg, keeps-and_word, keeps-or_word, keeps-xor_word, keeps-eq, keeps-lt, keeps-ult, keeps-shl, keeps-shr, keeps-ushr}
use Rattle.kb_circuit.proofs.Lengths.{length-add, length-sub, length-neg, length-and, length-or, length-xor, length-eq, length-lt, length-ult, length-shl, length-shr, length-ushr}
use Rattle.kb_circuit.proofs.Computing.{add_computes, sub_computes, neg_computes, ult_computes}
use Rattle.kb_circuit.proofs.Comparing.{eq_computes, lt_computes}
use Rattle.kb_circuit.proofs.Bitwise.{and_computes, or_computes, xor_computes}
use Rattle.kb_circuit.proofs.ShiftWords.{shl_computes, shr_computes, ushr_computes}
use Rattle.kb_circuit.proofs.Multiplying.{mul_computes, length-mul, keeps-mul}
use Rattle.kb_circuit.proofs.Dividing.{div_computes, rem_computes}
use Rattle.kb_circuit.proofs.DividingWords.{keeps-div, keeps-rem, length-div, length-rem}
use Rattle.kb_circuit.proofs.Defining.{Defines-none, Defines-known}
use Rattle.kb_terms.specs.declared.op.Op.{Op}
use Rattle.kb_terms.specs.declared.op.Op.TheVariants.{Add, Sub, Mul, Div, Rem, Neg, Shl, Shr, Ushr, And, Or, Xor, Byte, Char, Short, Eq, Lt, Ult}
use Rattle.kb_terms.specs.Op.{op_value}
use Rattle.kb_blast.specs.Conditions.{op_word, narrowed}
use Rattle.kb_blast.proofs.Ints.{IsWord}
use Rattle.kb_blast.proofs.Narrowing.{Narrows, byte_narrows, char_narrows, short_narrows}

-- a circuit behind a formula gives the operation of two words
pub record Operates (op : Op) (left right : List Literal) (f : Cnf) (out : List Literal × Cnf) : Type 0 where
  pub circuit : IsCircuit out.1
  pub word : IsWord out.1.vars out.0
  pub defines : Defines f out.1 (λ v. int_under v out.0 ≡ op_value op (int_under v left) (int_under v right))

from_computes : (op : Op) (left right : List Literal) (f : Cnf) (out : List Literal × Cnf) → IsCircuit f → Computes (op_value op) left right f out.0 out.1
    → length out.0 ≡ 32 → (BeginsTrue f.clauses → BeginsTrue out.1.clauses) → Operates op left right f out
from_computes op left right f out circuit c long keeps = record {
  circuit = circuit-computed (op_value op) left right f out.0 out.1 circuit c (keeps circuit.first);
  word = record { long = long; within = c.within };
  defines = c.defines;
}

from_narrows : (op : Op) (left right : List Literal) (f : Cnf) (out : List Literal) → IsCircuit f
    → Narrows f left out (λ a. op_value op a (pos 0)) → ((a b : ℤ) → op_value op a (pos 0) ≡ op_value op a b) → Operates op left right f (out, f)
from_narrows op left right f out circuit n same = record {
  circuit = circuit;
  word = n.word;
  defines = Defines-known _ (Defines-none f) (λ v s m. n.value v s ∙ same (int_under v left) (int_under v right));
}

pub op_operates : (op : Op) (left right : List Literal) (f : Cnf) → IsCircuit f → IsWord f.vars left → IsWord f.vars right
    → Operates op left right f (op_word op left right f)
unfolding op_word
op_operates Add left right f c l r =
    from_computes Add left right f (add_word left right f) c (add_computes left right f c l.long r.long l.within r.within)
    (length-add left right f (l.long ∙ sym r.long) ∙ l.long) (keeps-add left right f)
op_operates Sub left right f c l r =
    from_computes Sub left right f (sub_word left right f) c (sub_computes left right f c l.long r.long l.within r.within)
    (length-sub left right f (l.long ∙ sym r.long) ∙ l.long) (keeps-sub left right f)
op_operates Mul left right f c l r =
    from_computes Mul left right f (mul_word left right f) c (mul_computes left right f c l.long r.long l.within r.within)
    (length-mul left right f l.long r.long l.within r.within c.variable) (keeps-mul left right f)
op_operates Div left right f c l r =
    from_computes Div left right f (div_word left right f) c (div_computes left right f c l.long r.long l.within r.within) (length-div left right f l.long r.long) (keeps-div left right f)
op_operates Rem left right f c l r =
    from_computes Rem left right f (rem_word left right f) c (rem_computes left right f c l.long r.long l.within r.within) (length-rem left right f l.long r.long) (keeps-rem left right f)
op_operates Neg left right f c l r =
    let n : Computes (λ x _. word_neg x) left left f (neg_word left f).0 (neg_word left f).1 = neg_computes left f c l.long l.within in
    record {
      circuit = circuit-computed (λ x _. word_neg x) left left f (neg_word left f).0 (neg_word left f).1 c n (keeps-neg left f c.first);
      word = record { long = length-neg left f l.long; within = n.within };
      defines = n.defines;
    }
op_operates Shl left right f c l r =
    from_computes Shl left right f (shl_word left right f) c (shl_computes left right f c l.long r.long l.within r.within) (length-shl left right f l.long) (keeps-shl left right f)
op_operates Shr left right f c l r =
    from_computes Shr left right f (shr_word left right f) c (shr_computes left right f c l.long r.long l.within r.within) (length-shr left right f l.long) (keeps-shr left right f)
op_operates Ushr left right f c l r =
    from_computes Ushr left right f (ushr_word left right f) c (ushr_computes left right f c l.long r.long l.within r.within) (length-ushr left right f l.long) (keeps-ushr left right f)
op_operates And left right f c l r =
    from_computes And left right f (and_word left right f) c (and_computes left right f c l.long r.long l.within r.within)
    (length-and left right f (l.long ∙ sym r.long) ∙ l.long) (keeps-and_word left right f)
op_operates Or left right f c l r =
    from_computes Or left right f (or_word left right f) c (or_computes left right f c l.long r.long l.within r.within)
    (length-or left right f (l.long ∙ sym r.long) ∙ l.long) (keeps-or_word left right f)
op_operates Xor left right f c l r =
    from_computes Xor left right f (xor_word left right f) c (xor_computes left right f c l.long r.long l.within r.within)
    (length-xor left right f (l.long ∙ sym r.long) ∙ l.long) (keeps-xor_word left right f)
op_operates Eq left right f c l r =
    from_computes Eq left right f (eq_word left right f) c (eq_computes left right f c l.long r.long l.within r.within) (length-eq left right f) (keeps-eq left right f)
op_operates Lt left right f c l r =
    from_computes Lt left right f (lt_word left right f) c (lt_computes left right f c l.long r.long l.within r.within) (length-lt left right f) (keeps-lt left right f)
op_operates Ult left right f c l r =
    from_computes Ult left right f (ult_word left right f) c (ult_computes left right f c l.long r.long l.within r.within) (length-ult left right f) (keeps-ult left right f)
op_operates Byte left right f c l r = from_narrows Byte left right f (narrowed 8 (get_or left 7 falsity) left) c (byte_narrows left f c l) (λ x y. refl)
op_operates Char left right f c l r = from_narrows Char left right f (narrowed 16 falsity left) c (char_narrows left f c l) (λ x y. refl)
op_operates Short left right f c l r = from_narrows Short left right f (narrowed 16 (get_or left 15 falsity) left) c (short_narrows left f c l) (λ x y. refl)
