-- What the words of a line lack, and terms: each text is that of one term alone.
use Rattle.std.proofs.Common.{◌≡◌, ℕ, true, List, ◌++◌, Option, Some, None, refl, sym, ap, ◌∙◌, append-nil}
use Rattle.std.specs.Prelude.{codes}
use Rattle.std.specs.Fmt.{decimal}
use Rattle.kb_grammar.specs.Lines.{Lacks}
use Rattle.kb_grammar.proofs.WordLaws.{Lacks-++, same_cut, not_lacking}
use Rattle.kb_heap.specs.declared.heap.Value.{Value}
use Rattle.kb_heap.specs.declared.heap.Value.TheVariants as values
use Rattle.kb_heap_words.proofs.Lacking.{IsGap, digits_lack, signed_lacks, are_high, high_lacks, space}
use Rattle.kb_terms.specs.Op.{op_name}
use Rattle.kb_terms.specs.declared.op.Op.{Op}
use Rattle.kb_terms.specs.declared.op.Op.TheVariants.{Add, Sub, Mul, Div, Rem, Neg, Shl, Shr, Ushr, And, Or, Xor, Byte, Char, Short, Eq, Lt, Ult}
use Rattle.kb_terms.specs.declared.listing.Operand.{Operand}
use Rattle.kb_terms.specs.declared.listing.Operand.TheVariants.{Const, Var, Term as TermOperand}
use Rattle.kb_terms.specs.declared.listing.Term.{Term}
use Rattle.kb_picture.specs.declared.path.Out.{Out}
use Rattle.kb_picture.specs.declared.path.Out.TheVariants as outs
use Rattle.kb_picture.specs.declared.picture.Seen.{Seen}
use Rattle.kb_picture.specs.declared.picture.Seen.TheVariants as seens
use Rattle.kb_picture.specs.declared.picture.Standing.{Standing}
use Rattle.kb_picture.specs.declared.picture.Standing.TheVariants as standings
use Rattle.kb_path_words.specs.Words.{seen_text, standing_text, operand_text, second_text, term_text, out_text, value_text}
use Rattle.kb_path_words.specs.Ranges.{IsSmall, IsSeenInRange, IsStandingInRange, IsOperandInRange, SecondFits, OutFits, ValueFits, IsTermInRange}
use Rattle.kb_path_words.proofs.ReadBack.{same_operand, same_op}

-- ---- what the words lack

op_high : (op : Op) → are_high (op_name op) ≡ true
op_high Add = refl
op_high Sub = refl
op_high Mul = refl
op_high Div = refl
op_high Rem = refl
op_high Neg = refl
op_high Shl = refl
op_high Shr = refl
op_high Ushr = refl
op_high And = refl
op_high Or = refl
op_high Xor = refl
op_high Byte = refl
op_high Char = refl
op_high Short = refl
op_high Eq = refl
op_high Lt = refl
op_high Ult = refl

module _ (byte : ℕ) (gap : IsGap byte) where
  lettered : (word : List ℕ) (number : ℕ) → are_high word ≡ true → IsSmall number → Lacks byte (word ++ decimal number)
  lettered word number high small = Lacks-++ byte word (decimal number) (high_lacks byte gap.low word high) (digits_lack byte number gap.apart small)

  pub op_lacks : (op : Op) → Lacks byte (op_name op)
  op_lacks op = high_lacks byte gap.low (op_name op) (op_high op)

  pub operand_lacks : (operand : Operand) → IsOperandInRange operand → Lacks byte (operand_text operand)
  unfolding operand_text
  operand_lacks (Const z) fits = signed_lacks byte z gap.apart fits
  operand_lacks (Var number) fits = lettered (codes "v") number refl fits
  operand_lacks (TermOperand number) fits = lettered (codes "t") number refl fits

  pub out_lacks : (out : Out) → OutFits out → Lacks byte (out_text out)
  unfolding out_text
  out_lacks (outs.Int operand) fits = operand_lacks operand fits
  out_lacks outs.Null fits = high_lacks byte gap.low (codes "null") refl
  out_lacks (outs.Loc number) fits = lettered (codes "l") number refl fits
  out_lacks (outs.Obj number) fits = lettered (codes "o") number refl fits
  out_lacks (outs.Literal number) fits = lettered (codes "s") number refl fits
  out_lacks (outs.New number) fits = lettered (codes "n") number refl fits

  pub value_lacks : (value : Value) → ValueFits value → Lacks byte (value_text value)
  unfolding value_text
  value_lacks (values.Int z) fits = signed_lacks byte z gap.apart fits
  value_lacks values.Null fits = high_lacks byte gap.low (codes "null") refl
  value_lacks (values.Ref object) fits = lettered (codes "i") object refl fits

  pub seen_lacks : (seen : Seen) → IsSeenInRange seen → Lacks byte (seen_text seen)
  unfolding seen_text
  seen_lacks (seens.Int number) fits = lettered (codes "v") number refl fits
  seen_lacks seens.Null fits = high_lacks byte gap.low (codes "null") refl
  seen_lacks (seens.Loc number) fits = lettered (codes "l") number refl fits
  seen_lacks (seens.Obj number) fits = lettered (codes "o") number refl fits
  seen_lacks seens.Beyond fits = high_lacks byte gap.low (codes "beyond") refl

  pub standing_lacks : (standing : Standing) → IsStandingInRange standing → Lacks byte (standing_text standing)
  unfolding standing_text
  standing_lacks standings.Open fits = high_lacks byte gap.low (codes "open") refl
  standing_lacks (standings.Obj number) fits = lettered (codes "o") number refl fits
  standing_lacks standings.Beyond fits = high_lacks byte gap.low (codes "beyond") refl

-- ---- terms

same_operands : (left first : Operand) (right second : Option Operand) → IsOperandInRange left → IsOperandInRange first → SecondFits right → SecondFits second
    → operand_text left ++ second_text right ≡ operand_text first ++ second_text second → (left ≡ first) × (right ≡ second)
unfolding second_text
same_operands left first None None p q h k e = (same_operand left first p q (sym (append-nil (operand_text left)) ∙ e ∙ append-nil (operand_text first)), refl)
same_operands left first None (Some second) p q h k e =
    absurd (not_lacking 32 (operand_text first) (operand_text second) (operand_text left) (operand_lacks 32 space left p) (sym e ∙ append-nil (operand_text left)))
same_operands left first (Some right) None p q h k e =
    absurd (not_lacking 32 (operand_text left) (operand_text right) (operand_text first) (operand_lacks 32 space first q) (e ∙ append-nil (operand_text first)))
same_operands left first (Some right) (Some second) p q h k e =
    let parts = same_cut 32 (operand_text left) (operand_text first) (operand_text right) (operand_text second) (operand_lacks 32 space left p) (operand_lacks 32 space first q) e in
    (same_operand left first p q parts.0, ap (λ (o : Operand). Some o) (same_operand right second h k parts.1))

pub same_term : (one other : Term) → IsTermInRange one → IsTermInRange other → term_text one ≡ term_text other → one ≡ other
unfolding term_text
same_term one other p q e =
    let parts = same_cut 32 (op_name one.op) (op_name other.op) (operand_text one.left ++ second_text one.right) (operand_text other.left ++ second_text other.right) (op_lacks 32 space one.op) (op_lacks 32 space other.op) e in
    let op = same_op one.op other.op parts.0 in
    let operands = same_operands one.left other.left one.right other.right p.left q.left p.right q.right parts.1 in
    λ i. record { op = op i; left = operands.0 i; right = operands.1 i }
