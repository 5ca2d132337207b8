-- The value of every term is an int, where the inputs are.
use Rattle.std.proofs.Common.{◌≡◌, ℕ, suc, ℤ, List, [], ◌∷◌, fold, slice_get, Some, refl, ap, FitsSigned, w32}
use Rattle.kb_arith.specs.Word.{AreInts}
use Rattle.kb_arith.proofs.Laws.{AreInts-append, AreInts-get_or, word_add-fits, word_sub-fits, word_mul-fits, word_div-fits, word_rem-fits, word_neg-fits, word_shl-fits, word_shr-fits, word_ushr-fits, word_and-fits, word_or-fits, word_xor-fits, word_byte-fits, word_char-fits, word_short-fits, word_eq-fits, word_lt-fits, word_ult-fits}
use Rattle.kb_terms.specs.declared.op.Op.{Op}
use Rattle.kb_terms.specs.declared.op.Op.TheVariants.{Add, Sub, Mul, Div, Rem, Neg, Shl, Shr, Ushr, And, Or, Xor, Byte, Char, Short, Eq, Lt, Ult}
use Rattle.kb_terms.specs.declared.node.TermId.{TermId}
use Rattle.kb_terms.specs.declared.node.Node.{Node}
use Rattle.kb_terms.specs.declared.node.Node.TheVariants.{Const, Var, Op as Apply}
use Rattle.kb_terms.specs.Op.{op_value}
use Rattle.kb_terms.specs.Terms.{IsPool, node_value, values, value_of}
use Rattle.kb_terms.proofs.Values.{with_value}

pub op_value-fits : (op : Op) (a b : ℤ) → FitsSigned w32 a → FitsSigned w32 (op_value op a b)
op_value-fits Add a b f = word_add-fits a b
op_value-fits Sub a b f = word_sub-fits a b
op_value-fits Mul a b f = word_mul-fits a b
op_value-fits Div a b f = word_div-fits a b
op_value-fits Rem a b f = word_rem-fits a b f
op_value-fits Neg a b f = word_neg-fits a
op_value-fits Shl a b f = word_shl-fits a b
op_value-fits Shr a b f = word_shr-fits a b f
op_value-fits Ushr a b f = word_ushr-fits a b
op_value-fits And a b f = word_and-fits a b
op_value-fits Or a b f = word_or-fits a b
op_value-fits Xor a b f = word_xor-fits a b
op_value-fits Byte a b f = word_byte-fits a
op_value-fits Char a b f = word_char-fits a
op_value-fits Short a b f = word_short-fits a
op_value-fits Eq a b f = word_eq-fits a b
op_value-fits Lt a b f = word_lt-fits a b
op_value-fits Ult a b f = word_ult-fits a b

-- the constants of some nodes are ints
ConstantsFit : List Node → Type 0
ConstantsFit nodes = (i : ℕ) (c : ℤ) → slice_get nodes i ≡ Some (Const c) → FitsSigned w32 c

node_value-fits : (inputs done : List ℤ) (node : Node) → AreInts inputs → AreInts done → ((c : ℤ) → node ≡ Const c → FitsSigned w32 c) → FitsSigned w32 (node_value inputs done node)
node_value-fits inputs done (Const c) f g k = k c refl
node_value-fits inputs done (Var v kind) f g k = AreInts-get_or inputs v f
node_value-fits inputs done (Apply op left right) f g k = op_value-fits op _ _ (AreInts-get_or done left.0 g)

run-fits : (inputs done : List ℤ) (nodes : List Node) → AreInts inputs → AreInts done → ConstantsFit nodes → AreInts (fold (with_value inputs) done nodes)
unfolding ConstantsFit
run-fits inputs done [] f g k = g
run-fits inputs done (n ∷ ns) f g k =
    let value : FitsSigned w32 (node_value inputs done n) = node_value-fits inputs done n f g (λ c e. k 0 c (ap Some e)) in
    run-fits inputs (with_value inputs done n) ns f (AreInts-append done (node_value inputs done n ∷ []) g (value, tt)) (λ i c e. k (suc i) c e)

pub values-fits : (inputs : List ℤ) (nodes : List Node) → IsPool nodes → AreInts inputs → AreInts (values inputs nodes)
unfolding values ConstantsFit
values-fits inputs nodes formed f = run-fits inputs [] nodes f tt (λ i c e. formed.fits i (Const c) e)

pub value_of-fits : (nodes : List Node) (t : TermId) (inputs : List ℤ) → IsPool nodes → AreInts inputs → FitsSigned w32 (value_of nodes t inputs)
unfolding value_of
value_of-fits nodes t inputs formed f = AreInts-get_or (values inputs nodes) t.0 (values-fits inputs nodes formed f)
