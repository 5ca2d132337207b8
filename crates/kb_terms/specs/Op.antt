-- The operations of terms: how many operands each has, what it gives, and its name.
use Rattle.std.specs.Prelude.{ℕ, ℤ, Bool, true, false, List, codes}
use Rattle.kb_arith.specs.Word.{word_add, word_sub, word_mul, word_div, word_rem, word_neg, word_shl, word_shr, word_ushr, word_and, word_or, word_xor, word_byte, word_char, word_short, word_eq, word_lt, word_ult}
use Rattle.kb_terms.specs.declared.op.Op.{Op}
use Rattle.kb_terms.specs.declared.op.Op.TheVariants.{Add, Sub, Mul, Div, Rem, Neg, Shl, Shr, Ushr, And, Or, Xor, Byte, Char, Short, Eq, Lt, Ult}

-- whether an operation has two operands
abbrev pub is_binary : Op → Bool
is_binary Neg = false
is_binary Byte = false
is_binary Char = false
is_binary Short = false
is_binary _ = true

-- what an operation gives at the values of its operands; one with a single operand leaves the second aside
abbrev pub op_value : Op → ℤ → ℤ → ℤ
op_value Add a b = word_add a b
op_value Sub a b = word_sub a b
op_value Mul a b = word_mul a b
op_value Div a b = word_div a b
op_value Rem a b = word_rem a b
op_value Neg a b = word_neg a
op_value Shl a b = word_shl a b
op_value Shr a b = word_shr a b
op_value Ushr a b = word_ushr a b
op_value And a b = word_and a b
op_value Or a b = word_or a b
op_value Xor a b = word_xor a b
op_value Byte a b = word_byte a
op_value Char a b = word_char a
op_value Short a b = word_short a
op_value Eq a b = word_eq a b
op_value Lt a b = word_lt a b
op_value Ult a b = word_ult a b

-- an operation's name in texts
abbrev pub op_name : Op → List ℕ
op_name Add = codes "add"
op_name Sub = codes "sub"
op_name Mul = codes "mul"
op_name Div = codes "div"
op_name Rem = codes "rem"
op_name Neg = codes "neg"
op_name Shl = codes "shl"
op_name Shr = codes "shr"
op_name Ushr = codes "ushr"
op_name And = codes "and"
op_name Or = codes "or"
op_name Xor = codes "xor"
op_name Byte = codes "byte"
op_name Char = codes "char"
op_name Short = codes "short"
op_name Eq = codes "eq"
op_name Lt = codes "lt"
op_name Ult = codes "ult"
