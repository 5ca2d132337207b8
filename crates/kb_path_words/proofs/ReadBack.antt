-- The words of a line are read back: each is that of one thing alone.
use Rattle.std.proofs.Common.{◌≡◌, ℕ, suc, ◌<◌, ◌^◌, if◌then◌else◌, Option, None, Some, List, [], ◌∷◌, refl, ap, arith}
use Rattle.std.specs.Prelude.{ℤ, pos, negsuc, neg_ℤ, codes, ◌==◌, option_map}
use Rattle.std.specs.Option.{option_or}
use Rattle.std.specs.Str.{bytes_eq}
use Rattle.std.specs.Fmt.{decimal, signed_decimal}
use Rattle.std.specs.Int.RustNames.{FitsSigned}
use mir.Syntax.{w32}
use Rattle.std.proofs.lemmas.Int.{ints}
use Rattle.kb_grammar.specs.Numbers.{with_digits}
use Rattle.kb_grammar.proofs.NumberLaws.{decimal_read}
use Rattle.kb_heap.specs.declared.heap.Value.{Value}
use Rattle.kb_heap.specs.declared.heap.Value.TheVariants as values
use Rattle.kb_terms.specs.Op.{op_name}
use Rattle.kb_terms.specs.declared.op.Op.{Op}
use Rattle.kb_terms.specs.declared.op.Op.TheVariants.{Add, Sub, Mul, Div, Rem, Neg, Shl, Shr, Ushr, And, Or, Xor, Byte, Char, Short, Eq, Lt, Ult}
use Rattle.kb_terms.specs.declared.listing.Operand.{Operand}
use Rattle.kb_terms.specs.declared.listing.Operand.TheVariants.{Const, Var, Term as TermOperand}
use Rattle.kb_picture.specs.declared.path.Out.{Out}
use Rattle.kb_picture.specs.declared.path.Out.TheVariants as outs
use Rattle.kb_picture.specs.declared.picture.Seen.{Seen}
use Rattle.kb_picture.specs.declared.picture.Seen.TheVariants as seens
use Rattle.kb_picture.specs.declared.picture.Standing.{Standing}
use Rattle.kb_picture.specs.declared.picture.Standing.TheVariants as standings
use Rattle.kb_heap_words.proofs.WordLaws.{same_read}
use Rattle.kb_path_words.specs.Words.{seen_text, standing_text, operand_text, out_text, value_text}
use Rattle.kb_path_words.specs.Ranges.{IsSeenInRange, IsStandingInRange, IsOperandInRange, OutFits, ValueFits}

-- ---- numbers

abbrev number_of : List ℕ → Option ℕ
number_of text = with_digits 4294967295 0 text

number_read : (n : ℕ) → n < 2 ^ 32 → number_of (decimal n) ≡ Some n
number_read n small = decimal_read 4294967295 n (omega arith) (omega (arith, small))

abbrev minus_of : List ℕ → Option ℤ
minus_of [] = None
minus_of (first ∷ others) = if first == 45 then option_map (λ (n : ℕ). neg_ℤ (pos n)) (number_of others) else None

abbrev int_of : List ℕ → Option ℤ
int_of text = option_or (option_map (λ (n : ℕ). pos n) (number_of text)) (minus_of text)

int_read : (z : ℤ) → FitsSigned w32 z → int_of (signed_decimal z) ≡ Some z
int_read (pos n) fits = ap (λ (o : Option ℕ). option_or (option_map (λ (m : ℕ). pos m) o) (minus_of (decimal n))) (number_read n (omega (arith, ints, fits)))
int_read (negsuc n) fits = ap (λ (o : Option ℕ). option_map (λ (m : ℕ). neg_ℤ (pos m)) o) (number_read (suc n) (omega (arith, ints, fits)))

-- ---- operands and values

abbrev lettered_operand : List ℕ → Option Operand
lettered_operand [] = None
lettered_operand (first ∷ others) =
    if first == 118 then option_map (λ (n : ℕ). Var n) (number_of others)
    else if first == 116 then option_map (λ (n : ℕ). TermOperand n) (number_of others)
    else None

abbrev operand_of : List ℕ → Option Operand
operand_of text = option_or (option_map (λ (z : ℤ). Const z) (int_of text)) (lettered_operand text)

pub operand_read : (operand : Operand) → IsOperandInRange operand → operand_of (operand_text operand) ≡ Some operand
unfolding operand_text
operand_read (Const z) fits = ap (λ (o : Option ℤ). option_or (option_map (λ (y : ℤ). Const y) o) (lettered_operand (signed_decimal z))) (int_read z fits)
operand_read (Var n) fits = ap (λ (o : Option ℕ). option_map (λ (m : ℕ). Var m) o) (number_read n fits)
operand_read (TermOperand n) fits = ap (λ (o : Option ℕ). option_map (λ (m : ℕ). TermOperand m) o) (number_read n fits)

pub same_operand : (one other : Operand) → IsOperandInRange one → IsOperandInRange other → operand_text one ≡ operand_text other → one ≡ other
same_operand one other p q e = same_read operand_of one other (operand_text one) (operand_text other) (operand_read one p) (operand_read other q) e

abbrev other_out : List ℕ → Option Out
other_out [] = None
other_out (first ∷ others) =
    if first == 108 then option_map (λ (n : ℕ). outs.Loc n) (number_of others)
    else if first == 111 then option_map (λ (n : ℕ). outs.Obj n) (number_of others)
    else if first == 115 then option_map (λ (n : ℕ). outs.Literal n) (number_of others)
    else option_or (option_map (λ (n : ℕ). outs.New n) (number_of others)) (Some outs.Null)

abbrev out_of : List ℕ → Option Out
out_of text = option_or (option_map (λ (operand : Operand). outs.Int operand) (operand_of text)) (other_out text)

pub out_read : (out : Out) → OutFits out → out_of (out_text out) ≡ Some out
unfolding out_text
out_read (outs.Int operand) fits =
    ap (λ (o : Option Operand). option_or (option_map (λ (y : Operand). outs.Int y) o) (other_out (operand_text operand))) (operand_read operand fits)
out_read outs.Null fits = refl
out_read (outs.Loc n) fits = ap (λ (o : Option ℕ). option_map (λ (m : ℕ). outs.Loc m) o) (number_read n fits)
out_read (outs.Obj n) fits = ap (λ (o : Option ℕ). option_map (λ (m : ℕ). outs.Obj m) o) (number_read n fits)
out_read (outs.Literal n) fits = ap (λ (o : Option ℕ). option_map (λ (m : ℕ). outs.Literal m) o) (number_read n fits)
out_read (outs.New n) fits = ap (λ (o : Option ℕ). option_or (option_map (λ (m : ℕ). outs.New m) o) (Some outs.Null)) (number_read n fits)

pub same_out : (one other : Out) → OutFits one → OutFits other → out_text one ≡ out_text other → one ≡ other
same_out one other p q e = same_read out_of one other (out_text one) (out_text other) (out_read one p) (out_read other q) e

abbrev other_value : List ℕ → Option Value
other_value [] = None
other_value (first ∷ others) =
    if first == 105 then option_map (λ (n : ℕ). values.Ref n) (number_of others)
    else Some values.Null

abbrev value_of : List ℕ → Option Value
value_of text = option_or (option_map (λ (z : ℤ). values.Int z) (int_of text)) (other_value text)

pub value_read : (value : Value) → ValueFits value → value_of (value_text value) ≡ Some value
unfolding value_text
value_read (values.Int z) fits = ap (λ (o : Option ℤ). option_or (option_map (λ (y : ℤ). values.Int y) o) (other_value (signed_decimal z))) (int_read z fits)
value_read values.Null fits = refl
value_read (values.Ref n) fits = ap (λ (o : Option ℕ). option_map (λ (m : ℕ). values.Ref m) o) (number_read n fits)

pub same_value : (one other : Value) → ValueFits one → ValueFits other → value_text one ≡ value_text other → one ≡ other
same_value one other p q e = same_read value_of one other (value_text one) (value_text other) (value_read one p) (value_read other q) e

-- ---- what a slot is seen as, what a location is

abbrev seen_of : List ℕ → Option Seen
seen_of [] = None
seen_of (first ∷ others) =
    if first == 118 then option_map (λ (n : ℕ). seens.Int n) (number_of others)
    else if first == 108 then option_map (λ (n : ℕ). seens.Loc n) (number_of others)
    else if first == 111 then option_map (λ (n : ℕ). seens.Obj n) (number_of others)
    else if first == 110 then Some seens.Null
    else Some seens.Beyond

seen_read : (seen : Seen) → IsSeenInRange seen → seen_of (seen_text seen) ≡ Some seen
unfolding seen_text
seen_read (seens.Int n) fits = ap (λ (o : Option ℕ). option_map (λ (m : ℕ). seens.Int m) o) (number_read n fits)
seen_read seens.Null fits = refl
seen_read (seens.Loc n) fits = ap (λ (o : Option ℕ). option_map (λ (m : ℕ). seens.Loc m) o) (number_read n fits)
seen_read (seens.Obj n) fits = ap (λ (o : Option ℕ). option_map (λ (m : ℕ). seens.Obj m) o) (number_read n fits)
seen_read seens.Beyond fits = refl

pub same_seen : (one other : Seen) → IsSeenInRange one → IsSeenInRange other → seen_text one ≡ seen_text other → one ≡ other
same_seen one other p q e = same_read seen_of one other (seen_text one) (seen_text other) (seen_read one p) (seen_read other q) e

-- `oN`, `open` and `beyond`
abbrev standing_of : List ℕ → Option Standing
standing_of [] = None
standing_of (first ∷ others) =
    if first == 111 then option_or (option_map (λ (n : ℕ). standings.Obj n) (number_of others)) (Some standings.Open)
    else Some standings.Beyond

standing_read : (standing : Standing) → IsStandingInRange standing → standing_of (standing_text standing) ≡ Some standing
unfolding standing_text
standing_read standings.Open fits = refl
standing_read (standings.Obj n) fits = ap (λ (o : Option ℕ). option_or (option_map (λ (m : ℕ). standings.Obj m) o) (Some standings.Open)) (number_read n fits)
standing_read standings.Beyond fits = refl

pub same_standing : (one other : Standing) → IsStandingInRange one → IsStandingInRange other → standing_text one ≡ standing_text other → one ≡ other
same_standing one other p q e = same_read standing_of one other (standing_text one) (standing_text other) (standing_read one p) (standing_read other q) e

-- ---- names

abbrev op_of : List ℕ → Option Op
op_of text =
    if bytes_eq text (codes "add") then Some Add
    else if bytes_eq text (codes "sub") then Some Sub
    else if bytes_eq text (codes "mul") then Some Mul
    else if bytes_eq text (codes "div") then Some Div
    else if bytes_eq text (codes "rem") then Some Rem
    else if bytes_eq text (codes "neg") then Some Neg
    else if bytes_eq text (codes "shl") then Some Shl
    else if bytes_eq text (codes "shr") then Some Shr
    else if bytes_eq text (codes "ushr") then Some Ushr
    else if bytes_eq text (codes "and") then Some And
    else if bytes_eq text (codes "or") then Some Or
    else if bytes_eq text (codes "xor") then Some Xor
    else if bytes_eq text (codes "byte") then Some Byte
    else if bytes_eq text (codes "char") then Some Char
    else if bytes_eq text (codes "short") then Some Short
    else if bytes_eq text (codes "eq") then Some Eq
    else if bytes_eq text (codes "lt") then Some Lt
    else Some Ult

op_read : (op : Op) → op_of (op_name op) ≡ Some op
op_read Add = refl
op_read Sub = refl
op_read Mul = refl
op_read Div = refl
op_read Rem = refl
op_read Neg = refl
op_read Shl = refl
op_read Shr = refl
op_read Ushr = refl
op_read And = refl
op_read Or = refl
op_read Xor = refl
op_read Byte = refl
op_read Char = refl
op_read Short = refl
op_read Eq = refl
op_read Lt = refl
op_read Ult = refl

pub same_op : (one other : Op) → op_name one ≡ op_name other → one ≡ other
same_op one other e = same_read op_of one other (op_name one) (op_name other) (op_read one) (op_read other) e
