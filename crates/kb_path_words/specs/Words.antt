-- How the parts of a line are written: what slots are seen to hold, operands, values. Each has one spelling. Most of them stand in
-- reports and in diagrams, the others in reports alone.
use Rattle.std.specs.Prelude.{ℕ, List, [], ◌++◌, codes, Option, Some, None}
use Rattle.std.specs.Fmt.{decimal, signed_decimal}
use Rattle.kb_heap.specs.declared.heap.Value.{Value}
use Rattle.kb_heap.specs.declared.heap.Value.TheVariants as values
use Rattle.kb_terms.specs.Op.{op_name}
use Rattle.kb_terms.specs.declared.listing.Operand.{Operand}
use Rattle.kb_terms.specs.declared.listing.Operand.TheVariants.{Const, Var, Term as TermOperand}
use Rattle.kb_terms.specs.declared.listing.Term.{Term}
use Rattle.kb_picture.specs.declared.path.Out.{Out}
use Rattle.kb_picture.specs.declared.path.Out.TheVariants as outs
use Rattle.kb_picture.specs.declared.picture.Length.{Length}
use Rattle.kb_picture.specs.declared.picture.Length.TheVariants.{Plain, Is, Above}
use Rattle.kb_picture.specs.declared.picture.Seen.{Seen}
use Rattle.kb_picture.specs.declared.picture.Seen.TheVariants as seens
use Rattle.kb_picture.specs.declared.picture.Standing.{Standing}
use Rattle.kb_picture.specs.declared.picture.Standing.TheVariants as standings

-- ---- what slots hold

unfoldable pub seen_text : Seen → List ℕ
seen_text (seens.Int number) = codes "v" ++ decimal number
seen_text seens.Null = codes "null"
seen_text (seens.Loc number) = codes "l" ++ decimal number
seen_text (seens.Obj number) = codes "o" ++ decimal number
seen_text seens.Beyond = codes "beyond"

unfoldable pub standing_text : Standing → List ℕ
standing_text standings.Open = codes "open"
standing_text (standings.Obj number) = codes "o" ++ decimal number
standing_text standings.Beyond = codes "beyond"

-- the length of an array, with a space before it; nothing else has one
unfoldable pub length_text : Length → List ℕ
length_text Plain = []
length_text (Is n) = codes " length " ++ decimal n
length_text (Above n) = codes " above " ++ decimal n

-- ---- terms and values

-- a constant, a variable or a term
unfoldable pub operand_text : Operand → List ℕ
operand_text (Const value) = signed_decimal value
operand_text (Var number) = codes "v" ++ decimal number
operand_text (TermOperand number) = codes "t" ++ decimal number

unfoldable pub second_text : Option Operand → List ℕ
second_text None = []
second_text (Some operand) = codes " " ++ operand_text operand

-- an operation and its operands, the left one first
unfoldable pub term_text : Term → List ℕ
term_text term = op_name term.op ++ (codes " " ++ (operand_text term.left ++ second_text term.right))

-- a stated value; a location that is bound comes in no well-formed path: it is stated as its object
unfoldable pub out_text : Out → List ℕ
out_text (outs.Int operand) = operand_text operand
out_text outs.Null = codes "null"
out_text (outs.Loc number) = codes "l" ++ decimal number
out_text (outs.Obj number) = codes "o" ++ decimal number
out_text (outs.Literal number) = codes "s" ++ decimal number
out_text (outs.New number) = codes "n" ++ decimal number

-- a value of an input: its references are of its own objects
unfoldable pub value_text : Value → List ℕ
value_text (values.Int z) = signed_decimal z
value_text values.Null = codes "null"
value_text (values.Ref object) = codes "i" ++ decimal object
