-- The ranges of the numbers in words: numbers of 32 bits, and ints of 32 bits with sign. They are those of the types of the code.
use Rattle.std.specs.Prelude.{ℕ, ◌<◌, ◌^◌, Option, Some, None}
use Rattle.std.specs.Int.{w32}
use Rattle.std.specs.Int.RustNames.{FitsSigned}
use Rattle.kb_heap.specs.declared.heap.Value.{Value}
use Rattle.kb_heap.specs.declared.heap.Value.TheVariants as values
use Rattle.kb_terms.specs.declared.listing.Operand.{Operand}
use Rattle.kb_terms.specs.declared.listing.Operand.TheVariants.{Const, Var, Term as TermOperand}
use Rattle.kb_terms.specs.declared.listing.Term.{Term}
use Rattle.kb_picture.specs.declared.path.Out.{Out}
use Rattle.kb_picture.specs.declared.path.Out.TheVariants as outs
use Rattle.kb_picture.specs.declared.picture.Length.{Length}
use Rattle.kb_picture.specs.declared.picture.Length.TheVariants.{Plain, Is, Above}
use Rattle.kb_picture.specs.declared.picture.Seen.{Seen}
use Rattle.kb_picture.specs.declared.picture.Seen.TheVariants as seens
use Rattle.kb_picture.specs.declared.picture.Standing.{Standing}
use Rattle.kb_picture.specs.declared.picture.Standing.TheVariants as standings

abbrev pub IsSmall : ℕ → Type 0
IsSmall n = n < 2 ^ 32

-- ---- what slots hold

abbrev pub IsSeenInRange : Seen → Type 0
IsSeenInRange (seens.Int number) = IsSmall number
IsSeenInRange seens.Null = Unit {0}
IsSeenInRange (seens.Loc number) = IsSmall number
IsSeenInRange (seens.Obj number) = IsSmall number
IsSeenInRange seens.Beyond = Unit {0}

abbrev pub IsStandingInRange : Standing → Type 0
IsStandingInRange standings.Open = Unit {0}
IsStandingInRange (standings.Obj number) = IsSmall number
IsStandingInRange standings.Beyond = Unit {0}

abbrev pub LengthFits : Length → Type 0
LengthFits Plain = Unit {0}
LengthFits (Is n) = IsSmall n
LengthFits (Above n) = IsSmall n

-- ---- terms and values

abbrev pub IsOperandInRange : Operand → Type 0
IsOperandInRange (Const z) = FitsSigned w32 z
IsOperandInRange (Var number) = IsSmall number
IsOperandInRange (TermOperand number) = IsSmall number

abbrev pub SecondFits : Option Operand → Type 0
SecondFits None = Unit {0}
SecondFits (Some operand) = IsOperandInRange operand

pub record IsTermInRange (term : Term) : Type 0 where
  pub left : IsOperandInRange term.left
  pub right : SecondFits term.right

abbrev pub OutFits : Out → Type 0
OutFits (outs.Int operand) = IsOperandInRange operand
OutFits outs.Null = Unit {0}
OutFits (outs.Loc number) = IsSmall number
OutFits (outs.Obj number) = IsSmall number
OutFits (outs.Literal number) = IsSmall number
OutFits (outs.New number) = IsSmall number

abbrev pub ValueFits : Value → Type 0
ValueFits (values.Int z) = FitsSigned w32 z
ValueFits values.Null = Unit {0}
ValueFits (values.Ref object) = IsSmall object
