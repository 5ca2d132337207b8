-- Which texts the readers take for which words: each the one spelling of a word whose numbers are in their ranges.
use Rattle.std.specs.Prelude.{◌≡◌, ◌⊎◌, ℕ, List, [], ◌∷◌, ◌++◌, codes, Option, None, Some}
use Rattle.std.specs.List.{AllByRecursion}
use Rattle.kb_heap.specs.declared.bounds.Bound.{Bound}
use Rattle.kb_heap.specs.declared.ending.Place.{Place}
use Rattle.kb_heap.specs.declared.heap.Value.{Value}
use Rattle.kb_heap_words.specs.Words.{place_text, bound_name, IsPlace}
use Rattle.kb_terms.specs.Op.{op_name}
use Rattle.kb_terms.specs.declared.op.Op.{Op}
use Rattle.kb_terms.specs.declared.listing.Operand.{Operand}
use Rattle.kb_terms.specs.declared.listing.Term.{Term}
use Rattle.kb_picture.specs.declared.path.Out.{Out}
use Rattle.kb_picture.specs.declared.path.SymEnding.{SymEnding}
use Rattle.kb_picture.specs.declared.path.SymEnding.TheVariants.{Returned, Threw, IllTyped}
use Rattle.kb_picture.specs.declared.picture.Length.{Length}
use Rattle.kb_picture.specs.declared.picture.Seen.{Seen}
use Rattle.kb_picture.specs.declared.picture.Standing.{Standing}
use Rattle.kb_path_words.specs.Words.{seen_text, standing_text, length_text, operand_text, second_text, term_text, out_text, value_text}
use Rattle.kb_path_words.specs.Lines.{further_decisions, decisions_text, ending_line}
use Rattle.kb_path_words.specs.Ranges.{IsSmall, IsSeenInRange, IsStandingInRange, LengthFits, IsOperandInRange, SecondFits, IsTermInRange, OutFits, ValueFits}

-- ---- what slots hold

abbrev pub SpellsSeen : Seen → List ℕ → Type 0
SpellsSeen seen text = IsSeenInRange seen × (text ≡ seen_text seen)

abbrev pub SpellsStanding : Standing → List ℕ → Type 0
SpellsStanding standing text = IsStandingInRange standing × (text ≡ standing_text standing)

abbrev pub SpellsLength : Length → List ℕ → Type 0
SpellsLength length text = LengthFits length × (text ≡ length_text length)

-- ---- terms and values

-- the operation is one of these
abbrev pub IsAmong : Op → List Op → Type 0
IsAmong op [] = ⊥
IsAmong op (first ∷ others) = (op ≡ first) ⊎ IsAmong op others

abbrev pub SpellsOp : Op → List ℕ → Type 0
SpellsOp op text = text ≡ op_name op

abbrev pub SpellsOperand : Operand → List ℕ → Type 0
SpellsOperand operand text = IsOperandInRange operand × (text ≡ operand_text operand)

-- an operand, and another one behind a space if there is one
abbrev pub operands_text : Operand × Option Operand → List ℕ
operands_text operands = operand_text operands.0 ++ second_text operands.1

abbrev pub SpellsOperands : Operand × Option Operand → List ℕ → Type 0
SpellsOperands operands text = (IsOperandInRange operands.0 × SecondFits operands.1) × (text ≡ operands_text operands)

abbrev pub SpellsTerm : Term → List ℕ → Type 0
SpellsTerm term text = IsTermInRange term × (text ≡ term_text term)

abbrev pub SpellsOut : Out → List ℕ → Type 0
SpellsOut out text = OutFits out × (text ≡ out_text out)

abbrev pub SpellsValue : Value → List ℕ → Type 0
SpellsValue value text = ValueFits value × (text ≡ value_text value)

-- ---- decisions

-- each of them with a dot before it
abbrev pub SpellsFurther : List ℕ → List ℕ → Type 0
SpellsFurther decisions text = AllByRecursion IsSmall decisions × (text ≡ further_decisions decisions)

abbrev pub SpellsDecisions : List ℕ → List ℕ → Type 0
SpellsDecisions decisions text = AllByRecursion IsSmall decisions × (text ≡ decisions_text decisions)

-- ---- the first line of a leaf

abbrev pub SpellsOutBehind : List ℕ → Out → List ℕ → Type 0
SpellsOutBehind front out text = OutFits out × (text ≡ front ++ out_text out)

-- an ending that names no method, or whose method has a text
abbrev pub IsEnding : SymEnding → Type 0
IsEnding (Returned None) = Unit {0}
IsEnding (Returned (Some value)) = OutFits value
IsEnding (Threw value) = OutFits value
IsEnding (IllTyped place) = IsPlace place

abbrev pub SpellsEnding : SymEnding → List ℕ → Type 0
SpellsEnding ending text = IsEnding ending × (text ≡ ending_line ending)

-- the same of an ending that names no method, and of its method
abbrev pub IsPlain : SymEnding → Type 0
IsPlain (Returned value) = Unit {0}
IsPlain (Threw value) = Unit {0}
IsPlain (IllTyped place) = ⊥

abbrev pub SpellsPlainEnding : SymEnding → List ℕ → Type 0
SpellsPlainEnding ending text = IsPlain ending × SpellsEnding ending text

abbrev pub SpellsEndingPlace : Place → List ℕ → Type 0
SpellsEndingPlace place text = IsPlace place × (text ≡ codes "illtyped " ++ place_text place)

-- a path that is cut: the line of its leaf whatever its input
abbrev pub SpellsCut : Bound → List ℕ → Type 0
SpellsCut bound text = text ≡ codes "cut " ++ bound_name bound
