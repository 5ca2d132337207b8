-- How a method's code spells its instructions (The Java Virtual Machine Specification, Java SE 8 Edition, sections 4.7.3
-- and 6.5). `Forms` has the opcodes.
use Rattle.std.specs.Prelude.{◌≡◌, ℕ, ◌+◌, ◌%◌, ◌<◌, ◌≤◌, ◌⊎◌, ℤ, pos, ◌+ℤ◌, ◌-ℤ◌, ◌<ℤ◌, Bool, List, [], ◌∷◌, map, length, Option, Some, None, IsTrue, nat_eq}
use Rattle.std.specs.Int.{w8, w16, w32, cast_signed}
use Rattle.std.specs.List.{AllByRecursion, list_any}
use Rattle.kb_grammar.specs.Grammar.{Piece, ◌⊳◌, IsNothing, Never, IsRunOf, IsNumber, IsAny, Each}
use Rattle.kb_code.specs.declared.instruction.Instr.{Instr}
use Rattle.kb_code.specs.declared.instruction.Instr.TheVariants as instrs
use Rattle.kb_code.specs.declared.form.Form.{Form}
use Rattle.kb_code.specs.declared.form.Form.TheVariants as forms
use Rattle.kb_code.specs.declared.form.WideForm.{WideForm}
use Rattle.kb_code.specs.declared.form.WideForm.TheVariants as wides
use Rattle.kb_code.specs.declared.form.Loose.{Loose}
use Rattle.kb_code.specs.declared.form.Loose.TheVariants as looses
use Rattle.kb_code.specs.declared.listing.Listing.{Listing}
use Rattle.kb_code.specs.declared.listing.Handler.{Handler}
use Rattle.kb_code.specs.Forms.{form_of, wide_form_of, local_instr, entry_instr, branch_instr}

-- ---- numbers

abbrev pub IsU1 : ℕ → Piece
IsU1 n = IsNumber 1 n

abbrev pub IsU2 : ℕ → Piece
IsU2 n = IsNumber 2 n

-- an int with its sign, in one, two or four bytes
abbrev pub IsByte : ℤ → Piece
IsByte z at bytes = (n : ℕ) × (z ≡ cast_signed w8 n) × IsNumber 1 n at bytes

abbrev pub IsShort : ℤ → Piece
IsShort z at bytes = (n : ℕ) × (z ≡ cast_signed w16 n) × IsNumber 2 n at bytes

abbrev pub IsInt : ℤ → Piece
IsInt z at bytes = (n : ℕ) × (z ≡ cast_signed w32 n) × IsNumber 4 n at bytes

-- A target, spelled by its distance from the instruction at `from`, in two bytes or in four.
abbrev pub IsNear : ℕ → ℤ → Piece
IsNear from to at bytes = (n : ℕ) × (to ≡ pos from +ℤ cast_signed w16 n) × IsNumber 2 n at bytes

abbrev pub IsFar : ℕ → ℤ → Piece
IsFar from to at bytes = (n : ℕ) × (to ≡ pos from +ℤ cast_signed w32 n) × IsNumber 4 n at bytes

-- bytes up to the next multiple of four, counted from the start of the code
abbrev pub IsPadding : Piece
IsPadding at bytes = (length bytes < 4) × ((at + length bytes) % 4 ≡ 0)

-- bytes that are not looked at
abbrev pub AreBytes : ℕ → Piece
AreBytes n = IsAny (IsRunOf n)

-- ---- one instruction

-- tableswitch: the default target, the lowest int and the highest, and a target for each int from the lowest to the highest
pub record SpellsTable (from : ℕ) (low default : ℤ) (targets : List ℤ) (at : ℕ) (bytes : List ℕ) : Type 0 where
  pub some : 1 ≤ length targets
  pub items : (IsPadding ⊳ IsFar from default ⊳ IsInt low ⊳ IsInt (low +ℤ pos (length targets) -ℤ pos 1) ⊳ Each (IsFar from) targets) at bytes

-- each int is above those before it
abbrev pub IsAbove : ℤ → List (ℤ × ℤ) → Type 0
IsAbove low [] = Unit {0}
IsAbove low (pair ∷ others) = (low <ℤ pair.0) × IsAbove pair.0 others

abbrev pub IsIncreasing : List (ℤ × ℤ) → Type 0
IsIncreasing [] = Unit {0}
IsIncreasing (pair ∷ others) = IsAbove pair.0 others

-- an int and its target
abbrev pub SpellsPair : ℕ → ℤ × ℤ → Piece
SpellsPair from pair = IsInt pair.0 ⊳ IsFar from pair.1

-- lookupswitch: the default target, how many pairs there are, and the pairs in rising order of their ints
pub record SpellsLookup (from : ℕ) (default : ℤ) (pairs : List (ℤ × ℤ)) (at : ℕ) (bytes : List ℕ) : Type 0 where
  pub increasing : IsIncreasing pairs
  pub items : (IsPadding ⊳ IsFar from default ⊳ IsInt (pos (length pairs)) ⊳ Each (SpellsPair from) pairs) at bytes

-- what stands behind an opcode behind wide
abbrev pub SpellsWideForm : Option WideForm → Loose → Piece
SpellsWideForm None loose at bytes = ⊥
SpellsWideForm (Some (wides.Local local)) loose at bytes = (k : ℕ) × (loose ≡ looses.Straight (local_instr local k)) × IsU2 k at bytes
SpellsWideForm (Some wides.Increment) loose at bytes = (k : ℕ) × (z : ℤ) × (loose ≡ looses.Straight (instrs.Inc k z)) × (IsU2 k ⊳ IsShort z) at bytes
SpellsWideForm (Some (wides.Skipped op)) loose at bytes = (loose ≡ looses.Straight (instrs.Other op)) × AreBytes 2 at bytes

abbrev pub SpellsWide : Loose → Piece
SpellsWide loose at bytes = (op : ℕ) × (IsU1 op ⊳ SpellsWideForm (wide_form_of op) loose) at bytes

-- What stands behind the opcode of the instruction at `from`.
abbrev pub SpellsForm : ℕ → Form → Loose → Piece
SpellsForm from (forms.Alone instr) loose at bytes = (loose ≡ looses.Straight instr) × IsNothing at bytes
SpellsForm from forms.PushByte loose at bytes = (z : ℤ) × (loose ≡ looses.Straight (instrs.PushInt z)) × IsByte z at bytes
SpellsForm from forms.PushShort loose at bytes = (z : ℤ) × (loose ≡ looses.Straight (instrs.PushInt z)) × IsShort z at bytes
SpellsForm from forms.Constant loose at bytes = (k : ℕ) × (loose ≡ looses.Straight (instrs.Ldc k)) × IsU1 k at bytes
SpellsForm from (forms.Local local) loose at bytes = (k : ℕ) × (loose ≡ looses.Straight (local_instr local k)) × IsU1 k at bytes
SpellsForm from forms.Increment loose at bytes = (k : ℕ) × (z : ℤ) × (loose ≡ looses.Straight (instrs.Inc k z)) × (IsU1 k ⊳ IsByte z) at bytes
SpellsForm from (forms.Entry entry) loose at bytes = (k : ℕ) × (loose ≡ looses.Straight (entry_instr entry k)) × IsU2 k at bytes
SpellsForm from forms.Interface loose at bytes = (k : ℕ) × (loose ≡ looses.Straight (instrs.Interface k)) × (IsU2 k ⊳ AreBytes 2) at bytes
SpellsForm from forms.Primitive loose at bytes = (k : ℕ) × (loose ≡ looses.Straight (instrs.NewPrim k)) × IsU1 k at bytes
SpellsForm from (forms.Near branch) loose at bytes = (to : ℤ) × (loose ≡ looses.Jump branch to) × IsNear from to at bytes
SpellsForm from (forms.Far branch) loose at bytes = (to : ℤ) × (loose ≡ looses.Jump branch to) × IsFar from to at bytes
SpellsForm from forms.Table loose at bytes =
    (low default : ℤ) × (targets : List ℤ) × (loose ≡ looses.Table low default targets) × SpellsTable from low default targets at bytes
SpellsForm from forms.Lookup loose at bytes =
    (default : ℤ) × (pairs : List (ℤ × ℤ)) × (loose ≡ looses.Lookup default pairs) × SpellsLookup from default pairs at bytes
SpellsForm from forms.Wide loose at bytes = SpellsWide loose at bytes
SpellsForm from (forms.Skipped op n) loose at bytes = (loose ≡ looses.Straight (instrs.Other op)) × AreBytes n at bytes

abbrev pub SpellsOperands : ℕ → Option Form → Loose → Piece
SpellsOperands from None loose = Never
SpellsOperands from (Some form) loose = SpellsForm from form loose

-- an instruction whose targets are whole numbers: its opcode, and what the opcode asks for
abbrev pub SpellsLoose : Loose → Piece
SpellsLoose loose at bytes = (op : ℕ) × (IsU1 op ⊳ SpellsOperands at (form_of op) loose) at bytes

-- an int with its target as a whole number
abbrev pub whole_pair : ℤ × ℕ → ℤ × ℤ
whole_pair pair = (pair.0, pos pair.1)

-- The instruction is this one, with its targets as whole numbers. Where one of them is negative, it is no instruction.
abbrev pub Stands : Loose → Instr → Type 0
Stands (looses.Straight straight) instr = instr ≡ straight
Stands (looses.Jump branch to) instr = (t : ℕ) × (to ≡ pos t) × (instr ≡ branch_instr branch t)
Stands (looses.Table low default targets) instr =
    (d : ℕ) × (ts : List ℕ) × (default ≡ pos d) × (targets ≡ map pos ts) × (instr ≡ instrs.Table low d ts)
Stands (looses.Lookup default pairs) instr =
    (d : ℕ) × (ps : List (ℤ × ℕ)) × (default ≡ pos d) × (pairs ≡ map whole_pair ps) × (instr ≡ instrs.Lookup d ps)

-- The bytes spell the instruction at the offset.
pub record SpellsInstr (instr : Instr) (at : ℕ) (bytes : List ℕ) : Type 0 where
  pub loose : Loose
  pub stands : Stands loose instr
  pub spelled : SpellsLoose loose at bytes

-- ---- all of them

-- an instruction with its offset
abbrev pub SpellsItem : ℕ × Instr → Piece
SpellsItem item at bytes = (item.0 ≡ at) × SpellsInstr item.1 at bytes

-- The code from the offset `at` on is these instructions, one behind the other, each with its offset.
abbrev pub ListsFrom : ℕ → List (ℕ × Instr) → List ℕ → Type 0
ListsFrom at items code = Each SpellsItem items at code

-- the targets of an instruction, the default target of a switch first
abbrev pub targets_of : Instr → List ℕ
targets_of (instrs.IfInt cond to) = to ∷ []
targets_of (instrs.IfPair cond to) = to ∷ []
targets_of (instrs.IfSame same to) = to ∷ []
targets_of (instrs.IfNull null to) = to ∷ []
targets_of (instrs.Goto to) = to ∷ []
targets_of (instrs.Table low default targets) = default ∷ targets
targets_of (instrs.Lookup default pairs) = default ∷ map (λ pair. pair.1) pairs
targets_of _ = []

-- the ints of a lookupswitch rise
abbrev pub HasRisingKeys : Instr → Type 0
HasRisingKeys (instrs.Lookup default pairs) = IsIncreasing (map whole_pair pairs)
HasRisingKeys _ = Unit {0}

-- whether an instruction begins at the offset
abbrev pub begins : {A : Type 0} → List (ℕ × A) → ℕ → Bool
begins items at = list_any (λ item. nat_eq item.0 at) items

abbrev pub Begins : {A : Type 0} → List (ℕ × A) → ℕ → Type 0
Begins items at = IsTrue (begins items at)

-- The handler is of a range, and its offsets are those of instructions; its end may be that of the code.
pub record IsInRange {A : Type 0} (items : List (ℕ × A)) (size : ℕ) (handler : Handler) : Type 0 where
  pub some : handler.start < handler.end
  pub start : Begins items handler.start
  pub end : Begins items handler.end ⊎ (handler.end ≡ size)
  pub target : Begins items handler.target

-- The code is this listing, and has these handlers.
pub record Lists (listing : Listing) (code : List ℕ) (handlers : List Handler) : Type 0 where
  pub instructions : ListsFrom 0 listing.items code
  pub targets : AllByRecursion (λ item. AllByRecursion (Begins listing.items) (targets_of item.1)) listing.items
  pub ranges : AllByRecursion (IsInRange listing.items (length code)) handlers

-- the offset of the first instruction of a listing, or the end of the code
abbrev pub offset_of : List (ℕ × Instr) → ℕ → ℕ
offset_of [] size = size
offset_of (item ∷ rest) size = item.0

-- The instructions' offsets rise from `at` on, and none reaches the end of the code.
abbrev pub IsRising : ℕ → List (ℕ × Instr) → ℕ → Type 0
IsRising at [] size = at ≤ size
IsRising at (item ∷ rest) size = (at ≤ item.0) × IsRising (item.0 + 1) rest size

-- the listing begins at the beginning of the code, and its offsets rise up to the end
pub record IsLaidOut (listing : List (ℕ × Instr)) (size : ℕ) : Type 0 where
  pub first : offset_of listing size ≡ 0
  pub rising : IsRising 0 listing size
