-- The bytes of an instruction, in the form that is asked for (The Java Virtual Machine Specification, Java SE 8 Edition,
-- section 6.5). Offsets are counted from the start of the code.
use Rattle.std.specs.Prelude.{◌≡◌, ℕ, ◌+◌, ◌*◌, ◌^◌, ◌<◌, ℤ, pos, ◌+ℤ◌, ◌-ℤ◌, Bool, true, List, [], ◌∷◌, ◌++◌, length, Some, nat_le, nat_lt, ◌&&◌, if◌then◌else◌}
use Rattle.std.specs.Int.{w8, w16, w32}
use Rattle.std.specs.Int.RustNames.{FitsSigned}
use Rattle.std.specs.List.{AllByRecursion, flat_map, list_all, repeat}
use Rattle.kb_code.specs.declared.instruction.Instr.{Instr}
use Rattle.kb_code.specs.declared.instruction.Instr.TheVariants as instrs
use Rattle.kb_code.specs.declared.form.Local.{Local}
use Rattle.kb_code.specs.declared.form.Entry.{Entry}
use Rattle.kb_code.specs.declared.form.Branch.{Branch}
use Rattle.kb_code.specs.declared.form.Form.TheVariants as forms
use Rattle.kb_code.specs.declared.form.WideForm.TheVariants as wides
use Rattle.kb_code.specs.Forms.{form_of, wide_form_of, local_instr, entry_instr, branch_instr}
use Rattle.kb_code.specs.Reading.{padding_at}
use Rattle.kb_code.specs.Switches.{key_of, are_rising, is_table}
use Rattle.kb_writer.specs.declared.written.Written.{Written}
use Rattle.kb_writer.specs.declared.written.Written.TheVariants as ways
use Rattle.kb_writer.specs.Numbers.{u2, byte, short, int}

-- ---- which instruction it is

-- The instruction that is written. An opcode that stands alone need not begin one: it is then a byte and no more.
abbrev pub Writes : Written → Instr → Type 0
Writes (ways.Alone op) instr = form_of op ≡ Some (forms.Alone instr)
Writes (ways.PushByte z) instr = instr ≡ instrs.PushInt z
Writes (ways.PushShort z) instr = instr ≡ instrs.PushInt z
Writes (ways.Constant k) instr = instr ≡ instrs.Ldc k
Writes (ways.Local op k) instr =
    (local : Local) × (form_of op ≡ Some (forms.Local local)) × (wide_form_of op ≡ Some (wides.Local local)) × (instr ≡ local_instr local k)
Writes (ways.Increment k z) instr = instr ≡ instrs.Inc k z
Writes (ways.Entry op k) instr = (entry : Entry) × (form_of op ≡ Some (forms.Entry entry)) × (instr ≡ entry_instr entry k)
Writes (ways.Interface k words) instr = instr ≡ instrs.Interface k
Writes (ways.Primitive k) instr = instr ≡ instrs.NewPrim k
Writes (ways.Near op to) instr = (branch : Branch) × (form_of op ≡ Some (forms.Near branch)) × (instr ≡ branch_instr branch to)
Writes (ways.Far op to) instr = (branch : Branch) × (form_of op ≡ Some (forms.Far branch)) × (instr ≡ branch_instr branch to)
Writes (ways.Table low default targets) instr = instr ≡ instrs.Table low default targets
Writes (ways.Lookup default pairs) instr = instr ≡ instrs.Lookup default pairs

-- ---- what can be written

-- Whether a switch is one: a tableswitch has a target at least, and its highest int is an int; the ints of a lookupswitch
-- rise, and their count is an int.
abbrev pub is_sound : Written → Bool
is_sound (ways.Table low default targets) = is_table low (length targets)
is_sound (ways.Lookup default pairs) = nat_lt (length pairs) (2 ^ 31) && are_rising key_of pairs
is_sound _ = true

-- whether the distance from one offset to another is a signed number of two bytes, or of four
abbrev pub is_near : ℕ → ℕ → Bool
is_near from to = nat_le from (to + 2 ^ 15) && nat_lt to (from + 2 ^ 15)

abbrev pub is_far : ℕ → ℕ → Bool
is_far from to = nat_le from (to + 2 ^ 31) && nat_lt to (from + 2 ^ 31)

-- whether all targets are in reach of the instruction at the offset
abbrev pub reaches : Written → ℕ → Bool
reaches (ways.Near op to) at = is_near at to
reaches (ways.Far op to) at = is_far at to
reaches (ways.Table low default targets) at = is_far at default && list_all (is_far at) targets
reaches (ways.Lookup default pairs) at = is_far at default && list_all (λ pair. is_far at pair.1) pairs
reaches _ at = true

-- ---- the bytes

-- the distance of a target from the instruction at `from`
abbrev pub near : ℕ → ℕ → List ℕ
near from to = short (pos to -ℤ pos from)

abbrev pub far : ℕ → ℕ → List ℕ
far from to = int (pos to -ℤ pos from)

-- the zeros between the opcode at `from` and the next multiple of four
abbrev pub padding : ℕ → List ℕ
padding from = repeat (padding_at (from + 1)) (0 ∷ [])

abbrev pub pair_bytes : ℕ → ℤ × ℕ → List ℕ
pair_bytes from pair = int pair.0 ++ far from pair.1

-- the lowest int of a tableswitch, and the highest
unfoldable pub bounds : ℤ → ℕ → List ℕ
bounds low count = int low ++ int (low +ℤ pos count -ℤ pos 1)

-- the opcode of a switch at `from`, the zeros, and the default target
unfoldable pub switch_head : ℕ → ℕ → ℕ → List ℕ
switch_head op from default = op ∷ (padding from ++ far from default)

-- a tableswitch, and a lookupswitch, at `from`
abbrev pub table_bytes : ℕ → ℤ → ℕ → List ℕ → List ℕ
table_bytes from low default targets =
    switch_head 0xaa from default ++ bounds low (length targets) ++ flat_map (far from) targets

abbrev pub lookup_bytes : ℕ → ℕ → List (ℤ × ℕ) → List ℕ
lookup_bytes from default pairs =
    switch_head 0xab from default ++ int (pos (length pairs)) ++ flat_map (pair_bytes from) pairs

-- the bytes of the instruction at the offset
unfoldable pub bytes_of : Written → ℕ → List ℕ
bytes_of (ways.Alone op) at = op ∷ []
bytes_of (ways.PushByte z) at = 0x10 ∷ byte z
bytes_of (ways.PushShort z) at = 0x11 ∷ short z
bytes_of (ways.Constant k) at = 0x12 ∷ k ∷ []
bytes_of (ways.Local op k) at = if nat_lt k 256 then op ∷ k ∷ [] else 0xc4 ∷ op ∷ u2 k
bytes_of (ways.Increment k z) at = 0x84 ∷ k ∷ byte z
bytes_of (ways.Entry op k) at = op ∷ u2 k
bytes_of (ways.Interface k words) at = 0xb9 ∷ (u2 k ++ words ∷ 0 ∷ [])
bytes_of (ways.Primitive k) at = 0xbc ∷ k ∷ []
bytes_of (ways.Near op to) at = op ∷ near at to
bytes_of (ways.Far op to) at = op ∷ far at to
bytes_of (ways.Table low default targets) at = table_bytes at low default targets
bytes_of (ways.Lookup default pairs) at = lookup_bytes at default pairs

-- how many they are
unfoldable pub size_of : Written → ℕ → ℕ
size_of (ways.Alone op) at = 1
size_of (ways.PushByte z) at = 2
size_of (ways.PushShort z) at = 3
size_of (ways.Constant k) at = 2
size_of (ways.Local op k) at = if nat_lt k 256 then 2 else 4
size_of (ways.Increment k z) at = 3
size_of (ways.Entry op k) at = 3
size_of (ways.Interface k words) at = 5
size_of (ways.Primitive k) at = 2
size_of (ways.Near op to) at = 3
size_of (ways.Far op to) at = 5
size_of (ways.Table low default targets) at = 13 + padding_at (at + 1) + 4 * length targets
size_of (ways.Lookup default pairs) at = 9 + padding_at (at + 1) + 8 * length pairs

-- ---- numbers within their types

abbrev pub HaveInts : List (ℤ × ℕ) → Type 0
HaveInts pairs = AllByRecursion (λ pair. FitsSigned w32 pair.0) pairs

-- the numbers of the instruction are of the types that hold them
abbrev pub HasNumbers : Written → Type 0
HasNumbers (ways.PushByte z) = FitsSigned w8 z
HasNumbers (ways.PushShort z) = FitsSigned w16 z
HasNumbers (ways.Local op k) = k < 2 ^ 16
HasNumbers (ways.Increment k z) = FitsSigned w8 z
HasNumbers (ways.Entry op k) = k < 2 ^ 16
HasNumbers (ways.Interface k words) = k < 2 ^ 16
HasNumbers (ways.Table low default targets) = FitsSigned w32 low
HasNumbers (ways.Lookup default pairs) = HaveInts pairs
HasNumbers _ = Unit {0}
