-- Reading code from left to right, an instruction at a time, with the first fault that is met. `Listing` states the grammar
-- apart from this; the reader is proved exact for it.
use Rattle.std.specs.Prelude.{◌≡◌, ℕ, ◌+◌, ◌-◌, ◌%◌, ℤ, pos, ◌+ℤ◌, ◌-ℤ◌, List, [], ◌∷◌, Option, Some, None, Result, Ok, Err, nat_abs, int_lt, if◌then◌else◌}
use Rattle.std.specs.Int.{w8, w16, w32, cast_signed}
use Rattle.kb_grammar.specs.Reading.{Place, Reader, ◌>>=◌, done, fault, here, judged, run, number, repeated, values_of}
use Rattle.kb_code.specs.declared.instruction.Instr.TheVariants as instrs
use Rattle.kb_code.specs.declared.form.Form.{Form}
use Rattle.kb_code.specs.declared.form.Form.TheVariants as forms
use Rattle.kb_code.specs.declared.form.WideForm.{WideForm}
use Rattle.kb_code.specs.declared.form.WideForm.TheVariants as wides
use Rattle.kb_code.specs.declared.form.Loose.{Loose}
use Rattle.kb_code.specs.declared.form.Loose.TheVariants as looses
use Rattle.kb_code.specs.declared.refusal.CodeRefusal.{CodeRefusal}
use Rattle.kb_code.specs.declared.refusal.CodeRefusal.TheVariants as refusals
use Rattle.kb_code.specs.Forms.{form_of, wide_form_of, local_instr, entry_instr}
use Rattle.kb_code.specs.Switches.{key_of, are_rising}

-- What a function returned, seen by view, is what reading gives, unless memory ran out.
abbrev pub Fails : {A : Type 0} → CodeRefusal → Result A CodeRefusal → Type 0
Fails refusals.NoMemory read = Unit {0}
Fails refusal read = read ≡ Err refusal

abbrev pub Gives : {X A : Type 0} → (X → A) → Result X CodeRefusal → Result A CodeRefusal → Type 0
Gives view (Ok x) read = read ≡ Ok (view x)
Gives view (Err refusal) read = Fails refusal read

-- The fault of an item that is not whole is that of the instruction at `from` which it belongs to.
abbrev pub cut : ℕ → ℕ → CodeRefusal
cut from at = refusals.Cut from

abbrev pub u1 : ℕ → Reader CodeRefusal ℕ
u1 from = number (cut from) 1

abbrev pub u2 : ℕ → Reader CodeRefusal ℕ
u2 from = number (cut from) 2

abbrev pub u4 : ℕ → Reader CodeRefusal ℕ
u4 from = number (cut from) 4

-- ints with their signs
unfoldable pub byte : ℕ → Reader CodeRefusal ℤ
byte from = do
  n ← u1 from
  done (cast_signed w8 n)

unfoldable pub short : ℕ → Reader CodeRefusal ℤ
short from = do
  n ← u2 from
  done (cast_signed w16 n)

unfoldable pub int : ℕ → Reader CodeRefusal ℤ
int from = do
  n ← u4 from
  done (cast_signed w32 n)

-- targets
unfoldable pub near : ℕ → Reader CodeRefusal ℤ
near from = do
  n ← u2 from
  done (pos from +ℤ cast_signed w16 n)

unfoldable pub far : ℕ → Reader CodeRefusal ℤ
far from = do
  n ← u4 from
  done (pos from +ℤ cast_signed w32 n)

-- ---- switches

-- how many bytes lead to the next multiple of four
abbrev pub padding_at : ℕ → ℕ
padding_at at = (4 - at % 4) % 4

unfoldable pub padding : ℕ → Reader CodeRefusal (List ℕ)
padding from = do
  at ← here
  run (cut from) (padding_at at)

-- the fault of a lowest int above the highest
abbrev pub bounds_fault : ℕ → ℕ → ℤ × ℤ → Option CodeRefusal
bounds_fault from at bounds = if int_lt bounds.1 bounds.0 then Some (refusals.Switch from) else None

unfoldable pub bounds : ℕ → Reader CodeRefusal (ℤ × ℤ)
bounds from = do
  low ← int from
  high ← int from
  done (low, high)

-- how many ints there are from the lowest to the highest
abbrev pub count_of : ℤ × ℤ → ℕ
count_of bounds = nat_abs (bounds.1 -ℤ bounds.0) + 1

unfoldable pub table_switch : ℕ → Reader CodeRefusal Loose
table_switch from = do
  skipped ← padding from
  default ← far from
  ends ← judged (bounds_fault from) (bounds from)
  targets ← repeated (λ number. far from) (count_of ends)
  done (looses.Table ends.0 default targets)

-- the fault of a negative count
abbrev pub count_fault : ℕ → ℕ → ℤ → Option CodeRefusal
count_fault from at count = if int_lt count (pos 0) then Some (refusals.Switch from) else None

-- the fault of ints that do not rise
abbrev pub keys_fault : ℕ → ℕ → List (ℤ × ℤ) → Option CodeRefusal
keys_fault from at pairs = if are_rising key_of pairs then None else Some (refusals.Switch from)

unfoldable pub pair : ℕ → Reader CodeRefusal (ℤ × ℤ)
pair from = do
  key ← int from
  to ← far from
  done (key, to)

unfoldable pub lookup_switch : ℕ → Reader CodeRefusal Loose
lookup_switch from = do
  skipped ← padding from
  default ← far from
  count ← judged (count_fault from) (int from)
  pairs ← judged (keys_fault from) (repeated (λ number. pair from) (nat_abs count))
  done (looses.Lookup default pairs)

-- ---- one instruction

-- operands that are not looked at
unfoldable pub skipped : ℕ → ℕ → ℕ → Reader CodeRefusal Loose
skipped from op n = do
  operands ← run (cut from) n
  done (looses.Straight (instrs.Other op))

-- the number of a local, and a constant
unfoldable pub increment : ℕ → Reader CodeRefusal Loose
increment from = do
  local ← u1 from
  constant ← byte from
  done (looses.Straight (instrs.Inc local constant))

unfoldable pub wide_increment : ℕ → Reader CodeRefusal Loose
wide_increment from = do
  local ← u2 from
  constant ← short from
  done (looses.Straight (instrs.Inc local constant))

unfoldable pub interface_call : ℕ → Reader CodeRefusal Loose
interface_call from = do
  entry ← u2 from
  rest ← run (cut from) 2
  done (looses.Straight (instrs.Interface entry))

-- what stands behind an opcode behind wide
unfoldable pub wide_formed : ℕ → ℕ → Option WideForm → Reader CodeRefusal Loose
wide_formed from op None = fault (refusals.Opcode from op)
wide_formed from op (Some (wides.Local local)) = u2 from >>= λ k. done (looses.Straight (local_instr local k))
wide_formed from op (Some wides.Increment) = wide_increment from
wide_formed from op (Some (wides.Skipped other)) = skipped from other 2

unfoldable pub widened : ℕ → Reader CodeRefusal Loose
widened from = do
  op ← u1 from
  wide_formed from op (wide_form_of op)

-- what stands behind the opcode of the instruction at `from`
unfoldable pub formed : ℕ → Form → Reader CodeRefusal Loose
formed from (forms.Alone instr) = done (looses.Straight instr)
formed from forms.PushByte = byte from >>= λ z. done (looses.Straight (instrs.PushInt z))
formed from forms.PushShort = short from >>= λ z. done (looses.Straight (instrs.PushInt z))
formed from forms.Constant = u1 from >>= λ k. done (looses.Straight (instrs.Ldc k))
formed from (forms.Local local) = u1 from >>= λ k. done (looses.Straight (local_instr local k))
formed from forms.Increment = increment from
formed from (forms.Entry entry) = u2 from >>= λ k. done (looses.Straight (entry_instr entry k))
formed from forms.Interface = interface_call from
formed from forms.Primitive = u1 from >>= λ k. done (looses.Straight (instrs.NewPrim k))
formed from (forms.Near branch) = near from >>= λ to. done (looses.Jump branch to)
formed from (forms.Far branch) = far from >>= λ to. done (looses.Jump branch to)
formed from forms.Table = table_switch from
formed from forms.Lookup = lookup_switch from
formed from forms.Wide = widened from
formed from (forms.Skipped op n) = skipped from op n

unfoldable pub operands : ℕ → ℕ → Option Form → Reader CodeRefusal Loose
operands from op None = fault (refusals.Opcode from op)
operands from op (Some form) = formed from form

-- an instruction that begins at `from`
unfoldable pub instruction : ℕ → Reader CodeRefusal Loose
instruction from = do
  op ← u1 from
  operands from op (form_of op)

-- an instruction with its offset
unfoldable pub item : Reader CodeRefusal (ℕ × Loose)
item = do
  from ← here
  loose ← instruction from
  done (from, loose)

-- what was read, without the place behind it
abbrev pub without_place : {A : Type 0} → Result (A × Place) CodeRefusal → Result A CodeRefusal
without_place (Ok x) = Ok x.0
without_place (Err refusal) = Err refusal

-- all instructions of the code, with their offsets
unfoldable pub walk : List ℕ → Result (List (ℕ × Loose)) CodeRefusal
walk code = without_place (values_of item code 0)
