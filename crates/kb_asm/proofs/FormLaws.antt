-- What lines ask for is an instruction, and takes as many bytes as is said.
use Rattle.std.proofs.Common.{◌≡◌, ℕ, zero, suc, ◌+◌, ◌*◌, ◌<◌, ◌≤◌, Bool, true, false, ◌&&◌, not, eqb, ltb, ◌==◌, if◌then◌else◌, List, Option, None, Some, refl, sym, ap, subst, ◌∙◌, arith}
use Rattle.std.proofs.lemmas.Bool.{and_parts, le-ltb, ltb-false, ltb-true, eqb-true, eqb-false, not-true}
use Rattle.kb_names.specs.declared.types.MethodType.{MethodType}
use Rattle.kb_classfile.specs.declared.file.PoolEntry.{PoolEntry}
use Rattle.kb_code.specs.declared.instruction.Instr.{Instr}
use Rattle.kb_code.specs.declared.instruction.Instr.TheVariants as instrs
use Rattle.kb_code.specs.declared.form.Local.{Local}
use Rattle.kb_code.specs.declared.form.Local.TheVariants as locals
use Rattle.kb_code.specs.declared.form.Entry.{Entry}
use Rattle.kb_code.specs.declared.form.Entry.TheVariants as entries
use Rattle.kb_code.specs.declared.form.Form.{Form}
use Rattle.kb_code.specs.declared.form.Form.TheVariants as forms
use Rattle.kb_code.specs.declared.form.WideForm.{WideForm}
use Rattle.kb_code.specs.declared.form.WideForm.TheVariants as wides
use Rattle.kb_code.specs.Forms.{form_of, wide_form_of, local_instr, entry_instr, branch_instr, constant_form, load_form, store_form, stack_form, math_form, conversion_form, comparison_form, control_form, reference_form, extended_form}
use Rattle.kb_writer.specs.declared.written.Written.{Written}
use Rattle.kb_writer.specs.declared.written.Written.TheVariants as ways
use Rattle.kb_writer.specs.Instructions.{Writes, size_of}
use Rattle.kb_asm_text.specs.declared.line.Operand.{Operand}
use Rattle.kb_asm_text.specs.declared.line.Operand.TheVariants as operands
use Rattle.kb_asm_text.specs.Shapes.{shape_of, shape_of_entry}
use Rattle.kb_asm_text.specs.Lines.{SpellsOperand}
use Rattle.kb_code.specs.Reading.{padding_at}
use Rattle.kb_asm_body.specs.Layout.{instr_size}
use Rattle.kb_asm.specs.Instructions.{LeadsTo, IsPair, IsEntry, IsCallBy, IsAsked}
use Rattle.kb_asm.specs.Working.{IsFormed}
use Rattle.kb_asm.proofs.LoopLaws.{zip_length}

-- ---- the opcodes of forms

same_local : Local → Local → Bool
same_local locals.LoadInt locals.LoadInt = true
same_local locals.LoadRef locals.LoadRef = true
same_local locals.StoreInt locals.StoreInt = true
same_local locals.StoreRef locals.StoreRef = true
same_local _ _ = false

abbrev is_wide_too : Local → Option WideForm → Bool
is_wide_too local (Some (wides.Local other)) = same_local local other
is_wide_too local _ = false

abbrev agrees : ℕ → Option Form → Bool
agrees op (Some forms.Constant) = op == 0x12
agrees op (Some (forms.Local local)) = is_wide_too local (wide_form_of op)
agrees op (Some (forms.Entry entry)) = not (op == 0x12) && not (op == 0xb9)
agrees op (Some forms.Interface) = op == 0xb9
agrees op (Some (forms.Near branch)) = not (op == 0xc8)
agrees op (Some (forms.Far branch)) = op == 0xc8
agrees op _ = true

abbrev agrees_at : ℕ → Bool
agrees_at op = agrees op (form_of op)

-- a test that all numbers below n pass
abbrev all_below : (ℕ → Bool) → ℕ → Bool
all_below test zero = true
all_below test (suc n) = test n && all_below test n

below : (test : ℕ → Bool) (n k : ℕ) → all_below test n ≡ true → k < n → test k ≡ true
below test zero k all lt = absurd (omega (arith, lt))
below test (suc n) k all lt = go (below test n k (and_parts (test n) (all_below test n) all).1) (eqb k n) refl where
  go : (k < n → test k ≡ true) → (b : Bool) → eqb k n ≡ b → test k ≡ true
  go more true same = subst (λ (m : ℕ). test m ≡ true) (sym (eqb-true k n same)) (and_parts (test n) (all_below test n) all).0
  go more false other = let apart : k ≡ n → ⊥ = eqb-false k n other in more (Prim.grind (arith, lt, apart))

no_form : (op : ℕ) → 0xca ≤ op → form_of op ≡ None
unfolding form_of
no_form op high =
    rw (le-ltb op 0x15 (omega (arith, high)), le-ltb op 0x36 (omega (arith, high)), le-ltb op 0x57 (omega (arith, high)), le-ltb op 0x60 (omega (arith, high)), le-ltb op 0x85 (omega (arith, high)), le-ltb op 0x94 (omega (arith, high)), le-ltb op 0xa7 (omega (arith, high)), le-ltb op 0xb2 (omega (arith, high)), le-ltb op 0xc4 (omega (arith, high)), le-ltb op 0xca high) refl

all_agree : all_below agrees_at 0xca ≡ true
unfolding form_of wide_form_of constant_form load_form store_form stack_form math_form conversion_form comparison_form control_form reference_form extended_form same_local
all_agree = refl

agree : (op : ℕ) → agrees op (form_of op) ≡ true
agree op = go (ltb op 0xca) refl where
  go : (b : Bool) → ltb op 0xca ≡ b → agrees op (form_of op) ≡ true
  go true low = below agrees_at 0xca op all_agree (ltb-true op 0xca low)
  go false high = rw (no_form op (ltb-false op 0xca high)) refl

-- ---- there is an instruction

local_is : (a b : Local) → same_local a b ≡ true → a ≡ b
unfolding same_local
local_is locals.LoadInt locals.LoadInt h = refl
local_is locals.LoadRef locals.LoadRef h = refl
local_is locals.StoreInt locals.StoreInt h = refl
local_is locals.StoreRef locals.StoreRef h = refl
local_is a b h = absurd cc

wide_is : (local : Local) (form : Option WideForm) → is_wide_too local form ≡ true → form ≡ Some (wides.Local local)
wide_is local None h = absurd cc
wide_is local (Some (wides.Local other)) h = ap (λ (l : Local). Some (wides.Local l)) (sym (local_is local other h))
wide_is local (Some wides.Increment) h = absurd cc
wide_is local (Some (wides.Skipped op)) h = absurd cc

abbrev IsWriting : Written → Type 0
IsWriting written = (instr : Instr) × Writes written instr

same_writing : (a b : Written) → a ≡ b → IsWriting b → IsWriting a
same_writing a b e w = subst IsWriting (sym e) w

chosen : {A : Type 0} (b c : Bool) (x y : A) → b ≡ c → (if b then x else y) ≡ (if c then x else y)
chosen b c x y e = ap (λ (d : Bool). if d then x else y) e

module _ (pool : List PoolEntry) (labels : List ℕ → Option ℕ) (op : ℕ) (written : Written) where
  -- an entry in two bytes
  entry_writing : (entry : Entry) (number : ℕ) → form_of op ≡ Some (forms.Entry entry) → IsEntry op number written → IsWriting written
  entry_writing entry number f e = same_writing written (ways.Entry op number) e (entry_instr entry number, (entry, f, refl))

  formed_entry : (entry : Entry) (operand : Operand) (words : List (List ℕ)) → form_of op ≡ Some (forms.Entry entry) → (op == 0x12) ≡ false → (op == 0xb9) ≡ false
      → SpellsOperand (shape_of_entry entry) operand words → IsAsked pool labels op operand written → IsWriting written
  formed_entry entries.Constant operand words f ldc call s a =
      let b = subst (λ (o : Operand). IsAsked pool labels op o written) s.1 a in
      entry_writing entries.Constant b.0 f (b.2 ∙ chosen (op == 0x12) false (ways.Constant b.0) (ways.Entry op b.0) ldc)
  formed_entry entries.GetField operand words f ldc call s a =
      let b = subst (λ (o : Operand). IsAsked pool labels op o written) s.1 a in entry_writing entries.GetField b.0 f b.2
  formed_entry entries.PutField operand words f ldc call s a =
      let b = subst (λ (o : Operand). IsAsked pool labels op o written) s.1 a in entry_writing entries.PutField b.0 f b.2
  formed_entry entries.Virtual operand words f ldc call s a =
      let b = subst (λ (o : Operand). IsAsked pool labels op o written) s.1 a in
      entry_writing entries.Virtual b.0 f (subst (λ (x : Bool). IsCallBy x op s.0.kind b.0 written) call b.2)
  formed_entry entries.Special operand words f ldc call s a =
      let b = subst (λ (o : Operand). IsAsked pool labels op o written) s.1 a in
      entry_writing entries.Special b.0 f (subst (λ (x : Bool). IsCallBy x op s.0.kind b.0 written) call b.2)
  formed_entry entries.Static operand words f ldc call s a =
      let b = subst (λ (o : Operand). IsAsked pool labels op o written) s.1 a in
      entry_writing entries.Static b.0 f (subst (λ (x : Bool). IsCallBy x op s.0.kind b.0 written) call b.2)
  formed_entry entries.New operand words f ldc call s a =
      let b = subst (λ (o : Operand). IsAsked pool labels op o written) s.1 a in entry_writing entries.New b.0 f b.2
  formed_entry entries.NewRefs operand words f ldc call s a =
      let b = subst (λ (o : Operand). IsAsked pool labels op o written) s.1 a in entry_writing entries.NewRefs b.0 f b.2
  formed_entry entries.Cast operand words f ldc call s a =
      let b = subst (λ (o : Operand). IsAsked pool labels op o written) s.1 a in entry_writing entries.Cast b.0 f b.2
  formed_entry entries.InstanceOf operand words f ldc call s a =
      let b = subst (λ (o : Operand). IsAsked pool labels op o written) s.1 a in entry_writing entries.InstanceOf b.0 f b.2

  formed : (form : Option Form) (operand : Operand) (words : List (List ℕ)) → form_of op ≡ form → agrees op form ≡ true
      → SpellsOperand (shape_of form) operand words → IsAsked pool labels op operand written → IsWriting written
  formed None operand words f t s a = absurd s
  formed (Some (forms.Alone instr)) operand words f t s a =
      let b = subst (λ (o : Operand). IsAsked pool labels op o written) s.0 a in same_writing written (ways.Alone op) b (instr, f)
  formed (Some forms.PushByte) operand words f t s a =
      let b = subst (λ (o : Operand). IsAsked pool labels op o written) s.1 a in same_writing written (ways.PushByte s.0) b (instrs.PushInt s.0, refl)
  formed (Some forms.PushShort) operand words f t s a =
      let b = subst (λ (o : Operand). IsAsked pool labels op o written) s.1 a in same_writing written (ways.PushShort s.0) b (instrs.PushInt s.0, refl)
  formed (Some forms.Constant) operand words f t s a =
      let b = subst (λ (o : Operand). IsAsked pool labels op o written) s.1 a in
      same_writing written (ways.Constant b.0) (b.2 ∙ chosen (op == 0x12) true (ways.Constant b.0) (ways.Entry op b.0) t) (instrs.Ldc b.0, refl)
  formed (Some (forms.Local local)) operand words f t s a =
      let b = subst (λ (o : Operand). IsAsked pool labels op o written) s.1 a in
      same_writing written (ways.Local op s.0) b (local_instr local s.0, (local, f, wide_is local (wide_form_of op) t, refl))
  formed (Some forms.Increment) operand words f t s a =
      let b = subst (λ (o : Operand). IsAsked pool labels op o written) s.2 a in same_writing written (ways.Increment s.0 s.1) b (instrs.Inc s.0 s.1, refl)
  formed (Some (forms.Entry entry)) operand words f t s a =
      let p = and_parts (not (op == 0x12)) (not (op == 0xb9)) t in
      formed_entry entry operand words f (not-true (op == 0x12) p.0) (not-true (op == 0xb9) p.1) s a
  formed (Some forms.Interface) operand words f t s a =
      let b = subst (λ (o : Operand). IsAsked pool labels op o written) s.1 a in
      let d = subst (λ (x : Bool). IsCallBy x op s.0.kind b.0 written) t b.2 in
      same_writing written (ways.Interface b.0 d.0) d.2 (instrs.Interface b.0, refl)
  formed (Some forms.Primitive) operand words f t s a =
      let b = subst (λ (o : Operand). IsAsked pool labels op o written) s.1 a in same_writing written (ways.Primitive s.0) b (instrs.NewPrim s.0, refl)
  formed (Some (forms.Near branch)) operand words f t s a =
      let b = subst (λ (o : Operand). IsAsked pool labels op o written) s.1 a in
      same_writing written (ways.Near op b.0) (b.2 ∙ chosen (op == 0xc8) false (ways.Far op b.0) (ways.Near op b.0) (not-true (op == 0xc8) t)) (branch_instr branch b.0, (branch, f, refl))
  formed (Some (forms.Far branch)) operand words f t s a =
      let b = subst (λ (o : Operand). IsAsked pool labels op o written) s.1 a in
      same_writing written (ways.Far op b.0) (b.2 ∙ chosen (op == 0xc8) true (ways.Far op b.0) (ways.Near op b.0) t) (branch_instr branch b.0, (branch, f, refl))
  formed (Some forms.Table) operand words f t s a =
      let b = subst (λ (o : Operand). IsAsked pool labels op o written) s.3 a in
      same_writing written (ways.Table s.0 b.0 b.1) b.4 (instrs.Table s.0 b.0 b.1, refl)
  formed (Some forms.Lookup) operand words f t s a =
      let b = subst (λ (o : Operand). IsAsked pool labels op o written) s.2 a in
      same_writing written (ways.Lookup b.0 b.1) b.4 (instrs.Lookup b.0 b.1, refl)
  formed (Some forms.Wide) operand words f t s a = absurd s
  formed (Some (forms.Skipped other n)) operand words f t s a = absurd s

  pub is_writing : (operand : Operand) → IsFormed op operand → IsAsked pool labels op operand written → IsWriting written
  is_writing operand s a = formed (form_of op) operand s.0 refl (agree op) s.1 a

-- ---- how many bytes it takes

by_way : (written way : Written) (at : ℕ) → written ≡ way → size_of written at ≡ size_of way at
by_way written way at e = ap (λ (w : Written). size_of w at) e

constant_size : (op number at : ℕ) (b : Bool) → size_of (if b then ways.Constant number else ways.Entry op number) at ≡ (if b then 2 else 3)
unfolding size_of
constant_size op number at true = refl
constant_size op number at false = refl

branch_size : (op to at : ℕ) (b : Bool) → size_of (if b then ways.Far op to else ways.Near op to) at ≡ (if b then 5 else 3)
unfolding size_of
branch_size op to at true = refl
branch_size op to at false = refl

call_size : (op number at : ℕ) (kind : MethodType) (written : Written) (b : Bool) → IsCallBy b op kind number written → size_of written at ≡ (if b then 5 else 3)
unfolding size_of
call_size op number at kind written true d = by_way written (ways.Interface number d.0) at d.2
call_size op number at kind written false d = by_way written (ways.Entry op number) at d

pub is_sized : (pool : List PoolEntry) (labels : List ℕ → Option ℕ) (op : ℕ) (written : Written) (at : ℕ) (operand : Operand) → IsAsked pool labels op operand written
    → size_of written at ≡ instr_size op operand at
unfolding size_of
is_sized pool labels op written at operands.Alone a = by_way written (ways.Alone op) at a
is_sized pool labels op written at (operands.Byte number) a = by_way written (ways.PushByte number) at a
is_sized pool labels op written at (operands.Short number) a = by_way written (ways.PushShort number) at a
is_sized pool labels op written at (operands.Constant of) a =
    by_way written (if op == 0x12 then ways.Constant a.0 else ways.Entry op a.0) at a.2 ∙ constant_size op a.0 at (op == 0x12)
is_sized pool labels op written at (operands.Local local) a = by_way written (ways.Local op local) at a
is_sized pool labels op written at (operands.Increment local constant) a = by_way written (ways.Increment local constant) at a
is_sized pool labels op written at (operands.Field field) a = by_way written (ways.Entry op a.0) at a.2
is_sized pool labels op written at (operands.Method method) a = call_size op a.0 at method.kind written (op == 0xb9) a.2
is_sized pool labels op written at (operands.New name) a = by_way written (ways.Entry op a.0) at a.2
is_sized pool labels op written at (operands.Type of) a = by_way written (ways.Entry op a.0) at a.2
is_sized pool labels op written at (operands.Primitive code) a = by_way written (ways.Primitive code) at a
is_sized pool labels op written at (operands.Target label) a =
    by_way written (if op == 0xc8 then ways.Far op a.0 else ways.Near op a.0) at a.2 ∙ branch_size op a.0 at (op == 0xc8)
is_sized pool labels op written at (operands.Table low default targets) a =
    by_way written (ways.Table low a.0 a.1) at a.4 ∙ ap (λ (n : ℕ). 13 + padding_at (at + 1) + 4 * n) (sym (zip_length (LeadsTo labels) targets a.1 a.3))
is_sized pool labels op written at (operands.Lookup default cases) a =
    by_way written (ways.Lookup a.0 a.1) at a.4 ∙ ap (λ (n : ℕ). 9 + padding_at (at + 1) + 8 * n) (sym (zip_length (IsPair labels) cases a.1 a.3))
