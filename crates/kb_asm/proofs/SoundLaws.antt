-- Bodies without a faulty line: where their lines stand, where their labels lead, and that their instructions can be written.
use Rattle.std.proofs.Common.{◌≡◌, ℕ, ℤ, zero, suc, ◌+◌, ◌*◌, ◌^◌, ◌<◌, ◌≤◌, Bool, true, false, true≢false, not, ◌&&◌, ◌||◌, ◌==◌, nat_le, nat_lt, if◌then◌else◌, List, [], ◌∷◌, length, Option, None, Some, is_some, refl, sym, ap, subst, ◌∙◌, arith}
use Rattle.std.specs.Prelude.{int_lt}
use Rattle.std.specs.List.{AllZip, list_all, list_any}
use Rattle.std.proofs.lemmas.Bool.{and_from, or_parts, ltb-false, le-leb, lt-ltb}
use Rattle.kb_names.specs.declared.types.MethodType.{MethodType}
use Rattle.kb_classfile.specs.declared.file.PoolEntry.{PoolEntry}
use Rattle.kb_code.specs.Reading.{padding_at}
use Rattle.kb_code.specs.Forms.{form_of}
use Rattle.kb_code.specs.Switches.{key_of, are_above, are_rising, is_table}
use Rattle.kb_writer.specs.declared.written.Written.{Written}
use Rattle.kb_writer.specs.declared.written.Written.TheVariants as ways
use Rattle.kb_writer.specs.Instructions.{is_sound, is_near, is_far, reaches}
use Rattle.kb_asm_text.specs.declared.shape.Shape.{Shape}
use Rattle.kb_asm_text.specs.declared.shape.Shape.TheVariants as shapes
use Rattle.kb_asm_text.specs.declared.line.Case.{Case}
use Rattle.kb_asm_text.specs.declared.line.Operand.{Operand}
use Rattle.kb_asm_text.specs.declared.line.Operand.TheVariants as operands
use Rattle.kb_asm_text.specs.declared.line.BodyLine.TheVariants as bodies
use Rattle.kb_asm_text.specs.declared.line.Line.{Line}
use Rattle.kb_asm_text.specs.declared.line.Line.TheVariants as lines
use Rattle.kb_asm_text.specs.Shapes.{shape_of}
use Rattle.kb_asm_text.specs.Lines.{SpellsOperand, key_of_case}
use Rattle.kb_asm_body.specs.Layout.{instr_size, line_size, is_label, label_from, label_of}
use Rattle.kb_asm_body.specs.Faults.{is_missing, is_out, is_faulty_instr, is_faulty, fault_from, fault_of}
use Rattle.kb_asm.specs.Instructions.{LeadsTo, IsPair, IsCallBy, IsAsked}
use Rattle.kb_asm.specs.Working.{AreNear, IsLabelledLine, IsFormed}
use Rattle.kb_asm.proofs.LoopLaws.{zip_length}

-- ---- where lines stand

some_at : (at : ℕ) → (at == 0) ≡ false → 1 ≤ at
some_at zero e = absurd cc
some_at (suc at) e = omega arith

module _ (labels : List ℕ → Option ℕ) where
  -- the first line, and those behind it
  pub none_next : (place at : ℕ) (line : Line) (others : List Line) → fault_from labels true place at (line ∷ others) ≡ None
      → (is_faulty labels true line at ≡ false) × (fault_from labels true (place + 1) (at + line_size line at) others ≡ None)
  none_next place at line others h = go (is_faulty labels true line at) refl h
    where
      go : (b : Bool) → is_faulty labels true line at ≡ b → (if b then Some place else fault_from labels true (place + 1) (at + line_size line at) others) ≡ None
          → (is_faulty labels true line at ≡ false) × (fault_from labels true (place + 1) (at + line_size line at) others ≡ None)
      go true e h = absurd cc
      go false e h = (e, h)

  -- the end of the code
  none_end : (place at : ℕ) → fault_from labels true place at [] ≡ None → (1 ≤ at) × (at ≤ 65535)
  none_end place at h = go (at == 0) refl (nat_lt 65535 at) refl h
    where
      go : (a : Bool) → (at == 0) ≡ a → (b : Bool) → nat_lt 65535 at ≡ b → (if true && (a || b) then Some place else None) ≡ None → (1 ≤ at) × (at ≤ 65535)
      go true d b e h = absurd cc
      go false d true e h = absurd cc
      go false d false e h = (some_at at d, ltb-false 65535 at e)

  pub none_few : (place at : ℕ) (rest : List Line) → fault_from labels true place at rest ≡ None → at ≤ 65535
  none_few place at [] h = (none_end place at h).1
  none_few place at (line ∷ others) h =
      let next : at + line_size line at ≤ 65535 = none_few (place + 1) (at + line_size line at) others (none_next place at line others h).1 in
      omega arith

  pub none_all : (place at : ℕ) (rest : List Line) → length rest < 1 → fault_from labels true place at rest ≡ None → (1 ≤ at) × (at ≤ 65535)
  none_all place at [] few h = none_end place at h
  none_all place at (line ∷ others) few h = absurd (omega (arith, few))

  -- labels lead to lines, or to the end
  none_near : (name : List ℕ) (to place at : ℕ) (rest : List Line) → fault_from labels true place at rest ≡ None → label_from name at rest ≡ Some to → to ≤ 65535
  none_near name to place at [] h led = absurd cc
  none_near name to place at (line ∷ others) h led =
      go (none_few place at (line ∷ others) h) (λ m. none_near name to (place + 1) (at + line_size line at) others (none_next place at line others h).1 m) (is_label line name) led
    where
      go : at ≤ 65535 → (label_from name (at + line_size line at) others ≡ Some to → to ≤ 65535) → (b : Bool)
          → (if b then Some at else label_from name (at + line_size line at) others) ≡ Some to → to ≤ 65535
      go few more true e = let same : at ≡ to = cc in omega arith
      go few more false e = more e

  -- ---- the labels of a line are there

  three : (a b c : Bool) → (a || b || c) ≡ false → (a ≡ false) × (b ≡ false) × (c ≡ false)
  three true b c h = absurd (true≢false h)
  three false true c h = absurd (true≢false h)
  three false false true h = absurd (true≢false h)
  three false false false h = (refl, refl, refl)

  pub is_labelled : (line : Line) (at : ℕ) → is_faulty labels true line at ≡ false → IsLabelledLine labels line
  unfolding is_faulty
  is_labelled (lines.Body (bodies.Catch row)) at h =
      let p = three (is_missing labels true row.start) (is_missing labels true row.end) (is_missing labels true row.target) h in
      record { start = p.0; end = p.1; target = p.2 }
  is_labelled line at h = tt

  pub instr_sound : (op : ℕ) (operand : Operand) (at : ℕ) → is_faulty labels true (lines.Body (bodies.Instr op operand)) at ≡ false
      → is_faulty_instr labels true op operand at ≡ false
  unfolding is_faulty
  instr_sound op operand at h = h

  pub instr_few : (op : ℕ) (operand : Operand) (at : ℕ) → at + line_size (lines.Body (bodies.Instr op operand)) at ≤ 65535 → at + instr_size op operand at ≤ 65535
  unfolding line_size
  instr_few op operand at h = h

  pub target_there : (op : ℕ) (label : List ℕ) (at : ℕ) → is_faulty_instr labels true op (operands.Target label) at ≡ false → is_missing labels true label ≡ false
  target_there op label at h = go (labels label) h
    where
      go : (to : Option ℕ) → is_out labels true op to at ≡ false → (not (is_some to) && true) ≡ false
      go None h = h
      go (Some to) h = refl

  pub table_there : (op : ℕ) (low : ℤ) (default : List ℕ) (targets : List (List ℕ)) (at : ℕ) → is_faulty_instr labels true op (operands.Table low default targets) at ≡ false
      → (is_missing labels true default ≡ false) × (list_any (is_missing labels true) targets ≡ false)
  table_there op low default targets at h = or_parts (is_missing labels true default) (list_any (is_missing labels true) targets) h

  pub lookup_there : (op : ℕ) (default : List ℕ) (cases : List Case) (at : ℕ) → is_faulty_instr labels true op (operands.Lookup default cases) at ≡ false
      → (is_missing labels true default ≡ false) × (list_any (λ (case : Case). is_missing labels true case.target) cases ≡ false)
  lookup_there op default cases at h = or_parts (is_missing labels true default) (list_any (λ (case : Case). is_missing labels true case.target) cases) h

pub near_labels : (body : List Line) → fault_of true body ≡ None → AreNear (label_of body)
near_labels body faultless name to led = none_near (label_of body) name to 0 0 body faultless led

-- ---- all targets are in reach

far_reach : (at to : ℕ) → at ≤ 65535 → to ≤ 65535 → is_far at to ≡ true
far_reach at to h k =
    and_from (nat_le at (to + 2 ^ 31)) (nat_lt to (at + 2 ^ 31)) (le-leb at (to + 2 ^ 31) (omega (arith, h))) (lt-ltb to (at + 2 ^ 31) (omega (arith, k)))

module _ (pool : List PoolEntry) (labels : List ℕ → Option ℕ) (near : AreNear labels) (op : ℕ) (written : Written) (at : ℕ) (few : at ≤ 65535) where
  all_far : (names : List (List ℕ)) (targets : List ℕ) → AllZip (LeadsTo labels) names targets → list_all (is_far at) targets ≡ true
  all_far [] [] z = refl
  all_far [] (to ∷ targets) z = absurd z
  all_far (name ∷ names) [] z = absurd z
  all_far (name ∷ names) (to ∷ targets) z =
      and_from (is_far at to) (list_all (is_far at) targets) (far_reach at to few (near name to z.0)) (all_far names targets z.1)

  pairs_far : (cases : List Case) (pairs : List (ℤ × ℕ)) → AllZip (IsPair labels) cases pairs → list_all (λ (pair : ℤ × ℕ). is_far at pair.1) pairs ≡ true
  pairs_far [] [] z = refl
  pairs_far [] (pair ∷ pairs) z = absurd z
  pairs_far (case ∷ cases) [] z = absurd z
  pairs_far (case ∷ cases) (pair ∷ pairs) z =
      and_from (is_far at pair.1) (list_all (λ (p : ℤ × ℕ). is_far at p.1) pairs) (far_reach at pair.1 few (near case.target pair.1 z.0.1)) (pairs_far cases pairs z.1)

  way_reached : (way : Written) → written ≡ way → reaches way at ≡ true → reaches written at ≡ true
  way_reached way e h = subst (λ (w : Written). reaches w at ≡ true) (sym e) h

  constant_reached : (number : ℕ) (b : Bool) → reaches (if b then ways.Constant number else ways.Entry op number) at ≡ true
  constant_reached number true = refl
  constant_reached number false = refl

  call_reached : (kind : MethodType) (number : ℕ) (b : Bool) → IsCallBy b op kind number written → reaches written at ≡ true
  call_reached kind number true d = way_reached (ways.Interface number d.0) d.2 refl
  call_reached kind number false d = way_reached (ways.Entry op number) d refl

  branch_reached : (label : List ℕ) (to : ℕ) → labels label ≡ Some to → is_out labels true op (labels label) at ≡ false
      → reaches (if op == 0xc8 then ways.Far op to else ways.Near op to) at ≡ true
  branch_reached label to led h = go (op == 0xc8) (is_near at to) refl (subst (λ (o : Option ℕ). is_out labels true op o at ≡ false) led h)
    where
      go : (b c : Bool) → is_near at to ≡ c → (not b && not c) ≡ false → reaches (if b then ways.Far op to else ways.Near op to) at ≡ true
      go true c e h = far_reach at to few (near label to led)
      go false true e h = e
      go false false e h = absurd (true≢false h)

  pub is_reached : (operand : Operand) → is_faulty_instr labels true op operand at ≡ false → IsAsked pool labels op operand written → reaches written at ≡ true
  is_reached operands.Alone h a = way_reached (ways.Alone op) a refl
  is_reached (operands.Byte number) h a = way_reached (ways.PushByte number) a refl
  is_reached (operands.Short number) h a = way_reached (ways.PushShort number) a refl
  is_reached (operands.Constant of) h a =
      way_reached (if op == 0x12 then ways.Constant a.0 else ways.Entry op a.0) a.2 (constant_reached a.0 (op == 0x12))
  is_reached (operands.Local local) h a = way_reached (ways.Local op local) a refl
  is_reached (operands.Increment local constant) h a = way_reached (ways.Increment local constant) a refl
  is_reached (operands.Field field) h a = way_reached (ways.Entry op a.0) a.2 refl
  is_reached (operands.Method method) h a = call_reached method.kind a.0 (op == 0xb9) a.2
  is_reached (operands.New name) h a = way_reached (ways.Entry op a.0) a.2 refl
  is_reached (operands.Type of) h a = way_reached (ways.Entry op a.0) a.2 refl
  is_reached (operands.Primitive code) h a = way_reached (ways.Primitive code) a refl
  is_reached (operands.Target label) h a =
      way_reached (if op == 0xc8 then ways.Far op a.0 else ways.Near op a.0) a.2 (branch_reached label a.0 a.1 h)
  is_reached (operands.Table low default targets) h a =
      way_reached (ways.Table low a.0 a.1) a.4
      (and_from (is_far at a.0) (list_all (is_far at) a.1) (far_reach at a.0 few (near default a.0 a.2)) (all_far targets a.1 a.3))
  is_reached (operands.Lookup default cases) h a =
      way_reached (ways.Lookup a.0 a.1) a.4
      (and_from (is_far at a.0) (list_all (λ (pair : ℤ × ℕ). is_far at pair.1) a.1) (far_reach at a.0 few (near default a.0 a.2)) (pairs_far cases a.1 a.3))

-- ---- switches are sound

abbrev is_sound_operand : Operand → Bool
is_sound_operand (operands.Table low default targets) = is_table low (length targets)
is_sound_operand (operands.Lookup default cases) = are_rising key_of_case cases
is_sound_operand _ = true

same_operand : (one other : Operand) → one ≡ other → is_sound_operand other ≡ true → is_sound_operand one ≡ true
same_operand one other e h = subst (λ (o : Operand). is_sound_operand o ≡ true) (sym e) h

spelled_sound : (shape : Shape) (operand : Operand) (words : List (List ℕ)) → SpellsOperand shape operand words → is_sound_operand operand ≡ true
spelled_sound shapes.Unwritten operand words s = absurd s
spelled_sound shapes.Alone operand words s = same_operand operand operands.Alone s.0 refl
spelled_sound shapes.Byte operand words s = same_operand operand (operands.Byte s.0) s.1 refl
spelled_sound shapes.Short operand words s = same_operand operand (operands.Short s.0) s.1 refl
spelled_sound shapes.Constant operand words s = same_operand operand (operands.Constant s.0) s.1 refl
spelled_sound shapes.Local operand words s = same_operand operand (operands.Local s.0) s.1 refl
spelled_sound shapes.Increment operand words s = same_operand operand (operands.Increment s.0 s.1) s.2 refl
spelled_sound shapes.Field operand words s = same_operand operand (operands.Field s.0) s.1 refl
spelled_sound shapes.Method operand words s = same_operand operand (operands.Method s.0) s.1 refl
spelled_sound shapes.New operand words s = same_operand operand (operands.New s.0) s.1 refl
spelled_sound shapes.Type operand words s = same_operand operand (operands.Type s.0) s.1 refl
spelled_sound shapes.Primitive operand words s = same_operand operand (operands.Primitive s.0) s.1 refl
spelled_sound shapes.Branch operand words s = same_operand operand (operands.Target s.0) s.1 refl
spelled_sound shapes.Table operand words s = same_operand operand (operands.Table s.0 s.1 s.2) s.3 s.4.sound
spelled_sound shapes.Lookup operand words s = same_operand operand (operands.Lookup s.0 s.1) s.2 s.3.rising

module _ (labels : List ℕ → Option ℕ) where
  same_above : (low : ℤ) (cases : List Case) (pairs : List (ℤ × ℕ)) → AllZip (IsPair labels) cases pairs → are_above key_of low pairs ≡ are_above key_of_case low cases
  same_above low [] [] z = refl
  same_above low [] (pair ∷ pairs) z = absurd z
  same_above low (case ∷ cases) [] z = absurd z
  same_above low (case ∷ cases) (pair ∷ pairs) z =
      ap (λ (key : ℤ). int_lt low key && are_above key_of key pairs) z.0.0 ∙ ap (λ (b : Bool). int_lt low case.key && b) (same_above case.key cases pairs z.1)

  same_rising : (cases : List Case) (pairs : List (ℤ × ℕ)) → AllZip (IsPair labels) cases pairs → are_rising key_of pairs ≡ are_rising key_of_case cases
  same_rising [] [] z = refl
  same_rising [] (pair ∷ pairs) z = absurd z
  same_rising (case ∷ cases) [] z = absurd z
  same_rising (case ∷ cases) (pair ∷ pairs) z = ap (λ (key : ℤ). are_above key_of key pairs) z.0.0 ∙ same_above case.key cases pairs z.1

module _ (pool : List PoolEntry) (labels : List ℕ → Option ℕ) (op : ℕ) (written : Written) (at : ℕ) where
  way_sound : (way : Written) → written ≡ way → is_sound way ≡ true → is_sound written ≡ true
  way_sound way e h = subst (λ (w : Written). is_sound w ≡ true) (sym e) h

  constant_sound : (number : ℕ) (b : Bool) → is_sound (if b then ways.Constant number else ways.Entry op number) ≡ true
  constant_sound number true = refl
  constant_sound number false = refl

  branch_sound : (to : ℕ) (b : Bool) → is_sound (if b then ways.Far op to else ways.Near op to) ≡ true
  branch_sound to true = refl
  branch_sound to false = refl

  call_sound : (kind : MethodType) (number : ℕ) (b : Bool) → IsCallBy b op kind number written → is_sound written ≡ true
  call_sound kind number true d = way_sound (ways.Interface number d.0) d.2 refl
  call_sound kind number false d = way_sound (ways.Entry op number) d refl

  pub is_sound_way : (operand : Operand) → IsFormed op operand → at + instr_size op operand at ≤ 65535 → IsAsked pool labels op operand written → is_sound written ≡ true
  is_sound_way operands.Alone f few a = way_sound (ways.Alone op) a refl
  is_sound_way (operands.Byte number) f few a = way_sound (ways.PushByte number) a refl
  is_sound_way (operands.Short number) f few a = way_sound (ways.PushShort number) a refl
  is_sound_way (operands.Constant of) f few a =
      way_sound (if op == 0x12 then ways.Constant a.0 else ways.Entry op a.0) a.2 (constant_sound a.0 (op == 0x12))
  is_sound_way (operands.Local local) f few a = way_sound (ways.Local op local) a refl
  is_sound_way (operands.Increment local constant) f few a = way_sound (ways.Increment local constant) a refl
  is_sound_way (operands.Field field) f few a = way_sound (ways.Entry op a.0) a.2 refl
  is_sound_way (operands.Method method) f few a = call_sound method.kind a.0 (op == 0xb9) a.2
  is_sound_way (operands.New name) f few a = way_sound (ways.Entry op a.0) a.2 refl
  is_sound_way (operands.Type of) f few a = way_sound (ways.Entry op a.0) a.2 refl
  is_sound_way (operands.Primitive code) f few a = way_sound (ways.Primitive code) a refl
  is_sound_way (operands.Target label) f few a =
      way_sound (if op == 0xc8 then ways.Far op a.0 else ways.Near op a.0) a.2 (branch_sound a.0 (op == 0xc8))
  is_sound_way (operands.Table low default targets) f few a =
      way_sound (ways.Table low a.0 a.1) a.4
      (subst (λ (n : ℕ). is_table low n ≡ true) (zip_length (LeadsTo labels) targets a.1 a.3)
      (spelled_sound (shape_of (form_of op)) (operands.Table low default targets) f.0 f.1))
  is_sound_way (operands.Lookup default cases) f few a =
      let many : length cases ≡ length a.1 = zip_length (IsPair labels) cases a.1 a.3 in
      let size : at + (9 + padding_at (at + 1) + 8 * length cases) ≤ 65535 = few in
      way_sound (ways.Lookup a.0 a.1) a.4
      (and_from (nat_lt (length a.1) (2 ^ 31)) (are_rising key_of a.1) (lt-ltb (length a.1) (2 ^ 31) (omega arith))
      (same_rising labels cases a.1 a.3 ∙ spelled_sound (shape_of (form_of op)) (operands.Lookup default cases) f.0 f.1))
