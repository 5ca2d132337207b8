-- The bytes of an instruction spell it, and are as many as is said.
use Rattle.std.proofs.Common.{◌≡◌, ℕ, zero, suc, ◌+◌, ◌*◌, ◌<◌, ◌≤◌, ◌^◌, ℤ, pos, ◌+ℤ◌, ◌-ℤ◌, Bool, true, false, cond, nat_le, nat_lt, List, [], ◌∷◌, ◌++◌, length, map, take, Some, Result, Ok, Err, OnOk, refl, sym, subst, ap, ◌∙◌, arith, append_assoc, length-append}
use Rattle.std.specs.Prelude.{int_lt}
use Rattle.std.specs.Int.{w16, w32}
use Rattle.std.specs.Int.RustNames.{FitsSigned}
use Rattle.std.specs.List.{flat_map, list_all, repeat}
use Rattle.std.proofs.lemmas.Bool.{and_parts, leb-true, ltb-true}
use Rattle.std.proofs.lemmas.Int.{ints}
use Rattle.std.proofs.lemmas.List.{length-map}
use Rattle.kb_grammar.specs.Grammar.{◌⊳◌, Each}
use Rattle.kb_code.specs.declared.instruction.Instr.{Instr}
use Rattle.kb_code.specs.declared.instruction.Instr.TheVariants as instrs
use Rattle.kb_code.specs.declared.form.Form.{Form}
use Rattle.kb_code.specs.declared.form.Form.TheVariants as forms
use Rattle.kb_code.specs.declared.form.Branch.{Branch}
use Rattle.kb_code.specs.declared.form.Loose.{Loose}
use Rattle.kb_code.specs.declared.form.Loose.TheVariants as looses
use Rattle.kb_code.specs.Forms.{form_of, wide_form_of, branch_instr, constant_form, math_form, control_form, reference_form, extended_form}
use Rattle.kb_code.specs.Listing.{IsU1, IsU2, IsByte, IsInt, IsNear, IsFar, IsPadding, AreBytes, SpellsOperands, SpellsForm, SpellsLoose, SpellsWide, SpellsWideForm, SpellsPair, SpellsInstr, IsAbove, IsIncreasing, whole_pair}
use Rattle.kb_code.specs.Reading.{padding_at}
use Rattle.kb_code.specs.Switches.{key_of, are_above, are_rising, is_table}
use Rattle.kb_writer.specs.declared.written.Written.{Written}
use Rattle.kb_writer.specs.declared.written.Written.TheVariants as ways
use Rattle.kb_writer.specs.Numbers.{u2, byte, short, int}
use Rattle.kb_writer.specs.Instructions.{Writes, is_sound, is_near, is_far, reaches, near, far, padding, pair_bytes, bounds, switch_head, table_bytes, lookup_bytes, bytes_of, size_of, HaveInts, HasNumbers}
use Rattle.kb_writer.proofs.Bytes.{u1_spells, u2_spells, byte_spells, short_spells, int_spells, joined}

-- ---- how many bytes

repeated_length : (n : ℕ) → length {A = ℕ} (repeat n (0 ∷ [])) ≡ n
repeated_length zero = refl
repeated_length (suc n) = omega (arith, repeated_length n)

-- zeros, cut from three of them
pub zeros_are : (n : ℕ) → n < 4 → take {A = ℕ} n (0 ∷ 0 ∷ 0 ∷ []) ≡ repeat n (0 ∷ [])
zeros_are zero few = refl
zeros_are (suc zero) few = refl
zeros_are (suc (suc zero)) few = refl
zeros_are (suc (suc (suc zero))) few = refl
zeros_are (suc (suc (suc (suc n)))) few = absurd (omega (arith, few))

targets_length : (from : ℕ) (targets : List ℕ) → length (flat_map (far from) targets) ≡ 4 * length targets
targets_length from [] = refl
targets_length from (to ∷ targets) = omega (arith, length-append (far from to) (flat_map (far from) targets), targets_length from targets)

pairs_length : (from : ℕ) (pairs : List (ℤ × ℕ)) → length (flat_map (pair_bytes from) pairs) ≡ 8 * length pairs
pairs_length from [] = refl
pairs_length from (pair ∷ pairs) = omega (arith, length-append (pair_bytes from pair) (flat_map (pair_bytes from) pairs), pairs_length from pairs)

pub size_is : (w : Written) (at : ℕ) → length (bytes_of w at) ≡ size_of w at
unfolding bytes_of size_of switch_head bounds
size_is (ways.Alone op) at = refl
size_is (ways.PushByte z) at = refl
size_is (ways.PushShort z) at = refl
size_is (ways.Constant k) at = refl
size_is (ways.Local op k) at = go (nat_lt k 256) where
  go : (b : Bool) → length (cond b (op ∷ k ∷ []) (0xc4 ∷ op ∷ u2 k)) ≡ cond b 2 4
  go true = refl
  go false = refl
size_is (ways.Increment k z) at = refl
size_is (ways.Entry op k) at = refl
size_is (ways.Interface k words) at = refl
size_is (ways.Primitive k) at = refl
size_is (ways.Near op to) at = refl
size_is (ways.Far op to) at = refl
size_is (ways.Table low default targets) at =
    let p = padding at in
    let d = far at default in
    let l = int low in
    let h = int (low +ℤ pos (length targets) -ℤ pos 1) in
    let t = flat_map (far at) targets in
    omega (arith, length-append (p ++ d ++ (l ++ h)) t, length-append (p ++ d) (l ++ h), length-append l h, length-append p d, repeated_length (padding_at (at + 1)), targets_length at targets)
size_is (ways.Lookup default pairs) at =
    let p = padding at in
    let d = far at default in
    let c = int (pos (length pairs)) in
    let t = flat_map (pair_bytes at) pairs in
    omega (arith, length-append (p ++ d ++ c) t, length-append (p ++ d) c, length-append p d, repeated_length (padding_at (at + 1)), pairs_length at pairs)

-- ---- an opcode and what stands behind it

loose_spells : (op : ℕ) (form : Form) (loose : Loose) (at : ℕ) (rest : List ℕ) → form_of op ≡ Some form → SpellsForm at form loose (at + 1) rest → SpellsLoose loose at (op ∷ rest)
loose_spells op form loose at rest is s =
    (op, joined (IsU1 op) (SpellsOperands at (form_of op) loose) at (op ∷ []) rest (u1_spells op at) (rw is s))

straight : (op : ℕ) (form : Form) (instr : Instr) (at : ℕ) (rest : List ℕ) → form_of op ≡ Some form → SpellsForm at form (looses.Straight instr) (at + 1) rest → SpellsInstr instr at (op ∷ rest)
straight op form instr at rest is s = record { loose = looses.Straight instr; stands = refl; spelled = loose_spells op form (looses.Straight instr) at rest is s }

-- ---- distances

near_spells : (from to at : ℕ) → is_near from to ≡ true → IsNear from (pos to) at (near from to)
near_spells from to at reached =
    let b = and_parts (nat_le from (to + 2 ^ 15)) (nat_lt to (from + 2 ^ 15)) reached in
    let low : from ≤ to + 2 ^ 15 = leb-true from (to + 2 ^ 15) b.0 in
    let high : to < from + 2 ^ 15 = ltb-true to (from + 2 ^ 15) b.1 in
    let distance = pos to -ℤ pos from in
    let fits : FitsSigned w16 distance = omega (arith, ints, low, high) in
    let s = short_spells distance at fits in
    (s.0, omega (arith, ints, s.1), s.2)

far_spells : (from to at : ℕ) → is_far from to ≡ true → IsFar from (pos to) at (far from to)
far_spells from to at reached =
    let b = and_parts (nat_le from (to + 2 ^ 31)) (nat_lt to (from + 2 ^ 31)) reached in
    let low : from ≤ to + 2 ^ 31 = leb-true from (to + 2 ^ 31) b.0 in
    let high : to < from + 2 ^ 31 = ltb-true to (from + 2 ^ 31) b.1 in
    let distance = pos to -ℤ pos from in
    let fits : FitsSigned w32 distance = omega (arith, ints, low, high) in
    let s = int_spells distance at fits in
    (s.0, omega (arith, ints, s.1), s.2)

-- ---- switches

padding_spells : (from : ℕ) → IsPadding (from + 1) (padding from)
padding_spells from =
    let len = repeated_length (padding_at (from + 1)) in
    (omega (arith, len), omega (arith, len))

targets_spell : (from : ℕ) (targets : List ℕ) (at : ℕ) → list_all (is_far from) targets ≡ true → Each (IsFar from) (map pos targets) at (flat_map (far from) targets)
targets_spell from [] at h = refl
targets_spell from (to ∷ targets) at h =
    let b = and_parts (is_far from to) (list_all (is_far from) targets) h in
    joined (IsFar from (pos to)) (Each (IsFar from) (map pos targets)) at (far from to) (flat_map (far from) targets) (far_spells from to at b.0)
    (targets_spell from targets (at + length (far from to)) b.1)

pairs_spell : (from : ℕ) (pairs : List (ℤ × ℕ)) (at : ℕ) → list_all (λ pair. is_far from pair.1) pairs ≡ true → HaveInts pairs
    → Each (SpellsPair from) (map whole_pair pairs) at (flat_map (pair_bytes from) pairs)
pairs_spell from [] at h ints_fit = refl
pairs_spell from (pair ∷ pairs) at h ints_fit =
    let b = and_parts (is_far from pair.1) (list_all (λ (p : ℤ × ℕ). is_far from p.1) pairs) h in
    joined (SpellsPair from (whole_pair pair)) (Each (SpellsPair from) (map whole_pair pairs)) at (pair_bytes from pair) (flat_map (pair_bytes from) pairs)
    (joined (IsInt pair.0) (IsFar from (pos pair.1)) at (int pair.0) (far from pair.1) (int_spells pair.0 at ints_fit.0) (far_spells from pair.1 (at + length (int pair.0)) b.0))
    (pairs_spell from pairs (at + length (pair_bytes from pair)) b.1 ints_fit.1)

above_is : (low : ℤ) (pairs : List (ℤ × ℕ)) → are_above key_of low pairs ≡ true → IsAbove low (map whole_pair pairs)
above_is low [] h = tt
above_is low (pair ∷ pairs) h =
    let b = and_parts (int_lt low pair.0) (are_above key_of pair.0 pairs) h in
    (grind (arith, ints, b.0), above_is pair.0 pairs b.1)

increasing_is : (pairs : List (ℤ × ℕ)) → are_rising key_of pairs ≡ true → IsIncreasing (map whole_pair pairs)
increasing_is [] h = tt
increasing_is (pair ∷ pairs) h = above_is pair.0 pairs h

-- five parts, and four
regrouped : (a b c d e : List ℕ) → a ++ (b ++ (c ++ (d ++ e))) ≡ a ++ b ++ (c ++ d) ++ e
regrouped a b c d e = sym (append_assoc (a ++ b) (c ++ d) e ∙ append_assoc a b (c ++ d ++ e) ∙ ap (λ (l : List ℕ). a ++ (b ++ l)) (append_assoc c d e))

regrouped_four : (a b c d : List ℕ) → a ++ (b ++ (c ++ d)) ≡ a ++ b ++ c ++ d
regrouped_four a b c d = sym (append_assoc (a ++ b) c d ∙ append_assoc a b (c ++ d))

table_form : (from : ℕ) (low : ℤ) (default : ℕ) (targets : List ℕ) → FitsSigned w32 low → is_table low (length targets) ≡ true → is_far from default ≡ true
    → list_all (is_far from) targets ≡ true → SpellsInstr (instrs.Table low default targets) from (table_bytes from low default targets)
unfolding form_of control_form switch_head bounds
table_form from low default targets fits sound near_default reached =
    let b = and_parts (nat_le 1 (length targets)) (int_lt (low +ℤ pos (length targets) -ℤ pos 1) (pos (2 ^ 31))) sound in
    let many : length (map pos targets) ≡ length targets = length-map targets pos in
    let high = low +ℤ pos (length targets) -ℤ pos 1 in
    let whole = low +ℤ pos (length (map pos targets)) -ℤ pos 1 in
    let same : high ≡ whole = ap (λ (n : ℕ). low +ℤ pos n -ℤ pos 1) (sym many) in
    let some : 1 ≤ length targets = leb-true 1 (length targets) b.0 in
    let high_fits : FitsSigned w32 high = grind (arith, ints, fits, some, b.1) in
    let p = padding from in
    let d = far from default in
    let l = int low in
    let h = int high in
    let t = flat_map (far from) targets in
    let o1 = from + 1 + length p in
    let o2 = o1 + length d in
    let o3 = o2 + length l in
    let o4 = o3 + length h in
    let ends = joined (IsInt whole) (Each (IsFar from) (map pos targets)) o3 h t (subst (λ (z : ℤ). IsInt z o3 h) same (int_spells high o3 high_fits)) (targets_spell from targets o4 reached) in
    let lows = joined (IsInt low) (IsInt whole ⊳ Each (IsFar from) (map pos targets)) o2 l (h ++ t) (int_spells low o2 fits) ends in
    let defaults = joined (IsFar from (pos default)) (IsInt low ⊳ IsInt whole ⊳ Each (IsFar from) (map pos targets)) o1 d (l ++ (h ++ t)) (far_spells from default o1 near_default) lows in
    let all = joined IsPadding (IsFar from (pos default) ⊳ IsInt low ⊳ IsInt whole ⊳ Each (IsFar from) (map pos targets)) (from + 1) p (d ++ (l ++ (h ++ t))) (padding_spells from) defaults in
    let Items : List ℕ → Type 0 = λ bytes. (IsPadding ⊳ IsFar from (pos default) ⊳ IsInt low ⊳ IsInt whole ⊳ Each (IsFar from) (map pos targets)) (from + 1) bytes in
    let loose = looses.Table low (pos default) (map pos targets) in
    record {
      loose = loose;
      stands = (default, targets, refl, refl, refl);
      spelled = loose_spells 0xaa forms.Table loose from (p ++ d ++ (l ++ h) ++ t) refl
          (low, pos default, map pos targets, refl, record { some = omega (arith, some, many); items = subst Items (regrouped p d l h t) all });
    }

lookup_form : (from : ℕ) (default : ℕ) (pairs : List (ℤ × ℕ)) → HaveInts pairs → length pairs < 2 ^ 31 → are_rising key_of pairs ≡ true → is_far from default ≡ true
    → list_all (λ pair. is_far from pair.1) pairs ≡ true → SpellsInstr (instrs.Lookup default pairs) from (lookup_bytes from default pairs)
unfolding form_of control_form switch_head
lookup_form from default pairs fit few rising near_default reached =
    let many : length (map whole_pair pairs) ≡ length pairs = length-map pairs whole_pair in
    let count = pos (length pairs) in
    let whole = pos (length (map whole_pair pairs)) in
    let same : count ≡ whole = ap pos (sym many) in
    let count_fits : FitsSigned w32 count = omega (arith, ints, few) in
    let p = padding from in
    let d = far from default in
    let c = int count in
    let t = flat_map (pair_bytes from) pairs in
    let o1 = from + 1 + length p in
    let o2 = o1 + length d in
    let o3 = o2 + length c in
    let ends = joined (IsInt whole) (Each (SpellsPair from) (map whole_pair pairs)) o2 c t (subst (λ (z : ℤ). IsInt z o2 c) same (int_spells count o2 count_fits)) (pairs_spell from pairs o3 reached fit) in
    let defaults = joined (IsFar from (pos default)) (IsInt whole ⊳ Each (SpellsPair from) (map whole_pair pairs)) o1 d (c ++ t) (far_spells from default o1 near_default) ends in
    let all = joined IsPadding (IsFar from (pos default) ⊳ IsInt whole ⊳ Each (SpellsPair from) (map whole_pair pairs)) (from + 1) p (d ++ (c ++ t)) (padding_spells from) defaults in
    let Items : List ℕ → Type 0 = λ bytes. (IsPadding ⊳ IsFar from (pos default) ⊳ IsInt whole ⊳ Each (SpellsPair from) (map whole_pair pairs)) (from + 1) bytes in
    let loose = looses.Lookup (pos default) (map whole_pair pairs) in
    record {
      loose = loose;
      stands = (default, pairs, refl, refl, refl);
      spelled = loose_spells 0xab forms.Lookup loose from (p ++ d ++ c ++ t) refl
          (pos default, map whole_pair pairs, refl, record { increasing = increasing_is pairs rising; items = subst Items (regrouped_four p d c t) all });
    }

-- ---- every instruction

local_form : (op k : ℕ) (at : ℕ) → k < 2 ^ 16 → (instr : Instr) → Writes (ways.Local op k) instr → SpellsInstr instr at (bytes_of (ways.Local op k) at)
unfolding bytes_of form_of extended_form
local_form op k at few instr w = go (nat_lt k 256) where
  loose : Loose
  loose = looses.Straight instr

  wide : SpellsWide loose (at + 1) (op ∷ u2 k)
  wide = (op, joined (IsU1 op) (SpellsWideForm (wide_form_of op) loose) (at + 1) (op ∷ []) (u2 k) (u1_spells op (at + 1)) (rw w.2 (k, ap looses.Straight w.3, u2_spells k (at + 1 + 1) few)))

  go : (b : Bool) → SpellsInstr instr at (cond b (op ∷ k ∷ []) (0xc4 ∷ op ∷ u2 k))
  go true = straight op (forms.Local w.0) instr at (k ∷ []) w.1 (k, ap looses.Straight w.3, u1_spells k (at + 1))
  go false = straight 0xc4 forms.Wide instr at (op ∷ u2 k) refl wide

jump_form : (op : ℕ) (form : Form) (branch : Branch) (to at : ℕ) (rest : List ℕ) (instr : Instr) → form_of op ≡ Some form → instr ≡ branch_instr branch to
    → SpellsForm at form (looses.Jump branch (pos to)) (at + 1) rest → SpellsInstr instr at (op ∷ rest)
jump_form op form branch to at rest instr is made s =
    record { loose = looses.Jump branch (pos to); stands = (to, refl, made); spelled = loose_spells op form (looses.Jump branch (pos to)) at rest is s }

pub spells : (w : Written) (at : ℕ) → HasNumbers w → is_sound w ≡ true → reaches w at ≡ true → (instr : Instr) → Writes w instr → SpellsInstr instr at (bytes_of w at)
unfolding bytes_of form_of constant_form math_form reference_form
spells (ways.Alone op) at fit sound reached instr w = straight op (forms.Alone instr) instr at [] w (refl, refl)
spells (ways.PushByte z) at fit sound reached instr w = straight 0x10 forms.PushByte instr at (byte z) refl (z, ap looses.Straight w, byte_spells z (at + 1) fit)
spells (ways.PushShort z) at fit sound reached instr w = straight 0x11 forms.PushShort instr at (short z) refl (z, ap looses.Straight w, short_spells z (at + 1) fit)
spells (ways.Constant k) at fit sound reached instr w = straight 0x12 forms.Constant instr at (k ∷ []) refl (k, ap looses.Straight w, u1_spells k (at + 1))
spells (ways.Local op k) at fit sound reached instr w = local_form op k at fit instr w
spells (ways.Increment k z) at fit sound reached instr w =
    straight 0x84 forms.Increment instr at (k ∷ byte z) refl
    (k, z, ap looses.Straight w, joined (IsU1 k) (IsByte z) (at + 1) (k ∷ []) (byte z) (u1_spells k (at + 1)) (byte_spells z (at + 1 + 1) fit))
spells (ways.Entry op k) at fit sound reached instr w =
    straight op (forms.Entry w.0) instr at (u2 k) w.1 (k, ap looses.Straight w.2, u2_spells k (at + 1) fit)
spells (ways.Interface k words) at fit sound reached instr w =
    straight 0xb9 forms.Interface instr at (u2 k ++ words ∷ 0 ∷ []) refl
    (k, ap looses.Straight w, joined (IsU2 k) (AreBytes 2) (at + 1) (u2 k) (words ∷ 0 ∷ []) (u2_spells k (at + 1) fit) (words ∷ 0 ∷ [], (refl, refl)))
spells (ways.Primitive k) at fit sound reached instr w = straight 0xbc forms.Primitive instr at (k ∷ []) refl (k, ap looses.Straight w, u1_spells k (at + 1))
spells (ways.Near op to) at fit sound reached instr w =
    jump_form op (forms.Near w.0) w.0 to at (near at to) instr w.1 w.2 (pos to, refl, near_spells at to (at + 1) reached)
spells (ways.Far op to) at fit sound reached instr w =
    jump_form op (forms.Far w.0) w.0 to at (far at to) instr w.1 w.2 (pos to, refl, far_spells at to (at + 1) reached)
spells (ways.Table low default targets) at fit sound reached instr w =
    let b = and_parts (is_far at default) (list_all (is_far at) targets) reached in
    subst (λ (i : Instr). SpellsInstr i at (table_bytes at low default targets)) (sym w) (table_form at low default targets fit sound b.0 b.1)
spells (ways.Lookup default pairs) at fit sound reached instr w =
    let b = and_parts (is_far at default) (list_all (λ (pair : ℤ × ℕ). is_far at pair.1) pairs) reached in
    let s = and_parts (nat_lt (length pairs) (2 ^ 31)) (are_rising key_of pairs) sound in
    let few : length pairs < 2 ^ 31 = ltb-true (length pairs) (2 ^ 31) s.0 in
    subst (λ (i : Instr). SpellsInstr i at (lookup_bytes at default pairs)) (sym w) (lookup_form at default pairs fit few s.1 b.0 b.1)

pub on_ok : {A E P Q : Type 0} (r : Result A E) → (P → Q) → OnOk r P → OnOk r Q
on_ok (Ok x) f h = f h
on_ok (Err x) f h = tt
