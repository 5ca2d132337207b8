-- What holds of all rows of the tables of opcodes, row by row.
use Rattle.std.proofs.Common.{◌≡◌, ℕ, zero, suc, ◌<◌, ◌≤◌, Bool, true, false, ◌&&◌, ltb, eqb, List, [], ◌∷◌, Option, None, Some, is_some, Bor, refl, sym, subst, ◌∙◌, ap, arith}
use Rattle.std.proofs.lemmas.Bool.{and_parts, le-ltb, ltb-false, ltb-true, eqb-true, eqb-false}
use Rattle.std.specs.Option.{option_copied}
use Rattle.kb_code.specs.declared.instruction.Instr.{Instr}
use Rattle.kb_code.specs.declared.form.Form.{Form}
use Rattle.kb_code.specs.declared.form.Form.TheVariants as forms
use Rattle.kb_code.specs.Forms.{form_of, constant_form, load_form, store_form, stack_form, math_form, conversion_form, comparison_form, control_form, reference_form, extended_form}
use Rattle.kb_code.specs.Names.{name_of, is_looked_at, constant_name, load_name, store_name, stack_name, math_name, conversion_name, comparison_name, control_name, reference_name, extended_name}
use Rattle.kb_code.specs.Listing.{targets_of}

-- a test that all numbers below n pass
abbrev all_below : (ℕ → Bool) → ℕ → Bool
all_below test zero = true
all_below test (suc n) = test n && all_below test n

below : (test : ℕ → Bool) (n k : ℕ) → all_below test n ≡ true → k < n → test k ≡ true
below test zero k all lt = absurd (omega (arith, lt))
below test (suc n) k all lt = go (below test n k (and_parts (test n) (all_below test n) all).1) (eqb k n) refl where
  go : (k < n → test k ≡ true) → (b : Bool) → eqb k n ≡ b → test k ≡ true
  go more true same = subst (λ (m : ℕ). test m ≡ true) (sym (eqb-true k n same)) (and_parts (test n) (all_below test n) all).0
  go more false other = let apart : k ≡ n → ⊥ = eqb-false k n other in more (Prim.grind (arith, lt, apart))

-- an opcode above the table has no row
no_form : (op : ℕ) → 0xca ≤ op → form_of op ≡ None
unfolding form_of
no_form op high =
    rw (le-ltb op 0x15 (omega (arith, high)), le-ltb op 0x36 (omega (arith, high)), le-ltb op 0x57 (omega (arith, high)), le-ltb op 0x60 (omega (arith, high)), le-ltb op 0x85 (omega (arith, high)), le-ltb op 0x94 (omega (arith, high)), le-ltb op 0xa7 (omega (arith, high)), le-ltb op 0xb2 (omega (arith, high)), le-ltb op 0xc4 (omega (arith, high)), le-ltb op 0xca high) refl

no_name : (op : ℕ) → 0xca ≤ op → name_of op ≡ None
unfolding name_of
no_name op high =
    rw (le-ltb op 0x15 (omega (arith, high)), le-ltb op 0x36 (omega (arith, high)), le-ltb op 0x57 (omega (arith, high)), le-ltb op 0x60 (omega (arith, high)), le-ltb op 0x85 (omega (arith, high)), le-ltb op 0x94 (omega (arith, high)), le-ltb op 0xa7 (omega (arith, high)), le-ltb op 0xb2 (omega (arith, high)), le-ltb op 0xc4 (omega (arith, high)), le-ltb op 0xca high) refl

-- ---- names

abbrev same : Bool → Bool → Bool
same true b = b
same false true = false
same false false = true

same_is : (a b : Bool) → same a b ≡ true → a ≡ b
same_is true b h = sym h
same_is false true h = absurd cc
same_is false false h = refl

abbrev is_named_well : ℕ → Bool
is_named_well op = same (is_some (name_of op)) (is_looked_at op)

all_named_well : all_below is_named_well 0xca ≡ true
unfolding form_of constant_form load_form store_form stack_form math_form conversion_form comparison_form control_form reference_form extended_form name_of constant_name load_name store_name stack_name math_name conversion_name comparison_name control_name reference_name extended_name
all_named_well = refl

named_well : (op : ℕ) → is_some (name_of op) ≡ is_looked_at op
named_well op = go (ltb op 0xca) refl where
  go : (b : Bool) → ltb op 0xca ≡ b → is_some (name_of op) ≡ is_looked_at op
  go true low = same_is (is_some (name_of op)) (is_looked_at op) (below is_named_well 0xca op all_named_well (ltb-true op 0xca low))
  go false high = rw (no_form op (ltb-false op 0xca high), no_name op (ltb-false op 0xca high)) refl

copied_some : {A : Type 0} (found : Option (Bor A)) → is_some (option_copied found) ≡ is_some found
copied_some None = refl
copied_some (Some x) = refl

-- the opcodes that have a name are those that are looked at
pub some_is_looked_at : (found : Option (Bor (List ℕ))) (op : ℕ) → option_copied found ≡ name_of op
    → (is_some found ≡ true → is_looked_at op ≡ true) × (is_looked_at op ≡ true → is_some found ≡ true)
some_is_looked_at found op is =
    let same : is_some found ≡ is_looked_at op = sym (copied_some found) ∙ ap (λ (name : Option (List ℕ)). is_some name) is ∙ named_well op in
    ((λ h. sym same ∙ h), (λ h. same ∙ h))

-- ---- targets

abbrev is_nil : List ℕ → Bool
is_nil [] = true
is_nil _ = false

nil_is : (xs : List ℕ) → is_nil xs ≡ true → xs ≡ []
nil_is [] h = refl
nil_is (x ∷ xs) h = absurd cc

abbrev is_straight : Option Form → Bool
is_straight (Some (forms.Alone instr)) = is_nil (targets_of instr)
is_straight _ = true

abbrev is_straight_at : ℕ → Bool
is_straight_at op = is_straight (form_of op)

all_straight : all_below is_straight_at 0xca ≡ true
unfolding form_of constant_form load_form store_form stack_form math_form conversion_form comparison_form control_form reference_form extended_form
all_straight = refl

straight_at : (op : ℕ) → is_straight (form_of op) ≡ true
straight_at op = go (ltb op 0xca) refl where
  go : (b : Bool) → ltb op 0xca ≡ b → is_straight (form_of op) ≡ true
  go true low = below is_straight_at 0xca op all_straight (ltb-true op 0xca low)
  go false high = rw (no_form op (ltb-false op 0xca high)) refl

-- an instruction without operands has no targets
pub alone_has_no_targets : (op : ℕ) (instr : Instr) → form_of op ≡ Some (forms.Alone instr) → targets_of instr ≡ []
alone_has_no_targets op instr is = nil_is (targets_of instr) (subst (λ (f : Option Form). is_straight f ≡ true) is (straight_at op))
