-- The reader of an instruction is exact for its grammar, part by part.
use Rattle.std.proofs.Common.{◌≡◌, ℕ, ◌+◌, ◌-◌, ◌%◌, ◌≤◌, ℤ, pos, ◌+ℤ◌, ◌-ℤ◌, nat_abs, Bool, true, false, cond, List, [], ◌∷◌, ◌++◌, length, Option, None, Some, refl, sym, subst, ◌∙◌, ap, arith, append_assoc, length-append}
use Rattle.std.specs.Prelude.{int_lt}
use Rattle.std.specs.Int.{w8, w16, w32, cast_signed}
use Rattle.std.proofs.lemmas.Bool.{and_parts, and_from, le-ltb}
use Rattle.std.proofs.lemmas.Int.{ints}
use Rattle.kb_grammar.specs.Reading.{Reader, ◌>>=◌, done, judged, run, repeated}
use Rattle.kb_grammar.specs.Grammar.{Piece, ◌⊳◌, IsRunOf, IsNumber, Each, Exact}
use Rattle.kb_grammar.proofs.Laws.{exact_same, bind_exact, made_exact, done_exact, fault_exact, here_exact, judged_exact, run_exact, number_exact, repeated_exact}
use Rattle.kb_code.specs.declared.instruction.Instr.TheVariants as instrs
use Rattle.kb_code.specs.declared.form.Form.{Form}
use Rattle.kb_code.specs.declared.form.Form.TheVariants as forms
use Rattle.kb_code.specs.declared.form.WideForm.{WideForm}
use Rattle.kb_code.specs.declared.form.WideForm.TheVariants as wides
use Rattle.kb_code.specs.declared.form.Loose.{Loose}
use Rattle.kb_code.specs.declared.form.Loose.TheVariants as looses
use Rattle.kb_code.specs.declared.refusal.CodeRefusal.{CodeRefusal}
use Rattle.kb_code.specs.declared.refusal.CodeRefusal.TheVariants as refusals
use Rattle.kb_code.specs.Forms.{form_of, wide_form_of, local_instr, entry_instr}
use Rattle.kb_code.specs.Listing.{IsU1, IsU2, IsByte, IsShort, IsInt, IsNear, IsFar, IsPadding, AreBytes, IsAbove, IsIncreasing, SpellsPair, SpellsWideForm, SpellsWide, SpellsForm, SpellsOperands, SpellsLoose}
use Rattle.kb_code.specs.Switches.{key_of, are_above, are_rising}
use Rattle.kb_code.specs.Reading.{cut, u1, u2, u4, byte, short, int, near, far, padding_at, padding, bounds_fault, bounds, count_of, table_switch, count_fault, keys_fault, pair, lookup_switch, skipped, increment, wide_increment, interface_call, wide_formed, widened, formed, operands, instruction, item}

-- ---- tools

-- two values, one after the other, and what is made of them
abbrev Two : {X Y A : Type 0} → (X → Y → A) → (X → Piece) → (Y → Piece) → A → Piece
Two {X = X} {Y = Y} g S T z at bytes = (x : X) × (y : Y) × (z ≡ g x y) × (S x ⊳ T y) at bytes

two_exact : {E X Y A : Type 0} (short : ℕ → E) (r : Reader E X) (s : Reader E Y) (g : X → Y → A) (S : X → Piece) (T : Y → Piece)
    → Exact short r S → Exact short s T → Exact short (r >>= λ x. s >>= λ y. done (g x y)) (Two g S T)
two_exact {E} {X} {Y} {A} short r s g S T first second =
    exact_same short (r >>= λ x. s >>= λ y. done (g x y)) (λ z at bytes. (x : X) × (S x ⊳ (λ o back. (y : Y) × (z ≡ g x y) × T y o back)) at bytes) (Two g S T)
    (bind_exact short r (λ x. s >>= λ y. done (g x y)) S (λ x z o back. (y : Y) × (z ≡ g x y) × T y o back) first (λ x. made_exact short s (g x) T second))
    (λ z at bytes h. (h.0, h.1.ends.0, h.1.ends.1, record { front = h.1.front; back = h.1.back; parts = h.1.parts; begins = h.1.begins; ends = h.1.ends.2 }))
    (λ z at bytes h. (h.0, record { front = h.3.front; back = h.3.back; parts = h.3.parts; begins = h.3.begins; ends = (h.1, h.2, h.3.ends) }))

-- ---- numbers

u1_exact : (from : ℕ) → Exact (cut from) (u1 from) IsU1
u1_exact from = number_exact (cut from) 1

u2_exact : (from : ℕ) → Exact (cut from) (u2 from) IsU2
u2_exact from = number_exact (cut from) 2

byte_exact : (from : ℕ) → Exact (cut from) (byte from) IsByte
unfolding byte
byte_exact from = made_exact (cut from) (u1 from) (λ n. cast_signed w8 n) IsU1 (u1_exact from)

short_exact : (from : ℕ) → Exact (cut from) (short from) IsShort
unfolding short
short_exact from = made_exact (cut from) (u2 from) (λ n. cast_signed w16 n) IsU2 (u2_exact from)

int_exact : (from : ℕ) → Exact (cut from) (int from) IsInt
unfolding int
int_exact from = made_exact (cut from) (u4 from) (λ n. cast_signed w32 n) (IsNumber 4) (number_exact (cut from) 4)

near_exact : (from : ℕ) → Exact (cut from) (near from) (IsNear from)
unfolding near
near_exact from = made_exact (cut from) (u2 from) (λ n. pos from +ℤ cast_signed w16 n) IsU2 (u2_exact from)

far_exact : (from : ℕ) → Exact (cut from) (far from) (IsFar from)
unfolding far
far_exact from = made_exact (cut from) (u4 from) (λ n. pos from +ℤ cast_signed w32 n) (IsNumber 4) (number_exact (cut from) 4)

-- ---- switches

abbrev PaddedBy : List ℕ → Piece
PaddedBy text at bytes = IsRunOf (padding_at at) text at bytes

padding_exact : (from : ℕ) → Exact (cut from) (padding from) PaddedBy
unfolding padding
padding_exact from = here_exact (cut from) (λ at. run (cut from) (padding_at at)) (λ at text o bytes. IsRunOf (padding_at at) text o bytes) (λ at. run_exact (cut from) (padding_at at))

padded : (text : List ℕ) (at : ℕ) (bytes : List ℕ) → PaddedBy text at bytes → IsPadding at bytes
padded text at bytes s =
    let len : length bytes ≡ (4 - at % 4) % 4 = ap length s.1 ∙ s.0 in
    (omega (arith, len), omega (arith, len))

padding_is : (at : ℕ) (bytes : List ℕ) → IsPadding at bytes → PaddedBy bytes at bytes
padding_is at bytes s = (omega (arith, s.0, s.1), refl)

none_if_false : (b : Bool) (e : CodeRefusal) → (let told : Option CodeRefusal = cond b (Some e) None in told ≡ None) → b ≡ false
none_if_false true e h = absurd cc
none_if_false false e h = refl

none_if_true : (b : Bool) (e : CodeRefusal) → (let told : Option CodeRefusal = cond b None (Some e) in told ≡ None) → b ≡ true
none_if_true true e h = refl
none_if_true false e h = absurd cc

abbrev BoundsAre : ℤ × ℤ → Piece
BoundsAre ends at bytes = (int_lt ends.1 ends.0 ≡ false) × Two (λ (low high : ℤ). (low, high)) IsInt IsInt ends at bytes

bounds_exact : (from : ℕ) → Exact (cut from) (judged (bounds_fault from) (bounds from)) BoundsAre
unfolding bounds
bounds_exact from =
    judged_exact (cut from) (bounds_fault from) (int from >>= λ low. int from >>= λ high. done (low, high)) (Two (λ (low high : ℤ). (low, high)) IsInt IsInt) (λ ends. int_lt ends.1 ends.0 ≡ false)
    (two_exact (cut from) (int from) (int from) (λ low high. (low, high)) IsInt IsInt (int_exact from) (int_exact from))
    (λ at ends h. none_if_false (int_lt ends.1 ends.0) (refusals.Switch from) h)
    (λ at ends h. rw h refl)

pair_exact : (from : ℕ) → Exact (cut from) (pair from) (SpellsPair from)
unfolding pair
pair_exact from =
    exact_same (cut from) (int from >>= λ key. far from >>= λ to. done (key, to)) (Two (λ (key to : ℤ). (key, to)) IsInt (IsFar from)) (SpellsPair from)
    (two_exact (cut from) (int from) (far from) (λ key to. (key, to)) IsInt (IsFar from) (int_exact from) (far_exact from))
    (λ z at bytes h. let P : ℤ × ℤ → Type 0 = λ q. (IsInt q.0 ⊳ IsFar from q.1) at bytes in subst P (sym h.2) h.3)
    (λ z at bytes h. (z.0, z.1, refl, h))

-- the parts of a tableswitch, in the order of the reader
abbrev TableRead : ℕ → Loose → Piece
TableRead from loose at bytes =
    (text : List ℕ) × (PaddedBy text ⊳ (λ o1 b1. (default : ℤ) × (IsFar from default ⊳ (λ o2 b2. (ends : ℤ × ℤ) × (BoundsAre ends ⊳ (λ o3 b3.
    (targets : List ℤ) × (loose ≡ looses.Table ends.0 default targets) × ((length targets ≡ count_of ends) × Each (IsFar from) targets o3 b3))) o2 b2)) o1 b1)) at bytes

highest : (low high : ℤ) (n : ℕ) → int_lt high low ≡ false → n ≡ nat_abs (high -ℤ low) + 1 → high ≡ low +ℤ pos n -ℤ pos 1
highest low high n upward many = omega (arith, ints, many, upward)

counted : (low high : ℤ) (n : ℕ) → 1 ≤ n → high ≡ low +ℤ pos n -ℤ pos 1 → (int_lt high low ≡ false) × (n ≡ nat_abs (high -ℤ low) + 1)
counted low high n some is = (grind (arith, ints, some, is), omega (arith, ints, some, is))

table_to : (from : ℕ) (loose : Loose) (at : ℕ) (bytes : List ℕ) → TableRead from loose at bytes → SpellsForm from forms.Table loose at bytes
table_to from loose at bytes h =
    let p = h.1 in
    let d = p.ends.1 in
    let e = d.ends.1 in
    let t = e.ends in
    let two = e.begins.1 in
    let ends = d.ends.0 in
    let first : two.0 ≡ ends.0 = ap (λ (q : ℤ × ℤ). q.0) (sym two.2) in
    let second : two.1 ≡ ends.1 = ap (λ (q : ℤ × ℤ). q.1) (sym two.2) in
    let high : ends.1 ≡ ends.0 +ℤ pos (length t.0) -ℤ pos 1 = highest ends.0 ends.1 (length t.0) e.begins.0 t.2.0 in
    let some : 1 ≤ length t.0 = omega (arith, t.2.0) in (
      ends.0,
      p.ends.0,
      t.0,
      t.1,
      record {
        some = some;
        items = record {
          front = p.front;
          back = p.back;
          parts = p.parts;
          begins = padded h.0 at p.front p.begins;
          ends = record {
            front = d.front;
            back = d.back;
            parts = d.parts;
            begins = d.begins;
            ends = record {
              front = two.3.front;
              back = two.3.back ++ e.back;
              parts = e.parts ∙ ap (λ (l : List ℕ). l ++ e.back) two.3.parts ∙ append_assoc two.3.front two.3.back e.back;
              begins = subst (λ (z : ℤ). IsInt z (at + length p.front + length d.front) two.3.front) first two.3.begins;
              ends = record {
                front = two.3.back;
                back = e.back;
                parts = refl;
                begins = subst (λ (z : ℤ). IsInt z (at + length p.front + length d.front + length two.3.front) two.3.back) (second ∙ high) two.3.ends;
                ends = (let len : at + length p.front + length d.front + length e.front ≡ at + length p.front + length d.front + length two.3.front + length two.3.back =
                    omega (arith, ap length two.3.parts, length-append two.3.front two.3.back) in subst (λ (o : ℕ). Each (IsFar from) t.0 o e.back) len t.2.1);
              };
            };
          };
        };
      },
    )

table_from : (from : ℕ) (loose : Loose) (at : ℕ) (bytes : List ℕ) → SpellsForm from forms.Table loose at bytes → TableRead from loose at bytes
table_from from loose at bytes h =
    let low = h.0 in
    let default = h.1 in
    let targets = h.2 in
    let high : ℤ = low +ℤ pos (length targets) -ℤ pos 1 in
    let p = h.4.items in
    let d = p.ends in
    let l = d.ends in
    let i = l.ends in
    let c = counted low high (length targets) h.4.some refl in (
      p.front,
      record {
        front = p.front;
        back = p.back;
        parts = p.parts;
        begins = padding_is at p.front p.begins;
        ends = (
          default,
          record {
            front = d.front;
            back = d.back;
            parts = d.parts;
            begins = d.begins;
            ends = (
              (low, high),
              record {
                front = l.front ++ i.front;
                back = i.back;
                parts = l.parts ∙ ap (λ (r : List ℕ). l.front ++ r) i.parts ∙ sym (append_assoc l.front i.front i.back);
                begins = (c.0, (low, high, refl, record { front = l.front; back = i.front; parts = refl; begins = l.begins; ends = i.begins }));
                ends = (
                  targets,
                  h.3,
                  (
                    c.1,
                    (let len : at + length p.front + length d.front + length l.front + length i.front ≡ at + length p.front + length d.front + length (l.front ++ i.front) =
                        omega (arith, length-append l.front i.front) in subst (λ (o : ℕ). Each (IsFar from) targets o i.back) len i.ends),
                  ),
                );
              },
            );
          },
        );
      },
    )

table_exact : (from : ℕ) → Exact (cut from) (table_switch from) (SpellsForm from forms.Table)
unfolding table_switch
table_exact from =
    exact_same (cut from) (padding from >>= λ text. far from >>= λ default. judged (bounds_fault from) (bounds from) >>= λ ends. repeated (λ number. far from) (count_of ends) >>= λ targets. done (looses.Table ends.0 default targets)) (TableRead from) (SpellsForm from forms.Table)
    (bind_exact (cut from) (padding from) (λ text. far from >>= λ default. judged (bounds_fault from) (bounds from) >>= λ ends. repeated (λ number. far from) (count_of ends) >>= λ targets. done (looses.Table ends.0 default targets)) PaddedBy
    (λ text loose o1 b1. (default : ℤ) × (IsFar from default ⊳ (λ o2 b2. (ends : ℤ × ℤ) × (BoundsAre ends ⊳ (λ o3 b3. (targets : List ℤ) × (loose ≡ looses.Table ends.0 default targets) × ((length targets ≡ count_of ends) × Each (IsFar from) targets o3 b3))) o2 b2)) o1 b1) (padding_exact from)
    (λ text. bind_exact (cut from) (far from) (λ default. judged (bounds_fault from) (bounds from) >>= λ ends. repeated (λ number. far from) (count_of ends) >>= λ targets. done (looses.Table ends.0 default targets)) (IsFar from)
    (λ default loose o2 b2. (ends : ℤ × ℤ) × (BoundsAre ends ⊳ (λ o3 b3. (targets : List ℤ) × (loose ≡ looses.Table ends.0 default targets) × ((length targets ≡ count_of ends) × Each (IsFar from) targets o3 b3))) o2 b2) (far_exact from)
    (λ default. bind_exact (cut from) (judged (bounds_fault from) (bounds from)) (λ ends. repeated (λ number. far from) (count_of ends) >>= λ targets. done (looses.Table ends.0 default targets)) BoundsAre
    (λ ends loose o3 b3. (targets : List ℤ) × (loose ≡ looses.Table ends.0 default targets) × ((length targets ≡ count_of ends) × Each (IsFar from) targets o3 b3)) (bounds_exact from)
    (λ ends. made_exact (cut from) (repeated (λ number. far from) (count_of ends)) (λ targets. looses.Table ends.0 default targets) (λ targets o b. (length targets ≡ count_of ends) × Each (IsFar from) targets o b)
    (repeated_exact (cut from) (λ number. far from) (IsFar from) (count_of ends) (λ number. far_exact from))))))
    (table_to from) (table_from from)

-- whether ints rise
above_to : (low : ℤ) (pairs : List (ℤ × ℤ)) → are_above key_of low pairs ≡ true → IsAbove low pairs
above_to low [] h = tt
above_to low (p ∷ pairs) h =
    let both = and_parts (int_lt low p.0) (are_above key_of p.0 pairs) h in
    (grind (arith, ints, both.0), above_to p.0 pairs both.1)

above_from : (low : ℤ) (pairs : List (ℤ × ℤ)) → IsAbove low pairs → are_above key_of low pairs ≡ true
above_from low [] h = refl
above_from low (p ∷ pairs) h = and_from (int_lt low p.0) (are_above key_of p.0 pairs) (grind (arith, ints, h.0)) (above_from p.0 pairs h.1)

increasing_to : (pairs : List (ℤ × ℤ)) → are_rising key_of pairs ≡ true → IsIncreasing pairs
increasing_to [] h = tt
increasing_to (p ∷ pairs) h = above_to p.0 pairs h

increasing_from : (pairs : List (ℤ × ℤ)) → IsIncreasing pairs → are_rising key_of pairs ≡ true
increasing_from [] h = refl
increasing_from (p ∷ pairs) h = above_from p.0 pairs h

abbrev CountIs : ℤ → Piece
CountIs count at bytes = (int_lt count (pos 0) ≡ false) × IsInt count at bytes

count_exact : (from : ℕ) → Exact (cut from) (judged (count_fault from) (int from)) CountIs
count_exact from =
    judged_exact (cut from) (count_fault from) (int from) IsInt (λ count. int_lt count (pos 0) ≡ false) (int_exact from)
    (λ at count h. none_if_false (int_lt count (pos 0)) (refusals.Switch from) h) (λ at count h. rw h refl)

abbrev PairsAre : ℕ → ℕ → List (ℤ × ℤ) → Piece
PairsAre from n pairs at bytes = IsIncreasing pairs × ((length pairs ≡ n) × Each (SpellsPair from) pairs at bytes)

pairs_exact : (from n : ℕ) → Exact (cut from) (judged (keys_fault from) (repeated (λ number. pair from) n)) (PairsAre from n)
pairs_exact from n =
    judged_exact (cut from) (keys_fault from) (repeated (λ number. pair from) n) (λ pairs at bytes. (length pairs ≡ n) × Each (SpellsPair from) pairs at bytes) IsIncreasing
    (repeated_exact (cut from) (λ number. pair from) (SpellsPair from) n (λ number. pair_exact from))
    (λ at pairs h. increasing_to pairs (none_if_true (are_rising key_of pairs) (refusals.Switch from) h)) (λ at pairs h. rw (increasing_from pairs h) refl)

abbrev LookupRead : ℕ → Loose → Piece
LookupRead from loose at bytes =
    (text : List ℕ) × (PaddedBy text ⊳ (λ o1 b1. (default : ℤ) × (IsFar from default ⊳ (λ o2 b2. (count : ℤ) × (CountIs count ⊳ (λ o3 b3.
    (pairs : List (ℤ × ℤ)) × (loose ≡ looses.Lookup default pairs) × PairsAre from (nat_abs count) pairs o3 b3)) o2 b2)) o1 b1)) at bytes

whole_count : (count : ℤ) (n : ℕ) → int_lt count (pos 0) ≡ false → n ≡ nat_abs count → count ≡ pos n
whole_count count n some is = omega (arith, ints, some, is)

lookup_to : (from : ℕ) (loose : Loose) (at : ℕ) (bytes : List ℕ) → LookupRead from loose at bytes → SpellsForm from forms.Lookup loose at bytes
lookup_to from loose at bytes h =
    let p = h.1 in
    let d = p.ends.1 in
    let c = d.ends.1 in
    let q = c.ends in
    let many : d.ends.0 ≡ pos (length q.0) = whole_count d.ends.0 (length q.0) c.begins.0 q.2.1.0 in (
      p.ends.0,
      q.0,
      q.1,
      record {
        increasing = q.2.0;
        items = record {
          front = p.front;
          back = p.back;
          parts = p.parts;
          begins = padded h.0 at p.front p.begins;
          ends = record {
            front = d.front;
            back = d.back;
            parts = d.parts;
            begins = d.begins;
            ends = record {
              front = c.front;
              back = c.back;
              parts = c.parts;
              begins = subst (λ (z : ℤ). IsInt z (at + length p.front + length d.front) c.front) many c.begins.1;
              ends = q.2.1.1;
            };
          };
        };
      },
    )

lookup_from : (from : ℕ) (loose : Loose) (at : ℕ) (bytes : List ℕ) → SpellsForm from forms.Lookup loose at bytes → LookupRead from loose at bytes
lookup_from from loose at bytes h =
    let p = h.3.items in
    let d = p.ends in
    let c = d.ends in (
      p.front,
      record {
        front = p.front;
        back = p.back;
        parts = p.parts;
        begins = padding_is at p.front p.begins;
        ends = (
          h.0,
          record {
            front = d.front;
            back = d.back;
            parts = d.parts;
            begins = d.begins;
            ends = (
              pos (length h.1),
              record {
                front = c.front;
                back = c.back;
                parts = c.parts;
                begins = (le-ltb (length h.1) 0 (omega arith), c.begins);
                ends = (h.1, h.2, (h.3.increasing, (refl, c.ends)));
              },
            );
          },
        );
      },
    )

lookup_exact : (from : ℕ) → Exact (cut from) (lookup_switch from) (SpellsForm from forms.Lookup)
unfolding lookup_switch
lookup_exact from =
    exact_same (cut from) (padding from >>= λ text. far from >>= λ default. judged (count_fault from) (int from) >>= λ count. judged (keys_fault from) (repeated (λ number. pair from) (nat_abs count)) >>= λ pairs. done (looses.Lookup default pairs)) (LookupRead from) (SpellsForm from forms.Lookup)
    (bind_exact (cut from) (padding from) (λ text. far from >>= λ default. judged (count_fault from) (int from) >>= λ count. judged (keys_fault from) (repeated (λ number. pair from) (nat_abs count)) >>= λ pairs. done (looses.Lookup default pairs)) PaddedBy
    (λ text loose o1 b1. (default : ℤ) × (IsFar from default ⊳ (λ o2 b2. (count : ℤ) × (CountIs count ⊳ (λ o3 b3. (pairs : List (ℤ × ℤ)) × (loose ≡ looses.Lookup default pairs) × PairsAre from (nat_abs count) pairs o3 b3)) o2 b2)) o1 b1) (padding_exact from)
    (λ text. bind_exact (cut from) (far from) (λ default. judged (count_fault from) (int from) >>= λ count. judged (keys_fault from) (repeated (λ number. pair from) (nat_abs count)) >>= λ pairs. done (looses.Lookup default pairs)) (IsFar from)
    (λ default loose o2 b2. (count : ℤ) × (CountIs count ⊳ (λ o3 b3. (pairs : List (ℤ × ℤ)) × (loose ≡ looses.Lookup default pairs) × PairsAre from (nat_abs count) pairs o3 b3)) o2 b2) (far_exact from)
    (λ default. bind_exact (cut from) (judged (count_fault from) (int from)) (λ count. judged (keys_fault from) (repeated (λ number. pair from) (nat_abs count)) >>= λ pairs. done (looses.Lookup default pairs)) CountIs
    (λ count loose o3 b3. (pairs : List (ℤ × ℤ)) × (loose ≡ looses.Lookup default pairs) × PairsAre from (nat_abs count) pairs o3 b3) (count_exact from)
    (λ count. made_exact (cut from) (judged (keys_fault from) (repeated (λ number. pair from) (nat_abs count))) (λ pairs. looses.Lookup default pairs) (PairsAre from (nat_abs count)) (pairs_exact from (nat_abs count))))))
    (lookup_to from) (lookup_from from)

-- ---- one instruction

skipped_exact : (from op n : ℕ) → Exact (cut from) (skipped from op n) (λ loose at bytes. (loose ≡ looses.Straight (instrs.Other op)) × AreBytes n at bytes)
unfolding skipped
skipped_exact from op n =
    exact_same (cut from) (run (cut from) n >>= λ text. done (looses.Straight (instrs.Other op))) (λ loose at bytes. (text : List ℕ) × (loose ≡ looses.Straight (instrs.Other op)) × IsRunOf n text at bytes) (λ loose at bytes. (loose ≡ looses.Straight (instrs.Other op)) × AreBytes n at bytes)
    (made_exact (cut from) (run (cut from) n) (λ text. looses.Straight (instrs.Other op)) (IsRunOf n) (run_exact (cut from) n))
    (λ loose at bytes h. (h.1, (h.0, h.2))) (λ loose at bytes h. (h.1.0, h.0, h.1.1))

increment_exact : (from : ℕ) → Exact (cut from) (increment from) (SpellsForm from forms.Increment)
unfolding increment
increment_exact from = two_exact (cut from) (u1 from) (byte from) (λ k z. looses.Straight (instrs.Inc k z)) IsU1 IsByte (u1_exact from) (byte_exact from)

wide_increment_exact : (from : ℕ) → Exact (cut from) (wide_increment from) (SpellsWideForm (Some wides.Increment))
unfolding wide_increment
wide_increment_exact from = two_exact (cut from) (u2 from) (short from) (λ k z. looses.Straight (instrs.Inc k z)) IsU2 IsShort (u2_exact from) (short_exact from)

interface_exact : (from : ℕ) → Exact (cut from) (interface_call from) (SpellsForm from forms.Interface)
unfolding interface_call
interface_exact from =
    exact_same (cut from) (u2 from >>= λ k. run (cut from) 2 >>= λ rest. done (looses.Straight (instrs.Interface k))) (Two (λ (k : ℕ) (rest : List ℕ). looses.Straight (instrs.Interface k)) IsU2 (IsRunOf 2)) (SpellsForm from forms.Interface)
    (two_exact (cut from) (u2 from) (run (cut from) 2) (λ k rest. looses.Straight (instrs.Interface k)) IsU2 (IsRunOf 2) (u2_exact from) (run_exact (cut from) 2))
    (λ loose at bytes h. (h.0, h.2, record { front = h.3.front; back = h.3.back; parts = h.3.parts; begins = h.3.begins; ends = (h.1, h.3.ends) }))
    (λ loose at bytes h. (h.0, h.2.ends.0, h.1, record { front = h.2.front; back = h.2.back; parts = h.2.parts; begins = h.2.begins; ends = h.2.ends.1 }))

wide_formed_exact : (from op : ℕ) (form : Option WideForm) → Exact (cut from) (wide_formed from op form) (SpellsWideForm form)
unfolding wide_formed
wide_formed_exact from op None = fault_exact (cut from) (refusals.Opcode from op) (SpellsWideForm None) (λ y at text s. s)
wide_formed_exact from op (Some (wides.Local local)) = made_exact (cut from) (u2 from) (λ k. looses.Straight (local_instr local k)) IsU2 (u2_exact from)
wide_formed_exact from op (Some wides.Increment) = wide_increment_exact from
wide_formed_exact from op (Some (wides.Skipped other)) = skipped_exact from other 2

widened_exact : (from : ℕ) → Exact (cut from) (widened from) SpellsWide
unfolding widened
widened_exact from =
    bind_exact (cut from) (u1 from) (λ op. wide_formed from op (wide_form_of op)) IsU1 (λ op loose. SpellsWideForm (wide_form_of op) loose) (u1_exact from)
    (λ op. wide_formed_exact from op (wide_form_of op))

formed_exact : (from : ℕ) (form : Form) → Exact (cut from) (formed from form) (SpellsForm from form)
unfolding formed
formed_exact from (forms.Alone instr) = done_exact (cut from) (looses.Straight instr) (λ loose. loose ≡ looses.Straight instr) (λ y e. e) refl
formed_exact from forms.PushByte = made_exact (cut from) (byte from) (λ z. looses.Straight (instrs.PushInt z)) IsByte (byte_exact from)
formed_exact from forms.PushShort = made_exact (cut from) (short from) (λ z. looses.Straight (instrs.PushInt z)) IsShort (short_exact from)
formed_exact from forms.Constant = made_exact (cut from) (u1 from) (λ k. looses.Straight (instrs.Ldc k)) IsU1 (u1_exact from)
formed_exact from (forms.Local local) = made_exact (cut from) (u1 from) (λ k. looses.Straight (local_instr local k)) IsU1 (u1_exact from)
formed_exact from forms.Increment = increment_exact from
formed_exact from (forms.Entry entry) = made_exact (cut from) (u2 from) (λ k. looses.Straight (entry_instr entry k)) IsU2 (u2_exact from)
formed_exact from forms.Interface = interface_exact from
formed_exact from forms.Primitive = made_exact (cut from) (u1 from) (λ k. looses.Straight (instrs.NewPrim k)) IsU1 (u1_exact from)
formed_exact from (forms.Near branch) = made_exact (cut from) (near from) (λ to. looses.Jump branch to) (IsNear from) (near_exact from)
formed_exact from (forms.Far branch) = made_exact (cut from) (far from) (λ to. looses.Jump branch to) (IsFar from) (far_exact from)
formed_exact from forms.Table = table_exact from
formed_exact from forms.Lookup = lookup_exact from
formed_exact from forms.Wide = widened_exact from
formed_exact from (forms.Skipped op n) = skipped_exact from op n

operands_exact : (from op : ℕ) (form : Option Form) → Exact (cut from) (operands from op form) (SpellsOperands from form)
unfolding operands
operands_exact from op None = fault_exact (cut from) (refusals.Opcode from op) (SpellsOperands from None) (λ y at text s. s)
operands_exact from op (Some form) = formed_exact from form

-- an instruction that says of itself that it begins at `from`
abbrev LooseFrom : ℕ → Loose → Piece
LooseFrom from loose at bytes = (op : ℕ) × (IsU1 op ⊳ SpellsOperands from (form_of op) loose) at bytes

instruction_exact : (from : ℕ) → Exact (cut from) (instruction from) (LooseFrom from)
unfolding instruction
instruction_exact from =
    bind_exact (cut from) (u1 from) (λ op. operands from op (form_of op)) IsU1 (λ op loose. SpellsOperands from (form_of op) loose) (u1_exact from)
    (λ op. operands_exact from op (form_of op))

-- an instruction with its offset
abbrev pub SpellsLooseItem : ℕ × Loose → Piece
SpellsLooseItem x at bytes = (x.0 ≡ at) × SpellsLoose x.1 at bytes

-- of a front of an item the item's own offset is told
abbrev pub cut_item : ℕ → CodeRefusal
cut_item at = refusals.Cut at

item_from_exact : (from : ℕ) → Exact {A = ℕ × Loose} (cut from) (instruction from >>= λ loose. done (from, loose)) (λ x at bytes. (loose : Loose) × (x ≡ (from, loose)) × LooseFrom from loose at bytes)
item_from_exact from = made_exact (cut from) (instruction from) (λ loose. (from, loose)) (LooseFrom from) (instruction_exact from)

item_to : (x : ℕ × Loose) (at : ℕ) (bytes : List ℕ) → (loose : Loose) × (x ≡ (at, loose)) × LooseFrom at loose at bytes → SpellsLooseItem x at bytes
item_to x at bytes h =
    let P : ℕ × Loose → Type 0 = λ y. SpellsLooseItem y at bytes in
    subst P (sym h.1) (refl, h.2)

item_from : (x : ℕ × Loose) (at : ℕ) (bytes : List ℕ) → SpellsLooseItem x at bytes → (loose : Loose) × (x ≡ (at, loose)) × LooseFrom at loose at bytes
item_from x at bytes h = (x.1, ap (λ (o : ℕ). (o, x.1)) h.0, h.1)

pub item_exact : Exact cut_item item SpellsLooseItem
unfolding item
item_exact = record {
  found = λ p q x e.
      let b = (item_from_exact p.at).found p q x e in
      record { text = b.text; spelled = item_to x p.at b.text b.spelled; parts = b.parts; after = b.after };
  only = λ x text rest at s. (item_from_exact at).only x text rest at (item_from x at text s);
  cut = λ x front back at s some.
      let c = (item_from_exact at).cut x front back at (item_from x at (front ++ back) s) some in
      record { item = at; behind = omega arith; within = omega arith; is = c.is };
}

-- an instruction takes a byte at least
pub item_takes : (x : ℕ × Loose) (at : ℕ) (text : List ℕ) → SpellsLooseItem x at text → 1 ≤ length text
item_takes x at text s =
    let j = s.1.1 in
    omega (arith, ap length j.parts, length-append j.front j.back, j.begins.0)
