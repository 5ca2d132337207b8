-- Long division divides, and with the signs it divides as ints do.
use Rattle.std.proofs.Common.{◌≡◌, ℕ, suc, ◌+◌, ◌-◌, ◌*◌, ◌%◌, ◌^◌, ◌<◌, ◌≤◌, Bool, true, false, not, ◌&&◌, ◌||◌, cond, List, [], ◌∷◌, length, take, drop, refl, sym, ap, ◌∙◌, arith}
use Rattle.std.proofs.lemmas.List.{length-map, length-replicate, length-take}
use Rattle.kb_arith.specs.Word.{word_div, word_rem}
use Rattle.kb_chain.specs.Literal.{Literal, negated, is_true}
use Rattle.kb_chain.specs.Cnf.{Cnf, IsWithin}
use Rattle.kb_chain.proofs.CnfLaws.{IsWithin_more}
use Rattle.kb_circuit.specs.Circuit.{truth, falsity, IsCircuit}
use Rattle.kb_circuit.specs.Gates.{xor_gate, or_gate}
use Rattle.kb_circuit.specs.Words.{negated_bits, false_bits, bitwise, plus, sums, neg_word}
use Rattle.kb_circuit.specs.Division.{sign_of, absolute, brought_down, division_turn, long_division, absolute_division, any_from, any_bit, div_word, rem_word}
use Rattle.kb_circuit.specs.declared.gate.Gate.TheVariants.{Mux, MaskedMux}
use Rattle.kb_circuit.specs.Meaning.{bit, number, bits_under, int_under, Defines, Computes}
use Rattle.kb_circuit.proofs.Formulas.{within-more, within-head, within-tail, truth-true}
use Rattle.kb_circuit.proofs.Defining.{Defines-none, Defines-then, Defines-map}
use Rattle.kb_circuit.proofs.GateLaws.{Gives, or_gives, xor_gives}
use Rattle.kb_circuit.proofs.Loops.{within-negated}
use Rattle.kb_circuit.proofs.WordLaws.{number-below, number-negated, both_bits, Sums, plus_sums, bitwise_gives}
use Rattle.kb_circuit.proofs.Arithmetic.{negative_mod}
use Rattle.kb_circuit.proofs.Computing.{number-32, negated-32, known, within-false, number-false, computes_from, GivesBit}
use Rattle.kb_circuit.proofs.Shifting.{both_chosen, within-get_or}
use Rattle.kb_circuit.proofs.ShiftWords.{split_number, halves}
use Rattle.kb_circuit.proofs.DividingNumbers.{low_part, Turned, turned, one_more, Sized, size_at_most, Divides, Tells, int_quotient, int_remainder}
use Rattle.kb_circuit.proofs.DividingLoops.{within-brought_down}

-- ---- numbers of chosen bits

number_chosen : (s : Bool) (xs ys : List Bool) → length xs ≡ length ys → number (both_bits (λ a b. cond s a b) xs ys) ≡ cond s (number xs) (number ys)
number_chosen true xs ys e = ap number (both_chosen true xs ys e)
number_chosen false xs ys e = ap number (both_chosen false xs ys e)

number_masked : (m s : Bool) (xs ys : List Bool) → length xs ≡ length ys → number (both_bits (λ a b. m && cond s a b) xs ys) ≡ cond m (cond s (number xs) (number ys)) 0
number_masked true s xs ys e = number_chosen s xs ys e
number_masked false s [] ys e = refl
number_masked false s (x ∷ xs) [] e = refl
number_masked false s (x ∷ xs) (y ∷ ys) e = let r = number_masked false s xs ys (omega arith) in omega arith

same_length : (v : ℕ → Bool) (xs ys : List Literal) → length xs ≡ length ys → length (bits_under v xs) ≡ length (bits_under v ys)
same_length v xs ys e = length-map xs (is_true v) ∙ (e ∙ sym (length-map ys (is_true v)))

-- ---- negatives and absolute values

-- a word of 32 bits whose number is known under each assignment that satisfies the clauses and makes the true literal true
pub record GivesNumber (f : Cnf) (out : List Literal × Cnf) (Means : (ℕ → Bool) → ℕ → Type 0) : Type 0 where
  pub long : length out.0 ≡ 32
  pub within : IsWithin out.1.vars out.0
  pub defines : Defines f out.1 (λ v. is_true v truth ≡ true → Means v (number (bits_under v out.0)))

negative_gives : (of : List Literal) (f : Cnf) → 1 ≤ f.vars → length of ≡ 32 → IsWithin f.vars of
    → GivesNumber f (neg_word of f) (λ v n. n ≡ (2 ^ 32 - number (bits_under v of)) % 2 ^ 32)
unfolding neg_word sums
negative_gives of f low l h =
    let s : Sums f (plus false_bits (negated_bits of) truth f) false_bits (negated_bits of) truth =
    plus_sums false_bits (negated_bits of) truth f (length-replicate 32 falsity ∙ sym (length-map of negated ∙ l)) (within-false 32 f.vars low)
    (within-negated f.vars of h) low in
    let out = plus false_bits (negated_bits of) truth f in
    record {
      long = s.long ∙ length-replicate 32 falsity;
      within = s.within;
      defines = Defines-map _ s.defines (λ v m t.
          negative_mod (number (bits_under v out.0.0)) (number (bits_under v of)) (number (bits_under v false_bits)) (number (bits_under v (negated_bits of))) (is_true v out.0.1)
          (number-32 v out.0.0 (s.long ∙ length-replicate 32 falsity)) (number-false v 32 (ap not t)) (negated-32 v of l)
          (known _ (length false_bits) _ _ (is_true v out.0.1) (is_true v truth) true (length-replicate 32 falsity) t m));
    }

sized : (s : Bool) (a neg o : ℕ) → a < 2 ^ 32 → (s ≡ false → a < 2 ^ 31) → (s ≡ true → 2 ^ 31 ≤ a) → neg ≡ (2 ^ 32 - a) % 2 ^ 32 → o ≡ cond s neg a → Sized s a o
sized false a neg o lt h k e g = (h refl, g)
sized true a neg o lt h k e g = let le : 2 ^ 31 ≤ a = k refl in (le, omega arith)

sign_halves : (v : ℕ → Bool) (ls : List Literal) → length ls ≡ 32
    → (is_true v (sign_of ls) ≡ false → number (bits_under v ls) < 2 ^ 31) × (is_true v (sign_of ls) ≡ true → 2 ^ 31 ≤ number (bits_under v ls))
sign_halves v ls l = let m : length ls - 1 ≡ 31 = omega arith in rw m (halves v ls 31 falsity l)

sign_within : (n : ℕ) (ls : List Literal) → 1 ≤ n → IsWithin n ls → (sign_of ls).variable ≤ n
sign_within n ls low h = within-get_or n ls (length ls - 1) falsity low h

pub absolute_gives : (of : List Literal) (f : Cnf) → 1 ≤ f.vars → length of ≡ 32 → IsWithin f.vars of
    → GivesNumber f (absolute of f) (λ v n. Sized (is_true v (sign_of of)) (number (bits_under v of)) n)
unfolding absolute
absolute_gives of f low l h =
    let neg = neg_word of f in
    let g = negative_gives of f low l h in
    let up : f.vars ≤ neg.1.vars = g.defines.grows in
    let s : (sign_of of).variable ≤ f.vars = sign_within f.vars of low h in
    let out = bitwise (Mux (sign_of of)) neg.0 of neg.1 in
    let b = bitwise_gives (Mux (sign_of of)) neg.0 of neg.1 (g.long ∙ sym l) (omega arith) g.within (IsWithin_more f.vars neg.1.vars of up h) in
    record {
      long = b.long ∙ g.long;
      within = b.within;
      defines = Defines-map _ (Defines-then g.defines b.defines) (λ v m t.
          sized (is_true v (sign_of of)) (number (bits_under v of)) (number (bits_under v neg.0)) (number (bits_under v out.0)) (number-32 v of l)
          (sign_halves v of l).0 (sign_halves v of l).1 (m.0 t)
          (ap number m.1 ∙ number_chosen (is_true v (sign_of of)) (bits_under v neg.0) (bits_under v of) (same_length v neg.0 of (g.long ∙ sym l))));
    }

-- ---- a turn

pub record TurnGives (f : Cnf) (out : (Literal × List Literal) × Cnf) (k : ℕ) (divisor : List Literal) (next : Literal) (remainder : List Literal) : Type 0 where
  pub fits : out.0.0.variable ≤ out.1.vars
  pub long : length out.0.1 ≡ suc k
  pub within : IsWithin out.1.vars out.0.1
  pub defines : Defines f out.1 (λ v. is_true v truth ≡ true → number (bits_under v divisor) ≤ 2 ^ k → number (bits_under v remainder) < number (bits_under v divisor)
      → Turned (number (bits_under v divisor)) (bit (is_true v next) + 2 * number (bits_under v remainder)) (number (bits_under v out.0.1)) (is_true v out.0.0))

-- the bit that is dropped is false
brought_number : (v : ℕ → Bool) (k d : ℕ) (next : Literal) (remainder : List Literal) → length remainder ≡ suc k → d ≤ 2 ^ k → number (bits_under v remainder) < d
    → number (bits_under v (brought_down next remainder)) ≡ bit (is_true v next) + 2 * number (bits_under v remainder)
brought_number v k d next remainder l le lt =
    let m : length remainder - 1 ≡ k = omega arith in
    let low : number (bits_under v remainder) ≡ number (bits_under v (take k remainder)) =
    low_part (number (bits_under v remainder)) (number (bits_under v (take k remainder))) (2 ^ k) (number (bits_under v (drop k remainder)))
    (split_number v remainder k (omega arith)) (omega arith) in
    ap (λ i. bit (is_true v next) + 2 * number (bits_under v (take i remainder))) m ∙ ap (λ n. bit (is_true v next) + 2 * n) (sym low)

below_width : (v : ℕ → Bool) (ls : List Literal) (n : ℕ) → length ls ≡ n → number (bits_under v ls) < 2 ^ n
below_width v ls n e = let m : length (bits_under v ls) ≡ n = length-map ls (is_true v) ∙ e in rw (sym m) (number-below (bits_under v ls))

-- the sum of a turn, with its known carry
turn_sum : (s o c l n w k : ℕ) → c ≡ 1 → w ≡ k → s + 2 ^ w * o ≡ l + n + c → s + 2 ^ k * o ≡ l + n + 1
turn_sum s o c l n w k e f h = sym (ap (λ x. s + 2 ^ x * o) f) ∙ (h ∙ ap (λ x. l + n + x) e)

length-brought_down : (next : Literal) (remainder : List Literal) (k : ℕ) → length remainder ≡ suc k → length (brought_down next remainder) ≡ suc k
length-brought_down next remainder k l = omega (arith, length-take (length remainder - 1) remainder)

-- the difference of a turn
pub turn_sums : (divisor : List Literal) (next : Literal) (remainder : List Literal) (f : Cnf) (k : ℕ) → 1 ≤ f.vars → length divisor ≡ suc k → length remainder ≡ suc k
    → IsWithin f.vars divisor → next.variable ≤ f.vars → IsWithin f.vars remainder
    → Sums f (plus (brought_down next remainder) (negated_bits divisor) truth f) (brought_down next remainder) (negated_bits divisor) truth
turn_sums divisor next remainder f k low dl rl dw nw h =
    plus_sums (brought_down next remainder) (negated_bits divisor) truth f (length-brought_down next remainder k rl ∙ sym (length-map divisor negated ∙ dl))
    (within-brought_down f.vars next remainder nw h) (within-negated f.vars divisor dw) low

pub turn_gives : (divisor : List Literal) (next : Literal) (remainder : List Literal) (f : Cnf) (k : ℕ) → 1 ≤ f.vars → length divisor ≡ suc k → length remainder ≡ suc k
    → IsWithin f.vars divisor → next.variable ≤ f.vars → IsWithin f.vars remainder → TurnGives f (division_turn divisor next remainder f) k divisor next remainder
unfolding division_turn
turn_gives divisor next remainder f k low dl rl dw nw h =
    let longer = brought_down next remainder in
    let ll : length longer ≡ suc k = length-brought_down next remainder k rl in
    let lw : IsWithin f.vars longer = within-brought_down f.vars next remainder nw h in
    let sum = plus longer (negated_bits divisor) truth f in
    let s : Sums f sum longer (negated_bits divisor) truth = turn_sums divisor next remainder f k low dl rl dw nw h in
    let up : f.vars ≤ sum.1.vars = s.defines.grows in
    let out = bitwise (Mux sum.0.1) sum.0.0 longer sum.1 in
    let b = bitwise_gives (Mux sum.0.1) sum.0.0 longer sum.1 s.long s.carry s.within (IsWithin_more f.vars sum.1.vars longer up lw) in
    let more : sum.1.vars ≤ out.1.vars = b.defines.grows in
    let carry : sum.0.1.variable ≤ sum.1.vars = s.carry in
    record {
      fits = omega arith;
      long = b.long ∙ (s.long ∙ ll);
      within = b.within;
      defines = Defines-map _ (Defines-then s.defines b.defines) (λ v m t le lt.
          turned (2 ^ suc k) (number (bits_under v sum.0.0)) (number (bits_under v divisor)) (number (bits_under v (negated_bits divisor))) (number (bits_under v longer))
          (bit (is_true v next) + 2 * number (bits_under v remainder)) (number (bits_under v out.0)) (is_true v sum.0.1)
          (below_width v sum.0.0 (suc k) (s.long ∙ ll)) (number-negated v divisor ∙ ap (λ n. 2 ^ n) dl)
          (turn_sum _ (bit (is_true v sum.0.1)) (bit (is_true v truth)) _ _ (length longer) (suc k) (ap bit t) ll m.0)
          (brought_number v k (number (bits_under v divisor)) next remainder rl le lt) (next_less (is_true v next) _ _ lt)
          (ap number m.1 ∙ number_chosen (is_true v sum.0.1) (bits_under v sum.0.0) (bits_under v longer) (same_length v sum.0.0 longer s.long)));
    }
  where
    next_less : (b : Bool) (r d : ℕ) → r < d → bit b + 2 * r < 2 * d
    next_less true r d lt = omega arith
    next_less false r d lt = omega arith

-- ---- the turns

pub record DivisionGives (f : Cnf) (out : (List Literal × List Literal) × Cnf) (k : ℕ) (dividend divisor : List Literal) : Type 0 where
  pub quotient_long : length out.0.0 ≡ length dividend
  pub remainder_long : length out.0.1 ≡ suc k
  pub quotient_within : IsWithin out.1.vars out.0.0
  pub remainder_within : IsWithin out.1.vars out.0.1
  pub defines : Defines f out.1 (λ v. is_true v truth ≡ true → number (bits_under v divisor) ≤ 2 ^ k → 0 < number (bits_under v divisor)
      → Divides (number (bits_under v divisor)) (number (bits_under v dividend)) (number (bits_under v out.0.0)) (number (bits_under v out.0.1)))

nothing_yet : (r d : ℕ) → r ≡ 0 → 0 < d → Divides d 0 0 r
nothing_yet r d e lt = record { sum = omega arith; less = omega arith }

pub division_gives : (dividend divisor : List Literal) (f : Cnf) (k : ℕ) → 1 ≤ f.vars → length divisor ≡ suc k → IsWithin f.vars dividend → IsWithin f.vars divisor
    → DivisionGives f (long_division dividend divisor f) k dividend divisor
unfolding long_division
division_gives [] divisor f k low l h i =
    record {
      quotient_long = refl;
      remainder_long = length-replicate (length divisor) falsity ∙ l;
      quotient_within = refl;
      remainder_within = within-false (length divisor) f.vars low;
      defines = Defines-map _ (Defines-none f) (λ v m t le pos. nothing_yet _ _ (number-false v (length divisor) (ap not t)) pos);
    }
division_gives (next ∷ higher) divisor f k low l h i =
    let above = long_division higher divisor f in
    let a : DivisionGives f above k higher divisor = division_gives higher divisor f k low l (within-tail f.vars next higher h) i in
    let up : f.vars ≤ above.1.vars = a.defines.grows in
    let first : next.variable ≤ f.vars = within-head f.vars next higher h in
    let turn = division_turn divisor next above.0.1 above.1 in
    let t : TurnGives above.1 turn k divisor next above.0.1 =
    turn_gives divisor next above.0.1 above.1 k (omega arith) l a.remainder_long (IsWithin_more f.vars above.1.vars divisor up i) (omega arith) a.remainder_within in
    let more : above.1.vars ≤ turn.1.vars = t.defines.grows in
    record {
      quotient_long = ap suc a.quotient_long;
      remainder_long = t.long;
      quotient_within = within-more turn.1.vars turn.0.0 above.0.0 t.fits (IsWithin_more above.1.vars turn.1.vars above.0.0 more a.quotient_within);
      remainder_within = t.within;
      defines = Defines-map _ (Defines-then a.defines t.defines) (λ v m truth_is le pos.
          with_turn v above turn (m.0 truth_is le pos) (m.1 truth_is le));
    }
  where
    with_turn : (v : ℕ → Bool) (above : (List Literal × List Literal) × Cnf) (turn : (Literal × List Literal) × Cnf)
        → Divides (number (bits_under v divisor)) (number (bits_under v higher)) (number (bits_under v above.0.0)) (number (bits_under v above.0.1))
        → (number (bits_under v above.0.1) < number (bits_under v divisor)
        → Turned (number (bits_under v divisor)) (bit (is_true v next) + 2 * number (bits_under v above.0.1)) (number (bits_under v turn.0.1)) (is_true v turn.0.0))
        → Divides (number (bits_under v divisor)) (bit (is_true v next) + 2 * number (bits_under v higher)) (bit (is_true v turn.0.0) + 2 * number (bits_under v above.0.0))
        (number (bits_under v turn.0.1))
    with_turn v above turn d g =
        let x = g d.less in
        record {
          sum = one_more (number (bits_under v above.0.0)) (number (bits_under v above.0.1)) (number (bits_under v higher)) (number (bits_under v divisor)) (number (bits_under v turn.0.1))
              (is_true v turn.0.0) (is_true v next) d.sum x.taken;
          less = x.less;
        }

-- ---- whether a bit is true

some_bit : List Bool → Bool
some_bit [] = false
some_bit (b ∷ bs) = b || some_bit bs

or_then : (a b c d e : Bool) → d ≡ (a || b) → e ≡ (d || c) → e ≡ (a || (b || c))
or_then a b c d e h k = k ∙ (ap (λ x. x || c) h ∙ go a b c)
  where
    go : (a b c : Bool) → ((a || b) || c) ≡ (a || (b || c))
    go true b c = refl
    go false b c = refl

any_from_gives : (found : Literal) (bits : List Literal) (f : Cnf) → found.variable ≤ f.vars → IsWithin f.vars bits
    → GivesBit f (any_from found bits f) (λ v. is_true v found || some_bit (bits_under v bits))
unfolding any_from some_bit
any_from_gives found [] f i h = record { within = i; grows = omega arith; defines = Defines-map _ (Defines-none f) (λ v m. or_false (is_true v found)) }
  where
    or_false : (b : Bool) → b ≡ (b || false)
    or_false true = refl
    or_false false = refl
any_from_gives found (b ∷ bits) f i h =
    let one = or_gate found b f in
    let d : Gives f one (λ v. is_true v found || is_true v b) = or_gives found b f i (within-head f.vars b bits h) in
    let up : f.vars ≤ one.1.vars = d.defines.grows in
    let r = any_from_gives one.0 bits one.1 d.within (IsWithin_more f.vars one.1.vars bits up (within-tail f.vars b bits h)) in
    let more : one.1.vars ≤ (any_from one.0 bits one.1).1.vars = r.grows in
    record {
      within = r.within;
      grows = omega arith;
      defines = Defines-map _ (Defines-then d.defines r.defines) (λ v m.
          or_then (is_true v found) (is_true v b) (some_bit (bits_under v bits)) (is_true v one.0) (is_true v (any_from one.0 bits one.1).0) m.0 m.1);
    }

any_gives : (bits : List Literal) (f : Cnf) → length bits ≡ suc 31 → IsWithin f.vars bits → GivesBit f (any_bit bits f) (λ v. some_bit (bits_under v bits))
unfolding any_bit some_bit
any_gives [] f l h = absurd (omega arith)
any_gives (b ∷ bits) f l h = any_from_gives b bits f (within-head f.vars b bits h) (within-tail f.vars b bits h)

-- a number has a true bit where it is not 0
some_tells : (z : Bool) (bs : List Bool) → z ≡ some_bit bs → Tells z (number bs)
unfolding some_bit
some_tells z [] e = rw e refl
some_tells z (true ∷ bs) e = rw e (omega arith)
some_tells z (false ∷ bs) e = low z (number bs) (some_tells z bs e)
  where
    low : (z : Bool) (n : ℕ) → Tells z n → Tells z (0 + 2 * n)
    low true n t = omega arith
    low false n t = omega arith

-- ---- the division of the absolute values

-- the quotient and the remainder of two words, as numbers under an assignment
pub record Known (v : ℕ → Bool) (left right quotient remainder : List Literal) : Type 0 where
  pub dividend : ℕ
  pub divisor : ℕ
  pub of_left : Sized (is_true v (sign_of left)) (number (bits_under v left)) dividend
  pub of_right : Sized (is_true v (sign_of right)) (number (bits_under v right)) divisor
  pub divides : 0 < divisor → Divides divisor dividend (number (bits_under v quotient)) (number (bits_under v remainder))

pub record AbsolutesGive (f : Cnf) (out : (List Literal × List Literal) × Cnf) (left right : List Literal) : Type 0 where
  pub quotient_long : length out.0.0 ≡ 32
  pub remainder_long : length out.0.1 ≡ 32
  pub quotient_within : IsWithin out.1.vars out.0.0
  pub remainder_within : IsWithin out.1.vars out.0.1
  pub defines : Defines f out.1 (λ v. is_true v truth ≡ true → Known v left right out.0.0 out.0.1)

pub absolutes_give : (left right : List Literal) (f : Cnf) → 1 ≤ f.vars → length left ≡ 32 → length right ≡ 32 → IsWithin f.vars left → IsWithin f.vars right
    → AbsolutesGive f (absolute_division left right f) left right
unfolding absolute_division
absolutes_give left right f low l r h k =
    let n = absolute left f in
    let gn = absolute_gives left f low l h in
    let un : f.vars ≤ n.1.vars = gn.defines.grows in
    let d = absolute right n.1 in
    let gd = absolute_gives right n.1 (omega arith) r (IsWithin_more f.vars n.1.vars right un k) in
    let ud : n.1.vars ≤ d.1.vars = gd.defines.grows in
    let out = long_division n.0 d.0 d.1 in
    let g = division_gives n.0 d.0 d.1 31 (omega arith) gd.long (IsWithin_more n.1.vars d.1.vars n.0 ud gn.within) gd.within in
    record {
      quotient_long = g.quotient_long ∙ gn.long;
      remainder_long = g.remainder_long;
      quotient_within = g.quotient_within;
      remainder_within = g.remainder_within;
      defines = Defines-map _ (Defines-then gn.defines (Defines-then gd.defines g.defines)) (λ v m t. record {
        dividend = number (bits_under v n.0);
        divisor = number (bits_under v d.0);
        of_left = m.0 t;
        of_right = m.1.0 t;
        divides = m.1.1 t (size_at_most (is_true v (sign_of right)) (number (bits_under v right)) (number (bits_under v d.0)) (m.1.0 t));
      });
    }

-- ---- quotient and remainder

pub div_computes : (left right : List Literal) (f : Cnf) → IsCircuit f → length left ≡ 32 → length right ≡ 32 → IsWithin f.vars left → IsWithin f.vars right
    → Computes word_div left right f (div_word left right f).0 (div_word left right f).1
unfolding div_word int_under
div_computes left right f circuit l r h k =
    let low : 1 ≤ f.vars = circuit.variable in
    let division = absolute_division left right f in
    let g = absolutes_give left right f low l r h k in
    let ug : f.vars ≤ division.1.vars = g.defines.grows in
    let sl : (sign_of left).variable ≤ f.vars = sign_within f.vars left low h in
    let sr : (sign_of right).variable ≤ f.vars = sign_within f.vars right low k in
    let differ = xor_gate (sign_of left) (sign_of right) division.1 in
    let gx = xor_gives (sign_of left) (sign_of right) division.1 (omega arith) (omega arith) in
    let ux : division.1.vars ≤ differ.1.vars = gx.defines.grows in
    let wx : differ.0.variable ≤ differ.1.vars = gx.within in
    let negative = neg_word division.0.0 differ.1 in
    let gn = negative_gives division.0.0 differ.1 (omega arith) g.quotient_long (IsWithin_more division.1.vars differ.1.vars division.0.0 ux g.quotient_within) in
    let un : differ.1.vars ≤ negative.1.vars = gn.defines.grows in
    let all : f.vars ≤ negative.1.vars = omega arith in
    let nonzero = any_bit right negative.1 in
    let gz = any_gives right negative.1 r (IsWithin_more f.vars negative.1.vars right all k) in
    let uz : negative.1.vars ≤ nonzero.1.vars = gz.grows in
    let same : length negative.0 ≡ length division.0.0 = gn.long ∙ sym g.quotient_long in
    let last : division.1.vars ≤ nonzero.1.vars = omega arith in
    let out = bitwise (MaskedMux nonzero.0 differ.0) negative.0 division.0.0 nonzero.1 in
    let b = bitwise_gives (MaskedMux nonzero.0 differ.0) negative.0 division.0.0 nonzero.1 same (gz.within, omega arith)
    (IsWithin_more negative.1.vars nonzero.1.vars negative.0 uz gn.within) (IsWithin_more division.1.vars nonzero.1.vars division.0.0 last g.quotient_within) in
    computes_from word_div left right f out circuit b.within
    (Defines-then g.defines (Defines-then gx.defines (Defines-then gn.defines (Defines-then gz.defines b.defines))))
    (λ v sat m.
    let t : is_true v truth ≡ true = truth-true v f circuit sat in
    let w = m.0 t in
    int_quotient (is_true v (sign_of left)) (is_true v (sign_of right)) (is_true v nonzero.0) (number (bits_under v left)) (number (bits_under v right)) w.dividend w.divisor
    (number (bits_under v division.0.0)) (number (bits_under v division.0.1)) (number (bits_under v out.0)) w.of_left w.of_right (number-32 v left l) (number-32 v right r)
    (some_tells (is_true v nonzero.0) (bits_under v right) m.1.1.1.0) w.divides
    (ap number m.1.1.1.1
    ∙ (number_masked (is_true v nonzero.0) (is_true v differ.0) (bits_under v negative.0) (bits_under v division.0.0) (same_length v negative.0 division.0.0 same)
    ∙ (ap (λ x. cond (is_true v nonzero.0) (cond (is_true v differ.0) x (number (bits_under v division.0.0))) 0) (m.1.1.0 t)
    ∙ ap (λ x. cond (is_true v nonzero.0) (cond x ((2 ^ 32 - number (bits_under v division.0.0)) % 2 ^ 32) (number (bits_under v division.0.0))) 0) m.1.0))))

pub rem_computes : (left right : List Literal) (f : Cnf) → IsCircuit f → length left ≡ 32 → length right ≡ 32 → IsWithin f.vars left → IsWithin f.vars right
    → Computes word_rem left right f (rem_word left right f).0 (rem_word left right f).1
unfolding rem_word int_under
rem_computes left right f circuit l r h k =
    let low : 1 ≤ f.vars = circuit.variable in
    let division = absolute_division left right f in
    let g = absolutes_give left right f low l r h k in
    let ug : f.vars ≤ division.1.vars = g.defines.grows in
    let sl : (sign_of left).variable ≤ f.vars = sign_within f.vars left low h in
    let negative = neg_word division.0.1 division.1 in
    let gn = negative_gives division.0.1 division.1 (omega arith) g.remainder_long g.remainder_within in
    let un : division.1.vars ≤ negative.1.vars = gn.defines.grows in
    let all : f.vars ≤ negative.1.vars = omega arith in
    let nonzero = any_bit right negative.1 in
    let gz = any_gives right negative.1 r (IsWithin_more f.vars negative.1.vars right all k) in
    let uz : negative.1.vars ≤ nonzero.1.vars = gz.grows in
    let same : length negative.0 ≡ length division.0.1 = gn.long ∙ sym g.remainder_long in
    let last : division.1.vars ≤ nonzero.1.vars = omega arith in
    let out = bitwise (MaskedMux nonzero.0 (sign_of left)) negative.0 division.0.1 nonzero.1 in
    let b = bitwise_gives (MaskedMux nonzero.0 (sign_of left)) negative.0 division.0.1 nonzero.1 same (gz.within, omega arith)
    (IsWithin_more negative.1.vars nonzero.1.vars negative.0 uz gn.within) (IsWithin_more division.1.vars nonzero.1.vars division.0.1 last g.remainder_within) in
    computes_from word_rem left right f out circuit b.within
    (Defines-then g.defines (Defines-then gn.defines (Defines-then gz.defines b.defines)))
    (λ v sat m.
    let t : is_true v truth ≡ true = truth-true v f circuit sat in
    let w = m.0 t in
    int_remainder (is_true v (sign_of left)) (is_true v (sign_of right)) (is_true v nonzero.0) (number (bits_under v left)) (number (bits_under v right)) w.dividend w.divisor
    (number (bits_under v division.0.0)) (number (bits_under v division.0.1)) (number (bits_under v out.0)) w.of_left w.of_right (number-32 v left l) (number-32 v right r)
    (some_tells (is_true v nonzero.0) (bits_under v right) m.1.1.0) w.divides
    (ap number m.1.1.1
    ∙ (number_masked (is_true v nonzero.0) (is_true v (sign_of left)) (bits_under v negative.0) (bits_under v division.0.1) (same_length v negative.0 division.0.1 same)
    ∙ ap (λ x. cond (is_true v nonzero.0) (cond (is_true v (sign_of left)) x (number (bits_under v division.0.1))) 0) (m.1.0 t))))
