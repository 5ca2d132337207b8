-- Shifts by fixed numbers of places, and the stages that choose among them.
use Rattle.std.proofs.Common.{◌≡◌, ℕ, zero, suc, ◌-◌, ◌≤◌, Bool, true, false, cond, List, [], ◌∷◌, ◌++◌, length, take, drop, replicate, get_or, refl, sym, ap, ◌∙◌, arith}
use Rattle.std.proofs.lemmas.List.{length-map, length-append, length-replicate, length-take, length-drop}
use Rattle.kb_chain.specs.Literal.{Literal, is_true}
use Rattle.kb_chain.specs.Cnf.{Cnf, IsWithin}
use Rattle.kb_circuit.specs.Circuit.{falsity}
use Rattle.kb_circuit.specs.Shifts.{moved, last_bit, stage}
use Rattle.kb_circuit.specs.declared.gate.Gate.TheVariants.{Mux}
use Rattle.kb_circuit.specs.declared.shift.Shift.{Shift}
use Rattle.kb_circuit.specs.declared.shift.Shift.TheVariants.{Shl, Shr, Ushr}
use Rattle.kb_circuit.specs.Meaning.{bits_under}
use Rattle.kb_circuit.proofs.Formulas.{within-more, within-head, within-tail}
use Rattle.kb_circuit.proofs.Defining.{Defines-map}
use Rattle.kb_circuit.proofs.WordLaws.{both_bits, GivesWord, bitwise_gives}

-- ---- moved words are of the same variables and width

pub within-append : (n : ℕ) (xs ys : List Literal) → IsWithin n xs → IsWithin n ys → IsWithin n (xs ++ ys)
within-append n [] ys h k = k
within-append n (x ∷ xs) ys h k = within-more n x (xs ++ ys) (within-head n x xs h) (within-append n xs ys (within-tail n x xs h) k)

pub within-copies : (n k : ℕ) (l : Literal) → l.variable ≤ n → IsWithin n (replicate k l)
within-copies n zero l h = refl
within-copies n (suc k) l h = within-more n l (replicate k l) h (within-copies n k l h)

pub within-take : (n k : ℕ) (xs : List Literal) → IsWithin n xs → IsWithin n (take k xs)
within-take n zero xs h = refl
within-take n (suc k) [] h = refl
within-take n (suc k) (x ∷ xs) h = within-more n x (take k xs) (within-head n x xs h) (within-take n k xs (within-tail n x xs h))

pub within-drop : (n k : ℕ) (xs : List Literal) → IsWithin n xs → IsWithin n (drop k xs)
within-drop n zero xs h = h
within-drop n (suc k) [] h = refl
within-drop n (suc k) (x ∷ xs) h = within-drop n k xs (within-tail n x xs h)

pub within-get_or : (n : ℕ) (xs : List Literal) (i : ℕ) (d : Literal) → d.variable ≤ n → IsWithin n xs → (get_or xs i d).variable ≤ n
within-get_or n [] i d e h = e
within-get_or n (x ∷ xs) zero d e h = within-head n x xs h
within-get_or n (x ∷ xs) (suc i) d e h = within-get_or n xs i d e (within-tail n x xs h)

pub within-moved : (shift : Shift) (n k : ℕ) (bits : List Literal) → 1 ≤ n → IsWithin n bits → IsWithin n (moved shift k bits)
within-moved Shl n k bits low h = within-append n (replicate k falsity) _ (within-copies n k falsity low) (within-take n (length bits - k) bits h)
within-moved Shr n k bits low h =
    within-append n (drop k bits) _ (within-drop n k bits h) (within-copies n k (last_bit falsity bits) (within-get_or n bits (length bits - 1) falsity low h))
within-moved Ushr n k bits low h = within-append n (drop k bits) _ (within-drop n k bits h) (within-copies n k falsity low)

pub length-moved : (shift : Shift) (k : ℕ) (bits : List Literal) → k ≤ length bits → length (moved shift k bits) ≡ length bits
length-moved Shl k bits le =
    omega (arith, length-append (replicate k falsity) (take (length bits - k) bits), length-replicate k falsity, length-take (length bits - k) bits)
length-moved Shr k bits le = omega (arith, length-append (drop k bits) (replicate k (last_bit falsity bits)), length-replicate k (last_bit falsity bits), length-drop k bits)
length-moved Ushr k bits le = omega (arith, length-append (drop k bits) (replicate k falsity), length-replicate k falsity, length-drop k bits)

-- ---- a stage

pub both_chosen : (s : Bool) (xs ys : List Bool) → length xs ≡ length ys → both_bits (λ a b. cond s a b) xs ys ≡ cond s xs ys
both_chosen true [] [] e = refl
both_chosen false [] [] e = refl
both_chosen s [] (y ∷ ys) e = absurd (omega arith)
both_chosen s (x ∷ xs) [] e = absurd (omega arith)
both_chosen true (x ∷ xs) (y ∷ ys) e = ap (λ z. x ∷ z) (both_chosen true xs ys (omega arith))
both_chosen false (x ∷ xs) (y ∷ ys) e = ap (λ z. y ∷ z) (both_chosen false xs ys (omega arith))

pub stage_gives : (shift : Shift) (n : ℕ) (s : Literal) (bits : List Literal) (f : Cnf) → 1 ≤ f.vars → n ≤ length bits → s.variable ≤ f.vars → IsWithin f.vars bits
    → GivesWord f (stage shift n s bits f) (length bits) (λ v. cond (is_true v s) (bits_under v (moved shift n bits)) (bits_under v bits))
unfolding stage
stage_gives shift n s bits f low le i h =
    let l : length (moved shift n bits) ≡ length bits = length-moved shift n bits le in
    let g = bitwise_gives (Mux s) (moved shift n bits) bits f l i (within-moved shift f.vars n bits low h) h in
    record {
      long = g.long ∙ l;
      within = g.within;
      defines = Defines-map _ g.defines (λ v m. m ∙ both_chosen (is_true v s) (bits_under v (moved shift n bits)) (bits_under v bits)
          (length-map (moved shift n bits) (is_true v) ∙ (l ∙ sym (length-map bits (is_true v)))));
    }
