-- Operations bit by bit are those of ints.
use Rattle.std.proofs.Common.{◌≡◌, ℕ, ◌+◌, ◌*◌, ◌/◌, ◌%◌, ◌^◌, ◌<◌, Bool, true, false, List, [], ◌∷◌, length, refl, sym, ap, ◌∙◌, arith}
use Prim.Native.Nat.{min, max, differ}
use lib.Bits.{and_step, or_step, xor_step}
use Rattle.std.specs.Prelude.{bit_and, bit_or, bit_xor}
use Rattle.std.proofs.lemmas.List.{length-map}
use Rattle.kb_arith.specs.Word.{bits_of, int_of_bits, word_and, word_or, word_xor}
use Rattle.kb_arith.proofs.Laws.{bits_of-int_of_bits, int_of_bits-fits, word_and-fits, word_or-fits, word_xor-fits, bits_of-word_and, bits_of-word_or, bits_of-word_xor}
use Rattle.kb_chain.specs.Literal.{Literal, is_true}
use Rattle.kb_chain.specs.Cnf.{Cnf, IsWithin}
use Rattle.kb_circuit.specs.Circuit.{IsCircuit}
use Rattle.kb_circuit.specs.Words.{bitwise}
use Rattle.kb_circuit.specs.declared.gate.Gate.TheVariants.{And, Or, Xor}
use Rattle.kb_circuit.specs.Meaning.{bit, number, bits_under, int_under, Computes}
use Rattle.kb_circuit.proofs.GateLaws.{gate_value}
use Rattle.kb_circuit.proofs.WordLaws.{both_bits, bitwise_gives}
use Rattle.kb_circuit.proofs.Arithmetic.{from_bits}
use Rattle.kb_circuit.proofs.Computing.{number-32, computes_from}

half : (b : Bool) (n : ℕ) → (bit b + 2 * n) / 2 ≡ n
half true n = omega arith
half false n = omega arith

odd : (b : Bool) (n : ℕ) → (bit b + 2 * n) % 2 ≡ bit b
odd true n = omega arith
odd false n = omega arith

-- an operation that goes bit by bit, on the numbers of bits
number-both : (op : ℕ → ℕ → ℕ) (on_bits : Bool → Bool → Bool) (low : ℕ → ℕ → ℕ) → ((m n : ℕ) → op m n ≡ op (m / 2) (n / 2) * 2 + low (m % 2) (n % 2))
    → ((a b : Bool) → low (bit a) (bit b) ≡ bit (on_bits a b)) → op 0 0 ≡ 0 → (xs ys : List Bool) → length xs ≡ length ys → number (both_bits on_bits xs ys) ≡ op (number xs) (number ys)
number-both op on_bits low step same zero [] [] e = sym zero
number-both op on_bits low step same zero [] (y ∷ ys) e = absurd (omega arith)
number-both op on_bits low step same zero (x ∷ xs) [] e = absurd (omega arith)
number-both op on_bits low step same zero (x ∷ xs) (y ∷ ys) e =
    let rec : number (both_bits on_bits xs ys) ≡ op (number xs) (number ys) = number-both op on_bits low step same zero xs ys (omega arith) in
    let whole : op (bit x + 2 * number xs) (bit y + 2 * number ys) ≡ op (number xs) (number ys) * 2 + low (bit x) (bit y) =
    step (bit x + 2 * number xs) (bit y + 2 * number ys)
    ∙ ap (λ m. op m ((bit y + 2 * number ys) / 2) * 2 + low ((bit x + 2 * number xs) % 2) ((bit y + 2 * number ys) % 2)) (half x (number xs))
    ∙ ap (λ m. op (number xs) m * 2 + low ((bit x + 2 * number xs) % 2) ((bit y + 2 * number ys) % 2)) (half y (number ys))
    ∙ ap (λ m. op (number xs) (number ys) * 2 + low m ((bit y + 2 * number ys) % 2)) (odd x (number xs))
    ∙ ap (λ m. op (number xs) (number ys) * 2 + low (bit x) m) (odd y (number ys)) in
    let b = same x y in
    omega arith

int_and : (a b : ℕ) → a < 2 ^ 32 → b < 2 ^ 32 → int_of_bits (bit_and a b) ≡ word_and (int_of_bits a) (int_of_bits b)
int_and a b at bt =
    let e : bit_and a b ≡ bit_and (bits_of (int_of_bits a)) (bits_of (int_of_bits b)) = rw (bits_of-int_of_bits a at, bits_of-int_of_bits b bt) refl in
    from_bits (bit_and a b) _ (word_and-fits (int_of_bits a) (int_of_bits b)) (e ∙ sym (bits_of-word_and (int_of_bits a) (int_of_bits b) (int_of_bits-fits a) (int_of_bits-fits b)))

and_bits : (a b : Bool) → min (bit a) (bit b) ≡ bit (gate_value And (λ _. true) a b)
and_bits true true = refl
and_bits true false = refl
and_bits false true = refl
and_bits false false = refl

pub and_computes : (left right : List Literal) (f : Cnf) → IsCircuit f → length left ≡ 32 → length right ≡ 32 → IsWithin f.vars left → IsWithin f.vars right
    → Computes word_and left right f (bitwise And left right f).0 (bitwise And left right f).1
unfolding int_under
and_computes left right f circuit l r h k =
    let g = bitwise_gives And left right f (l ∙ sym r) tt h k in
    computes_from word_and left right f (bitwise And left right f) circuit g.within g.defines (λ v sat m.
    ap (λ bs. int_of_bits (number bs)) m
    ∙ ap int_of_bits (number-both bit_and (gate_value And (λ _. true)) min and_step and_bits refl (bits_under v left) (bits_under v right)
    (length-map left (is_true v) ∙ ((l ∙ sym r) ∙ sym (length-map right (is_true v)))))
    ∙ int_and (number (bits_under v left)) (number (bits_under v right)) (number-32 v left l) (number-32 v right r))

int_or : (a b : ℕ) → a < 2 ^ 32 → b < 2 ^ 32 → int_of_bits (bit_or a b) ≡ word_or (int_of_bits a) (int_of_bits b)
int_or a b at bt =
    let e : bit_or a b ≡ bit_or (bits_of (int_of_bits a)) (bits_of (int_of_bits b)) = rw (bits_of-int_of_bits a at, bits_of-int_of_bits b bt) refl in
    from_bits (bit_or a b) _ (word_or-fits (int_of_bits a) (int_of_bits b)) (e ∙ sym (bits_of-word_or (int_of_bits a) (int_of_bits b) (int_of_bits-fits a) (int_of_bits-fits b)))

or_bits : (a b : Bool) → max (bit a) (bit b) ≡ bit (gate_value Or (λ _. true) a b)
or_bits true true = refl
or_bits true false = refl
or_bits false true = refl
or_bits false false = refl

pub or_computes : (left right : List Literal) (f : Cnf) → IsCircuit f → length left ≡ 32 → length right ≡ 32 → IsWithin f.vars left → IsWithin f.vars right
    → Computes word_or left right f (bitwise Or left right f).0 (bitwise Or left right f).1
unfolding int_under
or_computes left right f circuit l r h k =
    let g = bitwise_gives Or left right f (l ∙ sym r) tt h k in
    computes_from word_or left right f (bitwise Or left right f) circuit g.within g.defines (λ v sat m.
    ap (λ bs. int_of_bits (number bs)) m
    ∙ ap int_of_bits (number-both bit_or (gate_value Or (λ _. true)) max or_step or_bits refl (bits_under v left) (bits_under v right)
    (length-map left (is_true v) ∙ ((l ∙ sym r) ∙ sym (length-map right (is_true v)))))
    ∙ int_or (number (bits_under v left)) (number (bits_under v right)) (number-32 v left l) (number-32 v right r))

int_xor : (a b : ℕ) → a < 2 ^ 32 → b < 2 ^ 32 → int_of_bits (bit_xor a b) ≡ word_xor (int_of_bits a) (int_of_bits b)
int_xor a b at bt =
    let e : bit_xor a b ≡ bit_xor (bits_of (int_of_bits a)) (bits_of (int_of_bits b)) = rw (bits_of-int_of_bits a at, bits_of-int_of_bits b bt) refl in
    from_bits (bit_xor a b) _ (word_xor-fits (int_of_bits a) (int_of_bits b)) (e ∙ sym (bits_of-word_xor (int_of_bits a) (int_of_bits b) (int_of_bits-fits a) (int_of_bits-fits b)))

xor_bits : (a b : Bool) → differ (bit a) (bit b) ≡ bit (gate_value Xor (λ _. true) a b)
xor_bits true true = refl
xor_bits true false = refl
xor_bits false true = refl
xor_bits false false = refl

pub xor_computes : (left right : List Literal) (f : Cnf) → IsCircuit f → length left ≡ 32 → length right ≡ 32 → IsWithin f.vars left → IsWithin f.vars right
    → Computes word_xor left right f (bitwise Xor left right f).0 (bitwise Xor left right f).1
unfolding int_under
xor_computes left right f circuit l r h k =
    let g = bitwise_gives Xor left right f (l ∙ sym r) tt h k in
    computes_from word_xor left right f (bitwise Xor left right f) circuit g.within g.defines (λ v sat m.
    ap (λ bs. int_of_bits (number bs)) m
    ∙ ap int_of_bits (number-both bit_xor (gate_value Xor (λ _. true)) differ xor_step xor_bits refl (bits_under v left) (bits_under v right)
    (length-map left (is_true v) ∙ ((l ∙ sym r) ∙ sym (length-map right (is_true v)))))
    ∙ int_xor (number (bits_under v left)) (number (bits_under v right)) (number-32 v left l) (number-32 v right r))
