-- What the loops over bits build.
use Rattle.std.proofs.Common.{◌≡◌, ℕ, zero, suc, ◌+◌, ◌<◌, ◌≤◌, List, [], ◌∷◌, ◌++◌, length, take, drop, get_or, set, map, refl, sym, ap, ◌∙◌, arith}
use Rattle.std.proofs.Math.Seq.{drop-cons}
use Rattle.std.proofs.lemmas.List.{take_more_set, append_assoc, take_all, append-nil, drop_all}
use Rattle.kb_chain.specs.Literal.{Literal, negated}
use Rattle.kb_chain.specs.Cnf.{Cnf, IsWithin}
use Rattle.kb_circuit.specs.Gates.{xor_gate, and_gate, gate_of, full_adder}
use Rattle.kb_circuit.specs.Words.{bitwise, plus, in_front, sums_in_front, sign_negated, GateFits, equal, equal_from}
use Rattle.kb_circuit.specs.declared.gate.Gate.{Gate}
use Rattle.kb_circuit.specs.declared.gate.Gate.TheVariants.{And, Or, Xor, Mux, MaskedMux}
use Rattle.kb_circuit.proofs.Formulas.{within-more, within-head, within-tail}

pub drop_next : (xs : List Literal) (i : ℕ) (d : Literal) → i < length xs → drop i xs ≡ get_or xs i d ∷ drop (i + 1) xs
drop_next xs i d lt = let one : suc i ≡ i + 1 = omega arith in drop-cons xs i d lt ∙ ap (λ k. get_or xs i d ∷ drop k xs) one

in_front-append : (xs ys : List Literal) (r : List Literal × Cnf) → in_front (xs ++ ys) r ≡ in_front xs (in_front ys r)
in_front-append xs ys r = ap (λ z. (z, r.1)) (append_assoc xs ys r.0)

pub bitwise_next : (gate : Gate) (left right out : List Literal) (i : ℕ) (d e g : Literal) (f h : Cnf) → i < length left → i < length right → i < length out
    → gate_of gate (get_or left i d) (get_or right i e) f ≡ (g, h)
    → in_front (take (i + 1) (set out i g)) (bitwise gate (drop (i + 1) left) (drop (i + 1) right) h) ≡ in_front (take i out) (bitwise gate (drop i left) (drop i right) f)
unfolding bitwise
bitwise_next gate left right out i d e g f h lt rt ot given =
    let tail : bitwise gate (drop i left) (drop i right) f ≡ in_front (g ∷ []) (bitwise gate (drop (i + 1) left) (drop (i + 1) right) h) =
    ap (λ x. bitwise gate x (drop i right) f) (drop_next left i d lt)
    ∙ ap (λ x. bitwise gate (get_or left i d ∷ drop (i + 1) left) x f) (drop_next right i e rt)
    ∙ ap (λ p. in_front (p.0 ∷ []) (bitwise gate (drop (i + 1) left) (drop (i + 1) right) p.1)) given in
    ap (λ t. in_front t (bitwise gate (drop (i + 1) left) (drop (i + 1) right) h)) (take_more_set out i g ot)
    ∙ in_front-append (take i out) (g ∷ []) (bitwise gate (drop (i + 1) left) (drop (i + 1) right) h)
    ∙ sym (ap (in_front (take i out)) tail)

pub bitwise_ends : (gate : Gate) (left right out : List Literal) (n : ℕ) (f : Cnf) → length left ≤ n → length out ≤ n
    → in_front (take n out) (bitwise gate (drop n left) (drop n right) f) ≡ (out, f)
unfolding bitwise
bitwise_ends gate left right out n f lt ot =
    ap (λ x. in_front (take n out) (bitwise gate x (drop n right) f)) (drop_all n left lt)
    ∙ ap (λ x. (x, f)) (append-nil (take n out) ∙ take_all n out ot)

sums_in_front-append : (xs ys : List Literal) (r : (List Literal × Literal) × Cnf) → sums_in_front (xs ++ ys) r ≡ sums_in_front xs (sums_in_front ys r)
sums_in_front-append xs ys r = ap (λ z. ((z, r.0.1), r.1)) (append_assoc xs ys r.0.0)

pub plus_next : (left right out : List Literal) (i : ℕ) (d e c : Literal) (s : Literal × Literal) (f h : Cnf) → i < length left → i < length right → i < length out
    → full_adder (get_or left i d) (get_or right i e) c f ≡ (s, h)
    → sums_in_front (take (i + 1) (set out i s.0)) (plus (drop (i + 1) left) (drop (i + 1) right) s.1 h) ≡ sums_in_front (take i out) (plus (drop i left) (drop i right) c f)
unfolding plus
plus_next left right out i d e c s f h lt rt ot given =
    let tail : plus (drop i left) (drop i right) c f ≡ sums_in_front (s.0 ∷ []) (plus (drop (i + 1) left) (drop (i + 1) right) s.1 h) =
    ap (λ x. plus x (drop i right) c f) (drop_next left i d lt)
    ∙ ap (λ x. plus (get_or left i d ∷ drop (i + 1) left) x c f) (drop_next right i e rt)
    ∙ ap (λ p. sums_in_front (p.0.0 ∷ []) (plus (drop (i + 1) left) (drop (i + 1) right) p.0.1 p.1)) given in
    ap (λ t. sums_in_front t (plus (drop (i + 1) left) (drop (i + 1) right) s.1 h)) (take_more_set out i s.0 ot)
    ∙ sums_in_front-append (take i out) (s.0 ∷ []) (plus (drop (i + 1) left) (drop (i + 1) right) s.1 h)
    ∙ sym (ap (sums_in_front (take i out)) tail)

pub plus_ends : (left right out : List Literal) (n : ℕ) (c : Literal) (f : Cnf) → length left ≤ n → length out ≤ n
    → sums_in_front (take n out) (plus (drop n left) (drop n right) c f) ≡ ((out, c), f)
unfolding plus
plus_ends left right out n c f lt ot =
    ap (λ x. sums_in_front (take n out) (plus x (drop n right) c f)) (drop_all n left lt)
    ∙ ap (λ x. ((x, c), f)) (append-nil (take n out) ∙ take_all n out ot)

pub within_at : (n : ℕ) (ls : List Literal) (i : ℕ) (d : Literal) → IsWithin n ls → i < length ls → (get_or ls i d).variable ≤ n
within_at n [] i d h lt = absurd (omega arith)
within_at n (l ∷ ls) zero d h lt = within-head n l ls h
within_at n (l ∷ ls) (suc i) d h lt = within_at n ls i d (within-tail n l ls h) (omega arith)

pub set_last : (ls : List Literal) (n : ℕ) (d : Literal) → length ls ≡ suc n → set ls n (negated (get_or ls n d)) ≡ sign_negated ls
set_last [] n d e = absurd (omega arith)
set_last (l ∷ []) zero d e = refl
set_last (l ∷ []) (suc n) d e = absurd (omega arith)
set_last (l ∷ m ∷ ls) zero d e = absurd (omega arith)
set_last (l ∷ m ∷ ls) (suc n) d e = ap (λ x. l ∷ x) (set_last (m ∷ ls) n d (omega arith))

pub gate_fits-more : (gate : Gate) (m n : ℕ) → m ≤ n → GateFits gate m → GateFits gate n
gate_fits-more And m n le h = tt
gate_fits-more Or m n le h = tt
gate_fits-more Xor m n le h = tt
gate_fits-more (Mux s) m n le h = omega arith
gate_fits-more (MaskedMux p s) m n le h = (let a : p.variable ≤ m = h.0 in omega arith, let b : s.variable ≤ m = h.1 in omega arith)

pub negated_next : (bits out : List Literal) (i : ℕ) (d l : Literal) → i < length bits → i < length out → l ≡ negated (get_or bits i d)
    → take (i + 1) (set out i l) ++ map negated (drop (i + 1) bits) ≡ take i out ++ map negated (drop i bits)
negated_next bits out i d l lt ot e =
    ap (λ t. t ++ map negated (drop (i + 1) bits)) (take_more_set out i l ot)
    ∙ append_assoc (take i out) (l ∷ []) (map negated (drop (i + 1) bits))
    ∙ ap (λ x. take i out ++ (x ∷ map negated (drop (i + 1) bits))) e
    ∙ sym (ap (λ x. take i out ++ map negated x) (drop_next bits i d lt))

pub negated_ends : (bits out : List Literal) (n : ℕ) → length bits ≤ n → length out ≤ n → take n out ++ map negated (drop n bits) ≡ out
negated_ends bits out n lt ot =
    ap (λ x. take n out ++ map negated x) (drop_all n bits lt) ∙ (append-nil (take n out) ∙ take_all n out ot)

pub equal_next : (e : Literal) (left right : List Literal) (i : ℕ) (d c x b : Literal) (f g h : Cnf) → i < length left → i < length right
    → xor_gate (get_or left i d) (get_or right i c) f ≡ (x, g) → and_gate e (negated x) g ≡ (b, h)
    → equal_from b (drop (i + 1) left) (drop (i + 1) right) h ≡ equal_from e (drop i left) (drop i right) f
unfolding equal_from
equal_next e left right i d c x b f g h lt rt one two =
    sym (ap (λ z. equal_from e z (drop i right) f) (drop_next left i d lt)
    ∙ ap (λ z. equal_from e (get_or left i d ∷ drop (i + 1) left) z f) (drop_next right i c rt)
    ∙ ap (λ p. equal_from (and_gate e (negated p.0) p.1).0 (drop (i + 1) left) (drop (i + 1) right) (and_gate e (negated p.0) p.1).1) one
    ∙ ap (λ p. equal_from p.0 (drop (i + 1) left) (drop (i + 1) right) p.1) two)

pub equal_begins : (left right : List Literal) (d c x : Literal) (f g : Cnf) → 0 < length left → 0 < length right
    → xor_gate (get_or left 0 d) (get_or right 0 c) f ≡ (x, g) → equal_from (negated x) (drop 1 left) (drop 1 right) g ≡ equal left right f
unfolding equal
equal_begins [] right d c x f g lt rt one = absurd (omega arith)
equal_begins (a ∷ left) [] d c x f g lt rt one = absurd (omega arith)
equal_begins (a ∷ left) (b ∷ right) d c x f g lt rt one = sym (ap (λ p. equal_from (negated p.0) left right p.1) one)

pub equal_ends : (e : Literal) (left right : List Literal) (n : ℕ) (f : Cnf) → length left ≤ n → equal_from e (drop n left) (drop n right) f ≡ (e, f)
unfolding equal_from
equal_ends e left right n f lt = ap (λ z. equal_from e z (drop n right) f) (drop_all n left lt)

pub within-sign_negated : (n : ℕ) (ls : List Literal) → IsWithin n ls → IsWithin n (sign_negated ls)
within-sign_negated n [] h = refl
within-sign_negated n (l ∷ []) h = within-more n (negated l) [] (within-head n l [] h) refl
within-sign_negated n (l ∷ m ∷ ls) h = within-more n l (sign_negated (m ∷ ls)) (within-head n l (m ∷ ls) h) (within-sign_negated n (m ∷ ls) (within-tail n l (m ∷ ls) h))

pub within-negated : (n : ℕ) (ls : List Literal) → IsWithin n ls → IsWithin n (map negated ls)
within-negated n [] h = refl
within-negated n (l ∷ ls) h = within-more n (negated l) (map negated ls) (within-head n l ls h) (within-negated n ls (within-tail n l ls h))

pub within-set : (n : ℕ) (ls : List Literal) (i : ℕ) (l : Literal) → l.variable ≤ n → IsWithin n ls → IsWithin n (set ls i l)
within-set n [] i l e h = refl
within-set n (m ∷ ls) zero l e h = within-more n l ls e (within-tail n m ls h)
within-set n (m ∷ ls) (suc i) l e h = within-more n m (set ls i l) (within-head n m ls h) (within-set n ls i l e (within-tail n m ls h))
