-- What the loops of a product build.
use Rattle.std.proofs.Common.{◌≡◌, ℕ, ◌+◌, ◌-◌, ◌<◌, ◌≤◌, List, [], ◌∷◌, ◌++◌, length, take, drop, replicate, get_or, set, sym, ap, ◌∙◌, arith}
use Rattle.std.proofs.lemmas.List.{length-replicate, get_or-replicate, drop-replicate, take_at, drop_at, drop_all}
use Rattle.kb_chain.specs.Literal.{Literal}
use Rattle.kb_chain.specs.Cnf.{Cnf}
use Rattle.kb_circuit.specs.Circuit.{falsity}
use Rattle.kb_circuit.specs.Gates.{and_gate}
use Rattle.kb_circuit.specs.Words.{and_word, in_front}
use Rattle.kb_circuit.specs.Shifts.{moved_up}
use Rattle.kb_circuit.specs.Multiplication.{row_word, with_row, with_rows, mul_word}
use Rattle.kb_circuit.specs.declared.gate.Gate.TheVariants.{And}
use Rattle.kb_circuit.proofs.Loops.{drop_next, bitwise_next, bitwise_ends}

-- ---- a row

-- a row from bit i on, behind the bits that are there
abbrev pub row_from : ℕ → List Literal → List Literal → Literal → Cnf → List Literal × Cnf
row_from i moved out b f = in_front (take i out) (and_word (drop i moved) (replicate (32 - i) b) f)

pub row_begins : (place : ℕ) (left : List Literal) (b : Literal) (f : Cnf) → length left ≡ 32
    → row_from place (moved_up falsity place left) (moved_up falsity place left) b f ≡ row_word place left b f
unfolding row_word
row_begins place left b f l =
    let low : List Literal = replicate place falsity in
    let high : List Literal = take (length left - place) left in
    ap (λ x. in_front x (and_word (drop place (low ++ high)) (replicate (32 - place) b) f)) (take_at low high place (length-replicate place falsity))
    ∙ (ap (λ x. in_front low (and_word x (replicate (32 - place) b) f)) (drop_at low high place (length-replicate place falsity))
    ∙ ap (λ k. in_front low (and_word high (replicate (k - place) b) f)) (sym l))

pub row_next : (i : ℕ) (moved out : List Literal) (d b g : Literal) (f h : Cnf) → i < 32 → length moved ≡ 32 → length out ≡ 32
    → and_gate (get_or moved i d) b f ≡ (g, h) → row_from (i + 1) moved (set out i g) b h ≡ row_from i moved out b f
row_next i moved out d b g f h lt m o given =
    let copies : List Literal = replicate 32 b in
    let many : length copies ≡ 32 = length-replicate 32 b in
    ap (λ r. in_front (take (i + 1) (set out i g)) (and_word (drop (i + 1) moved) r h)) (sym (drop-replicate (i + 1) 32 b))
    ∙ (bitwise_next And moved copies out i d b g f h (omega arith) (omega arith) (omega arith) (ap (λ c. and_gate (get_or moved i d) c f) (get_or-replicate 32 i b b lt) ∙ given)
    ∙ ap (λ r. in_front (take i out) (and_word (drop i moved) r f)) (drop-replicate i 32 b))

pub row_ends : (i : ℕ) (moved out : List Literal) (b : Literal) (f : Cnf) → 32 ≤ i → length moved ≡ 32 → length out ≡ 32 → row_from i moved out b f ≡ (out, f)
row_ends i moved out b f le m o =
    ap (λ r. in_front (take i out) (and_word (drop i moved) r f)) (sym (drop-replicate i 32 b)) ∙ bitwise_ends And moved (replicate 32 b) out i f (omega arith) (omega arith)

-- ---- the rows

pub rows_begin : (left right : List Literal) (d : Literal) (one : List Literal × Cnf) (f : Cnf) → 0 < length right
    → row_word 0 left (get_or right 0 d) f ≡ one → with_rows 1 one.0 left (drop 1 right) one.1 ≡ mul_word left right f
unfolding mul_word
rows_begin left [] d one f lt given = absurd (omega arith)
rows_begin left (b ∷ right) d one f lt given = sym (ap (λ p. with_rows 1 p.0 left right p.1) given)

pub rows_next : (j : ℕ) (sum left right : List Literal) (d : Literal) (more : List Literal × Cnf) (f : Cnf) → j < length right
    → with_row j sum left (get_or right j d) f ≡ more → with_rows (j + 1) more.0 left (drop (j + 1) right) more.1 ≡ with_rows j sum left (drop j right) f
unfolding with_rows
rows_next j sum left right d more f lt given =
    sym (ap (λ r. with_rows j sum left r f) (drop_next right j d lt) ∙ ap (λ p. with_rows (j + 1) p.0 left (drop (j + 1) right) p.1) given)

pub rows_end : (j : ℕ) (sum left right : List Literal) (f : Cnf) → length right ≤ j → with_rows j sum left (drop j right) f ≡ (sum, f)
unfolding with_rows
rows_end j sum left right f le = ap (λ r. with_rows j sum left r f) (drop_all j right le)
