-- What the loops of a division build.
use Rattle.std.proofs.Common.{◌≡◌, ℕ, zero, suc, ◌+◌, ◌-◌, ◌<◌, ◌≤◌, List, [], ◌∷◌, length, take, drop, get_or, set, replicate, refl, sym, ap, subst, ◌∙◌, arith}
use Rattle.std.proofs.lemmas.List.{drop_all}
use Rattle.kb_chain.specs.Literal.{Literal}
use Rattle.kb_chain.specs.Cnf.{Cnf, IsWithin}
use Rattle.kb_circuit.specs.Circuit.{falsity}
use Rattle.kb_circuit.specs.Gates.{xor_gate, or_gate}
use Rattle.kb_circuit.specs.Words.{bitwise, neg_word}
use Rattle.kb_circuit.specs.Division.{sign_of, brought_down, division_turn, long_division, absolute_division, any_from, any_bit, div_word, rem_word}
use Rattle.kb_circuit.specs.declared.gate.Gate.TheVariants.{MaskedMux}
use Rattle.kb_circuit.proofs.Formulas.{within-more}
use Rattle.kb_circuit.proofs.Loops.{drop_next}
use Rattle.kb_chain.proofs.CnfLaws.{IsWithin_more}
use Rattle.kb_circuit.proofs.Shifting.{within-take}

same_entry : (ls : List Literal) (i : ℕ) (d e : Literal) → i < length ls → get_or ls i d ≡ get_or ls i e
same_entry [] i d e lt = absurd (omega arith)
same_entry (l ∷ ls) zero d e lt = refl
same_entry (l ∷ ls) (suc i) d e lt = same_entry ls i d e (omega arith)

pub sign_is : (ls : List Literal) (d : Literal) → length ls ≡ 32 → sign_of ls ≡ get_or ls 31 d
sign_is ls d e = let m : length ls - 1 ≡ 31 = omega arith in ap (λ i. get_or ls i falsity) m ∙ same_entry ls 31 falsity d (omega arith)

drop_set : (xs : List Literal) (i : ℕ) (x : Literal) → i < length xs → drop i (set xs i x) ≡ x ∷ drop (suc i) xs
drop_set [] i x lt = absurd (omega arith)
drop_set (y ∷ xs) zero x lt = refl
drop_set (y ∷ xs) (suc i) x lt = drop_set xs i x (omega arith)

pub drop_set_next : (xs : List Literal) (i : ℕ) (x : Literal) → i < length xs → drop i (set xs i x) ≡ x ∷ drop (i + 1) xs
drop_set_next xs i x lt = let one : suc i ≡ i + 1 = omega arith in drop_set xs i x lt ∙ ap (λ k. x ∷ drop k xs) one

pub division_begins : (dividend divisor quotient : List Literal) (f : Cnf) → length dividend ≤ 32 → length quotient ≤ 32 → length divisor ≡ 32
    → long_division (drop 32 dividend) divisor f ≡ ((drop 32 quotient, replicate 32 falsity), f)
unfolding long_division
division_begins dividend divisor quotient f h k e =
    ap (λ x. long_division x divisor f) (drop_all 32 dividend h)
    ∙ ap (λ n. (([], replicate n falsity), f)) e
    ∙ sym (ap (λ x. ((x, replicate 32 falsity), f)) (drop_all 32 quotient k))

pub division_next : (dividend divisor quotient remainder : List Literal) (i : ℕ) (d : Literal) (turn : Literal × List Literal) (start f h : Cnf)
    → i < length dividend → i < length quotient
    → long_division (drop (i + 1) dividend) divisor start ≡ ((drop (i + 1) quotient, remainder), f)
    → division_turn divisor (get_or dividend i d) remainder f ≡ (turn, h)
    → long_division (drop i dividend) divisor start ≡ ((drop i (set quotient i turn.0), turn.1), h)
unfolding long_division
division_next dividend divisor quotient remainder i d turn start f h lt qt above one =
    ap (λ x. long_division x divisor start) (drop_next dividend i d lt)
    ∙ ap (λ r. ((((division_turn divisor (get_or dividend i d) r.0.1 r.1).0.0 ∷ r.0.0), (division_turn divisor (get_or dividend i d) r.0.1 r.1).0.1), (division_turn divisor (get_or dividend i d) r.0.1 r.1).1)) above
    ∙ ap (λ r. ((r.0.0 ∷ drop (i + 1) quotient, r.0.1), r.1)) one
    ∙ sym (ap (λ q. ((q, turn.1), h)) (drop_set_next quotient i turn.0 qt))

pub within-brought_down : (n : ℕ) (next : Literal) (remainder : List Literal) → next.variable ≤ n → IsWithin n remainder → IsWithin n (brought_down next remainder)
within-brought_down n next remainder h k = within-more n next (take (length remainder - 1) remainder) h (within-take n (length remainder - 1) remainder k)

pub any_begins : (bits : List Literal) (d : Literal) (f : Cnf) → 0 < length bits → any_from (get_or bits 0 d) (drop 1 bits) f ≡ any_bit bits f
unfolding any_bit
any_begins [] d f lt = absurd (omega arith)
any_begins (b ∷ bits) d f lt = refl

pub any_next : (found : Literal) (bits : List Literal) (i : ℕ) (d e : Literal) (f h : Cnf) → i < length bits → or_gate found (get_or bits i d) f ≡ (e, h)
    → any_from e (drop (i + 1) bits) h ≡ any_from found (drop i bits) f
unfolding any_from
any_next found bits i d e f h lt one =
    sym (ap (λ x. any_from found x f) (drop_next bits i d lt)
    ∙ ap (λ p. any_from p.0 (drop (i + 1) bits) p.1) one)

pub any_ends : (found : Literal) (bits : List Literal) (n : ℕ) (f : Cnf) → length bits ≤ n → any_from found (drop n bits) f ≡ (found, f)
unfolding any_from
any_ends found bits n f le = ap (λ x. any_from found x f) (drop_all n bits le)

-- ---- the turns by their count, from the highest bit downwards

pub division_more : (dividend divisor quotient remainder : List Literal) (n : ℕ) (d : Literal) (turn : Literal × List Literal) (start f h : Cnf)
    → n < 32 → length dividend ≡ 32 → length quotient ≡ 32
    → long_division (drop (32 - n) dividend) divisor start ≡ ((drop (32 - n) quotient, remainder), f)
    → division_turn divisor (get_or dividend (31 - n) d) remainder f ≡ (turn, h)
    → long_division (drop (32 - (n + 1)) dividend) divisor start ≡ ((drop (32 - (n + 1)) (set quotient (31 - n) turn.0), turn.1), h)
division_more dividend divisor quotient remainder n d turn start f h lt l q above one =
    let i : ℕ = 31 - n in
    let e : 32 - n ≡ i + 1 = omega arith in
    let g : 32 - (n + 1) ≡ i = omega arith in
    let start_here : long_division (drop (i + 1) dividend) divisor start ≡ ((drop (i + 1) quotient, remainder), f) =
    subst (λ j. long_division (drop j dividend) divisor start ≡ ((drop j quotient, remainder), f)) e above in
    subst (λ j. long_division (drop j dividend) divisor start ≡ ((drop j (set quotient i turn.0), turn.1), h)) (sym g)
    (division_next dividend divisor quotient remainder i d turn start f h (omega arith) (omega arith) start_here one)

pub turn_more : (m k : ℕ) (quotient : List Literal) (n : ℕ) (b : Literal) → n < 32 → length quotient ≡ 32 → m ≤ k → b.variable ≤ k
    → IsWithin m (drop (32 - n) quotient) → IsWithin k (drop (32 - (n + 1)) (set quotient (31 - n) b))
turn_more m k quotient n b lt l le low h =
    let i : ℕ = 31 - n in
    let e : 32 - n ≡ i + 1 = omega arith in
    let g : 32 - (n + 1) ≡ i = omega arith in
    let rest : IsWithin k (drop (i + 1) quotient) = IsWithin_more m k (drop (i + 1) quotient) le (subst (λ j. IsWithin m (drop j quotient)) e h) in
    subst (λ j. IsWithin k (drop j (set quotient i b))) (sym g)
    (subst (IsWithin k) (sym (drop_set_next quotient i b (omega arith))) (within-more k b (drop (i + 1) quotient) low rest))

-- ---- quotient and remainder as the code builds them

pub div_built : (left right q r negative : List Literal) (a b differ nonzero : Literal) (f g h i j : Cnf) (out : List Literal × Cnf) → sign_of left ≡ a → sign_of right ≡ b
    → absolute_division left right f ≡ ((q, r), g) → xor_gate a b g ≡ (differ, h) → neg_word q h ≡ (negative, i) → any_bit right i ≡ (nonzero, j)
    → bitwise (MaskedMux nonzero differ) negative q j ≡ out → div_word left right f ≡ out
unfolding div_word
div_built left right q r negative a b differ nonzero f g h i j out sa sb division signs less any last =
    ap (λ d. go d (xor_gate (sign_of left) (sign_of right) d.1)) division
    ∙ (ap (λ s. go ((q, r), g) (xor_gate s (sign_of right) g)) sa ∙ (ap (λ s. go ((q, r), g) (xor_gate a s g)) sb
    ∙ (ap (go ((q, r), g)) signs ∙ (ap (λ n. from_negative differ q n) less ∙ (ap (λ z. bitwise (MaskedMux z.0 differ) negative q z.1) any ∙ last)))))
  where
    from_negative : Literal → List Literal → List Literal × Cnf → List Literal × Cnf
    from_negative s q n = bitwise (MaskedMux (any_bit right n.1).0 s) n.0 q (any_bit right n.1).1

    go : (List Literal × List Literal) × Cnf → Literal × Cnf → List Literal × Cnf
    go d s = from_negative s.0 d.0.0 (neg_word d.0.0 s.1)

pub rem_built : (left right q r negative : List Literal) (a nonzero : Literal) (f g i j : Cnf) (out : List Literal × Cnf) → sign_of left ≡ a
    → absolute_division left right f ≡ ((q, r), g) → neg_word r g ≡ (negative, i) → any_bit right i ≡ (nonzero, j)
    → bitwise (MaskedMux nonzero a) negative r j ≡ out → rem_word left right f ≡ out
unfolding rem_word
rem_built left right q r negative a nonzero f g i j out sa division less any last =
    ap (λ s. go s (absolute_division left right f)) sa
    ∙ (ap (go a) division ∙ (ap (from_negative a r) less ∙ (ap (λ z. bitwise (MaskedMux z.0 a) negative r z.1) any ∙ last)))
  where
    from_negative : Literal → List Literal → List Literal × Cnf → List Literal × Cnf
    from_negative s r n = bitwise (MaskedMux (any_bit right n.1).0 s) n.0 r (any_bit right n.1).1

    go : Literal → (List Literal × List Literal) × Cnf → List Literal × Cnf
    go s d = from_negative s d.0.1 (neg_word d.0.1 d.1)
