-- Moved words as the code makes them.
use Rattle.std.proofs.Common.{◌≡◌, ℕ, ◌-◌, ◌≤◌, ◌<◌, List, ◌++◌, length, take, drop, replicate, ap, ◌∙◌, arith}
use Rattle.std.proofs.lemmas.List.{take-replicate, drop-replicate, length-replicate, drop_all, append-nil, length-drop, take_all}
use Rattle.kb_chain.specs.Literal.{Literal}
use Rattle.kb_circuit.specs.Shifts.{moved_up, moved_down}

pub moved_down_is : (fill : Literal) (n : ℕ) (bits part : List Literal) → n < 32 → length bits ≡ 32 → part ≡ take (length bits - n) (drop n bits)
    → part ++ drop (32 - n) (replicate 32 fill) ≡ moved_down fill n bits
moved_down_is fill n bits part lt long e =
    let m : 32 - (32 - n) ≡ n = omega arith in
    ap (λ x. x ++ drop (32 - n) (replicate 32 fill)) (e ∙ take_all (length bits - n) (drop n bits) (omega (arith, length-drop n bits)))
    ∙ ap (λ x. drop n bits ++ x) (drop-replicate (32 - n) 32 fill ∙ ap (λ k. replicate k fill) m)

pub moved_up_is : (fill : Literal) (n : ℕ) (bits part : List Literal) → n < 32 → length bits ≡ 32 → part ≡ take (32 - n) bits
    → take n (replicate 32 fill) ++ (part ++ drop (32 - n) (drop n (replicate 32 fill))) ≡ moved_up fill n bits
moved_up_is fill n bits part lt long e =
    let all : length (drop n (replicate 32 fill)) ≤ 32 - n = omega (arith, length-drop n (replicate 32 fill), length-replicate 32 fill) in
    let m : 32 - n ≡ length bits - n = omega arith in
    ap (λ x. x ++ (part ++ drop (32 - n) (drop n (replicate 32 fill)))) (take-replicate n 32 fill (omega arith))
    ∙ ap (λ x. replicate n fill ++ (part ++ x)) (drop_all (32 - n) (drop n (replicate 32 fill)) all)
    ∙ ap (λ x. replicate n fill ++ x) (append-nil part ∙ e ∙ ap (λ k. take k bits) m)
