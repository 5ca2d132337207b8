use Rattle.std.proofs.Common.{◌≡◌, ℕ, Some, ap, arith}
use Rattle.kb_numbers.proofs.parts.text_number.Goals as goal

pub returns-in_err-place-clause-whole : goal.returns-in_err-place-clause-whole
returns-in_err-place-clause-whole c = λ number fits at. absurd (c.in_err-place.ensures.none number at)

pub returns-in-Ok-clause-whole : goal.returns-in-Ok-clause-whole
returns-in-Ok-clause-whole c = λ number fits at.
    let same : c.in_ok-place.place ≡ number = c.tell_distinct.ensures c.in_ok-place.place number c.args.text.now c.in_ok-place.ensures.found at in
    ap (λ (n : ℕ). Some n) (let e : c.in-Ok.number ≡ number = omega (arith, same, c.in-Ok.ensures) in e)

pub returns-in-Err-clause-whole : goal.returns-in-Err-clause-whole
returns-in-Err-clause-whole c = λ number fits at.
    let same : c.in_ok-place.place ≡ number = c.tell_distinct.ensures c.in_ok-place.place number c.args.text.now c.in_ok-place.ensures.found at in
    absurd (let no : ⊥ = omega (arith, same, fits, c.in-Err.ensures) in no)
