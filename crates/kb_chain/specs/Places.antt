-- The place of the literal at a place.
use Rattle.std.proofs.Common.{◌≡◌, ◌≢◌, ℕ, ◌+◌, ◌*◌, ◌/◌, ◌%◌, ◌==◌, Bool, true, false, cond, arith, refl, sym, ◌∙◌}
use Rattle.std.proofs.lemmas.Bool.{eqb-true, eq-eqb, false≢true}
use Rattle.kb_chain.specs.Literal.{literal_at, place_of}

pub place_of-literal_at : (place : ℕ) → place_of (literal_at place) ≡ place
place_of-literal_at place = go (place % 2 == 0) refl
  where
    go : (b : Bool) → (place % 2 == 0) ≡ b → 2 * (place / 2) + cond b 0 1 ≡ place
    go true e = let h : place % 2 ≡ 0 = eqb-true (place % 2) 0 e in omega arith
    go false e = let h : place % 2 ≢ 0 = λ z. false≢true (sym e ∙ eq-eqb (place % 2) 0 z) in omega arith
