-- Values up to the end of the bytes are those that all the bytes spell, where each value takes a byte at least.
use Rattle.std.proofs.Common.{◌≡◌, ℕ, zero, suc, ◌+◌, ◌≤◌, Bool, true, false, cond, eqb, List, [], ◌∷◌, length, Result, Ok, refl, sym, ap, subst, ◌∙◌, arith, length-append}
use Rattle.std.proofs.lemmas.Bool.{eqb-true, ne_eqb}
use Rattle.std.proofs.lemmas.List.{nil_from_length}
use Rattle.kb_grammar.specs.Reading.{Place, Reader, ◌>>=◌, done, up_to_end, values_of}
use Rattle.kb_grammar.specs.Grammar.{Piece, Each, Exact}
use Rattle.kb_grammar.proofs.Laws.{follow_ok}

module _ {E A : Type 0} (short : ℕ → E) (r : Reader E A) (S : A → Piece) (exact : Exact short r S) (some : (x : A) (at : ℕ) (text : List ℕ) → S x at text → 1 ≤ length text) where
  abbrev Read : List A → Place → Result (List A × Place) E
  Read xs q = Ok (xs, q)

  -- two answers that are one
  same_read : (xs ys : List A) (p q : Place) → Read xs p ≡ Read ys q → (xs ≡ ys) × (p ≡ q)
  same_read xs ys p q e =
      let pair : (xs, p) ≡ (ys, q) = cc in
      (ap (λ (w : List A × Place). w.0) pair, ap (λ (w : List A × Place). w.1) pair)

  nothing_left : (bytes : List ℕ) (at : ℕ) (xs : List A) (q : Place) → bytes ≡ [] → Read [] (record { rest = bytes; at = at }) ≡ Read xs q → Each S xs at bytes × (q.rest ≡ [])
  nothing_left bytes at xs q none e =
      let same = same_read [] xs (record { rest = bytes; at = at }) q e in
      let P : List A → Type 0 = λ ys. Each S ys at bytes in
      (subst P same.0 none, ap (λ (p : Place). p.rest) (sym same.1) ∙ none)

  -- what was read spells all that was left
  pub up_to_end_found : (most : ℕ) (bytes : List ℕ) (at : ℕ) (xs : List A) (q : Place) → length bytes ≤ most
      → up_to_end most r (record { rest = bytes; at = at }) ≡ Ok (xs, q) → Each S xs at bytes × (q.rest ≡ [])
  unfolding up_to_end
  up_to_end_found zero bytes at xs q few h = nothing_left bytes at xs q (nil_from_length bytes (omega (arith, few))) h
  up_to_end_found (suc most) bytes at xs q few h = go (λ m ys. up_to_end_found most m.rest m.at ys q) (eqb (length bytes) 0) refl h where
    go : ((m : Place) (ys : List A) → length m.rest ≤ most → up_to_end most r m ≡ Ok (ys, q) → Each S ys m.at m.rest × (q.rest ≡ []))
        → (b : Bool) → eqb (length bytes) 0 ≡ b
        → cond b (Read [] (record { rest = bytes; at = at })) ((r >>= λ x. up_to_end most r >>= λ others. done (x ∷ others)) (record { rest = bytes; at = at })) ≡ Read xs q → Each S xs at bytes × (q.rest ≡ [])
    go more true is h = nothing_left bytes at xs q (nil_from_length bytes (eqb-true (length bytes) 0 is)) h
    go more false is h =
        let first = follow_ok (r (record { rest = bytes; at = at })) (λ x. up_to_end most r >>= λ others. done (x ∷ others)) xs q h in
        let rest = follow_ok (up_to_end most r first.1) (λ others. done (first.0 ∷ others)) xs q first.3 in
        let b = exact.found (record { rest = bytes; at = at }) first.1 first.0 first.2 in
        let end = same_read (first.0 ∷ rest.0) xs rest.1 q rest.3 in
        let shorter : length first.1.rest ≤ most = omega (arith, few, ap length b.parts, length-append b.text first.1.rest, some first.0 at b.text b.spelled) in
        let others = more first.1 rest.0 shorter (rest.2 ∙ ap (λ (p : Place). Read rest.0 p) end.1) in
        let P : List A → Type 0 = λ ys. Each S ys at bytes in
        (subst P end.0 (record { front = b.text; back = first.1.rest; parts = b.parts; begins = b.spelled; ends = subst (λ (o : ℕ). Each S rest.0 o first.1.rest) b.after others.0 }), others.1)

  ended : (bytes : List ℕ) (at : ℕ) → bytes ≡ [] → Read [] (record { rest = bytes; at = at }) ≡ Read [] (record { rest = []; at = at + length bytes })
  ended bytes at none =
      let len : at + length bytes ≡ at = omega (arith, ap length none) in
      rw (len, none) refl

  -- what all the bytes spell is read
  pub up_to_end_only : (most : ℕ) (bytes : List ℕ) (at : ℕ) (xs : List A) → length bytes ≤ most → Each S xs at bytes
      → up_to_end most r (record { rest = bytes; at = at }) ≡ Ok (xs, record { rest = []; at = at + length bytes })
  unfolding up_to_end
  up_to_end_only zero bytes at [] few s = ended bytes at s
  up_to_end_only zero bytes at (x ∷ xs) few s = absurd (omega (arith, few, ap length s.parts, length-append s.front s.back, some x at s.front s.begins))
  up_to_end_only (suc most) bytes at [] few s = rw s (ended [] at refl)
  up_to_end_only (suc most) bytes at (x ∷ xs) few s =
      let longer = some x at s.front s.begins in
      let there : eqb (length bytes) 0 ≡ false = ne_eqb (length bytes) 0 (λ none. omega (arith, none, ap length s.parts, length-append s.front s.back, longer)) in
      let one = exact.only x s.front s.back at s.begins in
      let shorter : length s.back ≤ most = omega (arith, few, ap length s.parts, length-append s.front s.back, longer) in
      let others = up_to_end_only most s.back (at + length s.front) xs shorter s.ends in
      let len : at + length bytes ≡ at + length s.front + length s.back = omega (arith, ap length s.parts, length-append s.front s.back) in
      rw (there, len, s.parts, one, others) refl

  -- all the bytes
  pub values_found : (bytes : List ℕ) (from : ℕ) (xs : List A) (q : Place) → values_of r bytes from ≡ Ok (xs, q) → Each S xs from bytes
  values_found bytes from xs q h = (up_to_end_found (length bytes) bytes from xs q (omega arith) h).0

  pub values_only : (bytes : List ℕ) (from : ℕ) (xs : List A) → Each S xs from bytes → values_of r bytes from ≡ Ok (xs, record { rest = []; at = from + length bytes })
  values_only bytes from xs s = up_to_end_only (length bytes) bytes from xs (omega arith) s
