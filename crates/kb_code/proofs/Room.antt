-- Targets of switches all have one size, and so have their pairs.
use Rattle.std.proofs.Common.{◌≡◌, ℕ, ◌+◌, ◌*◌, ◌<◌, Bool, true, false, cond, ltb, ℤ, pos, ◌+ℤ◌, [], length, take, drop, Result, Ok, Err, refl, arith, length-drop}
use Rattle.std.specs.Int.{w32, cast_signed}
use Rattle.std.proofs.lemmas.Bool.{ltb-false}
use Rattle.kb_grammar.specs.Reading.{Place, Reader, follow, ◌>>=◌, done, run, number, repeated, big_endian}
use Rattle.kb_code.specs.declared.refusal.CodeRefusal.{CodeRefusal}
use Rattle.kb_code.specs.declared.refusal.CodeRefusal.TheVariants as refusals
use Rattle.kb_code.specs.Reading.{cut, u4, int, far, pair}
use Rattle.kb_code.proofs.Steps.{Takes, no_room}

run_takes : (from n : ℕ) (p : Place) → Takes n (refusals.Cut from) p (run (cut from) n p)
unfolding run
run_takes from n p = go (ltb (length p.rest) n) refl where
  go : (b : Bool) → ltb (length p.rest) n ≡ b
      → Takes n (refusals.Cut from) p (cond b (Err (refusals.Cut from)) (Ok (take n p.rest, record { rest = drop n p.rest; at = p.at + n })))
  go true short = refl
  go false long = omega (arith, length-drop n p.rest, ltb-false (length p.rest) n long)

takes_both : {X A : Type 0} (m n : ℕ) (refusal : CodeRefusal) (r : Reader CodeRefusal X) (f : X → Reader CodeRefusal A) (p : Place)
    → Takes m refusal p (r p) → ((x : X) (q : Place) → Takes n refusal q (f x q)) → Takes (m + n) refusal p ((r >>= f) p)
takes_both {X} {A} m n refusal r f p first next = go (r p) first where
  go : (read : Result (X × Place) CodeRefusal) → Takes m refusal p read → Takes (m + n) refusal p (follow read f)
  go (Ok x) t = further (f x.0 x.1) (next x.0 x.1) where
    further : (read : Result (A × Place) CodeRefusal) → Takes n refusal x.1 read → Takes (m + n) refusal p read
    further (Ok y) u = omega (arith, t, u)
    further (Err told) u = u
  go (Err told) t = t

done_takes : {A : Type 0} (refusal : CodeRefusal) (x : A) (p : Place) → Takes 0 refusal p (done x p)
done_takes refusal x p = omega arith

four_takes : (from : ℕ) (p : Place) → Takes 4 (refusals.Cut from) p (u4 from p)
unfolding number
four_takes from p =
    takes_both 4 0 (refusals.Cut from) (run (cut from) 4) (λ bytes. done (big_endian bytes)) p (run_takes from 4 p)
    (λ bytes q. done_takes (refusals.Cut from) (big_endian bytes) q)

far_takes : (from : ℕ) (p : Place) → Takes 4 (refusals.Cut from) p (far from p)
unfolding far
far_takes from p =
    takes_both 4 0 (refusals.Cut from) (u4 from) (λ n. done (pos from +ℤ cast_signed w32 n)) p (four_takes from p)
    (λ n q. done_takes (refusals.Cut from) (pos from +ℤ cast_signed w32 n) q)

int_takes : (from : ℕ) (p : Place) → Takes 4 (refusals.Cut from) p (int from p)
unfolding int
int_takes from p =
    takes_both 4 0 (refusals.Cut from) (u4 from) (λ n. done (cast_signed w32 n)) p (four_takes from p)
    (λ n q. done_takes (refusals.Cut from) (cast_signed w32 n) q)

pair_takes : (from : ℕ) (p : Place) → Takes 8 (refusals.Cut from) p (pair from p)
unfolding pair
pair_takes from p =
    takes_both 4 4 (refusals.Cut from) (int from) (λ key. far from >>= λ to. done (key, to)) p (int_takes from p)
    (λ key q. takes_both 4 0 (refusals.Cut from) (far from) (λ to. done (key, to)) q (far_takes from q) (λ to s. done_takes {A = ℤ × ℤ} (refusals.Cut from) (key, to) s))

pub no_targets : (from n : ℕ) (p : Place) → length p.rest < 4 * n → repeated (λ (number : ℕ). far from) n p ≡ Err (refusals.Cut from)
no_targets from n p short = no_room 4 (refusals.Cut from) (far from) (far_takes from) n [] p short

pub no_pairs : (from n : ℕ) (p : Place) → length p.rest < 8 * n → repeated (λ (number : ℕ). pair from) n p ≡ Err (refusals.Cut from)
no_pairs from n p short = no_room 8 (refusals.Cut from) (pair from) (pair_takes from) n [] p short
