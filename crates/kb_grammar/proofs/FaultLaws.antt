-- What holds of the faults that a reader tells, piece by piece.
use Rattle.std.proofs.Common.{◌≡◌, refl, ℕ, zero, suc, ◌+◌, Bool, true, false, cond, ltb, eqb, List, [], ◌∷◌, ◌++◌, length, take, drop, Option, None, Some, Result, Ok, Err, subst}
use Rattle.kb_grammar.specs.Reading.{Place, Reader, follow, ◌>>=◌, done, fault, here, guard, unless, judged, told_as, telling, run, number, folded, one_more, repeated, big_endian, settled, whole, given, sized}
use Rattle.kb_grammar.specs.Grammar.{Faults}

-- the fault that is told is this one
same_fault : {E A : Type 0} (P : E → Type 0) (d e : E) → (let told : Result A E = Err d in told ≡ Err e) → P d → P e
same_fault {E} P d e h known = let same : d ≡ e = cc in subst P same known

pub done_faults : {E A : Type 0} (P : E → Type 0) (x : A) → Faults P (done x)
done_faults P x p e h = absurd cc

pub fault_faults : {E A : Type 0} (P : E → Type 0) (d : E) → P d → Faults P (fault {A = A} d)
fault_faults {E} {A} P d known p e h = same_fault {A = A × Place} P d e h known

pub bind_faults : {E X A : Type 0} (P : E → Type 0) (r : Reader E X) (f : X → Reader E A) → Faults P r → ((x : X) → Faults P (f x)) → Faults P (r >>= f)
bind_faults {E} {X} {A} P r f first next p e h = go (r p) refl h where
  go : (read : Result (X × Place) E) → r p ≡ read → follow read f ≡ Err e → P e
  go (Ok x) is h = next x.0 x.1 e h
  go (Err d) is h = same_fault {A = A × Place} P d e h (first p d is)

pub here_faults : {E A : Type 0} (P : E → Type 0) (f : ℕ → Reader E A) → ((at : ℕ) → Faults P (f at)) → Faults P (here >>= f)
here_faults P f next p e h = next p.at p e h

pub guard_faults : {E A : Type 0} (P : E → Type 0) (test : Bool) (d : E) (r : Reader E A) → P d → Faults P r → Faults P (guard test d r)
guard_faults P true d r known inner p e h = inner p e h
guard_faults {E} {A} P false d r known inner p e h = same_fault {A = A × Place} P d e h known

pub if_faults : {E A : Type 0} (P : E → Type 0) (test : Bool) (r s : Reader E A) → Faults P r → Faults P s → Faults P (λ p. cond test (r p) (s p))
if_faults P true r s first second p e h = first p e h
if_faults P false r s first second p e h = second p e h

pub unless_faults : {E A : Type 0} (P : E → Type 0) (refused : Option E) (x : A) → ((d : E) → refused ≡ Some d → P d) → Faults P (unless refused x)
unless_faults P None x known p e h = absurd cc
unless_faults {E} {A} P (Some d) x known p e h = same_fault {A = A × Place} P d e h (known d refl)

pub judged_faults : {E A : Type 0} (P : E → Type 0) (judge : ℕ → A → Option E) (r : Reader E A) → Faults P r → ((at : ℕ) (x : A) (d : E) → judge at x ≡ Some d → P d) → Faults P (judged judge r)
judged_faults P judge r inner known =
    here_faults P (λ at. r >>= λ x. unless (judge at x) x) (λ at. bind_faults P r (λ x. unless (judge at x) x) inner (λ x. unless_faults P (judge at x) x (known at x)))

pub telling_faults : {E F A : Type 0} (P : E → Type 0) (Q : F → Type 0) (f : E → F) (r : Reader E A) → Faults P r → ((e : E) → P e → Q (f e)) → Faults Q (telling f r)
telling_faults {E} {F} {A} P Q f r inner told p e h = go (r p) refl h where
  go : (read : Result (A × Place) E) → r p ≡ read → told_as f read ≡ Err e → Q e
  go (Ok x) is h = absurd cc
  go (Err d) is h = same_fault {A = A × Place} Q (f d) e h (told d (inner p d is))

pub folded_faults : {E A : Type 0} (P : E → Type 0) (step : A → Reader E A) → ((x : A) → Faults P (step x)) → (n : ℕ) (x : A) → Faults P (folded step n x)
unfolding folded
folded_faults P step inner zero x = done_faults P x
folded_faults P step inner (suc n) x = bind_faults P (step x) (folded step n) (inner x) (folded_faults P step inner n)

pub repeated_faults : {E A : Type 0} (P : E → Type 0) (r : ℕ → Reader E A) → ((number : ℕ) → Faults P (r number)) → (n : ℕ) → Faults P (repeated r n)
repeated_faults P r inner n =
    folded_faults P (one_more r) (λ xs. bind_faults P (r (length xs)) (λ x. done (xs ++ x ∷ [])) (inner (length xs)) (λ x. done_faults P (xs ++ x ∷ []))) n []

pub run_faults : {E : Type 0} (P : E → Type 0) (short : ℕ → E) → ((at : ℕ) → P (short at)) → (n : ℕ) → Faults P (run short n)
unfolding run
run_faults {E} P short known n p e h = go (ltb (length p.rest) n) h where
  go : (b : Bool) → (let read : Result (List ℕ × Place) E = cond b (Err (short p.at)) (Ok (take n p.rest, record { rest = drop n p.rest; at = p.at + n })) in read ≡ Err e) → P e
  go true h = same_fault {A = List ℕ × Place} P (short p.at) e h (known p.at)
  go false h = absurd cc

pub number_faults : {E : Type 0} (P : E → Type 0) (short : ℕ → E) → ((at : ℕ) → P (short at)) → (width : ℕ) → Faults P (number short width)
unfolding number
number_faults P short known width = bind_faults P (run short width) (λ bytes. done (big_endian bytes)) (run_faults P short known width) (λ bytes. done_faults P (big_endian bytes))

-- ---- all of the bytes

-- the fault of a reader, or that of bytes that are left over
pub settled_fault : {E A : Type 0} (P : E → Type 0) (extra : ℕ → E) (read : Result (A × Place) E) → ((e : E) → read ≡ Err e → P e) → ((at : ℕ) → P (extra at)) → (e : E) → settled extra read ≡ Err e → P e
settled_fault {E} {A} P extra (Err d) inner known e h = same_fault {A = A} P d e h (inner d refl)
settled_fault {E} {A} P extra (Ok x) inner known e h = go (eqb (length x.1.rest) 0) h where
  go : (b : Bool) → (let told : Result A E = cond b (Ok x.0) (Err (extra x.1.at)) in told ≡ Err e) → P e
  go true h = absurd cc
  go false h = same_fault {A = A} P (extra x.1.at) e h (known x.1.at)

pub given_faults : {E A : Type 0} (P : E → Type 0) (read : Result A E) → ((e : E) → read ≡ Err e → P e) → Faults P (given read)
given_faults P (Ok x) inner p e h = absurd cc
given_faults {E} {A} P (Err d) inner p e h = same_fault {A = A × Place} P d e h (inner d refl)

pub sized_faults : {E A : Type 0} (P : E → Type 0) (short : ℕ → E) (width : ℕ) (extra : ℕ → ℕ → E) (r : ℕ → Reader E A)
    → ((at : ℕ) → P (short at)) → ((from at : ℕ) → P (extra from at)) → ((from : ℕ) → Faults P (r from)) → Faults P (sized short width extra r)
unfolding sized
sized_faults P short width extra r shorts extras inner =
    bind_faults P (number short width) (λ n. here >>= λ from. run short n >>= λ content. given (whole (extra from) (r from) content from)) (number_faults P short shorts width)
    (λ n. here_faults P (λ from. run short n >>= λ content. given (whole (extra from) (r from) content from))
    (λ from. bind_faults P (run short n) (λ content. given (whole (extra from) (r from) content from)) (run_faults P short shorts n)
    (λ content. given_faults P (whole (extra from) (r from) content from)
    (settled_fault P (extra from) (r from (record { rest = content; at = from })) (inner from (record { rest = content; at = from })) (extras from)))))
