-- Reading a format from left to right. A reader takes a value from the front of what is left, or tells
-- the first fault that it meets. (Parsers as functions: Hutton and Meijer, 1998.)
use Rattle.std.specs.Prelude.{ℕ, zero, suc, ◌+◌, ◌*◌, ◌^◌, Bool, List, [], ◌∷◌, ◌++◌, length, take, drop, Option, None, Some, Result, Ok, Err, nat_eq, nat_lt, if◌then◌else◌}

-- what is left of the bytes, and how many stand before it
pub record Place : Type 0 where
  pub rest : List ℕ
  pub at : ℕ

-- a reader of a value of A, with faults of E
abbrev pub Reader : Type 0 → Type 0 → Type 0
Reader E A = Place → Result (A × Place) E

-- the reader that is asked for by what was read
abbrev pub follow : {E A B : Type 0} → Result (A × Place) E → (A → Reader E B) → Result (B × Place) E
follow (Ok x) f = f x.0 x.1
follow (Err e) f = Err e

infixl 10 ◌>>=◌
-- one reader, and then the next, so that `do` reads one value after the other
abbrev pub ◌>>=◌ : {E A B : Type 0} → Reader E A → (A → Reader E B) → Reader E B
(r >>= f) p = follow (r p) f

-- takes no byte
abbrev pub done : {E A : Type 0} → A → Reader E A
done x p = Ok (x, p)

-- takes nothing, and only tells a fault
abbrev pub fault : {E A : Type 0} → E → Reader E A
fault e p = Err e

-- the offset at which the reader stands
abbrev pub here : {E : Type 0} → Reader E ℕ
here p = Ok (p.at, p)

-- goes on only if the test is true
abbrev pub guard : {E A : Type 0} → Bool → E → Reader E A → Reader E A
guard test e r p = if test then r p else Err e

-- a value, unless there is a fault
abbrev pub unless : {E A : Type 0} → Option E → A → Reader E A
unless None x p = Ok (x, p)
unless (Some e) x p = Err e

-- a value that may have a fault, which is told of the offset at which it begins and of the value
abbrev pub judged : {E A : Type 0} → (ℕ → A → Option E) → Reader E A → Reader E A
judged judge r = here >>= λ at. r >>= λ x. unless (judge at x) x

-- a reader whose faults are told as others
abbrev pub told_as : {E F A : Type 0} → (E → F) → Result A E → Result A F
told_as f (Ok x) = Ok x
told_as f (Err e) = Err (f e)

abbrev pub telling : {E F A : Type 0} → (E → F) → Reader E A → Reader F A
telling f r p = told_as f (r p)

-- a run of n bytes; where fewer are left, the fault that belongs to the offset
unfoldable pub run : {E : Type 0} → (ℕ → E) → ℕ → Reader E (List ℕ)
run short n p = if nat_lt (length p.rest) n then Err (short p.at) else Ok (take n p.rest, record { rest = drop n p.rest; at = p.at + n })

-- the number that bytes stand for, the highest byte first
abbrev pub big_endian : List ℕ → ℕ
big_endian [] = 0
big_endian (b ∷ bs) = b * 256 ^ length bs + big_endian bs

-- a number of that many bytes, the highest byte first
unfoldable pub number : {E : Type 0} → (ℕ → E) → ℕ → Reader E ℕ
number short width = do
  bytes ← run short width
  done (big_endian bytes)

-- n steps, each of which reads on from what was read so far
unfoldable pub folded : {E A : Type 0} → (A → Reader E A) → ℕ → A → Reader E A
folded step zero x = done x
folded step (suc n) x = do
  next ← step x
  folded step n next

-- one value more, behind those that were read: its reader knows its number, from 0
abbrev pub one_more : {E A : Type 0} → (ℕ → Reader E A) → List A → Reader E (List A)
one_more r xs = r (length xs) >>= λ x. done (xs ++ x ∷ [])

-- n values, one after the other
abbrev pub repeated : {E A : Type 0} → (ℕ → Reader E A) → ℕ → Reader E (List A)
repeated r n = folded (one_more r) n []

-- Values, one after the other, up to the end of the bytes, and at most so many. What follows them decides where they end, so
-- this is no reader of a piece (`Exact`): it reads all bytes that are left.
unfoldable pub up_to_end : {E A : Type 0} → ℕ → Reader E A → Reader E (List A)
up_to_end zero r p = Ok ([], p)
up_to_end (suc most) r p = if nat_eq (length p.rest) 0 then Ok ([], p) else (r >>= λ x. up_to_end most r >>= λ xs. done (x ∷ xs)) p

-- all bytes as values; the first byte has the offset `from`. Where each value takes a byte at least, nothing is left behind them.
abbrev pub values_of : {E A : Type 0} → Reader E A → List ℕ → ℕ → Result (List A × Place) E
values_of r bytes from = up_to_end (length bytes) r (record { rest = bytes; at = from })

-- what a reader gave, if nothing is left behind it; else the fault that belongs to the offset
abbrev pub settled : {E A : Type 0} → (ℕ → E) → Result (A × Place) E → Result A E
settled extra (Ok x) = if nat_eq (length x.1.rest) 0 then Ok x.0 else Err (extra x.1.at)
settled extra (Err e) = Err e

-- a reader of all of the bytes, the first of which has the offset `from`
abbrev pub whole : {E A : Type 0} → (ℕ → E) → Reader E A → List ℕ → ℕ → Result A E
whole extra r bytes from = settled extra (r (record { rest = bytes; at = from }))

-- a value that takes no byte, or a fault
abbrev pub given : {E A : Type 0} → Result A E → Reader E A
given (Ok x) p = Ok (x, p)
given (Err e) p = Err e

-- the number of bytes of a content, and the content, which a reader of its own takes whole: it knows the offset of the
-- content, and so does the fault of bytes that are left over
unfoldable pub sized : {E A : Type 0} → (ℕ → E) → ℕ → (ℕ → ℕ → E) → (ℕ → Reader E A) → Reader E A
sized short width extra r = do
  n ← number short width
  from ← here
  content ← run short n
  given (whole (extra from) (r from) content from)
