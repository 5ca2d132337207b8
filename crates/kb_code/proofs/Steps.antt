-- Steps of a reader, as loops of the code take them.
use Rattle.std.proofs.Common.{◌≡◌, ℕ, zero, suc, ◌-◌, ◌+◌, ◌*◌, ◌≤◌, ◌<◌, true, false, eqb, List, [], ◌∷◌, ◌++◌, length, Result, Ok, Err, refl, sym, ap, ◌∙◌, arith, append_assoc}
use Rattle.std.proofs.lemmas.Bool.{ne_eqb}
use Rattle.std.proofs.lemmas.List.{append-nil}
use Rattle.kb_grammar.specs.Reading.{Place, Reader, ◌>>=◌, done, folded, one_more, up_to_end}
use Rattle.kb_grammar.proofs.Loops.{goes_on, goes_wrong}
use Rattle.kb_code.specs.declared.refusal.CodeRefusal.{CodeRefusal}
use Rattle.kb_code.specs.declared.refusal.CodeRefusal.TheVariants as refusals
use Rattle.kb_code.specs.Reading.{Fails}
use Rattle.kb_code.specs.Answers.{each_of}

-- a fault of a part is that of the whole
pub fails_as : {A B : Type 0} (refusal : CodeRefusal) (part : Result A CodeRefusal) (total : Result B CodeRefusal)
    → Fails refusal part → (part ≡ Err refusal → total ≡ Err refusal) → Fails refusal total
fails_as refusals.NoMemory part total h carries = tt
fails_as refusal part total h carries = carries h

-- ---- a count of values

-- a loop that stops at a refusal
pub fails_in_loop : {A : Type 0} (refusal : CodeRefusal) (step : A → Reader CodeRefusal A) (x : A) (count i : ℕ) (p : Place) (total : Result (A × Place) CodeRefusal)
    → i < count → Fails refusal (step x p) → folded step (count - i) x p ≡ total → Fails refusal total
fails_in_loop refusals.NoMemory step x count i p total lt h so_far = tt
fails_in_loop refusal step x count i p total lt h so_far = goes_wrong step x count i p refusal total lt h so_far

one_more_is : {A : Type 0} (r : ℕ → Reader CodeRefusal A) (xs : List A) (x : A) (p after : Place)
    → r (length xs) p ≡ Ok (x, after) → one_more r xs p ≡ Ok (xs ++ x ∷ [], after)
one_more_is r xs x p after h = rw h refl

one_more_fails : {A : Type 0} (refusal : CodeRefusal) (r : ℕ → Reader CodeRefusal A) (xs : List A) (p : Place)
    → Fails refusal (r (length xs) p) → Fails refusal (one_more r xs p)
one_more_fails refusals.NoMemory r xs p h = tt
one_more_fails refusal r xs p h = rw h refl

-- a loop that puts one value more behind the others
pub puts_behind : {A : Type 0} (r : ℕ → Reader CodeRefusal A) (xs : List A) (x : A) (count i : ℕ) (p after : Place) (total : Result (List A × Place) CodeRefusal)
    → i < count → r (length xs) p ≡ Ok (x, after) → folded (one_more r) (count - i) xs p ≡ total
    → folded (one_more r) (count - (i + 1)) (xs ++ x ∷ []) after ≡ total
puts_behind r xs x count i p after total lt h so_far = goes_on (one_more r) xs (xs ++ x ∷ []) count i p after total lt (one_more_is r xs x p after h) so_far

-- such a loop, where it stops at a refusal
pub stops : {A : Type 0} (refusal : CodeRefusal) (r : ℕ → Reader CodeRefusal A) (xs : List A) (count i : ℕ) (p : Place) (total : Result (List A × Place) CodeRefusal)
    → i < count → Fails refusal (r (length xs) p) → folded (one_more r) (count - i) xs p ≡ total → Fails refusal total
stops refusal r xs count i p total lt h so_far = fails_in_loop refusal (one_more r) xs count i p total lt (one_more_fails refusal r xs p h) so_far

-- what a reader of values of one size gives: a fault, or a value behind which so many bytes fewer are left
abbrev pub Takes : {A : Type 0} → ℕ → CodeRefusal → Place → Result (A × Place) CodeRefusal → Type 0
Takes size refusal p (Ok x) = length x.1.rest + size ≡ length p.rest
Takes size refusal p (Err told) = told ≡ refusal

-- More values than there is room for are not read.
pub no_room : {A : Type 0} (size : ℕ) (refusal : CodeRefusal) (r : Reader CodeRefusal A) → ((p : Place) → Takes size refusal p (r p))
    → (n : ℕ) (xs : List A) (p : Place) → length p.rest < size * n → folded (one_more (λ (number : ℕ). r)) n xs p ≡ Err refusal
unfolding folded
no_room size refusal r takes zero xs p short = absurd (Prim.grind arith)
no_room {A} size refusal r takes (suc n) xs p short = go (λ ys q less. no_room size refusal r takes n ys q less) (r p) refl (takes p) where
  go : ((ys : List A) (q : Place) → length q.rest < size * n → folded (one_more (λ (number : ℕ). r)) n ys q ≡ Err refusal)
      → (read : Result (A × Place) CodeRefusal) → r p ≡ read → Takes size refusal p read → folded (one_more (λ (number : ℕ). r)) (suc n) xs p ≡ Err refusal
  go more (Ok x) is t =
      let less : length x.1.rest < size * n = Prim.grind arith in
      rw is (more (xs ++ x.0 ∷ []) x.1 less)
  go more (Err told) is t = rw (is, t) refl

-- ---- values up to the end

-- values in front of those that are read
abbrev pub in_front : {A B : Type 0} → List A → Result (List A × B) CodeRefusal → Result (List A × B) CodeRefusal
in_front xs (Ok x) = Ok (xs ++ x.0, x.1)
in_front xs (Err refusal) = Err refusal

-- What is read from here on, behind the values that were read, is the whole.
pub record IsOnTheWay {A : Type 0} (r : Reader CodeRefusal A) (xs : List A) (p : Place) (total : Result (List A × Place) CodeRefusal) : Type 0 where
  pub most : ℕ
  pub enough : length p.rest ≤ most
  pub is : in_front xs (up_to_end most r p) ≡ total

front_of_front : {A B : Type 0} (xs : List A) (x : A) (read : Result (List A × B) CodeRefusal) (whole : Result (List A × B) CodeRefusal)
    → (let grown : Result (List A × B) CodeRefusal = in_front (x ∷ []) read in whole ≡ grown) → in_front xs whole ≡ in_front (xs ++ x ∷ []) read
front_of_front xs x (Ok y) whole e = rw (e, append_assoc xs (x ∷ []) y.0) refl
front_of_front xs x (Err refusal) whole e = rw e refl

one_in_front : {A : Type 0} (x : A) (most : ℕ) (r : Reader CodeRefusal A) (p : Place) → (up_to_end most r >>= λ xs. done (x ∷ xs)) p ≡ in_front (x ∷ []) (up_to_end most r p)
one_in_front {A} x most r p = go (up_to_end most r p) refl where
  go : (read : Result (List A × Place) CodeRefusal) → up_to_end most r p ≡ read → (up_to_end most r >>= λ xs. done (x ∷ xs)) p ≡ in_front (x ∷ []) (up_to_end most r p)
  go (Ok y) is = rw is refl
  go (Err refusal) is = rw is refl

pub at_first : {A : Type 0} (r : Reader CodeRefusal A) (p : Place) → IsOnTheWay r [] p (up_to_end (length p.rest) r p)
at_first {A} r p = record { most = length p.rest; enough = omega arith; is = go (up_to_end (length p.rest) r p) } where
  go : (read : Result (List A × Place) CodeRefusal) → in_front [] read ≡ read
  go (Ok y) = refl
  go (Err refusal) = refl

pub one_further : {A : Type 0} (r : Reader CodeRefusal A) (xs : List A) (x : A) (p q : Place) (total : Result (List A × Place) CodeRefusal)
    → IsOnTheWay r xs p total → 1 ≤ length p.rest → r p ≡ Ok (x, q) → length q.rest < length p.rest → IsOnTheWay r (xs ++ x ∷ []) q total
unfolding up_to_end
one_further {A} r xs x p q total way some read less = go way.most way.enough way.is where
  go : (most : ℕ) → length p.rest ≤ most → in_front xs (up_to_end most r p) ≡ total → IsOnTheWay r (xs ++ x ∷ []) q total
  go zero enough is = absurd (omega (arith, enough))
  go (suc most) enough is =
      let there : eqb (length p.rest) 0 ≡ false = ne_eqb (length p.rest) 0 (λ none. omega (arith, none)) in
      let one : up_to_end (suc most) r p ≡ in_front (x ∷ []) (up_to_end most r q) = rw (there, read) (one_in_front x most r q) in
      record { most = most; enough = omega (arith, enough); is = sym (front_of_front xs x (up_to_end most r q) (up_to_end (suc most) r p) one) ∙ is }

pub at_fault : {A : Type 0} (r : Reader CodeRefusal A) (xs : List A) (p : Place) (total : Result (List A × Place) CodeRefusal) (refusal : CodeRefusal)
    → IsOnTheWay r xs p total → 1 ≤ length p.rest → r p ≡ Err refusal → total ≡ Err refusal
unfolding up_to_end
at_fault {A} r xs p total refusal way some read = go way.most way.enough way.is where
  go : (most : ℕ) → length p.rest ≤ most → in_front xs (up_to_end most r p) ≡ total → total ≡ Err refusal
  go zero enough is = absurd (omega (arith, enough))
  go (suc most) enough is =
      let there : eqb (length p.rest) 0 ≡ false = ne_eqb (length p.rest) 0 (λ none. omega (arith, none)) in
      let one : up_to_end (suc most) r p ≡ Err refusal = rw (there, read) refl in
      sym is ∙ ap (λ (w : Result (List A × Place) CodeRefusal). in_front xs w) one

pub at_end : {A : Type 0} (r : Reader CodeRefusal A) (xs : List A) (p : Place) (total : Result (List A × Place) CodeRefusal)
    → IsOnTheWay r xs p total → length p.rest ≡ 0 → total ≡ Ok (xs, p)
unfolding up_to_end
at_end {A} r xs p total way none = go way.most way.is where
  all : in_front xs (let w : Result (List A × Place) CodeRefusal = Ok ([], p) in w) ≡ Ok (xs, p)
  all = rw (append-nil xs) refl

  go : (most : ℕ) → in_front xs (up_to_end most r p) ≡ total → total ≡ Ok (xs, p)
  go zero is = sym is ∙ all
  go (suc most) is =
      let here : eqb (length p.rest) 0 ≡ true = rw none refl in
      let one : up_to_end (suc most) r p ≡ Ok ([], p) = rw here refl in
      sym is ∙ ap (λ (w : Result (List A × Place) CodeRefusal). in_front xs w) one ∙ all

-- ---- what each of a list gives

abbrev pub behind : {B : Type 0} → List B → Result (List B) CodeRefusal → Result (List B) CodeRefusal
behind ys (Ok zs) = Ok (ys ++ zs)
behind ys (Err refusal) = Err refusal

pub each_first : {B : Type 0} (all : Result (List B) CodeRefusal) → behind [] all ≡ all
each_first (Ok zs) = refl
each_first (Err refusal) = refl

pub each_further : {A B : Type 0} (f : A → Result B CodeRefusal) (ys : List B) (x : A) (y : B) (xs : List A) (total : Result (List B) CodeRefusal)
    → f x ≡ Ok y → behind ys (each_of f (x ∷ xs)) ≡ total → behind (ys ++ y ∷ []) (each_of f xs) ≡ total
each_further {A} {B} f ys x y xs total is so_far = go (each_of f xs) refl ∙ so_far where
  go : (others : Result (List B) CodeRefusal) → each_of f xs ≡ others → behind (ys ++ y ∷ []) (each_of f xs) ≡ behind ys (each_of f (x ∷ xs))
  go (Ok zs) e = rw (is, e, append_assoc ys (y ∷ []) zs) refl
  go (Err refusal) e = rw (is, e) refl

pub each_fault : {A B : Type 0} (f : A → Result B CodeRefusal) (ys : List B) (x : A) (xs : List A) (total : Result (List B) CodeRefusal) (refusal : CodeRefusal)
    → Fails refusal (f x) → behind ys (each_of f (x ∷ xs)) ≡ total → Fails refusal total
each_fault f ys x xs total refusal fails so_far = fails_as refusal (f x) total fails (λ is. sym so_far ∙ (rw is refl))

pub each_last : {A B : Type 0} (f : A → Result B CodeRefusal) (ys : List B) (xs : List A) (total : Result (List B) CodeRefusal)
    → length xs ≡ 0 → behind ys (each_of f xs) ≡ total → total ≡ Ok ys
each_last f ys [] total none so_far = sym so_far ∙ (rw (append-nil ys) refl)
each_last f ys (x ∷ xs) total none so_far = absurd (omega (arith, none))
