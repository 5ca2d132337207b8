-- How the files of an order are read one after another.
use Rattle.std.proofs.Common.{◌≡◌, ◌↔◌, ℕ, zero, suc, ◌+◌, ◌<◌, ◌≤◌, List, [], ◌∷◌, ◌++◌, length, take, get_or, Option, Err, refl, sym, ◌∙◌, ap, subst, arith, inl, inr}
use Rattle.std.proofs.Math.Seq.{take-suc}
use Rattle.kb_outside.specs.Outside.{Rose}
use Rattle.kiasan.specs.declared.refusals.Stop.{Stop}
use Rattle.kiasan.specs.declared.refusals.Stop.TheVariants.{Refused, ReadFault, NoMemory}
use Rattle.kiasan.specs.Answers.{AreRead, HasUnsound, IsContents, IsOf, IsReadFault, IsReadFaultOrNoMemory, RefusesNothing}
use Rattle.kiasan.proofs.StageLaws.{gives_by}

rose_later : (before mid now : ℕ) → before ≤ mid → Rose mid now → Rose before now
rose_later before mid now later rose = omega (arith, later, rose)

unsound_at : (names : List (List ℕ)) (i : ℕ) (name : List ℕ) (sound : List ℕ → Type 0) → i < length names → name ≡ get_or names i name → (sound name → ⊥) → HasUnsound names sound
unsound_at [] i name sound inside at not = absurd (omega (arith, inside))
unsound_at (x ∷ names) zero name sound inside at not = inl (λ is. not (subst sound (sym at) is))
unsound_at (x ∷ names) (suc i) name sound inside at not = inr (unsound_at names i name sound (omega (arith, inside)) at not)

-- a file was not read
pub read_stops : (names : List (List ℕ)) (i : ℕ) (name : List ℕ) (before mid now : ℕ) (sound later_of : List ℕ → Type 0) (stop : Stop) → i < length names → name ≡ get_or names i name →
    before ≤ mid → ((other : List ℕ) → later_of other ↔ sound other) → IsReadFaultOrNoMemory stop → (stop ≡ ReadFault → Rose mid now) → (stop ≡ ReadFault → later_of name → ⊥) →
    {A : Type 0} (Passes : A → Type 0) → IsOf {A = A} (IsReadFault before now names sound) Passes (Err stop)
read_stops names i name before mid now sound later_of (Refused refusal) inside at later same kind counted unsound Passes = absurd kind
read_stops names i name before mid now sound later_of ReadFault inside at later same kind counted unsound Passes =
    (rose_later before mid now later (counted refl), unsound_at names i name sound inside at (λ is. unsound refl ((same name).1 is)))
read_stops names i name before mid now sound later_of NoMemory inside at later same kind counted unsound Passes = tt

read_more : (limit : ℕ) (holds : List ℕ → Option (List ℕ)) (names read : List (List ℕ)) (name bytes : List ℕ) → AreRead limit holds names read → IsContents limit (holds name) bytes →
    AreRead limit holds (names ++ name ∷ []) (read ++ bytes ∷ [])
read_more limit holds [] [] name bytes are is = (is, tt)
read_more limit holds (n ∷ names) (b ∷ read) name bytes are is = (are.0, read_more limit holds names read name bytes are.1 is)
read_more limit holds [] (b ∷ read) name bytes are is = absurd are
read_more limit holds (n ∷ names) [] name bytes are is = absurd are

pub read_next : (limit : ℕ) (holds later_of : List ℕ → Option (List ℕ)) (names : List (List ℕ)) (i : ℕ) (name bytes : List ℕ) (read now : List (List ℕ)) → i < length names →
    name ≡ get_or names i name → AreRead limit holds (take i names) read → ((other : List ℕ) → later_of other ≡ holds other) → IsContents limit (later_of name) bytes →
    now ≡ read ++ bytes ∷ [] → AreRead limit holds (take (i + 1) names) now
read_next limit holds later_of names i name bytes read now inside at are same is e =
    let next : i + 1 ≡ suc i = omega arith in
    let here : IsContents limit (holds name) bytes = subst (λ told. IsContents limit told bytes) (same name) is in
    rw (next, take-suc names i name inside, ← at, e) (read_more limit holds (take i names) read name bytes are here)

unsound_front : (xs ys : List (List ℕ)) (sound : List ℕ → Type 0) → HasUnsound xs sound → HasUnsound (xs ++ ys) sound
unsound_front [] ys sound h = absurd h
unsound_front (x ∷ xs) ys sound (inl h) = inl h
unsound_front (x ∷ xs) ys sound (inr h) = inr (unsound_front xs ys sound h)

unsound_back : (xs ys : List (List ℕ)) (sound later_of : List ℕ → Type 0) → ((other : List ℕ) → later_of other ↔ sound other) → HasUnsound ys later_of → HasUnsound (xs ++ ys) sound
unsound_back (x ∷ xs) ys sound later_of same h = inr (unsound_back xs ys sound later_of same h)
unsound_back [] [] sound later_of same h = absurd h
unsound_back [] (y ∷ ys) sound later_of same (inl h) = inl (λ is. h ((same y).1 is))
unsound_back [] (y ∷ ys) sound later_of same (inr h) = inr (unsound_back [] ys sound later_of same h)

-- a text was not read, or a class file behind the texts
pub texts_stop : (xs ys : List (List ℕ)) (before mid now : ℕ) (sound : List ℕ → Type 0) (stop : Stop) → mid ≤ now → {A B : Type 0} (Passes : A → Type 0) (Also : B → Type 0) →
    IsOf {A = A} (IsReadFault before now xs sound) Passes (Err stop) → IsOf {A = B} (IsReadFault before now (xs ++ ys) sound) Also (Err stop)
texts_stop xs ys before mid now sound stop later Passes Also given =
    gives_by (IsReadFault before now xs sound) (IsReadFault before now (xs ++ ys) sound) RefusesNothing RefusesNothing Passes Also stop
    (λ fault. (fault.0, unsound_front xs ys sound fault.1)) (λ refusal wrong. wrong) given

pub classes_stop : (xs ys asked : List (List ℕ)) (before mid now : ℕ) (sound later_of : List ℕ → Type 0) (stop : Stop) → asked ≡ ys → before ≤ mid →
    ((other : List ℕ) → later_of other ↔ sound other) → {A B : Type 0} (Passes : A → Type 0) (Also : B → Type 0) →
    IsOf {A = A} (IsReadFault mid now asked later_of) Passes (Err stop) → IsOf {A = B} (IsReadFault before now (xs ++ ys) sound) Also (Err stop)
classes_stop xs ys asked before mid now sound later_of stop e later same Passes Also given =
    gives_by (IsReadFault mid now asked later_of) (IsReadFault before now (xs ++ ys) sound) RefusesNothing RefusesNothing Passes Also stop
    (λ fault. (rose_later before mid now later fault.0, unsound_back xs ys sound later_of same (subst (λ (names : List (List ℕ)). HasUnsound names later_of) e fault.1)))
    (λ refusal wrong. wrong) given

-- what was read later is of what the shelf held first
pub read_then : (limit : ℕ) (holds later_of : List ℕ → Option (List ℕ)) (names read : List (List ℕ)) → ((other : List ℕ) → later_of other ≡ holds other) → AreRead limit later_of names read →
    AreRead limit holds names read
read_then limit holds later_of [] [] same are = tt
read_then limit holds later_of (n ∷ names) (b ∷ read) same are = (subst (λ told. IsContents limit told b) (same n) are.0, read_then limit holds later_of names read same are.1)
read_then limit holds later_of [] (b ∷ read) same are = absurd are
read_then limit holds later_of (n ∷ names) [] same are = absurd are

-- as many were read as there are names
pub read_as_many : (limit : ℕ) (holds : List ℕ → Option (List ℕ)) (names read : List (List ℕ)) → AreRead limit holds names read → length read ≡ length names
read_as_many limit holds [] [] are = refl
read_as_many limit holds (n ∷ names) (b ∷ read) are = ap suc (read_as_many limit holds names read are.1)
read_as_many limit holds [] (b ∷ read) are = absurd are
read_as_many limit holds (n ∷ names) [] are = absurd are

-- what stays from the first moment to the second and on to the third
pub same_held : (first second third : List ℕ → Option (List ℕ)) → ((other : List ℕ) → second other ≡ first other) → ((other : List ℕ) → third other ≡ second other) →
    (other : List ℕ) → third other ≡ first other
same_held first second third a b other = b other ∙ a other

pub counts_later : (first second third : ℕ) → first ≤ second → second ≤ third → first ≤ third
counts_later first second third a b = omega (arith, a, b)

pub same_sound : (first second third : List ℕ → Type 0) → ((other : List ℕ) → second other ↔ first other) → ((other : List ℕ) → third other ↔ second other) →
    (other : List ℕ) → third other ↔ first other
same_sound first second third a b other = ((λ is. (a other).0 ((b other).0 is)), (λ is. (b other).1 ((a other).1 is)))
