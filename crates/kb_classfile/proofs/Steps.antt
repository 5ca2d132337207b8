-- Steps of a reader, as loops of the code take them.
use Rattle.std.proofs.Common.{◌≡◌, ℕ, ◌-◌, ◌+◌, ◌<◌, List, [], ◌∷◌, ◌++◌, length, Result, Ok, refl}
use Rattle.std.proofs.lemmas.List.{length-append}
use Rattle.kb_grammar.specs.Reading.{Place, Reader, folded, one_more}
use Rattle.kb_grammar.proofs.Loops.{goes_on, goes_wrong}
use Rattle.kb_classfile.specs.declared.refusal.ClassRefusal.{ClassRefusal}
use Rattle.kb_classfile.specs.declared.refusal.ClassRefusal.TheVariants as refusals
use Rattle.kb_classfile.specs.Reading.{Fails}

-- a loop that stops at a refusal
pub fails_in_loop : {A : Type 0} (refusal : ClassRefusal) (step : A → Reader ClassRefusal A) (x : A) (count i : ℕ) (p : Place) (total : Result (A × Place) ClassRefusal)
    → i < count → Fails refusal (step x p) → folded step (count - i) x p ≡ total → Fails refusal total
fails_in_loop refusals.NoMemory step x count i p total lt h so_far = tt
fails_in_loop refusal step x count i p total lt h so_far = goes_wrong step x count i p refusal total lt h so_far

one_more_is : {A : Type 0} (r : ℕ → Reader ClassRefusal A) (xs : List A) (x : A) (p after : Place)
    → r (length xs) p ≡ Ok (x, after) → one_more r xs p ≡ Ok (xs ++ x ∷ [], after)
one_more_is r xs x p after h = rw h refl

one_more_fails : {A : Type 0} (refusal : ClassRefusal) (r : ℕ → Reader ClassRefusal A) (xs : List A) (p : Place)
    → Fails refusal (r (length xs) p) → Fails refusal (one_more r xs p)
one_more_fails refusals.NoMemory r xs p h = tt
one_more_fails refusal r xs p h = rw h refl

-- a loop that puts one value more behind the others
pub puts_behind : {A : Type 0} (r : ℕ → Reader ClassRefusal A) (xs : List A) (x : A) (count i : ℕ) (p after : Place) (total : Result (List A × Place) ClassRefusal)
    → i < count → r (length xs) p ≡ Ok (x, after) → folded (one_more r) (count - i) xs p ≡ total
    → folded (one_more r) (count - (i + 1)) (xs ++ x ∷ []) after ≡ total
puts_behind r xs x count i p after total lt h so_far = goes_on (one_more r) xs (xs ++ x ∷ []) count i p after total lt (one_more_is r xs x p after h) so_far

-- such a loop, where it stops at a refusal
pub stops : {A : Type 0} (refusal : ClassRefusal) (r : ℕ → Reader ClassRefusal A) (xs : List A) (count i : ℕ) (p : Place) (total : Result (List A × Place) ClassRefusal)
    → i < count → Fails refusal (r (length xs) p) → folded (one_more r) (count - i) xs p ≡ total → Fails refusal total
stops refusal r xs count i p total lt h so_far = fails_in_loop refusal (one_more r) xs count i p total lt (one_more_fails refusal r xs p h) so_far

pub one_longer : {A : Type 0} (xs : List A) (x : A) (n : ℕ) → length xs ≡ n → length (xs ++ x ∷ []) ≡ n + 1
one_longer xs x n len = rw (length-append xs (x ∷ []), len) refl
