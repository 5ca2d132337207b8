-- What each item of some lists has, each item of lists made of them has.
use Rattle.std.proofs.Common.{◌≡◌, zero, suc, List, [], ◌∷◌, ◌++◌, map, refl, subst}
use Rattle.std.specs.List.{flat_map}
use Rattle.kb_frames.specs.States.{Each}

pub each_append : {A : Type 0} (P : A → Type 0) (xs ys : List A) → Each P xs → Each P ys → Each P (xs ++ ys)
each_append P [] ys one other i item e = other i item e
each_append P (x ∷ xs) ys one other zero item e = one 0 item e
each_append P (x ∷ xs) ys one other (suc i) item e = each_append P xs ys (λ j it at. one (suc j) it at) other i item e

pub each_left : {A : Type 0} (P : A → Type 0) (xs ys : List A) → Each P (xs ++ ys) → Each P xs
each_left P [] ys h i item e = absurd cc
each_left P (x ∷ xs) ys h zero item e = h 0 item e
each_left P (x ∷ xs) ys h (suc i) item e = each_left P xs ys (λ j it at. h (suc j) it at) i item e

pub each_right : {A : Type 0} (P : A → Type 0) (xs ys : List A) → Each P (xs ++ ys) → Each P ys
each_right P [] ys h = h
each_right P (x ∷ xs) ys h = each_right P xs ys (λ j it at. h (suc j) it at)

pub each_map : {A B : Type 0} (P : B → Type 0) (f : A → B) (xs : List A) → Each (λ x. P (f x)) xs → Each P (map f xs)
each_map P f [] h i item e = absurd cc
each_map P f (x ∷ xs) h zero item e = let same : f x ≡ item = cc in subst P same (h 0 x refl)
each_map P f (x ∷ xs) h (suc i) item e = each_map P f xs (λ j it at. h (suc j) it at) i item e

pub each_flat : {A B : Type 0} (P : B → Type 0) (f : A → List B) (xs : List A) → Each (λ x. Each P (f x)) xs
    → Each P (flat_map f xs)
each_flat P f [] h = λ i item e. absurd cc
each_flat P f (x ∷ xs) h = each_append P (f x) (flat_map f xs) (h 0 x refl) (each_flat P f xs (λ j it at. h (suc j) it at))
