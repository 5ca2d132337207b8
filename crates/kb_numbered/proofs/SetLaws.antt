-- A list whose items are changed one after another, each in its place.
use Rattle.std.proofs.Common.{◌≡◌, ℕ, zero, suc, ◌+◌, ◌<◌, ◌≤◌, List, [], ◌∷◌, ◌++◌, length, take, drop, Some, refl, sym, ap, ◌∙◌, arith, map, get_or}
use Rattle.std.specs.Prelude.{slice_get, slice_set}
use Rattle.std.proofs.lemmas.Option.{slice_get-get_or}

abbrev pub changed : {X : Type 0} → (X → X) → List X → ℕ → List X
changed f xs i = map f (take i xs) ++ drop i xs

-- the next one
pub set_next : {X : Type 0} (f : X → X) (xs : List X) (i : ℕ) (x : X) → slice_get xs i ≡ Some x → slice_set (changed f xs i) i (f x) ≡ changed f xs (i + 1)
set_next f [] i x e = absurd (cc)
set_next f (y ∷ ys) zero x e = let same : y ≡ x = cc in ap (λ z. f z ∷ ys) (sym same)
set_next {X} f (y ∷ ys) (suc i) x e =
    let shift : suc (i + 1) ≡ suc i + 1 = omega arith in
    ap (λ (l : List X). f y ∷ l) (set_next f ys i x e) ∙ ap (changed f (y ∷ ys)) shift

-- the next one is not changed yet
pub next_is : {X : Type 0} (f : X → X) (xs : List X) (i : ℕ) → i ≤ length xs → slice_get (changed f xs i) i ≡ slice_get xs i
next_is f xs zero h = refl
next_is f [] (suc i) h = absurd (omega arith)
next_is f (y ∷ ys) (suc i) h = next_is f ys i (omega arith)

pub changed_length : {X : Type 0} (f : X → X) (xs : List X) (i : ℕ) → length (changed f xs i) ≡ length xs
changed_length f xs zero = refl
changed_length f [] (suc i) = refl
changed_length f (y ∷ ys) (suc i) = let e = changed_length f ys i in omega (arith, e)

-- one turn of the loop: what is there at the next place, as it was seen, is changed there
pub changed_next : {X : Type 0} (f : X → X) (xs now seen new : List X) (i : ℕ) (d y : X) → now ≡ changed f xs i → seen ≡ now → y ≡ f (get_or seen i d)
    → new ≡ slice_set now i y → i < length xs → new ≡ changed f xs (i + 1)
changed_next {X} f xs now seen new i d y e same is set inside =
    let old : List X = changed f xs i in
    let x : X = get_or old i d in
    let there : slice_get old i ≡ Some x = slice_get-get_or old i d (omega (arith, inside, changed_length f xs i)) in
    let at : slice_get xs i ≡ Some x = sym (next_is f xs i (omega (arith, inside))) ∙ there in
    let item : y ≡ f x = is ∙ ap (λ (l : List X). f (get_or l i d)) (same ∙ e) in
    set ∙ ap (λ (l : List X). slice_set l i y) e ∙ ap (λ (z : X). slice_set old i z) item ∙ set_next f xs i x at

-- all of them
pub changed_all : {X : Type 0} (f : X → X) (xs : List X) (i : ℕ) → length xs ≤ i → changed f xs i ≡ map f xs
changed_all f [] zero h = refl
changed_all f [] (suc i) h = refl
changed_all f (y ∷ ys) zero h = absurd (omega arith)
changed_all {X} f (y ∷ ys) (suc i) h = ap (λ (l : List X). f y ∷ l) (changed_all f ys i (omega arith))
