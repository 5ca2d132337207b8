-- Lists: what holds of all items, and two ways to part one list.
use Rattle.std.proofs.Common.{◌≡◌, List, [], ◌∷◌, ◌++◌, map, refl, ap, subst}
use Rattle.std.specs.List.{AllByRecursion}

-- ---- what holds of all items

module _ {A : Type 0} (P : A → Type 0) where
  pub all_joined : (xs ys : List A) → AllByRecursion P xs → AllByRecursion P ys → AllByRecursion P (xs ++ ys)
  all_joined [] ys all others = others
  all_joined (x ∷ xs) ys all others = (all.0, all_joined xs ys all.1 others)

  pub all_front : (xs ys : List A) → AllByRecursion P (xs ++ ys) → AllByRecursion P xs
  all_front [] ys all = tt
  all_front (x ∷ xs) ys all = (all.0, all_front xs ys all.1)

  pub all_back : (xs ys : List A) → AllByRecursion P (xs ++ ys) → AllByRecursion P ys
  all_back [] ys all = all
  all_back (x ∷ xs) ys all = all_back xs ys all.1

module _ {A B : Type 0} (f : A → B) (P : B → Type 0) where
  pub all_made : (xs : List A) → AllByRecursion (λ (x : A). P (f x)) xs → AllByRecursion P (map f xs)
  all_made [] all = tt
  all_made (x ∷ xs) all = (all.0, all_made xs all.1)

  pub made_all : (xs : List A) → AllByRecursion P (map f xs) → AllByRecursion (λ (x : A). P (f x)) xs
  made_all [] all = tt
  made_all (x ∷ xs) all = (all.0, made_all xs all.1)

pub map_twice : {A B C : Type 0} (f : A → B) (g : B → C) (xs : List A) → map g (map f xs) ≡ map (λ (x : A). g (f x)) xs
map_twice f g [] = refl
map_twice f g (x ∷ xs) = ap (λ (ys : List _). g (f x) ∷ ys) (map_twice f g xs)

-- ---- one list, parted twice

-- where two partings of a list are to one another
pub data Meeting {A : Type 0} (front other : List A) (x y : A) : Type 0 where
  same : front ≡ other → x ≡ y → Meeting front other x y
  behind : (between : List A) → other ≡ front ++ x ∷ between → Meeting front other x y
  ahead : (between : List A) → front ≡ other ++ y ∷ between → Meeting front other x y

further : {A : Type 0} (w : A) (front other : List A) (x y : A) → Meeting front other x y → Meeting (w ∷ front) (w ∷ other) x y
further w front other x y (same e is) = same (ap (λ (t : List _). w ∷ t) e) is
further w front other x y (behind between e) = behind between (ap (λ (t : List _). w ∷ t) e)
further w front other x y (ahead between e) = ahead between (ap (λ (t : List _). w ∷ t) e)

pub meeting : {A : Type 0} (front other : List A) (x y : A) (after rest : List A) → front ++ x ∷ after ≡ other ++ y ∷ rest → Meeting front other x y
meeting [] [] x y after rest e = same refl cc
meeting [] (w ∷ other) x y after rest e =
    let first : w ≡ x = cc in
    behind other (ap (λ z. z ∷ other) first)
meeting (w ∷ front) [] x y after rest e =
    let first : w ≡ y = cc in
    ahead front (ap (λ z. z ∷ front) first)
meeting {A} (w ∷ front) (v ∷ other) x y after rest e =
    let first : w ≡ v = cc in
    let later : front ++ x ∷ after ≡ other ++ y ∷ rest = cc in
    subst (λ (z : A). Meeting (w ∷ front) (z ∷ other) x y) first (further w front other x y (meeting front other x y after rest later))
