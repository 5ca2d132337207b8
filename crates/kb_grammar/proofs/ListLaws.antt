-- Items that stand in a text one behind the other, each with one such byte before it, as a space or a dot, and are read one by one.
use Rattle.std.proofs.Common.{◌≡◌, ℕ, ◌<◌, Bool, true, ◌==◌, List, [], ◌∷◌, ◌++◌, length, length-append, append_assoc, append-nil, refl, sym, ◌∙◌, ap, arith, subst}
use Rattle.std.specs.List.{flat_map, AllByRecursion}
use Rattle.kb_grammar.specs.Lines.{IsTail}
use Rattle.kb_grammar.proofs.WordLaws.{none_left}

-- The text of an item begins with the byte, and what stands behind it tells where it ends.
pub record AreApart {A : Type 0} (gap : ℕ) (Is : A → Type 0) (text_of : A → List ℕ) : Type 0 where
  pub begins : (x : A) → (others : List ℕ) × (text_of x ≡ gap ∷ others)
  pub same : (x y : A) (us vs : List ℕ) → Is x → Is y → IsTail gap us → IsTail gap vs → text_of x ++ us ≡ text_of y ++ vs → (x ≡ y) × (us ≡ vs)

-- what else spells the text goes on from the items that are read
pub record GoesOn {A : Type 0} (Is : A → Type 0) (text_of : A → List ℕ) (read : List A) (rest : List ℕ) (all : List A) : Type 0 where
  pub more : List A
  pub are : AllByRecursion Is more
  pub all_is : all ≡ read ++ more
  pub rest_is : rest ≡ flat_map text_of more

-- so many items are read, and the rest is left
pub record IsReadSoFar {A : Type 0} (Is : A → Type 0) (text_of : A → List ℕ) (read : List A) (rest text : List ℕ) : Type 0 where
  pub are : AllByRecursion Is read
  pub is : text ≡ flat_map text_of read ++ rest
  pub others : (all : List A) → AllByRecursion Is all → text ≡ flat_map text_of all → GoesOn Is text_of read rest all

pub All-++ : {A : Type 0} (Is : A → Type 0) (xs ys : List A) → AllByRecursion Is xs → AllByRecursion Is ys → AllByRecursion Is (xs ++ ys)
All-++ Is [] ys p q = q
All-++ Is (x ∷ xs) ys p q = (p.0, All-++ Is xs ys p.1 q)

pub flat_map-++ : {A : Type 0} (f : A → List ℕ) (xs ys : List A) → flat_map f (xs ++ ys) ≡ flat_map f xs ++ flat_map f ys
flat_map-++ f [] ys = refl
flat_map-++ f (x ∷ xs) ys = ap (λ (l : List ℕ). f x ++ l) (flat_map-++ f xs ys) ∙ sym (append_assoc (f x) (flat_map f xs) (flat_map f ys))

-- what stands behind the items before these
pub is_tail : {A : Type 0} (gap : ℕ) (Is : A → Type 0) (text_of : A → List ℕ) → AreApart gap Is text_of → (xs : List A) → IsTail gap (flat_map text_of xs)
is_tail gap Is text_of apart [] = tt
is_tail gap Is text_of apart (x ∷ xs) =
    let begins = apart.begins x in
    subst (IsTail gap) (ap (λ (l : List ℕ). l ++ flat_map text_of xs) (sym begins.1)) refl

-- an item has a text
pub not_none : {A : Type 0} (gap : ℕ) (Is : A → Type 0) (text_of : A → List ℕ) → AreApart gap Is text_of → (x : A) (rest : List ℕ) → text_of x ++ rest ≡ [] → ⊥
not_none gap Is text_of apart x rest e =
    let begins = apart.begins x in
    let none : gap ∷ (begins.0 ++ rest) ≡ [] = ap (λ (l : List ℕ). l ++ rest) (sym begins.1) ∙ e in
    cc

-- items have a text of their own
pub same_items : {A : Type 0} (gap : ℕ) (Is : A → Type 0) (text_of : A → List ℕ) → AreApart gap Is text_of → (xs ys : List A) → AllByRecursion Is xs → AllByRecursion Is ys → flat_map text_of xs ≡ flat_map text_of ys → xs ≡ ys
same_items gap Is text_of apart [] [] p q e = refl
same_items gap Is text_of apart [] (y ∷ ys) p q e = absurd (not_none gap Is text_of apart y (flat_map text_of ys) (sym e))
same_items gap Is text_of apart (x ∷ xs) [] p q e = absurd (not_none gap Is text_of apart x (flat_map text_of xs) e)
same_items gap Is text_of apart (x ∷ xs) (y ∷ ys) p q e =
    let parts = apart.same x y (flat_map text_of xs) (flat_map text_of ys) p.0 q.0 (is_tail gap Is text_of apart xs) (is_tail gap Is text_of apart ys) e in
    ap (λ (z : _). z ∷ xs) parts.0 ∙ ap (λ (l : List _). y ∷ l) (same_items gap Is text_of apart xs ys p.1 q.1 parts.1)

pub nothing_read : {A : Type 0} (Is : A → Type 0) (text_of : A → List ℕ) (text : List ℕ) → IsReadSoFar Is text_of [] text text
nothing_read Is text_of text = record { are = tt; is = refl; others = λ all are is. record { more = all; are = are; all_is = refl; rest_is = is } }

-- one item more
pub one_more : {A : Type 0} (gap : ℕ) (Is : A → Type 0) (text_of : A → List ℕ) → AreApart gap Is text_of → (read longer : List A) (x : A) (rest left text : List ℕ) → Is x → IsTail gap left → rest ≡ text_of x ++ left
    → longer ≡ read ++ x ∷ [] → IsReadSoFar Is text_of read rest text → IsReadSoFar Is text_of longer left text
one_more {A} gap Is text_of apart read longer x rest left text is_x tail rest_is longer_is so_far = record {
  are = subst (AllByRecursion Is) (sym longer_is) (All-++ Is read (x ∷ []) so_far.are (is_x, tt));
  is = so_far.is ∙ ap (λ (l : List ℕ). flat_map text_of read ++ l) (rest_is ∙ ap (λ (l : List ℕ). l ++ left) (sym (append-nil (text_of x))))
      ∙ sym (append_assoc (flat_map text_of read) (text_of x ++ []) left)
      ∙ ap (λ (l : List ℕ). l ++ left) (sym (flat_map-++ text_of read (x ∷ [])) ∙ ap (flat_map text_of) (sym longer_is));
  others = λ all are is. further all (so_far.others all are is);
}
  where
    step : (all more : List A) → AllByRecursion Is more → all ≡ read ++ more → text_of x ++ left ≡ flat_map text_of more → GoesOn Is text_of longer left all
    step all [] are all_is is = absurd (not_none gap Is text_of apart x left is)
    step all (y ∷ more) are all_is is =
        let parts = apart.same x y left (flat_map text_of more) is_x are.0 tail (is_tail gap Is text_of apart more) is in
        record {
          more = more;
          are = are.1;
          all_is = all_is ∙ ap (λ (z : A). read ++ z ∷ more) (sym parts.0) ∙ sym (append_assoc read (x ∷ []) more) ∙ ap (λ (l : List A). l ++ more) (sym longer_is);
          rest_is = parts.1;
        }

    further : (all : List A) → GoesOn Is text_of read rest all → GoesOn Is text_of longer left all
    further all on = step all on.more on.are on.all_is (sym rest_is ∙ on.rest_is)

-- something is left that begins with no item
pub no_item : {A : Type 0} (gap : ℕ) (Is : A → Type 0) (text_of : A → List ℕ) → AreApart gap Is text_of → (read : List A) (rest text : List ℕ)
    → ((x : A) (left : List ℕ) → Is x → IsTail gap left → rest ≡ text_of x ++ left → ⊥) → (rest ≡ [] → ⊥)
    → IsReadSoFar Is text_of read rest text → (all : List A) → AllByRecursion Is all → text ≡ flat_map text_of all → ⊥
no_item {A} gap Is text_of apart read rest text none some so_far all are is = go (so_far.others all are is)
  where
    other : (more : List A) → AllByRecursion Is more → rest ≡ flat_map text_of more → ⊥
    other [] p e = some e
    other (x ∷ more) p e = none x (flat_map text_of more) p.0 (is_tail gap Is text_of apart more) e

    go : GoesOn Is text_of read rest all → ⊥
    go on = other on.more on.are on.rest_is

-- nothing is left
pub whole : {A : Type 0} (Is : A → Type 0) (text_of : A → List ℕ) (read : List A) (rest text : List ℕ) (empty : Bool) → empty ≡ (length rest == 0) → empty ≡ true
    → IsReadSoFar Is text_of read rest text → AllByRecursion Is read × (text ≡ flat_map text_of read)
whole Is text_of read rest text empty is so so_far =
    (so_far.are, so_far.is ∙ ap (λ (l : List ℕ). flat_map text_of read ++ l) (none_left rest empty is so) ∙ append-nil (flat_map text_of read))

-- less is left behind an item
pub shorter : {A : Type 0} (gap : ℕ) (Is : A → Type 0) (text_of : A → List ℕ) → AreApart gap Is text_of → (x : A) (rest left : List ℕ) → rest ≡ text_of x ++ left → length left < length rest
shorter gap Is text_of apart x rest left e =
    let begins = apart.begins x in
    omega (arith, ap length e, length-append (text_of x) left, ap length begins.1)
