-- The first item that is such, of lists one behind the other.
use Rattle.std.proofs.Common.{◌≡◌, ℕ, ◌+◌, ◌<◌, List, [], ◌∷◌, ◌++◌, length, take, drop, get_or, Result, Ok, Err, IfOk, OnOk, IfErr, refl, sym, ap, subst, ◌∙◌, append_assoc}
use Rattle.std.specs.List.{flat_map}
use Rattle.std.specs.Result.{IsErrAnd}
use Rattle.std.proofs.lemmas.Grind.{take_at_read, flat_map-append}
use Rattle.std.proofs.lemmas.List.{take-append-drop}
use Rattle.kb_classes.specs.Rules.{IsFirst, IsNoneSuch}

module _ {A : Type 0} (Is : A → Type 0) where
  pub none_joined : (xs ys : List A) → IsNoneSuch Is xs → IsNoneSuch Is ys → IsNoneSuch Is (xs ++ ys)
  none_joined [] ys none more = more
  none_joined (x ∷ xs) ys none more = (none.0, none_joined xs ys none.1 more)

  pub first_behind : (xs ys : List A) (x : A) → IsNoneSuch Is xs → IsFirst Is ys x → IsFirst Is (xs ++ ys) x
  first_behind xs ys x none first = record {
    before = xs ++ first.before;
    after = first.after;
    parts = ap (λ (zs : List A). xs ++ zs) first.parts ∙ sym (append_assoc xs first.before (x ∷ first.after));
    others = none_joined xs first.before none first.others;
    such = first.such;
  }

  pub first_before : (xs ys : List A) (x : A) → IsFirst Is xs x → IsFirst Is (xs ++ ys) x
  first_before xs ys x first = record {
    before = first.before;
    after = first.after ++ ys;
    parts = ap (λ (zs : List A). zs ++ ys) first.parts ∙ append_assoc first.before (x ∷ first.after) ys;
    others = first.others;
    such = first.such;
  }

-- ---- lists that each of other items gives

module _ {A B : Type 0} (f : B → List A) (Is : A → Type 0) (items : List B) (i : ℕ) (x : B) (inside : i < length items) (is : x ≡ get_or items i x) where
  taken : take (i + 1) items ≡ take i items ++ x ∷ []
  taken = (take_at_read items i x inside).1 ∙ ap (λ (y : B). take i items ++ y ∷ []) (sym is)

  one_more : flat_map f (take (i + 1) items) ≡ flat_map f (take i items) ++ f x
  one_more = ap (flat_map f) taken ∙ flat_map-append f (take i items) (x ∷ []) ∙ ap (λ (ys : List A). flat_map f (take i items) ++ ys) (append_nil (f x))
    where
      append_nil : (ys : List A) → ys ++ [] ≡ ys
      append_nil [] = refl
      append_nil (y ∷ ys) = ap (λ (zs : List A). y ∷ zs) (append_nil ys)

  -- one list more without such an item
  pub none_more : IsNoneSuch Is (flat_map f (take i items)) → IsNoneSuch Is (f x) → IsNoneSuch Is (flat_map f (take (i + 1) items))
  none_more none here = subst (IsNoneSuch Is) (sym one_more) (none_joined Is (flat_map f (take i items)) (f x) none here)

  -- the first one is in this list
  pub first_here : (y : A) → IsNoneSuch Is (flat_map f (take i items)) → IsFirst Is (f x) y → IsFirst Is (flat_map f items) y
  first_here y none first =
      let front : IsFirst Is (flat_map f (take (i + 1) items)) y = subst (λ (ys : List A). IsFirst Is ys y) (sym one_more) (first_behind Is (flat_map f (take i items)) (f x) y none first) in
      let whole : flat_map f items ≡ flat_map f (take (i + 1) items) ++ flat_map f (drop (i + 1) items) = ap (flat_map f) (sym (take-append-drop (i + 1) items)) ∙ flat_map-append f (take (i + 1) items) (drop (i + 1) items) in
      subst (λ (ys : List A). IsFirst Is ys y) (sym whole) (first_before Is (flat_map f (take (i + 1) items)) (flat_map f (drop (i + 1) items)) y front)

-- ---- answers by `?`

-- the error that is handed on
pub handed_on : {T E : Type 0} (P : E → Type 0) (r : Result T E) (e : E) → IsErrAnd r (λ y. y ≡ e) → P e → IfErr r P
handed_on P (Ok x) e is p = absurd is
handed_on P (Err y) e is p = subst P (sym is) p

-- an error of which more is known
pub err_as : {T E : Type 0} {P Q : E → Type 0} (r : Result T E) → ((e : E) → P e → Q e) → IfErr r P → IfErr r Q
err_as (Ok x) f h = tt
err_as (Err e) f h = f e h

-- ---- what is returned

pub on_ok : {A E : Type 0} (result : Result A E) (P Q : Type 0) → (P → Q) → OnOk result P → OnOk result Q
on_ok (Ok value) P Q f p = f p
on_ok (Err error) P Q f p = p

pub on_if : {A E : Type 0} (result : Result A E) (P Q : A → Type 0) → ((value : A) → P value → Q value) → IfOk result P → IfOk result Q
on_if (Ok value) P Q f p = f value p
on_if (Err error) P Q f p = p
