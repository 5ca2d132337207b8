-- Lists without equal items, and the first item that is there again.
use Rattle.std.proofs.Common.{◌≡◌, ◌≢◌, ◌↔◌, Bool, true, false, ◌||◌, List, [], ◌∷◌, ◌++◌, map, refl, sym, subst}
use Rattle.std.specs.Bool.{Decides}
use Rattle.std.specs.List.{list_any}
use Rattle.std.proofs.lemmas.List.{map-append}
use Rattle.kb_format.specs.Rules.{IsNoneOf, AllDiffer}
use Rattle.kb_format.specs.Faults.{IsFirstAgain}
use Rattle.kb_format.proofs.Lists.{Meeting, same, behind, ahead, meeting}

-- ---- one item more

pub none_pushed : {A : Type 0} (xs : List A) (x y : A) → IsNoneOf xs x → x ≢ y → IsNoneOf (xs ++ y ∷ []) x
none_pushed [] x y none other = (other, tt)
none_pushed (z ∷ xs) x y none other = (none.0, none_pushed xs x y none.1 other)

pub differ_pushed : {A : Type 0} (xs : List A) (x : A) → AllDiffer xs → IsNoneOf xs x → AllDiffer (xs ++ x ∷ [])
differ_pushed [] x differ none = (tt, tt)
differ_pushed (y ∷ xs) x differ none =
    let other : y ≢ x = λ is. none.0 (sym is) in
    (none_pushed xs y x differ.0 other, differ_pushed xs x differ.1 none.1)

none_before : {A : Type 0} (xs zs : List A) (x y : A) → IsNoneOf (xs ++ x ∷ zs) y → y ≢ x
none_before [] zs x y none = none.0
none_before (w ∷ xs) zs x y none = none_before xs zs x y none.1

pub differ_before : {A : Type 0} (xs zs : List A) (x : A) → AllDiffer (xs ++ x ∷ zs) → IsNoneOf xs x
differ_before [] zs x differ = tt
differ_before (y ∷ xs) zs x differ =
    let other : x ≢ y = λ is. none_before xs zs x y differ.0 (sym is) in
    (other, differ_before xs zs x differ.1)

-- ---- tests

pub one_true : (a b : Bool) → (a || b) ≡ false → (a ≡ false) × (b ≡ false)
one_true true b e = absurd cc
one_true false b e = (refl, e)

module _ {A B : Type 0} (test : A → Bool) (value : A → B) (x : B) (decides : (y : A) → Decides (test y) (x ≡ value y)) where
  -- no item passes, so the value is none of the items'
  pub absent : (ys : List A) → list_any test ys ≡ false → IsNoneOf (map value ys) x
  absent [] e = tt
  absent (y ∷ ys) e =
      let o = one_true (test y) (list_any test ys) e in
      let other : x ≢ value y = λ is. (let passes = (decides y).1 is in absurd cc) in
      (other, absent ys o.1)

  -- an item passes, so the value is one of the items'
  pub present : (ys : List A) → list_any test ys ≡ true → IsNoneOf (map value ys) x → ⊥
  present [] e none = absurd cc
  present (y ∷ ys) e none = go (λ h. present ys h none.1) (test y) refl e where
    go : (list_any test ys ≡ true → ⊥) → (b : Bool) → test y ≡ b → (b || list_any test ys) ≡ true → ⊥
    go later true is h = none.0 ((decides y).0 is)
    go later false is h = later h

-- ---- the first that is there again

module _ {A B : Type 0} (key : A → B) (xs : List A) where
  apart : (front : List A) (x : A) (between : List A) → (IsNoneOf (map key front) (key x) → ⊥) → AllDiffer (map key (front ++ x ∷ between)) → ⊥
  apart front x between again differ = again (differ_before (map key front) (map key between) (key x) (subst AllDiffer (map-append key front (x ∷ between)) differ))

  pub none_again : (x : A) → IsFirstAgain key xs x → AllDiffer (map key xs) → ⊥
  none_again x first differ = apart first.before x first.after first.again (subst (λ (t : List A). AllDiffer (map key t)) first.parts differ)

  pub one_again : (x y : A) → IsFirstAgain key xs x → IsFirstAgain key xs y → x ≡ y
  one_again x y f g = go (meeting f.before g.before x y f.after g.after (rw (← f.parts) g.parts)) where
    go : Meeting f.before g.before x y → x ≡ y
    go (same e is) = is
    go (behind between e) = absurd (apart f.before x between f.again (subst (λ (t : List A). AllDiffer (map key t)) e g.differ))
    go (ahead between e) = absurd (apart g.before y between g.again (subst (λ (t : List A). AllDiffer (map key t)) e f.differ))

-- ---- two keys that are alike

module _ {A B C : Type 0} (key : A → B) (other : A → C) (alike : (x y : A) → (key x ≡ key y) ↔ (other x ≡ other y)) where
  pub none_alike : (xs : List A) (x : A) → IsNoneOf (map key xs) (key x) → IsNoneOf (map other xs) (other x)
  none_alike [] x none = tt
  none_alike (y ∷ xs) x none = ((λ is. none.0 ((alike x y).1 is)), none_alike xs x none.1)

  pub differ_alike : (xs : List A) → AllDiffer (map key xs) → AllDiffer (map other xs)
  differ_alike [] differ = tt
  differ_alike (x ∷ xs) differ = (none_alike xs x differ.0, differ_alike xs differ.1)
