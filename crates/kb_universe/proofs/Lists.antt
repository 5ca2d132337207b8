-- Lists and tests on their items.
use Rattle.std.proofs.Common.{◌≡◌, ℕ, zero, suc, ◌+◌, ◌<◌, inl, inr, Bool, true, false, true≢false, ◌||◌, cond, List, [], ◌∷◌, ◌++◌, length, take, Some, slice_get, refl, sym, ap, subst, ◌∙◌, arith}
use Rattle.std.specs.List.{list_any, filter}
use Rattle.kb_class.specs.Naming.{Has}
use Rattle.kb_class.proofs.Lists.{has_none, has_first, has_later, has_cases}

module _ {A : Type 0} (p : A → Bool) where
  -- an item that is such
  pub any_some : (xs : List A) → list_any p xs ≡ true → (x : A) × Has xs x × (p x ≡ true)
  any_some [] e = absurd (true≢false (sym e))
  any_some (y ∷ ys) e = go (λ h. any_some ys h) (p y) refl where
    go : (list_any p ys ≡ true → (x : A) × Has ys x × (p x ≡ true)) → (b : Bool) → p y ≡ b → (x : A) × Has (y ∷ ys) x × (p x ≡ true)
    go later true f = (y, has_first y ys, f)
    go later false f =
        let rest : list_any p ys ≡ true = sym (ap (λ (b : Bool). b || list_any p ys) f) ∙ e in
        let found : (x : A) × Has ys x × (p x ≡ true) = later rest in
        (found.0, has_later y found.0 ys found.1, found.2)

  pub any_true : (xs : List A) (x : A) → Has xs x → p x ≡ true → list_any p xs ≡ true
  any_true [] x has e = absurd (has_none x has)
  any_true (y ∷ ys) x has e = go (any_true ys x) (p y) refl where
    go : (Has ys x → p x ≡ true → list_any p ys ≡ true) → (b : Bool) → p y ≡ b → list_any p (y ∷ ys) ≡ true
    go later true f = ap (λ (b : Bool). b || list_any p ys) f
    go later false f = ap (λ (b : Bool). b || list_any p ys) f ∙ elim (has_cases y x ys has) [
      | inl same ↦ absurd (true≢false (sym (subst (λ (z : A). p z ≡ true) (sym same) e) ∙ f))
      | inr h ↦ later h e
    ]

  pub filter_in : (xs : List A) (x : A) → Has (filter p xs) x → Has xs x
  filter_in [] x has = absurd (has_none x has)
  filter_in (y ∷ ys) x has = go (filter_in ys x) (p y) refl where
    is : (b : Bool) → p y ≡ b → filter p (y ∷ ys) ≡ cond b (y ∷ filter p ys) (filter p ys)
    is b e = ap (λ (c : Bool). cond c (y ∷ filter p ys) (filter p ys)) e

    go : (Has (filter p ys) x → Has ys x) → (b : Bool) → p y ≡ b → Has (y ∷ ys) x
    go later false e = has_later y x ys (later (subst (λ (zs : List A). Has zs x) (is false e) has))
    go later true e = elim (has_cases y x (filter p ys) (subst (λ (zs : List A). Has zs x) (is true e) has)) [
      | inl same ↦ subst (λ (z : A). Has (y ∷ ys) z) same (has_first y ys)
      | inr h ↦ has_later y x ys (later h)
    ]

  -- where the first items are such and those behind them are not
  pub filter_all : (xs : List A) → ((x : A) → Has xs x → p x ≡ true) → filter p xs ≡ xs
  filter_all [] all = refl
  filter_all (y ∷ ys) all =
      ap (λ (c : Bool). cond c (y ∷ filter p ys) (filter p ys)) (all y (has_first y ys)) ∙ ap (λ (zs : List A). y ∷ zs) (filter_all ys (λ x has. all x (has_later y x ys has)))

  pub filter_no : (xs : List A) → ((x : A) → Has xs x → p x ≡ false) → filter p xs ≡ []
  filter_no [] none = refl
  filter_no (y ∷ ys) none =
      ap (λ (c : Bool). cond c (y ∷ filter p ys) (filter p ys)) (none y (has_first y ys)) ∙ filter_no ys (λ x has. none x (has_later y x ys has))

  pub filter_both : (xs ys : List A) → filter p (xs ++ ys) ≡ filter p xs ++ filter p ys
  filter_both [] ys = refl
  filter_both (x ∷ xs) ys = go (filter_both xs ys) (p x) refl where
    go : filter p (xs ++ ys) ≡ filter p xs ++ filter p ys → (b : Bool) → p x ≡ b → filter p ((x ∷ xs) ++ ys) ≡ filter p (x ∷ xs) ++ filter p ys
    go later true e =
        ap (λ (c : Bool). cond c (x ∷ filter p (xs ++ ys)) (filter p (xs ++ ys))) e ∙ ap (λ (zs : List A). x ∷ zs) later
        ∙ sym (ap (λ (c : Bool). cond c (x ∷ filter p xs) (filter p xs) ++ filter p ys) e)
    go later false e =
        ap (λ (c : Bool). cond c (x ∷ filter p (xs ++ ys)) (filter p (xs ++ ys))) e ∙ later
        ∙ sym (ap (λ (c : Bool). cond c (x ∷ filter p xs) (filter p xs) ++ filter p ys) e)

pub take_front : {A : Type 0} (xs ys : List A) → take (length xs) (xs ++ ys) ≡ xs
take_front [] ys = refl
take_front (x ∷ xs) ys = ap (λ zs. x ∷ zs) (take_front xs ys)

pub get_there : {A : Type 0} (xs : List A) (place : ℕ) → place < length xs → (x : A) × (slice_get xs place ≡ Some x)
get_there [] place inside = absurd (omega (arith, inside))
get_there (x ∷ xs) zero inside = (x, refl)
get_there (x ∷ xs) (suc place) inside = get_there xs place (omega (arith, inside))
