-- A pile as the list of its items from the top down.
use Rattle.std.proofs.Common.{◌≡◌, ℕ, zero, suc, ◌-◌, ◌<◌, ◌≤◌, List, [], ◌∷◌, ◌++◌, length, take, drop, reverse, get_or, slice_get, nat_lt, Bool, true, false, Option, Some, None, IfSome, refl, sym, ap, ◌∙◌, arith}
use Rattle.std.specs.Option.{option_to_list}
use Rattle.std.proofs.lemmas.Bool.{ltb-true, ltb-false}
use Rattle.std.proofs.lemmas.List.{reverse-append, reverse-reverse, take_all, length-reverse, length-drop, take-append-drop, get_or-reverse}
use Rattle.std.proofs.lemmas.Option.{slice_get-get_or}

module _ {A : Type 0} where
  drop_left : (xs ys : List A) (n : ℕ) → n ≡ length xs → drop n (xs ++ ys) ≡ ys
  drop_left [] ys zero e = refl
  drop_left [] ys (suc n) e = absurd (omega arith)
  drop_left (x ∷ xs) ys zero e = absurd (omega arith)
  drop_left (x ∷ xs) ys (suc n) e = drop_left xs ys n (omega arith)

  drop_more : (xs : List A) (n : ℕ) → length xs ≤ n → drop n xs ≡ []
  drop_more [] zero h = refl
  drop_more [] (suc n) h = refl
  drop_more (x ∷ xs) zero h = absurd (omega arith)
  drop_more (x ∷ xs) (suc n) h = drop_more xs n (omega arith)

  -- without the top ones
  pub rest_left : (xs : List A) (n k : ℕ) → k ≡ length xs - n → drop n (reverse xs) ≡ reverse (take k xs)
  rest_left xs n k e = go (nat_lt (length xs) n) refl
    where
      go : (b : Bool) → nat_lt (length xs) n ≡ b → drop n (reverse xs) ≡ reverse (take k xs)
      go true f =
          let past : length xs < n = ltb-true (length xs) n f in
          let none : k ≡ 0 = omega (arith, past, e) in
          drop_more (reverse xs) n (omega (arith, past, length-reverse xs)) ∙ ap (λ m. reverse (take m xs)) (sym none)
      go false f =
          let within : n ≤ length xs = ltb-false (length xs) n f in
          ap (λ (l : List A). drop n (reverse l)) (sym (take-append-drop k xs))
          ∙ ap (drop n) (reverse-append (take k xs) (drop k xs))
          ∙ drop_left (reverse (drop k xs)) (reverse (take k xs)) n (omega (arith, within, e, length-reverse (drop k xs), length-drop k xs))

  from_top : (xs : List A) (n : ℕ) (d : A) → n < length xs → slice_get (reverse xs) n ≡ Some (get_or xs (length xs - 1 - n) d)
  from_top xs n d h = slice_get-get_or (reverse xs) n d (omega (arith, h, length-reverse xs)) ∙ ap Some (get_or-reverse xs n d h)

  last_first : (ys : List A) (top : A) → reverse (ys ++ top ∷ []) ≡ top ∷ reverse ys
  last_first ys top = reverse-append ys (top ∷ [])

  -- the last one that is kept is taken off too
  pub taken_off : (xs ys : List A) (n k : ℕ) (top : Option A) → k ≡ length xs - n → take k xs ≡ ys ++ option_to_list top
      → IfSome top (λ item. drop n (reverse xs) ≡ item ∷ reverse ys)
  taken_off xs ys n k None e is = tt
  taken_off xs ys n k (Some item) e is = rest_left xs n k e ∙ ap reverse is ∙ last_first ys item

  -- the item so deep
  pub so_deep : (xs : List A) (n : ℕ) → n < length xs → slice_get (reverse xs) n ≡ slice_get xs (length xs - 1 - n)
  so_deep [] n h = absurd (omega (arith, h))
  so_deep (x ∷ xs) n h = from_top (x ∷ xs) n x h ∙ sym (slice_get-get_or (x ∷ xs) (length (x ∷ xs) - 1 - n) x (omega (arith, h)))

  take_left : (xs ys : List A) (n : ℕ) → n ≡ length xs → take n (xs ++ ys) ≡ xs
  take_left [] ys zero e = refl
  take_left [] ys (suc n) e = absurd (omega arith)
  take_left (x ∷ xs) ys zero e = absurd (omega arith)
  take_left (x ∷ xs) ys (suc n) e = ap (λ (l : List A). x ∷ l) (take_left xs ys n (omega arith))

  -- the top ones, from the lowest on
  pub top_right : (xs : List A) (n k : ℕ) → k ≡ length xs - n → take (length xs - k) (drop k xs) ≡ reverse (take n (reverse xs))
  top_right xs n k e = whole ∙ go (nat_lt (length xs) n) refl
    where
      whole : take (length xs - k) (drop k xs) ≡ drop k xs
      whole = take_all (length xs - k) (drop k xs) (omega (arith, length-drop k xs))

      go : (b : Bool) → nat_lt (length xs) n ≡ b → drop k xs ≡ reverse (take n (reverse xs))
      go true f =
          let past : length xs < n = ltb-true (length xs) n f in
          let none : k ≡ 0 = omega (arith, past, e) in
          ap (λ (m : ℕ). drop m xs) none ∙ sym (reverse-reverse xs) ∙ ap reverse (sym (take_all n (reverse xs) (omega (arith, past, length-reverse xs))))
      go false f =
          let within : n ≤ length xs = ltb-false (length xs) n f in
          let parts : reverse xs ≡ reverse (drop k xs) ++ reverse (take k xs) = ap reverse (sym (take-append-drop k xs)) ∙ reverse-append (take k xs) (drop k xs) in
          sym (ap reverse (ap (take n) parts ∙ take_left (reverse (drop k xs)) (reverse (take k xs)) n (omega (arith, within, e, length-reverse (drop k xs), length-drop k xs)))
          ∙ reverse-reverse (drop k xs))
