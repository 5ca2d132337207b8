-- Stacks, which are kept from the bottom up.
use Rattle.std.proofs.Common.{◌≡◌, ℕ, zero, suc, ◌-◌, ◌≤◌, List, [], ◌∷◌, ◌++◌, length, take, drop, reverse, nat_le, Bool, true, false, ◌&&◌, Some, None, refl, sym, ap, ◌∙◌, arith}
use Rattle.std.proofs.lemmas.List.{reverse-append, reverse-reverse, length-reverse, length-drop, length-take, take-append-drop}
use Rattle.std.proofs.lemmas.Bool.{leb-false}
use Rattle.kb_heap.specs.declared.heap.Value.{Value}
use Rattle.kb_names.specs.declared.types.JType.{JType}
use Rattle.kb_names.specs.declared.types.JType.TheVariants as types
use Rattle.kb_class.specs.Platform.{object_name}
use Rattle.kb_semantics.specs.Looks.{only_where}
use Rattle.kb_semantics.specs.Operands.{are_of_kinds, arguments, receiver_and_arguments}

take_left : {A : Type 0} (xs ys : List A) (n : ℕ) → n ≡ length xs → take n (xs ++ ys) ≡ xs
take_left [] ys zero e = refl
take_left [] ys (suc n) e = absurd (omega (arith, e))
take_left (x ∷ xs) ys zero e = absurd (omega (arith, e))
take_left (x ∷ xs) ys (suc n) e = ap (λ (rest : List _). x ∷ rest) (take_left xs ys n (omega (arith, e)))

drop_left : {A : Type 0} (xs ys : List A) (n : ℕ) → n ≡ length xs → drop n (xs ++ ys) ≡ ys
drop_left [] ys zero e = refl
drop_left [] ys (suc n) e = absurd (omega (arith, e))
drop_left (x ∷ xs) ys zero e = absurd (omega (arith, e))
drop_left (x ∷ xs) ys (suc n) e = drop_left xs ys n (omega (arith, e))

module _ {A : Type 0} (xs : List A) (n k : ℕ) (within : n ≤ length xs) (place : k ≡ length xs - n) where
  parts : reverse xs ≡ reverse (drop k xs) ++ reverse (take k xs)
  parts = ap reverse (sym (take-append-drop k xs)) ∙ reverse-append (take k xs) (drop k xs)

  many : n ≡ length (reverse (drop k xs))
  many = omega (arith, within, place, length-reverse (drop k xs), length-drop k xs)

  -- the values on the top, from the lowest one on
  pub top_taken : reverse (take n (reverse xs)) ≡ drop k xs
  top_taken = ap (λ (l : List A). reverse (take n l)) parts ∙ ap reverse (take_left (reverse (drop k xs)) (reverse (take k xs)) n many) ∙ reverse-reverse (drop k xs)

  -- what is left below them
  pub rest_left : drop n (reverse xs) ≡ reverse (take k xs)
  rest_left = ap (λ (l : List A). drop n l) parts ∙ drop_left (reverse (drop k xs)) (reverse (take k xs)) n many

-- as many values as types
pub of_kinds_many : (params : List JType) (values : List Value) → are_of_kinds params values ≡ true → length values ≡ length params
of_kinds_many [] [] h = refl
of_kinds_many [] (v ∷ values) h = absurd cc
of_kinds_many (type ∷ params) [] h = absurd cc
of_kinds_many (type ∷ params) (v ∷ values) h = ap suc (of_kinds_many params values (both _ _ h)) where
  both : (a b : Bool) → a && b ≡ true → b ≡ true
  both true b e = e
  both false b e = absurd cc

-- no arguments where there are fewer values
pub no_arguments : (params : List JType) (stack : List Value) → nat_le (length params) (length stack) ≡ false → arguments params stack ≡ None
no_arguments params stack few = go (are_of_kinds params (reverse (take (length params) stack))) refl where
  go : (are : Bool) → are_of_kinds params (reverse (take (length params) stack)) ≡ are → arguments params stack ≡ None
  go true e =
      let many : length (reverse (take (length params) stack)) ≡ length params = of_kinds_many params (reverse (take (length params) stack)) e in
      absurd (omega (arith, many, length-reverse (take (length params) stack), length-take (length params) stack, leb-false (length params) (length stack) few))
  go false e = rw e refl

-- where so many values could not be taken
pub none_taken : (params : List JType) (stack : List Value) → None ≡ only_where (nat_le (length params) (length stack)) (reverse (take (length params) stack)) → arguments params stack ≡ None
none_taken params stack none = go (nat_le (length params) (length stack)) refl where
  go : (enough : Bool) → nat_le (length params) (length stack) ≡ enough → arguments params stack ≡ None
  go true e =
      let wrong : None ≡ Some (reverse (take (length params) stack)) = none ∙ ap (λ (b : Bool). only_where b (reverse (take (length params) stack))) e in
      absurd cc
  go false e = no_arguments params stack e

-- the same with a receiver before them
pub no_receiver : (params : List JType) (stack : List Value) (count : ℕ) → count ≡ suc (length params) → None ≡ only_where (nat_le count (length stack)) (reverse (take count stack)) →
    receiver_and_arguments params stack ≡ None
no_receiver params stack count e none = none_taken (types.Class object_name ∷ params) stack (rw e at none)
