-- Lists that grow at their end.
use Rattle.std.proofs.Common.{◌≡◌, ◌⊎◌, inl, inr, ℕ, zero, suc, Bool, true, false, true≢false, ◌||◌, if◌then◌else◌, List, [], ◌∷◌, ◌++◌, length, map, slice_get, get_or, position, Option, Some, None, is_some, IfSome, IfNone, refl, sym, ap, ◌∙◌, arith}
use Rattle.std.specs.List.{list_any}
use Rattle.std.specs.Option.{option_map}
use Rattle.std.specs.Str.{bytes_eq}
use Rattle.std.specs.declared.vec.Vec.{Vec}
use Rattle.std.specs.declared.alloc.Global.{Global}
use Rattle.std.proofs.lemmas.List.{map-append}
use Rattle.std.proofs.lemmas.Map.Keys.{any_passes_from_place}
use Rattle.std.proofs.lemmas.List.Quantifiers.{position-Some}
use Rattle.std.proofs.lemmas.Option.{slice_get-map, slice_get-get_or}
use Rattle.std.proofs.lemmas.Slice.Eq.{bytes_eq-Decides}
use Rattle.kb_texts.specs.Texts.{AreDistinct, Keeps, with_text}

pub slice_get-append : {A : Type 0} (xs ys : List A) (i : ℕ) (x : A) → slice_get xs i ≡ Some x → slice_get (xs ++ ys) i ≡ Some x
slice_get-append [] ys i x e = absurd cc
slice_get-append (y ∷ xs) ys zero x e = e
slice_get-append (y ∷ xs) ys (suc i) x e = slice_get-append xs ys i x e

-- an entry of a list with one more at its end is an earlier one, or that one
end-cases : {A : Type 0} (xs : List A) (y : A) (i : ℕ) (x : A) → slice_get (xs ++ y ∷ []) i ≡ Some x → (slice_get xs i ≡ Some x) ⊎ ((i ≡ length xs) × (y ≡ x))
end-cases [] y zero x e = inr (refl, cc)
end-cases [] y (suc i) x e = absurd cc
end-cases (z ∷ zs) y zero x e = inl e
end-cases (z ∷ zs) y (suc i) x e = elim (end-cases zs y i x e) [ inl a ↦ inl a | inr a ↦ inr (omega arith, a.1) ]

pub any-map : {A B : Type 0} (f : B → Bool) (g : A → B) (xs : List A) → list_any f (map g xs) ≡ list_any (λ x. f (g x)) xs
any-map f g [] = refl
any-map f g (x ∷ xs) = ap (λ (b : Bool). f (g x) || b) (any-map f g xs)

-- ---- one more at the end, unless it is there

module _ {A : Type 0} (xs : List A) (y : A) (test : A → Bool) (itself : test y ≡ true) where
  absent : list_any test xs ≡ false → (i : ℕ) → slice_get xs i ≡ Some y → ⊥
  absent none i e = true≢false (sym (any_passes_from_place test xs i y e itself) ∙ none)

  distinct_end : AreDistinct xs → list_any test xs ≡ false → AreDistinct (xs ++ y ∷ [])
  distinct_end distinct none one other x p q =
      elim (end-cases xs y one x p) [
        | inl a ↦ elim (end-cases xs y other x q) [
          | inl b ↦ distinct one other x a b
          | inr b ↦ absurd (absent none one (a ∙ ap (λ (t : A). Some t) (sym b.1)))
        ]
        | inr a ↦ elim (end-cases xs y other x q) [
          | inl b ↦ absurd (absent none other (b ∙ ap (λ (t : A). Some t) (sym a.1)))
          | inr b ↦ a.0 ∙ sym b.0
        ]
      ]

  pub distinct_if_new : AreDistinct xs → AreDistinct (if list_any test xs then xs else xs ++ y ∷ [])
  distinct_if_new distinct = go (list_any test xs) refl
    where
      go : (b : Bool) → list_any test xs ≡ b → AreDistinct (if b then xs else xs ++ y ∷ [])
      go true e = distinct
      go false e = distinct_end distinct e

-- ---- texts

module _ (texts : List (List ℕ)) (bytes : List ℕ) where
  pub distinct_more : AreDistinct texts → AreDistinct (with_text texts bytes)
  distinct_more = distinct_if_new texts bytes (bytes_eq bytes) ((bytes_eq-Decides bytes bytes).1 refl)

  pub keeps_more : Keeps texts (with_text texts bytes)
  keeps_more place x = go (list_any (bytes_eq bytes) texts)
    where
      go : (b : Bool) → slice_get texts place ≡ Some x → slice_get (if b then texts else texts ++ bytes ∷ []) place ≡ Some x
      go true e = e
      go false e = slice_get-append texts (bytes ∷ []) place x e

-- ---- the keys of a set of texts

abbrev pub items_of : List (Vec ℕ Global) → List (List ℕ)
items_of keys = map (λ (key : Vec ℕ Global). key.items) keys

pub key_added : (keys : List (Vec ℕ Global)) (key : Vec ℕ Global) (bytes : List ℕ) → key.items ≡ bytes
    → items_of (if list_any (λ (k : Vec ℕ Global). bytes_eq key.items k.items) keys then keys else keys ++ key ∷ []) ≡ with_text (items_of keys) bytes
key_added keys key bytes same =
    go (list_any (λ (k : Vec ℕ Global). bytes_eq key.items k.items) keys)
    ∙ ap (λ (b : Bool). if b then items_of keys else items_of keys ++ key.items ∷ []) (sym (any-map (bytes_eq key.items) (λ (k : Vec ℕ Global). k.items) keys))
    ∙ ap (λ (t : List ℕ). with_text (items_of keys) t) same
  where
    go : (b : Bool) → items_of (if b then keys else keys ++ key ∷ []) ≡ (if b then items_of keys else items_of keys ++ key.items ∷ [])
    go true = refl
    go false = map-append (λ (k : Vec ℕ Global). k.items) keys (key ∷ [])

pub key_there : (keys : List (Vec ℕ Global)) (key found : Vec ℕ Global) (bytes : List ℕ) (place : ℕ) → key.items ≡ bytes → slice_get keys place ≡ Some found
    → bytes_eq key.items found.items ≡ true → slice_get (items_of keys) place ≡ Some bytes
key_there keys key found bytes place same there equal =
    slice_get-map (λ (k : Vec ℕ Global). k.items) keys place ∙ ap (λ (o : Option (Vec ℕ Global)). option_map (λ (k : Vec ℕ Global). k.items) o) there
    ∙ ap (λ (t : List ℕ). Some t) (sym ((bytes_eq-Decides key.items found.items).0 equal) ∙ same)

found_at : {A : Type 0} (p : A → Bool) (xs : List A) (i : ℕ) → position p xs ≡ Some i → (x : A) × (slice_get xs i ≡ Some x) × (p x ≡ true)
found_at p [] i e = absurd cc
found_at p (y ∷ ys) i e =
    let h = position-Some p (y ∷ ys) i y e in
    (get_or (y ∷ ys) i y, slice_get-get_or (y ∷ ys) i y h.0, h.1)

-- a text that was found among the keys
pub key_found : (keys : List (Vec ℕ Global)) (bytes : List ℕ) (place : ℕ) → position (λ (k : Vec ℕ Global). bytes_eq bytes k.items) keys ≡ Some place
    → slice_get (items_of keys) place ≡ Some bytes
key_found keys bytes place e =
    let found = found_at (λ (k : Vec ℕ Global). bytes_eq bytes k.items) keys place e in
    slice_get-map (λ (k : Vec ℕ Global). k.items) keys place ∙ ap (λ (o : Option (Vec ℕ Global)). option_map (λ (k : Vec ℕ Global). k.items) o) found.1
    ∙ ap (λ (t : List ℕ). Some t) (sym ((bytes_eq-Decides bytes found.0.items).0 found.2))

-- ---- a text that is looked up

module _ (keys : List (Vec ℕ Global)) (bytes : List ℕ) where
  pub text_found : (told : Option ℕ) → told ≡ position (λ (k : Vec ℕ Global). bytes_eq bytes k.items) keys → IfSome told (λ place. slice_get (items_of keys) place ≡ Some bytes)
  text_found None is = tt
  text_found (Some place) is = key_found keys bytes place (sym is)

  pub text_missing : (told : Option ℕ) → is_some told ≡ list_any (λ (k : Vec ℕ Global). bytes_eq bytes k.items) keys → IfNone told ((place : ℕ) → slice_get (items_of keys) place ≡ Some bytes → ⊥)
  text_missing (Some place) is = tt
  text_missing None is = λ place at.
      true≢false (sym (any_passes_from_place (bytes_eq bytes) (items_of keys) place bytes at ((bytes_eq-Decides bytes bytes).1 refl)) ∙ any-map (bytes_eq bytes) (λ (k : Vec ℕ Global). k.items) keys ∙ sym is)
