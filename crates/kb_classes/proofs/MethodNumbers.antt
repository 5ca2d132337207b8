-- The numbers of methods, by their classes and places.
use Rattle.std.proofs.Common.{◌≡◌, ℕ, zero, suc, ◌+◌, ◌<◌, ◌≤◌, ◌⊎◌, inl, inr, List, [], ◌∷◌, ◌++◌, length, map, take, Option, Some, None, slice_get, get_or, refl, sym, ap, subst, ◌∙◌, arith, length-append}
use Rattle.std.specs.Option.{option_map, option_and_then}
use Rattle.std.proofs.lemmas.Grind.{flat_map-append, take_at_read}
use Rattle.std.proofs.lemmas.List.{length-map, map-append, append-nil, append_assoc}
use Rattle.std.proofs.lemmas.Option.{same_Some, none-some, option_and_then_some, slice_get_cases, slice_get_read, slice_get_within, slice_get-map, get_or_from_slice_get}
use Rattle.kb_class.specs.Class.{Class}
use Rattle.kb_class.specs.declared.members.MethodInfo.{MethodInfo}
use Rattle.kb_classes.specs.World.{number_in, methods_in}
use Rattle.kb_classes.specs.Rules.{HaveDifferentNames, HaveOwnMethods, name_of}
use Rattle.kb_classes.specs.Methods.{HasPlaces, method_in}
use Rattle.kb_classes.specs.declared.methods.MethodPlace.{MethodPlace}
use Rattle.kb_classes.proofs.Named.{number_right, number_there}

-- ---- places in two lists one behind the other

module _ {A : Type 0} where
  pub get_behind : (xs ys : List A) (i : ℕ) → slice_get (xs ++ ys) (length xs + i) ≡ slice_get ys i
  get_behind [] ys i = ap (λ (n : ℕ). slice_get ys n) (let e : 0 + i ≡ i = omega arith in e)
  get_behind (x ∷ xs) ys i =
      let sum : suc (length xs) + i ≡ suc (length xs + i) = omega arith in
      ap (λ (n : ℕ). slice_get (x ∷ (xs ++ ys)) n) sum ∙ get_behind xs ys i

  pub get_before : (xs ys : List A) (i : ℕ) (x : A) → slice_get xs i ≡ Some x → slice_get (xs ++ ys) i ≡ Some x
  get_before [] ys i x at = absurd cc
  get_before (w ∷ xs) ys zero x at = at
  get_before (w ∷ xs) ys (suc i) x at = get_before xs ys i x at

  -- an item stands in the first list or in the second one
  pub get_either : (xs ys : List A) (i : ℕ) (x : A) → slice_get (xs ++ ys) i ≡ Some x
      → (slice_get xs i ≡ Some x) ⊎ ((j : ℕ) × (length xs + j ≡ i) × (slice_get ys j ≡ Some x))
  get_either [] ys i x at = inr (i, (let e : 0 + i ≡ i = omega arith in e), at)
  get_either (w ∷ xs) ys zero x at = inl at
  get_either (w ∷ xs) ys (suc i) x at =
      elim (get_either xs ys i x at) [ inl h ↦ inl h | inr h ↦ inr (h.0, (let sum : suc (length xs) + h.0 ≡ suc i = omega (arith, h.1) in sum), h.2) ]

-- ---- methods of classes

-- how many methods the classes before a number have
abbrev pub methods_before : List Class → ℕ → ℕ
methods_before classes number = length (methods_in (take number classes))

-- a method of a class stands behind those of the classes before
pub number_of_place : (classes : List Class) (number place : ℕ) (class : Class) (method : MethodInfo)
    → slice_get classes number ≡ Some class → slice_get class.methods place ≡ Some method → slice_get (methods_in classes) (methods_before classes number + place) ≡ Some method
number_of_place [] number place class method at there = absurd cc
number_of_place (c ∷ classes) zero place class method at there =
    let same : c ≡ class = cc in
    let sum : 0 + place ≡ place = omega arith in
    subst (λ (n : ℕ). slice_get (c.methods ++ methods_in classes) n ≡ Some method) (sym sum)
    (get_before c.methods (methods_in classes) place method (subst (λ (k : Class). slice_get k.methods place ≡ Some method) (sym same) there))
number_of_place (c ∷ classes) (suc number) place class method at there =
    let sum : length (c.methods ++ methods_in (take number classes)) + place ≡ length c.methods + (methods_before classes number + place) =
    omega (arith, length-append c.methods (methods_in (take number classes))) in
    subst (λ (n : ℕ). slice_get (c.methods ++ methods_in classes) n ≡ Some method) (sym sum)
    (get_behind c.methods (methods_in classes) (methods_before classes number + place) ∙ number_of_place classes number place class method at there)

-- Where a method stands: its class and its place there.
pub record StandsIn (classes : List Class) (id : ℕ) (method : MethodInfo) : Type 0 where
  pub number : ℕ
  pub class : Class
  pub place : ℕ
  pub class_is : slice_get classes number ≡ Some class
  pub there : slice_get class.methods place ≡ Some method
  pub sum : methods_before classes number + place ≡ id

pub stands_in : (classes : List Class) (id : ℕ) (method : MethodInfo) → slice_get (methods_in classes) id ≡ Some method → StandsIn classes id method
stands_in [] id method at = absurd cc
stands_in (c ∷ classes) id method at =
    elim (get_either c.methods (methods_in classes) id method at) [
      | inl here ↦ record { number = 0; class = c; place = id; class_is = refl; there = here; sum = (let e : 0 + id ≡ id = omega arith in e) }
      | inr h ↦ (let rest = stands_in classes h.0 method h.2 in
          let sum : length (c.methods ++ methods_in (take rest.number classes)) + rest.place ≡ id =
          omega (arith, length-append c.methods (methods_in (take rest.number classes)), rest.sum, h.1) in
          record { number = suc rest.number; class = rest.class; place = rest.place; class_is = rest.class_is; there = rest.there; sum = sum })
    ]

-- the name, the type and the class tell the number of a method
pub one_id : (classes : List Class) (one other : ℕ) (method second : MethodInfo) → HaveOwnMethods classes → slice_get (methods_in classes) one ≡ Some method
    → slice_get (methods_in classes) other ≡ Some second → method.class.0 ≡ second.class.0 → method.name ≡ second.name → method.kind ≡ second.kind → one ≡ other
one_id classes one other method second own at again class name kind =
    let first = stands_in classes one method at in
    let next = stands_in classes other second again in
    let numbers : first.number ≡ next.number =
    sym (own.numbered first.number first.class method first.class_is (first.place, first.there)) ∙ class ∙ own.numbered next.number next.class second next.class_is (next.place, next.there) in
    let same : first.class ≡ next.class = same_Some first.class next.class (sym first.class_is ∙ ap (λ (n : ℕ). slice_get classes n) numbers ∙ next.class_is) in
    let there : slice_get next.class.methods first.place ≡ Some method = ap (λ (c : Class). slice_get c.methods first.place) (sym same) ∙ first.there in
    let places : first.place ≡ next.place = own.differ next.class first.place next.place method second (next.number, next.class_is) there next.there name kind in
    sym first.sum ∙ (λ i. methods_before classes (numbers i) + places i) ∙ next.sum

-- ---- the class of a name

-- a class of that number has the name
pub named_at : (classes : List Class) (name : List ℕ) (number : ℕ) → number_in classes name ≡ Some number → (class : Class) × (slice_get classes number ≡ Some class) × (class.name ≡ name)
named_at classes name number at = go (slice_get classes number) refl
  where
    told : option_map name_of (slice_get classes number) ≡ Some name
    told = sym (slice_get-map name_of classes number) ∙ number_right classes name number at

    go : (o : Option Class) → slice_get classes number ≡ o → (class : Class) × (slice_get classes number ≡ Some class) × (class.name ≡ name)
    go None e = absurd (none-some name (ap (λ (o : Option Class). option_map name_of o) (sym e) ∙ told))
    go (Some class) e = (class, e, same_Some class.name name (ap (λ (o : Option Class). option_map name_of o) (sym e) ∙ told))

-- where there is no number no class has the name
pub none_named : (classes : List Class) (name : List ℕ) → number_in classes name ≡ None → (number : ℕ) (class : Class) → slice_get classes number ≡ Some class → class.name ≡ name → ⊥
none_named classes name none number class at named =
    number_there classes name number (slice_get-map name_of classes number ∙ rw at (ap (λ (n : List ℕ). Some n) named)) none

-- a class of the name has the number
pub number_of_named : (classes : List Class) (name : List ℕ) (number other : ℕ) (class : Class) → HaveDifferentNames classes → number_in classes name ≡ Some number
    → slice_get classes other ≡ Some class → class.name ≡ name → number ≡ other
number_of_named classes name number other class differ at there named =
    let found = named_at classes name number at in
    differ number other name
    (slice_get-map name_of classes number ∙ rw found.1 (ap (λ (n : List ℕ). Some n) found.2))
    (slice_get-map name_of classes other ∙ rw there (ap (λ (n : List ℕ). Some n) named))

-- ---- places by numbers

-- the method at a place
pub record IsPlaceOf (classes : List Class) (number : ℕ) (at : MethodPlace) : Type 0 where
  pub class : Class
  pub method : MethodInfo
  pub class_is : slice_get classes at.class ≡ Some class
  pub there : slice_get class.methods at.place ≡ Some method
  pub number_is : slice_get (methods_in classes) number ≡ Some method

-- there are as many places as methods
pub same_lengths : (classes : List Class) (places : List MethodPlace) → HasPlaces classes places → length places ≡ length (methods_in classes)
same_lengths classes places has =
    sym (length-map places (method_in classes)) ∙ ap (λ (os : List (Option MethodInfo)). length os) has ∙ length-map (methods_in classes) (λ (m : MethodInfo). Some m)

pub place_of : (classes : List Class) (places : List MethodPlace) (number : ℕ) (at : MethodPlace) → HasPlaces classes places → number < length (methods_in classes) → at ≡ get_or places number at
    → IsPlaceOf classes number at
place_of classes places number at has within at_is = found (slice_get_cases (methods_in classes) number).1
  where
    at_number : slice_get places number ≡ Some at
    at_number = slice_get_read places (length places) number at refl (rw (same_lengths classes places has) within) at_is

    told : (method : MethodInfo) → slice_get (methods_in classes) number ≡ Some method → method_in classes at ≡ Some method
    told method there =
        same_Some (method_in classes at) (Some method)
        (sym (slice_get-map (method_in classes) places number ∙ rw at_number refl) ∙ ap (λ (os : List (Option MethodInfo)). slice_get os number) has ∙ slice_get-map (λ (m : MethodInfo). Some m) (methods_in classes) number ∙ rw there refl)

    found : ((method : MethodInfo) × (number < length (methods_in classes)) × (slice_get (methods_in classes) number ≡ Some method) × (get_or (methods_in classes) number method ≡ method)) ⊎ ((length (methods_in classes) ≤ number) × (slice_get (methods_in classes) number ≡ None))
        → IsPlaceOf classes number at
    found (inl h) =
        option_and_then_some (λ (class : Class). slice_get class.methods at.place) (slice_get classes at.class) h.0 (told h.0 h.2)
        (λ class class_is there. record { class = class; method = h.0; class_is = class_is; there = there; number_is = h.2 })
    found (inr h) = absurd (let no : ⊥ = omega (arith, h.0, within) in no)

-- the class and the method that are read at a place
module _ (classes : List Class) (number : ℕ) (at : MethodPlace) (place : IsPlaceOf classes number at) (slice : List Class) (same : slice ≡ classes) (class : Class)
    (class_is : class ≡ get_or slice at.class class) (methods : List MethodInfo) (methods_is : methods ≡ class.methods) where
  methods_of_place : methods ≡ place.class.methods
  methods_of_place =
      methods_is ∙ ap (λ (c : Class). c.methods) (class_is ∙ ap (λ (cs : List Class). get_or cs at.class class) same ∙ get_or_from_slice_get classes at.class place.class class place.class_is)

  pub within_methods : at.place < length methods
  within_methods = rw methods_of_place (slice_get_within place.class.methods at.place place.method place.there)

  pub method_read : (method : MethodInfo) → method ≡ get_or methods at.place method → slice_get (methods_in classes) number ≡ Some method
  method_read method is =
      let read : method ≡ place.method = is ∙ ap (λ (ms : List MethodInfo). get_or ms at.place method) methods_of_place ∙ get_or_from_slice_get place.class.methods at.place place.method method place.there in
      place.number_is ∙ ap (λ (m : MethodInfo). Some m) (sym read)

-- ---- one class more

pub methods_behind : (classes : List Class) (class : Class) → methods_in (classes ++ class ∷ []) ≡ methods_in classes ++ class.methods
methods_behind classes class = flat_map-append (λ (c : Class). c.methods) classes (class ∷ []) ∙ ap (λ (ms : List MethodInfo). methods_in classes ++ ms) (append-nil class.methods)

pub methods_pushed : (classes : List Class) (class : Class) → length (methods_in (classes ++ class ∷ [])) ≡ length (methods_in classes) + length class.methods
methods_pushed classes class = ap (λ (ms : List MethodInfo). length ms) (methods_behind classes class) ∙ length-append (methods_in classes) class.methods

-- ---- one place more

pub place_pushed : (classes : List Class) (declaring : Class) (methods : List MethodInfo) (known : List (Option MethodInfo)) (places : List MethodPlace) (at : MethodPlace)
    → slice_get classes at.class ≡ Some declaring → declaring.methods ≡ methods → at.place < length methods → map (method_in classes) places ≡ known ++ map (λ (m : MethodInfo). Some m) (take at.place methods)
    → map (method_in classes) (places ++ at ∷ []) ≡ known ++ map (λ (m : MethodInfo). Some m) (take (at.place + 1) methods)
place_pushed classes declaring methods known places at class_is methods_is within has = found (slice_get_cases methods at.place).1
  where
    found : ((method : MethodInfo) × (at.place < length methods) × (slice_get methods at.place ≡ Some method) × (get_or methods at.place method ≡ method)) ⊎ ((length methods ≤ at.place) × (slice_get methods at.place ≡ None))
        → map (method_in classes) (places ++ at ∷ []) ≡ known ++ map (λ (m : MethodInfo). Some m) (take (at.place + 1) methods)
    found (inl h) =
        let taken : take (at.place + 1) methods ≡ take at.place methods ++ h.0 ∷ [] = (take_at_read methods at.place h.0 h.1).1 ∙ ap (λ (m : MethodInfo). take at.place methods ++ m ∷ []) h.3 in
        let told : method_in classes at ≡ Some h.0 = ap (λ (o : Option Class). option_and_then (λ (class : Class). slice_get class.methods at.place) o) class_is ∙ ap (λ (ms : List MethodInfo). slice_get ms at.place) methods_is ∙ h.2 in
        map-append (method_in classes) places (at ∷ []) ∙ (λ i. has i ++ told i ∷ []) ∙ append_assoc known (map (λ (m : MethodInfo). Some m) (take at.place methods)) (Some h.0 ∷ [])
        ∙ ap (λ (os : List (Option MethodInfo)). known ++ os) (sym (map-append (λ (m : MethodInfo). Some m) (take at.place methods) (h.0 ∷ [])) ∙ ap (λ (ms : List MethodInfo). map (λ (m : MethodInfo). Some m) ms) (sym taken))
    found (inr h) = absurd (let no : ⊥ = omega (arith, h.0, within) in no)
