-- No exact type stands twice in the universe of a world: classes have different names, and the arrays rise.
use Rattle.std.proofs.Common.{◌≡◌, ℕ, zero, suc, inl, inr, Bool, true, false, true≢false, ◌&&◌, cond, List, [], ◌∷◌, ◌++◌, map, filter, is_some, Some, None, slice_get, refl, sym, ap, subst, ◌∙◌, option_map}
use Rattle.std.proofs.lemmas.List.{append_assoc}
use Rattle.std.proofs.lemmas.Option.{same_Some, slice_get-map}
use Rattle.kb_class.proofs.Lists.{has_none, has_cases, has_either}
use Rattle.kb_class.specs.Class.{Class}
use Rattle.kb_class.specs.Naming.{Has}
use Rattle.kb_link.specs.Links.{IsLinked}
use Rattle.kb_classes.specs.Rules.{HaveDifferentNames, name_of}
use Rattle.kb_classes.specs.Universe.{given_types, exact_class, is_given, is_concrete, AreNamedPlatform, IsUniverse, array_text}
use Rattle.kb_classes.specs.World.{World}
use Rattle.kb_names.specs.declared.types.ExactType.{ExactType}
use Rattle.kb_names.specs.declared.types.ExactType.TheVariants as exact
use Rattle.kb_names.specs.declared.types.JType.{JType}
use Rattle.kb_order.specs.Texts.{IsBefore, IsRising}
use Rattle.kb_order.proofs.TextLaws.{before_itself, before_chain}

-- no item of the list stands behind itself
abbrev pub AreDifferent : {A : Type 0} → List A → Type 0
AreDifferent [] = Unit {0}
AreDifferent (x ∷ xs) = (Has xs x → ⊥) × AreDifferent xs

module _ {A : Type 0} where
  pub different_joined : (xs ys : List A) → AreDifferent xs → AreDifferent ys → ((x : A) → Has xs x → Has ys x → ⊥) → AreDifferent (xs ++ ys)
  different_joined [] ys one other apart = other
  different_joined (x ∷ xs) ys one other apart = (
    (λ h. elim (has_either xs ys x h) [ inl a ↦ one.0 a | inr b ↦ apart x (0, refl) b ]),
    different_joined xs ys one.1 other (λ y h g. apart y (suc h.0, h.1) g),
  )

-- ---- classes

names_behind : (class : Class) (classes : List Class) → HaveDifferentNames (class ∷ classes) → HaveDifferentNames classes
names_behind class classes different one other name a b = let e : suc one ≡ suc other = different (suc one) (suc other) name a b in cc

-- two classes of one name are one class
same_class : (classes : List Class) → HaveDifferentNames classes → (one other : Class) → Has classes one → Has classes other → one.name ≡ other.name → one ≡ other
same_class classes different one other a b same =
    let first : slice_get (map name_of classes) a.0 ≡ Some one.name = slice_get-map name_of classes a.0 ∙ ap (option_map name_of) a.1 in
    let second : slice_get (map name_of classes) b.0 ≡ Some one.name = slice_get-map name_of classes b.0 ∙ (ap (option_map name_of) b.1 ∙ ap (λ (n : List ℕ). Some n) (sym same)) in
    let place : a.0 ≡ b.0 = different a.0 b.0 one.name first second in
    same_Some one other (sym a.1 ∙ ap (slice_get classes) place ∙ b.1)

head_alone : (class : Class) (classes : List Class) → HaveDifferentNames (class ∷ classes) → (other : Class) → Has classes other → class.name ≡ other.name → ⊥
head_alone class classes different other h same =
    let second : slice_get (map name_of classes) h.0 ≡ Some class.name = slice_get-map name_of classes h.0 ∙ (ap (option_map name_of) h.1 ∙ ap (λ (n : List ℕ). Some n) (sym same)) in
    let place : zero ≡ suc h.0 = different zero (suc h.0) class.name refl second in
    absurd cc

-- the class that a type of the list is of
record IsOf (Such : Class → Type 0) (classes : List Class) (type : ExactType) : Type 0 where
  class : Class
  there : Has classes class
  type_is : type ≡ exact_class class
  such : Such class

of_more : (Such : Class → Type 0) (first : Class) (classes : List Class) (type : ExactType) → IsOf Such classes type → IsOf Such (first ∷ classes) type
of_more Such first classes type of = record { class = of.class; there = (suc of.there.0, of.there.1); type_is = of.type_is; such = of.such }

abbrev IsGivenClass : Class → Type 0
IsGivenClass class = is_given class ≡ true

abbrev IsPlatformClass : Class → Type 0
IsPlatformClass class = class.file ≡ None

given_of : (classes : List Class) (type : ExactType) → Has (given_types classes) type → IsOf IsGivenClass classes type
given_of [] type h = absurd (has_none type h)
given_of (class ∷ classes) type h = go (λ (g : Has (given_types classes) type). given_of classes type g) (is_given class && is_concrete class) refl h
  where
    and_first : (x y : Bool) → (x && y) ≡ true → x ≡ true
    and_first true y f = refl
    and_first false y f = f

    go : (Has (given_types classes) type → IsOf IsGivenClass classes type) → (b : Bool) → (is_given class && is_concrete class) ≡ b
        → Has (map exact_class (cond b (class ∷ filter (λ c. is_given c && is_concrete c) classes) (filter (λ c. is_given c && is_concrete c) classes))) type
        → IsOf IsGivenClass (class ∷ classes) type
    go later false e g = of_more IsGivenClass class classes type (later g)
    go later true e g = elim (has_cases (exact_class class) type (given_types classes) g) [
      | inl a ↦ record { class = class; there = (zero, refl); type_is = sym a; such = and_first (is_given class) (is_concrete class) e }
      | inr b ↦ of_more IsGivenClass class classes type (later b)
    ]

name_inside : (one other : Class) → exact_class one ≡ exact_class other → one.name ≡ other.name
name_inside one other e = cc

different_given : (classes : List Class) → HaveDifferentNames classes → AreDifferent (given_types classes)
different_given [] different = tt
different_given (class ∷ classes) different = go (different_given classes (names_behind class classes different)) (is_given class && is_concrete class)
  where
    alone : Has (given_types classes) (exact_class class) → ⊥
    alone h =
        let of = given_of classes (exact_class class) h in
        head_alone class classes different of.class of.there (name_inside class of.class of.type_is)

    go : AreDifferent (given_types classes) → (b : Bool)
        → AreDifferent (map exact_class (cond b (class ∷ filter (λ c. is_given c && is_concrete c) classes) (filter (λ c. is_given c && is_concrete c) classes)))
    go later false = later
    go later true = (alone, later)

platform_of : (all classes : List Class) (types : List ExactType) (type : ExactType) → AreNamedPlatform all classes types → Has types type → IsOf IsPlatformClass classes type
platform_of all [] types type are h = absurd (has_none type (subst (λ (ts : List ExactType). Has ts type) are h))
platform_of all (class ∷ classes) types type (inl a) h =
    elim (has_cases (exact_class class) type a.1 (subst (λ (ts : List ExactType). Has ts type) a.2 h)) [
      | inl e ↦ record { class = class; there = (zero, refl); type_is = sym e; such = a.0.0 }
      | inr g ↦ of_more IsPlatformClass class classes type (platform_of all classes a.1 type a.3 g)
    ]
platform_of all (class ∷ classes) types type (inr b) h = of_more IsPlatformClass class classes type (platform_of all classes types type b.1 h)

different_platform : (all classes : List Class) (types : List ExactType) → HaveDifferentNames classes → AreNamedPlatform all classes types → AreDifferent types
different_platform all [] types different are = subst AreDifferent (sym are) tt
different_platform all (class ∷ classes) types different (inl a) =
    subst AreDifferent (sym a.2) (alone, different_platform all classes a.1 (names_behind class classes different) a.3)
  where
    alone : Has a.1 (exact_class class) → ⊥
    alone h =
        let of = platform_of all classes a.1 (exact_class class) a.3 h in
        head_alone class classes different of.class of.there (name_inside class of.class of.type_is)
different_platform all (class ∷ classes) types different (inr b) = different_platform all classes types (names_behind class classes different) b.1

-- ---- arrays

before_others : (x : JType) (xs : List JType) → IsRising (map array_text (x ∷ xs)) → (place : ℕ) (y : JType) → slice_get xs place ≡ Some y → IsBefore (array_text x) (array_text y)
before_others x [] rises place y at = absurd cc
before_others x (w ∷ xs) rises zero y at = subst (λ (u : JType). IsBefore (array_text x) (array_text u)) (same_Some w y at) rises.0
before_others x (w ∷ xs) rises (suc place) y at = before_chain (array_text x) (array_text w) (array_text y) rises.0 (before_others w xs rises.1 place y at)

array_of : (components : List JType) (type : ExactType) → Has (map exact.Array components) type → (component : JType) × Has components component × (type ≡ exact.Array component)
array_of [] type h = absurd (has_none type h)
array_of (c ∷ components) type h = elim (has_cases (exact.Array c) type (map exact.Array components) h) [
  | inl e ↦ (c, (zero, refl), sym e)
  | inr g ↦ later (array_of components type g)
]
  where
    later : ((component : JType) × Has components component × (type ≡ exact.Array component)) → (component : JType) × Has (c ∷ components) component × (type ≡ exact.Array component)
    later a = (a.0, (suc a.1.0, a.1.1), a.2)

different_arrays : (components : List JType) → IsRising (map array_text components) → AreDifferent (map exact.Array components)
different_arrays [] rises = tt
different_arrays (c ∷ components) rises = (alone, different_arrays components (rest components rises))
  where
    rest : (others : List JType) → IsRising (map array_text (c ∷ others)) → IsRising (map array_text others)
    rest [] r = tt
    rest (w ∷ others) r = r.1

    alone : Has (map exact.Array components) (exact.Array c) → ⊥
    alone h =
        let of = array_of components (exact.Array c) h in
        let same : c ≡ of.0 = array_inside c of.0 of.2 in
        before_itself (array_text c) (subst (λ (u : JType). IsBefore (array_text c) (array_text u)) (sym same) (before_others c components rises of.1.0 of.0 of.1.1))
      where
        array_inside : (one other : JType) → exact.Array one ≡ exact.Array other → one ≡ other
        array_inside one other e = cc

-- ---- the universe

pub universe_different : (world : World) → IsLinked world → AreDifferent world.universe
universe_different world linked = subst AreDifferent (sym (u.parts ∙ append_assoc (given_types world.classes) u.platform (map exact.Array u.arrays)))
    (different_joined (given_types world.classes) (u.platform ++ map exact.Array u.arrays) (different_given world.classes linked.names)
    (different_joined u.platform (map exact.Array u.arrays) (different_platform world.classes world.classes u.platform linked.names u.are_platform) (different_arrays u.arrays u.are_arrays.rises) platform_apart)
    given_apart)
  where
    u : IsUniverse world.classes world.universe
    u = linked.universe

    no_array : (class : Class) (component : JType) → exact_class class ≡ exact.Array component → ⊥
    no_array class component e = absurd cc

    platform_apart : (type : ExactType) → Has u.platform type → Has (map exact.Array u.arrays) type → ⊥
    platform_apart type h g =
        let of = platform_of world.classes world.classes u.platform type u.are_platform h in
        let array = array_of u.arrays type g in
        no_array of.class array.0 (sym of.type_is ∙ array.2)

    given_apart : (type : ExactType) → Has (given_types world.classes) type → Has (u.platform ++ map exact.Array u.arrays) type → ⊥
    given_apart type h g =
        elim (has_either u.platform (map exact.Array u.arrays) type g) [
          | inl p ↦ not_both (platform_of world.classes world.classes u.platform type u.are_platform p)
          | inr a ↦ not_array (array_of u.arrays type a)
        ]
      where
        of : IsOf IsGivenClass world.classes type
        of = given_of world.classes type h

        not_array : ((component : JType) × Has u.arrays component × (type ≡ exact.Array component)) → ⊥
        not_array array = no_array of.class array.0 (sym of.type_is ∙ array.2)

        not_both : IsOf IsPlatformClass world.classes type → ⊥
        not_both other =
            let same : of.class ≡ other.class = same_class world.classes linked.names of.class other.class of.there other.there (name_inside of.class other.class (sym of.type_is ∙ other.type_is)) in
            let none : is_given of.class ≡ false = ap is_given same ∙ ap is_some other.such in
            absurd (true≢false (sym of.such ∙ none))
