-- The members of a universe: classes of the world, and behind them arrays.
use Rattle.std.proofs.Common.{◌≡◌, ◌↔◌, ℕ, inl, inr, Bool, true, false, true≢false, ◌==◌, ◌&&◌, List, [], ◌∷◌, ◌++◌, length, map, take, Option, Some, None, refl, sym, ap, subst, ◌∙◌}
use Rattle.std.specs.List.{list_any, filter}
use Rattle.std.specs.Option.{option_map_or}
use Rattle.std.proofs.lemmas.Option.{same_Some}
use Rattle.std.proofs.lemmas.Bool.{eq-eqb, eqb-true}
use Rattle.std.proofs.lemmas.List.{append-nil}
use Rattle.kb_names.specs.declared.types.ExactType.{ExactType}
use Rattle.kb_names.specs.declared.types.ExactType.TheVariants as exact
use Rattle.kb_names.specs.declared.types.JType.{JType}
use Rattle.kb_class.specs.Class.{Class}
use Rattle.kb_class.specs.Naming.{Has}
use Rattle.kb_class.proofs.Lists.{has_none, has_first, has_later, has_cases, has_right, has_either, map_has, has_mapped}
use Rattle.kb_classes.specs.World.{World, number_in}
use Rattle.kb_classes.specs.Universe.{is_given, is_concrete, exact_class, given_types, AreNamedPlatform, IsUniverse}
use Rattle.kb_classes.proofs.Named.{number_right}
use Rattle.kb_classes.proofs.MethodNumbers.{none_named}
use Rattle.kb_universe.specs.Marks.{is_class_type, class_types, is_class_at}
use Rattle.kb_universe.proofs.Lists.{any_some, any_true, filter_in, filter_all, filter_no, filter_both, take_front}

-- ---- classes of a list of classes

abbrev IsOneOf : List Class → ExactType → Type 0
IsOneOf classes type = (class : Class) × Has classes class × (type ≡ exact_class class)

given_class : (classes : List Class) (type : ExactType) → Has (given_types classes) type → IsOneOf classes type
given_class classes type has =
    let found = has_mapped exact_class (filter (λ (class : Class). is_given class && is_concrete class) classes) type has in
    (found.0, filter_in (λ (class : Class). is_given class && is_concrete class) classes found.0 found.1, sym found.2)

platform_class : (classes rest : List Class) (types : List ExactType) (type : ExactType) → AreNamedPlatform classes rest types → Has types type → IsOneOf rest type
platform_class classes [] types type are has = absurd (has_none type (subst (λ (ts : List ExactType). Has ts type) are has))
platform_class classes (c ∷ rest) types type (inl h) has = elim (has_cases (exact_class c) type h.1 (subst (λ (ts : List ExactType). Has ts type) h.2 has)) [
  | inl same ↦ (c, has_first c rest, sym same)
  | inr later ↦ (let found : IsOneOf rest type = platform_class classes rest h.1 type h.3 later in (found.0, has_later c found.0 rest found.1, found.2))
]
platform_class classes (c ∷ rest) types type (inr h) has = (let found : IsOneOf rest type = platform_class classes rest types type h.1 has in (found.0, has_later c found.0 rest found.1, found.2))

-- whether a class has the number
class_at_is : (classes : List Class) (number : ℕ) (type : ExactType) → is_class_at classes number type ≡ true → (name : List ℕ) × (type ≡ exact.Class name) × (number_in classes name ≡ Some number)
class_at_is classes number (exact.Class name) e = go (number_in classes name) refl where
  go : (o : Option ℕ) → number_in classes name ≡ o → (other : List ℕ) × (exact.Class name ≡ exact.Class other) × (number_in classes other ≡ Some number)
  go None at = absurd (true≢false (sym e ∙ ap (λ (o : Option ℕ). option_map_or (λ (n : ℕ). n == number) o false) at))
  go (Some n) at =
      let same : n ≡ number = eqb-true n number (sym (ap (λ (o : Option ℕ). option_map_or (λ (m : ℕ). m == number) o false) at) ∙ e) in
      (name, refl, at ∙ ap (λ (m : ℕ). Some m) same)
class_at_is classes number (exact.Array component) e = absurd (true≢false (sym e))

is_at_class : (classes : List Class) (number : ℕ) (name : List ℕ) → number_in classes name ≡ Some number → is_class_at classes number (exact.Class name) ≡ true
is_at_class classes number name at = ap (λ (o : Option ℕ). option_map_or (λ (n : ℕ). n == number) o false) at ∙ eq-eqb number number refl

-- ---- a universe

module _ (world : World) (universe : IsUniverse world.classes world.universe) where
  abbrev fronts : List ExactType
  fronts = given_types world.classes ++ universe.platform

  parts : world.universe ≡ fronts ++ map exact.Array universe.arrays
  parts = universe.parts

  front_class : (type : ExactType) → Has fronts type → IsOneOf world.classes type
  front_class type has = elim (has_either (given_types world.classes) universe.platform type has) [
    | inl h ↦ given_class world.classes type h
    | inr h ↦ platform_class world.classes world.classes universe.platform type universe.are_platform h
  ]

  front_no_array : (component : JType) → Has fronts (exact.Array component) → ⊥
  front_no_array component has =
      let found : IsOneOf world.classes (exact.Array component) = front_class (exact.Array component) has in
      let is : exact.Array component ≡ exact.Class found.0.name = found.2 in
      true≢false (sym (ap is_class_type is))

  array_no_class : (name : List ℕ) → Has (map exact.Array universe.arrays) (exact.Class name) → ⊥
  array_no_class name has =
      let found = has_mapped exact.Array universe.arrays (exact.Class name) has in
      true≢false (sym (ap is_class_type found.2))

  -- ---- arrays

  pub array_has : (component : JType) → Has universe.arrays component → Has world.universe (exact.Array component)
  array_has component has =
      subst (λ (ts : List ExactType). Has ts (exact.Array component)) (sym parts) (has_right fronts (map exact.Array universe.arrays) (exact.Array component) (map_has exact.Array universe.arrays component has))

  pub has_array : (component : JType) → Has world.universe (exact.Array component) → Has universe.arrays component
  has_array component has = elim (has_either fronts (map exact.Array universe.arrays) (exact.Array component) (subst (λ (ts : List ExactType). Has ts (exact.Array component)) parts has)) [
    | inl h ↦ absurd (front_no_array component h)
    | inr h ↦ (
        let found = has_mapped exact.Array universe.arrays (exact.Array component) h in
        let same : found.0 ≡ component = one_array found.0 component found.2 in
        subst (λ (c : JType). Has universe.arrays c) same found.1
        )
  ]
    where
      inner : ExactType → JType → JType
      inner (exact.Class name) other = other
      inner (exact.Array c) other = c

      one_array : (one other : JType) → exact.Array one ≡ exact.Array other → one ≡ other
      one_array one other e = ap (λ (t : ExactType). inner t one) e

  -- ---- classes

  pub class_named : (name : List ℕ) → Has world.universe (exact.Class name) → number_in world.classes name ≡ None → ⊥
  class_named name has none = elim (has_either fronts (map exact.Array universe.arrays) (exact.Class name) (subst (λ (ts : List ExactType). Has ts (exact.Class name)) parts has)) [
    | inl h ↦ (
        let found : IsOneOf world.classes (exact.Class name) = front_class (exact.Class name) h in
        none_named world.classes name none found.1.0 found.0 found.1.1 (sym (ap name_in found.2))
        )
    | inr h ↦ array_no_class name h
  ]
    where
      name_in : ExactType → List ℕ
      name_in (exact.Class n) = n
      name_in (exact.Array c) = name

  pub marked_is : (name : List ℕ) (number : ℕ) (told : Bool) → Some number ≡ number_in world.classes name → told ≡ list_any (is_class_at world.classes number) world.universe
      → (told ≡ true) ↔ Has world.universe (exact.Class name)
  marked_is name number told at is = (λ t. there (sym is ∙ t), λ has. is ∙ any_true (is_class_at world.classes number) world.universe (exact.Class name) has (is_at_class world.classes number name (sym at)))
    where
      there : list_any (is_class_at world.classes number) world.universe ≡ true → Has world.universe (exact.Class name)
      there e =
          let found = any_some (is_class_at world.classes number) world.universe e in
          let class = class_at_is world.classes number found.0 found.2 in
          let same : class.0 ≡ name = same_Some class.0 name (sym (number_right world.classes class.0 number class.2) ∙ number_right world.classes name number (sym at)) in
          subst (λ (n : List ℕ). Has world.universe (exact.Class n)) same (subst (λ (t : ExactType). Has world.universe t) class.1 found.1)

  -- the classes stand in front
  classes_front : class_types world.universe ≡ fronts
  classes_front =
      ap class_types parts ∙ filter_both is_class_type fronts (map exact.Array universe.arrays)
      ∙ ap (λ (ts : List ExactType). ts ++ filter is_class_type (map exact.Array universe.arrays)) (filter_all is_class_type fronts (λ type has. (let found : IsOneOf world.classes type = front_class type has in ap is_class_type found.2)))
      ∙ ap (λ (ts : List ExactType). fronts ++ ts) (filter_no is_class_type (map exact.Array universe.arrays) (λ type has. (let found = has_mapped exact.Array universe.arrays type has in sym (ap is_class_type found.2))))
      ∙ append-nil fronts

  pub front_is : take (length (class_types world.universe)) world.universe ≡ class_types world.universe
  front_is =
      ap (λ (ts : List ExactType). take (length ts) world.universe) classes_front ∙ ap (λ (ts : List ExactType). take (length fronts) ts) parts
      ∙ take_front fronts (map exact.Array universe.arrays) ∙ sym classes_front

  -- the classes of a universe, and behind them its arrays
  pub split_is : world.universe ≡ class_types world.universe ++ map exact.Array universe.arrays
  split_is = parts ∙ ap (λ (ts : List ExactType). ts ++ map exact.Array universe.arrays) (sym classes_front)
