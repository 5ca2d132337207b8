-- The arrays of a universe by the most dimensions of each element: a universe has the component arrays of its arrays.
use Rattle.std.proofs.Common.{◌≡◌, ◌↔◌, ℕ, suc, ◌+◌, ◌^◌, ◌<◌, ◌≤◌, max, min, nat_lt, ◌⊎◌, inl, inr, Bool, true, false, true≢false, ◌==◌, List, [], ◌∷◌, Option, Some, None, IsSome, slice_index_or, refl, sym, ap, subst, ◌∙◌, arith}
use Rattle.std.specs.Option.{option_map, option_map_or}
use Rattle.std.proofs.lemmas.Option.{same_Some, none-some}
use Rattle.std.proofs.lemmas.Bool.{eq-eqb, eqb-true, cases_lt}
use Rattle.std.proofs.lemmas.Bool.Decides.{Decides-ltb}
use Rattle.kb_names.specs.Shape.{Base, bool_base, byte_base, char_base, short_base, int_base, long_base, float_base, double_base, class_base}
use Rattle.kb_names.specs.Types.{shape_of}
use Rattle.kb_names.specs.declared.types.ExactType.{ExactType}
use Rattle.kb_names.specs.declared.types.ExactType.TheVariants as exact
use Rattle.kb_names.specs.declared.types.JType.{JType}
use Rattle.kb_class.specs.Class.{Class}
use Rattle.kb_class.specs.Naming.{Has}
use Rattle.kb_class.proofs.Lists.{has_none, has_first, has_later, has_cases}
use Rattle.kb_classes.specs.Subtypes.{shape_of_exact}
use Rattle.kb_classes.specs.World.{World, number_in}
use Rattle.kb_classes.specs.Universe.{IsElement, IsNamedArray, IsUniverse}
use Rattle.kb_classes.proofs.Named.{number_right}
use Rattle.kb_universe.specs.Marks.{element_in, is_element_at, dims_over, most_over, longest_of, reach}
use Rattle.kb_universe.proofs.Members.{array_has, has_array}

-- ---- numbers of elements

pub element_of : (classes : List Class) (base : Base) → IsElement classes base → (element : ℕ) × (element_in classes base ≡ Some element)
element_of classes bool_base is = (0, refl)
element_of classes byte_base is = absurd is
element_of classes char_base is = absurd is
element_of classes short_base is = absurd is
element_of classes int_base is = (1, refl)
element_of classes long_base is = absurd is
element_of classes float_base is = absurd is
element_of classes double_base is = absurd is
element_of classes (class_base name) is = go (number_in classes name) refl is where
  go : (o : Option ℕ) → number_in classes name ≡ o → IsSome o → (element : ℕ) × (element_in classes (class_base name) ≡ Some element)
  go None at some = absurd (true≢false (sym some))
  go (Some n) at some = (n + 2, ap (λ (o : Option ℕ). option_map (λ (m : ℕ). m + 2) o) at)

-- what has a number is boolean, int or a class
abbrev pub IsNumbered : List Class → Base → ℕ → Type 0
IsNumbered classes base element =
    ((base ≡ bool_base) × (element ≡ 0))
    ⊎ (((base ≡ int_base) × (element ≡ 1)) ⊎ ((name : List ℕ) × (number : ℕ) × (base ≡ class_base name) × (number_in classes name ≡ Some number) × (element ≡ number + 2)))

pub numbered : (classes : List Class) (base : Base) (element : ℕ) → element_in classes base ≡ Some element → IsNumbered classes base element
numbered classes bool_base element at = inl (refl, sym (same_Some 0 element at))
numbered classes byte_base element at = absurd (none-some element at)
numbered classes char_base element at = absurd (none-some element at)
numbered classes short_base element at = absurd (none-some element at)
numbered classes int_base element at = inr (inl (refl, sym (same_Some 1 element at)))
numbered classes long_base element at = absurd (none-some element at)
numbered classes float_base element at = absurd (none-some element at)
numbered classes double_base element at = absurd (none-some element at)
numbered classes (class_base name) element at = go (number_in classes name) refl where
  go : (o : Option ℕ) → number_in classes name ≡ o → IsNumbered classes (class_base name) element
  go None is = absurd (none-some element (sym (ap (λ (o : Option ℕ). option_map (λ (m : ℕ). m + 2) o) is) ∙ at))
  go (Some n) is = inr (inr (name, n, refl, is, sym (same_Some (n + 2) element (sym (ap (λ (o : Option ℕ). option_map (λ (m : ℕ). m + 2) o) is) ∙ at))))

one_name : (classes : List Class) (name other : List ℕ) (number : ℕ) → number_in classes name ≡ Some number → number_in classes other ≡ Some number → name ≡ other
one_name classes name other number at there = same_Some name other (sym (number_right classes name number at) ∙ number_right classes other number there)

pub one_element : (classes : List Class) (base other : Base) (element : ℕ) → element_in classes base ≡ Some element → element_in classes other ≡ Some element → base ≡ other
one_element classes base other element at there = both (numbered classes base element at) (numbered classes other element there) where
  both : IsNumbered classes base element → IsNumbered classes other element → base ≡ other
  both (inl h) (inl k) = h.0 ∙ sym k.0
  both (inl h) (inr (inl k)) = (let one = h.1 in let two = k.1 in absurd (omega (arith, one, two)))
  both (inl h) (inr (inr k)) = (let one = h.1 in let two = k.4 in absurd (omega (arith, one, two)))
  both (inr (inl h)) (inl k) = (let one = h.1 in let two = k.1 in absurd (omega (arith, one, two)))
  both (inr (inl h)) (inr (inl k)) = h.0 ∙ sym k.0
  both (inr (inl h)) (inr (inr k)) = (let one = h.1 in let two = k.4 in absurd (omega (arith, one, two)))
  both (inr (inr h)) (inl k) = (let one = h.4 in let two = k.1 in absurd (omega (arith, one, two)))
  both (inr (inr h)) (inr (inl k)) = (let one = h.4 in let two = k.1 in absurd (omega (arith, one, two)))
  both (inr (inr h)) (inr (inr k)) =
      let one = h.4 in
      let two = k.4 in
      let same : h.1 ≡ k.1 = omega (arith, one, two) in
      let name : h.0 ≡ k.0 = one_name classes h.0 k.0 h.1 h.3 (k.3 ∙ ap (λ (n : ℕ). Some n) (sym same)) in
      h.2 ∙ ap class_base name ∙ sym k.2

-- ---- the most dimensions

module _ (classes : List Class) (element : ℕ) where
  element_at : (base : Base) → element_in classes base ≡ Some element → is_element_at classes element base ≡ true
  element_at base at = ap (λ (o : Option ℕ). option_map_or (λ (n : ℕ). n == element) o false) at ∙ eq-eqb element element refl

  at_element : (base : Base) → is_element_at classes element base ≡ true → element_in classes base ≡ Some element
  at_element base e = go (element_in classes base) refl where
    go : (o : Option ℕ) → element_in classes base ≡ o → element_in classes base ≡ Some element
    go None at = absurd (true≢false (sym e ∙ ap (λ (o : Option ℕ). option_map_or (λ (n : ℕ). n == element) o false) at))
    go (Some n) at =
        let same : n ≡ element = eqb-true n element (sym (ap (λ (o : Option ℕ). option_map_or (λ (m : ℕ). m == element) o false) at) ∙ e) in
        at ∙ ap (λ (m : ℕ). Some m) same

  over_is : (component : JType) → is_element_at classes element (shape_of component).base ≡ true → dims_over classes element (exact.Array component) ≡ suc (shape_of component).dims
  over_is component e = rw e refl

  over_none : (component : JType) → is_element_at classes element (shape_of component).base ≡ false → dims_over classes element (exact.Array component) ≡ 0
  over_none component e = rw e refl

  -- an array's dimensions are at most those
  over_has : (types : List ExactType) (component : JType) → Has types (exact.Array component) → element_in classes (shape_of component).base ≡ Some element
      → suc (shape_of component).dims ≤ most_over classes element types
  over_has [] component has at = absurd (has_none (exact.Array component) has)
  over_has (type ∷ types) component has at =
      elim (has_cases type (exact.Array component) types has) [
        | inl same ↦ (
            let here : dims_over classes element type ≡ suc (shape_of component).dims = ap (λ (t : ExactType). dims_over classes element t) same ∙ over_is component (element_at (shape_of component).base at) in
            omega (arith, here, is)
            )
        | inr later ↦ (let rest : suc (shape_of component).dims ≤ most_over classes element types = over_has types component later at in omega (arith, rest, is))
      ]
    where
      is : most_over classes element (type ∷ types) ≡ max (dims_over classes element type) (most_over classes element types)
      is = refl

  -- some array has more dimensions than fewer than those
  abbrev IsReached : List ExactType → ℕ → Type 0
  IsReached types dims = (component : JType) × Has types (exact.Array component) × (element_in classes (shape_of component).base ≡ Some element) × (dims ≤ (shape_of component).dims)

  has_over : (types : List ExactType) (dims : ℕ) → dims < most_over classes element types → IsReached types dims
  has_over [] dims below = (let none : most_over classes element [] ≡ 0 = refl in absurd (omega (arith, below, none)))
  has_over (exact.Class name ∷ types) dims below =
      let is : most_over classes element (exact.Class name ∷ types) ≡ max 0 (most_over classes element types) = refl in
      let rest : IsReached types dims = has_over types dims (omega (arith, below, is)) in
      (rest.0, has_later (exact.Class name) (exact.Array rest.0) types rest.1, rest.2, rest.3)
  has_over (exact.Array component ∷ types) dims below = go (λ h. has_over types dims h) (is_element_at classes element (shape_of component).base) refl where
    is : most_over classes element (exact.Array component ∷ types) ≡ max (dims_over classes element (exact.Array component)) (most_over classes element types)
    is = refl

    behind : IsReached types dims → IsReached (exact.Array component ∷ types) dims
    behind rest = (rest.0, has_later (exact.Array component) (exact.Array rest.0) types rest.1, rest.2, rest.3)

    go : (dims < most_over classes element types → IsReached types dims) → (b : Bool) → is_element_at classes element (shape_of component).base ≡ b → IsReached (exact.Array component ∷ types) dims
    go later false e = (let none : dims_over classes element (exact.Array component) ≡ 0 = over_none component e in behind (later (omega (arith, below, is, none))))
    go later true e = elim (cases_lt dims (suc (shape_of component).dims)) [
      | inl less ↦ (component, has_first (exact.Array component) types, at_element (shape_of component).base e, omega (arith, less))
      | inr more ↦ (let here : dims_over classes element (exact.Array component) ≡ suc (shape_of component).dims = over_is component e in behind (later (omega (arith, below, is, here, more))))
    ]

-- ---- the longest

pub longest_has : (types : List ExactType) (type : ExactType) → Has types type → (shape_of_exact type).dims ≤ longest_of types
longest_has [] type has = absurd (has_none type has)
longest_has (t ∷ types) type has =
    elim (has_cases t type types has) [
      | inl same ↦ (let here : (shape_of_exact t).dims ≡ (shape_of_exact type).dims = ap (λ (u : ExactType). (shape_of_exact u).dims) same in omega (arith, here, is))
      | inr later ↦ (let rest : (shape_of_exact type).dims ≤ longest_of types = longest_has types type later in omega (arith, rest, is))
    ]
  where
    is : longest_of (t ∷ types) ≡ max (shape_of_exact t).dims (longest_of types)
    is = refl

pub has_longest : (types : List ExactType) (dims : ℕ) → dims < longest_of types → (type : ExactType) × Has types type × (dims < (shape_of_exact type).dims)
has_longest [] dims below = (let none : longest_of [] ≡ 0 = refl in absurd (omega (arith, below, none)))
has_longest (t ∷ types) dims below =
    elim (cases_lt dims (shape_of_exact t).dims) [
      | inl less ↦ (t, has_first t types, less)
      | inr more ↦ (let rest = has_longest types dims (omega (arith, below, is, more)) in (rest.0, has_later t rest.0 types rest.1, rest.2))
    ]
  where
    is : longest_of (t ∷ types) ≡ max (shape_of_exact t).dims (longest_of types)
    is = refl

-- the most over an element are no more
pub most_longest : (classes : List Class) (element : ℕ) (types : List ExactType) → most_over classes element types ≤ longest_of types
most_longest classes element [] = omega arith
most_longest classes element (exact.Class name ∷ types) =
    let rest : most_over classes element types ≤ longest_of types = most_longest classes element types in
    let most : most_over classes element (exact.Class name ∷ types) ≡ max 0 (most_over classes element types) = refl in
    let long : longest_of (exact.Class name ∷ types) ≡ max 0 (longest_of types) = refl in
    omega (arith, rest, most, long)
most_longest classes element (exact.Array component ∷ types) = go (most_longest classes element types) (is_element_at classes element (shape_of component).base) refl where
  most : most_over classes element (exact.Array component ∷ types) ≡ max (dims_over classes element (exact.Array component)) (most_over classes element types)
  most = refl

  long : longest_of (exact.Array component ∷ types) ≡ max (suc (shape_of component).dims) (longest_of types)
  long = refl

  go : most_over classes element types ≤ longest_of types → (b : Bool) → is_element_at classes element (shape_of component).base ≡ b
      → most_over classes element (exact.Array component ∷ types) ≤ longest_of (exact.Array component ∷ types)
  go rest false e = (let none : dims_over classes element (exact.Array component) ≡ 0 = over_none classes element component e in omega (arith, rest, most, long, none))
  go rest true e = (let here : dims_over classes element (exact.Array component) ≡ suc (shape_of component).dims = over_is classes element component e in omega (arith, rest, most, long, here))

-- ---- the arrays of a universe

module _ (world : World) (universe : IsUniverse world.classes world.universe) (most : List ℕ)
    (each : (element : ℕ) → slice_index_or most element 0 ≡ most_over world.classes element world.universe) where
  reach_is : (base : Base) (element : ℕ) → element_in world.classes base ≡ Some element → reach world.classes most base ≡ most_over world.classes element world.universe
  reach_is base element at = ap (λ (o : Option ℕ). option_map_or (λ (e : ℕ). slice_index_or most e 0) o 0) at ∙ each element

  -- an array reaches no further
  pub reached : (component : JType) → Has world.universe (exact.Array component) → (shape_of component).dims < reach world.classes most (shape_of component).base
  reached component has =
      let named : IsNamedArray world.classes component = (universe.are_arrays.same component).0 (has_array world universe component has) in
      let element = element_of world.classes (shape_of component).base named.element in
      let long : suc (shape_of component).dims ≤ most_over world.classes element.0 world.universe = over_has world.classes element.0 world.universe component has element.1 in
      let is : reach world.classes most (shape_of component).base ≡ most_over world.classes element.0 world.universe = reach_is (shape_of component).base element.0 element.1 in
      omega (arith, long, is)

  -- each array that reaches no further is there
  pub reaching : (component : JType) → (shape_of component).dims < reach world.classes most (shape_of component).base → Has world.universe (exact.Array component)
  reaching component below = go (element_in world.classes (shape_of component).base) refl where
    go : (o : Option ℕ) → element_in world.classes (shape_of component).base ≡ o → Has world.universe (exact.Array component)
    go None none =
        let is : reach world.classes most (shape_of component).base ≡ 0 = ap (λ (o : Option ℕ). option_map_or (λ (e : ℕ). slice_index_or most e 0) o 0) none in
        absurd (omega (arith, below, is))
    go (Some element) at =
        let is : reach world.classes most (shape_of component).base ≡ most_over world.classes element world.universe = reach_is (shape_of component).base element at in
        let far = has_over world.classes element world.universe (shape_of component).dims (omega (arith, below, is)) in
        let base : (shape_of far.0).base ≡ (shape_of component).base = one_element world.classes (shape_of far.0).base (shape_of component).base element far.2 at in
        let named : IsNamedArray world.classes far.0 = (universe.are_arrays.same far.0).0 (has_array world universe far.0 far.1) in
        let part = named.part in
        let less = far.3 in
        array_has world universe component ((universe.are_arrays.same component).1 (record {
          whole = named.whole;
          named = named.named;
          base = named.base ∙ base;
          part = omega (arith, part, less);
          element = subst (IsElement world.classes) base named.element;
        }))

  reach_few : (base : Base) → reach world.classes most base ≤ longest_of world.universe
  reach_few base = go (element_in world.classes base) refl where
    go : (o : Option ℕ) → element_in world.classes base ≡ o → reach world.classes most base ≤ longest_of world.universe
    go None none = (let is : reach world.classes most base ≡ 0 = ap (λ (o : Option ℕ). option_map_or (λ (e : ℕ). slice_index_or most e 0) o 0) none in omega (arith, is))
    go (Some element) at =
        let is : reach world.classes most base ≡ most_over world.classes element world.universe = reach_is base element at in
        let few : most_over world.classes element world.universe ≤ longest_of world.universe = most_longest world.classes element world.universe in
        omega (arith, is, few)

  -- whether an array is there, by its dimensions as far as they fit 32 bits
  pub array_told : (component : JType) (dims far longest : ℕ) → dims ≡ min (shape_of component).dims 4294967295 → far ≡ reach world.classes most (shape_of component).base → longest ≡ longest_of world.universe
      → longest < 2 ^ 32 → (nat_lt dims far ≡ true) ↔ Has world.universe (exact.Array component)
  array_told component dims far longest count is long fits = (λ t. there ((Decides-ltb dims far).0 t), λ has. (Decides-ltb dims far).1 (back has)) where
    few : reach world.classes most (shape_of component).base ≤ longest_of world.universe
    few = reach_few (shape_of component).base

    there : dims < far → Has world.universe (exact.Array component)
    there below = reaching component (omega (arith, below, count, is, few, long, fits))

    back : Has world.universe (exact.Array component) → dims < far
    back has = (let less : (shape_of component).dims < reach world.classes most (shape_of component).base = reached component has in omega (arith, less, count, is))
