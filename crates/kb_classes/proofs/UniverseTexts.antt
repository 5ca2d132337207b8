-- Descriptors of what objects are: each has one type, and what is behind their dimensions.
use Rattle.std.proofs.Common.{◌≡◌, ◌==◌, if◌then◌else◌, ◌↔◌, ℕ, zero, suc, ◌+◌, ◌≤◌, ◌<◌, inl, inr, List, [], ◌∷◌, ◌++◌, length, Some, None, replicate, refl, sym, ap, ap₂, subst, ◌∙◌, arith}
use Rattle.std.proofs.lemmas.Bool.{cases_order}
use Rattle.kb_names.specs.Shape.{Base, bool_base, byte_base, char_base, short_base, int_base, long_base, float_base, double_base, class_base, Shape}
use Rattle.kb_names.specs.Types.{shape_of, arrays_of}
use Rattle.kb_names.specs.Descriptors.{base_text}
use Rattle.kb_names.specs.declared.class_names.Spelling.TheVariants.{Raw}
use Rattle.kb_names.specs.declared.types.JType.{JType}
use Rattle.kb_names.specs.declared.types.ExactType.{ExactType}
use Rattle.kb_names.specs.declared.types.ExactType.TheVariants as exact
use Rattle.kb_names.proofs.ShapeLaws.{shape_of-arrays_of, arrays_of-shape_of}
use Rattle.kb_class.specs.Naming.{Has}
use Rattle.kb_classes.specs.Mentions.{exact_text, array_parts, element_text}

-- ---- the base

-- the first byte of a base's text, which tells the bases apart
abbrev letter : List ℕ → ℕ
letter [] = 0
letter (b ∷ bs) = b

abbrev behind : List ℕ → List ℕ
behind [] = []
behind (b ∷ bs) = bs

abbrev but_last : List ℕ → List ℕ
but_last [] = []
but_last (b ∷ []) = []
but_last (b ∷ c ∷ bs) = b ∷ but_last (c ∷ bs)

but_last_is : (name : List ℕ) (b : ℕ) → but_last (name ++ b ∷ []) ≡ name
but_last_is [] b = refl
but_last_is (c ∷ []) b = refl
but_last_is (c ∷ d ∷ name) b = ap (λ (bs : List ℕ). c ∷ bs) (but_last_is (d ∷ name) b)

-- the base of a letter, with that name if it is a class
abbrev base_with : ℕ → List ℕ → Base
base_with n name =
    if n == 90 then bool_base else if n == 66 then byte_base else if n == 67 then char_base else if n == 83 then short_base
    else if n == 73 then int_base else if n == 74 then long_base else if n == 70 then float_base else if n == 68 then double_base else class_base name

abbrev base_read : List ℕ → Base
base_read text = base_with (letter text) (but_last (behind text))

base_back : (base : Base) → base_read (base_text Raw base) ≡ base
base_back bool_base = refl
base_back byte_base = refl
base_back char_base = refl
base_back short_base = refl
base_back int_base = refl
base_back long_base = refl
base_back float_base = refl
base_back double_base = refl
base_back (class_base name) = ap class_base (but_last_is name 59)

pub one_base : (base other : Base) → base_text Raw base ≡ base_text Raw other → base ≡ other
one_base base other e = sym (base_back base) ∙ ap base_read e ∙ base_back other

-- no base's text begins with a [
pub element_base : (base : Base) → element_text (base_text Raw base) ≡ base_text Raw base
element_base bool_base = refl
element_base byte_base = refl
element_base char_base = refl
element_base short_base = refl
element_base int_base = refl
element_base long_base = refl
element_base float_base = refl
element_base double_base = refl
element_base (class_base name) = refl

pub no_parts : (base : Base) → array_parts (base_text Raw base) ≡ []
no_parts bool_base = refl
no_parts byte_base = refl
no_parts char_base = refl
no_parts short_base = refl
no_parts int_base = refl
no_parts long_base = refl
no_parts float_base = refl
no_parts double_base = refl
no_parts (class_base name) = refl

-- ---- the dimensions

pub element_of : (dims : ℕ) (base : Base) → element_text (replicate dims 91 ++ base_text Raw base) ≡ base_text Raw base
element_of zero base = element_base base
element_of (suc dims) base = element_of dims base

abbrev dims_of : List ℕ → ℕ
dims_of text = length (array_parts text)

dims_back : (dims : ℕ) (base : Base) → dims_of (replicate dims 91 ++ base_text Raw base) ≡ dims
dims_back zero base = ap length (no_parts base)
dims_back (suc dims) base = ap suc (dims_back dims base)

pub one_dims : (dims many : ℕ) (base other : Base) → replicate dims 91 ++ base_text Raw base ≡ replicate many 91 ++ base_text Raw other → dims ≡ many
one_dims dims many base other e = sym (dims_back dims base) ∙ ap dims_of e ∙ dims_back many other

pub one_element : (dims many : ℕ) (base other : Base) → replicate dims 91 ++ base_text Raw base ≡ replicate many 91 ++ base_text Raw other → base ≡ other
one_element dims many base other e = one_base base other (sym (element_of dims base) ∙ ap element_text e ∙ element_of many other)

-- ---- types

pub one_component : (component other : JType) → exact_text (exact.Array component) ≡ exact_text (exact.Array other) → component ≡ other
one_component component other e =
    let dims : suc (shape_of component).dims ≡ suc (shape_of other).dims = one_dims (suc (shape_of component).dims) (suc (shape_of other).dims) (shape_of component).base (shape_of other).base e in
    let base : (shape_of component).base ≡ (shape_of other).base = one_element (suc (shape_of component).dims) (suc (shape_of other).dims) (shape_of component).base (shape_of other).base e in
    let same : (shape_of component).dims ≡ (shape_of other).dims = omega (arith, dims) in
    sym (arrays_of-shape_of component) ∙ ap₂ arrays_of same base ∙ arrays_of-shape_of other

pub one_class : (name other : List ℕ) → exact_text (exact.Class name) ≡ exact_text (exact.Class other) → name ≡ other
one_class name other e = (let same : class_base name ≡ class_base other = one_base (class_base name) (class_base other) e in cc)

pub class_no_array : (name : List ℕ) (component : JType) → exact_text (exact.Class name) ≡ exact_text (exact.Array component) → ⊥
class_no_array name component e =
    let dims : 0 ≡ suc (shape_of component).dims = one_dims 0 (suc (shape_of component).dims) (class_base name) (shape_of component).base e in
    omega (arith, dims)

pub one_type : (type other : ExactType) → exact_text type ≡ exact_text other → type ≡ other
one_type (exact.Class name) (exact.Class other) e = ap (λ (n : List ℕ). exact.Class n) (one_class name other e)
one_type (exact.Class name) (exact.Array component) e = absurd (class_no_array name component e)
one_type (exact.Array component) (exact.Class name) e = absurd (class_no_array name component (sym e))
one_type (exact.Array component) (exact.Array other) e = ap (λ (c : JType). exact.Array c) (one_component component other e)

-- ---- the component arrays of an array

pub part_text_is : (dims : ℕ) (base : Base) → exact_text (exact.Array (arrays_of dims base)) ≡ replicate (suc dims) 91 ++ base_text Raw base
part_text_is dims base = ap (λ (s : Shape). replicate (suc s.dims) 91 ++ base_text Raw s.base) (shape_of-arrays_of dims base)

parts_to : (dims : ℕ) (base : Base) (text : List ℕ) → Has (array_parts (replicate dims 91 ++ base_text Raw base)) text → (less : ℕ) × (less < dims) × (text ≡ replicate (suc less) 91 ++ base_text Raw base)
parts_to zero base text has = (let none : Has [] text = subst (λ (ts : List (List ℕ)). Has ts text) (no_parts base) has in absurd (none_there none.0 none.1)) where
  none_there : (i : ℕ) → None ≡ Some text → ⊥
  none_there i e = absurd cc
parts_to (suc dims) base text (zero, at) = (let same : replicate (suc dims) 91 ++ base_text Raw base ≡ text = cc in (dims, omega arith, sym same))
parts_to (suc dims) base text (suc i, at) =
    let rest : (less : ℕ) × (less < dims) × (text ≡ replicate (suc less) 91 ++ base_text Raw base) = parts_to dims base text (i, at) in
    (rest.0, (let h = rest.1 in omega (arith, h)), rest.2)

parts_back : (dims less : ℕ) (base : Base) → less < dims → Has (array_parts (replicate dims 91 ++ base_text Raw base)) (replicate (suc less) 91 ++ base_text Raw base)
parts_back zero less base below = absurd (omega (arith, below))
parts_back (suc dims) less base below = elim (cases_order less dims) [
  | inl e ↦ (zero, ap (λ (n : ℕ). Some (replicate (suc n) 91 ++ base_text Raw base)) (sym e))
  | inr (inl fewer) ↦ (let rest : Has (array_parts (replicate dims 91 ++ base_text Raw base)) (replicate (suc less) 91 ++ base_text Raw base) = parts_back dims less base fewer in (suc rest.0, rest.1))
  | inr (inr more) ↦ absurd (omega (arith, below, more))
]

-- an array type and its component arrays, by their descriptors
pub parts_are : (whole : JType) (text : List ℕ)
    → Has (array_parts (exact_text (exact.Array whole))) text
    ↔ ((part : JType) × ((shape_of whole).base ≡ (shape_of part).base) × ((shape_of part).dims ≤ (shape_of whole).dims) × (text ≡ exact_text (exact.Array part)))
parts_are whole text = (λ has. there (parts_to (suc (shape_of whole).dims) (shape_of whole).base text has), λ h. back h.0 h.1 h.2 h.3) where
  there : (less : ℕ) × (less < suc (shape_of whole).dims) × (text ≡ replicate (suc less) 91 ++ base_text Raw (shape_of whole).base)
      → (part : JType) × ((shape_of whole).base ≡ (shape_of part).base) × ((shape_of part).dims ≤ (shape_of whole).dims) × (text ≡ exact_text (exact.Array part))
  there h =
      let is : shape_of (arrays_of h.0 (shape_of whole).base) ≡ record { dims = h.0; base = (shape_of whole).base } = shape_of-arrays_of h.0 (shape_of whole).base in
      let dims : (shape_of (arrays_of h.0 (shape_of whole).base)).dims ≡ h.0 = ap (λ (s : Shape). s.dims) is in
      let below = h.1 in
      (arrays_of h.0 (shape_of whole).base, sym (ap (λ (s : Shape). s.base) is), omega (arith, dims, below), h.2 ∙ sym (part_text_is h.0 (shape_of whole).base))

  back : (part : JType) → (shape_of whole).base ≡ (shape_of part).base → (shape_of part).dims ≤ (shape_of whole).dims → text ≡ exact_text (exact.Array part)
      → Has (array_parts (exact_text (exact.Array whole))) text
  back part base dims is =
      subst (λ (t : List ℕ). Has (array_parts (exact_text (exact.Array whole))) t) (ap (λ (b : Base). replicate (suc (shape_of part).dims) 91 ++ base_text Raw b) base ∙ sym is)
      (parts_back (suc (shape_of whole).dims) (shape_of part).dims (shape_of whole).base (omega (arith, dims)))
