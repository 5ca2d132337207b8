-- The universe from its parts: what the set of the descriptors of named types tells.
use Rattle.std.proofs.Common.{◌≡◌, ◌↔◌, ℕ, zero, suc, ◌+◌, ◌<◌, ◌⊎◌, inl, inr, Bool, true, false, ◌&&◌, not, is_some, List, [], ◌∷◌, ◌++◌, length, map, Option, Some, None, slice_get, refl, sym, ap, subst, ◌∙◌, arith}
use Rattle.std.specs.List.{AllByRecursion, position_or_len}
use Rattle.std.specs.Str.{bytes_eq}
use Rattle.std.proofs.lemmas.Bool.{cases_lt, true≢false, lt-ltb, le-ltb}
use Rattle.std.proofs.lemmas.Slice.Eq.{bytes_eq-Decides}
use Rattle.kb_names.specs.Shape.{Base, bool_base, byte_base, char_base, short_base, int_base, long_base, float_base, double_base, class_base}
use Rattle.kb_names.specs.Types.{shape_of}
use Rattle.kb_names.specs.declared.types.JType.{JType}
use Rattle.kb_names.specs.declared.types.ExactType.{ExactType}
use Rattle.kb_names.specs.declared.types.ExactType.TheVariants as exact
use Rattle.kb_class.specs.Class.{Class}
use Rattle.kb_class.specs.Naming.{Has, Names}
use Rattle.kb_order.specs.Texts.{IsRising}
use Rattle.kb_classes.specs.World.{literal_in}
use Rattle.kb_classes.specs.Universe.{is_given, is_concrete, exact_class, IsNamed, given_types, AreNamedPlatform, IsElement, IsNamedArray, array_text, IsUniverse}
use Rattle.kb_classes.specs.Mentions.{AnyOf, exact_text, IsTextGiven, IsPartOf, IsSimple, platform_types, array_parts}
use Rattle.kb_classes.proofs.LiteralLaws.{any_has}
use Rattle.kb_classes.proofs.UniverseTexts.{one_type, one_component, parts_are}

-- ---- whether a text is in a set

inside_has : (texts : List (List ℕ)) (text : List ℕ) → position_or_len (bytes_eq text) texts < length texts → Has texts text
inside_has [] text below = absurd (omega (arith, below))
inside_has (first ∷ texts) text below = go (bytes_eq text first) refl (inside_has texts text) where
  go : (b : Bool) → bytes_eq text first ≡ b → (position_or_len (bytes_eq text) texts < length texts → Has texts text) → Has (first ∷ texts) text
  go true e again = (zero, ap (λ (t : List ℕ). Some t) (sym ((bytes_eq-Decides text first).0 e)))
  go false e again =
      let is : position_or_len (bytes_eq text) (first ∷ texts) ≡ 1 + position_or_len (bytes_eq text) texts = (rw e refl) in
      let rest : Has texts text = again (omega (arith, is, below)) in
      (suc rest.0, rest.1)

has_inside : (texts : List (List ℕ)) (text : List ℕ) → Has texts text → position_or_len (bytes_eq text) texts < length texts
has_inside [] text has = absurd cc
has_inside (first ∷ texts) text (place, at) = go (bytes_eq text first) refl place at (has_inside texts text) where
  go : (b : Bool) → bytes_eq text first ≡ b → (i : ℕ) → slice_get (first ∷ texts) i ≡ Some text → (Has texts text → position_or_len (bytes_eq text) texts < length texts) → position_or_len (bytes_eq text) (first ∷ texts) < length (first ∷ texts)
  go true e i there again = (let is : position_or_len (bytes_eq text) (first ∷ texts) ≡ 0 = (rw e refl) in omega (arith, is))
  go false e zero there again = (let same : first ≡ text = cc in absurd (true≢false (sym ((bytes_eq-Decides text first).1 (sym same)) ∙ e)))
  go false e (suc i) there again =
      let is : position_or_len (bytes_eq text) (first ∷ texts) ≡ 1 + position_or_len (bytes_eq text) texts = (rw e refl) in
      let rest : position_or_len (bytes_eq text) texts < length texts = again (i, there) in
      omega (arith, is, rest)

pub in_set : (texts : List (List ℕ)) (text : List ℕ) → (Has texts text × (is_some (literal_in texts text) ≡ true)) ⊎ ((Has texts text → ⊥) × (is_some (literal_in texts text) ≡ false))
in_set texts text = elim (cases_lt (position_or_len (bytes_eq text) texts) (length texts)) [
  | inl below ↦ inl (inside_has texts text below, (let e = lt-ltb (position_or_len (bytes_eq text) texts) (length texts) below in rw e refl))
  | inr over ↦ inr ((λ has. (let h : position_or_len (bytes_eq text) texts < length texts = has_inside texts text has in omega (arith, h, over))), (let e = le-ltb (position_or_len (bytes_eq text) texts) (length texts) over in rw e refl))
]

-- ---- what is named

module _ (classes : List Class) (named : List (List ℕ)) (same : (text : List ℕ) → Has named text ↔ AnyOf IsTextGiven classes text) where
  pub named_there : (type : ExactType) → Has named (exact_text type) → IsNamed classes type
  named_there type has =
      let h : (class : Class) × Has classes class × IsTextGiven class (exact_text type) = (any_has IsTextGiven classes (exact_text type)).0 ((same (exact_text type)).0 has) in
      let is : type ≡ h.2.1.0 = one_type type h.2.1.0 h.2.1.2 in
      (h.0, h.1, h.2.0, subst (λ (t : ExactType). Names h.0 t) (sym is) h.2.1.1)

  pub named_back : (type : ExactType) → IsNamed classes type → Has named (exact_text type)
  named_back type is = (same (exact_text type)).1 ((any_has IsTextGiven classes (exact_text type)).1 (is.0, is.1, (is.2, (type, is.3, refl))))

  -- ---- platform classes

  pub are_platform : (rest : List Class) → AreNamedPlatform classes rest (platform_types named rest)
  are_platform [] = refl
  are_platform (class ∷ rest) = go (not (is_given class) && is_concrete class && is_some (literal_in named (exact_text (exact_class class)))) refl (are_platform rest) where
    and3 : (a b c : Bool) → (a && b && c) ≡ true → (a ≡ true) × (b ≡ true) × (c ≡ true)
    and3 true true true e = (refl, refl, refl)
    and3 true true false e = absurd (true≢false (sym e))
    and3 true false true e = absurd (true≢false (sym e))
    and3 true false false e = absurd (true≢false (sym e))
    and3 false true true e = absurd (true≢false (sym e))
    and3 false true false e = absurd (true≢false (sym e))
    and3 false false true e = absurd (true≢false (sym e))
    and3 false false false e = absurd (true≢false (sym e))

    no_file : {A : Type 0} (file : Option A) → not (is_some file) ≡ true → file ≡ None
    no_file None e = refl
    no_file (Some f) e = absurd (true≢false (sym e))

    told : is_some (literal_in named (exact_text (exact_class class))) ≡ true → IsNamed classes (exact_class class)
    told e = elim (in_set named (exact_text (exact_class class))) [
      | inl h ↦ named_there (exact_class class) h.0
      | inr h ↦ absurd (true≢false (sym e ∙ h.1))
    ]

    found : IsNamed classes (exact_class class) → is_some (literal_in named (exact_text (exact_class class))) ≡ true
    found is = elim (in_set named (exact_text (exact_class class))) [
      | inl h ↦ h.1
      | inr h ↦ absurd (h.0 (named_back (exact_class class) is))
    ]

    go : (b : Bool) → (not (is_given class) && is_concrete class && is_some (literal_in named (exact_text (exact_class class)))) ≡ b
        → AreNamedPlatform classes rest (platform_types named rest) → AreNamedPlatform classes (class ∷ rest) (platform_types named (class ∷ rest))
    go true e again =
        let parts : (not (is_given class) ≡ true) × (is_concrete class ≡ true) × (is_some (literal_in named (exact_text (exact_class class))) ≡ true) = and3 (not (is_given class)) (is_concrete class) (is_some (literal_in named (exact_text (exact_class class)))) e in
        inl ((no_file class.file parts.0, parts.1, told parts.2), platform_types named rest, (rw e refl), again)
    go false e again =
        let is : platform_types named (class ∷ rest) ≡ platform_types named rest = (rw e refl) in
        inr ((λ h. (let all : (not (is_given class) && is_concrete class && is_some (literal_in named (exact_text (exact_class class)))) ≡ true = (rw (h.0, h.1, found h.2) refl) in absurd (true≢false (sym all ∙ e)))), subst (AreNamedPlatform classes rest) (sym is) again)

  -- ---- arrays

  pub part_there : (text : List ℕ) → AnyOf (IsPartOf classes) named text → (component : JType) × (text ≡ array_text component) × IsNamedArray classes component
  part_there text any =
      let h : (whole : List ℕ) × Has named whole × IsPartOf classes whole text = (any_has (IsPartOf classes) named text).0 any in
      let whole : JType = h.2.0.0 in
      let is : h.0 ≡ exact_text (exact.Array whole) = h.2.0.2 in
      let part = (parts_are whole text).0 (subst (λ (w : List ℕ). Has (array_parts w) text) is h.2.1) in (
        part.0,
        part.3,
        record {
          whole = whole;
          named = named_there (exact.Array whole) (subst (Has named) is h.1);
          base = part.1;
          part = part.2;
          element = subst (IsElement classes) part.1 h.2.0.1;
        },
      )

  pub part_back : (component : JType) → IsNamedArray classes component → AnyOf (IsPartOf classes) named (array_text component)
  part_back component is =
      (any_has (IsPartOf classes) named (array_text component)).1 (
        exact_text (exact.Array is.whole),
        named_back (exact.Array is.whole) is.named,
        ((is.whole, subst (IsElement classes) (sym is.base) is.element, refl), (parts_are is.whole (array_text component)).1 (component, is.base, is.part, refl)),
      )

-- ---- the components of the arrays with these descriptors

element_simple : (classes : List Class) (base : Base) → IsElement classes base → IsSimple base
element_simple classes bool_base is = tt
element_simple classes byte_base is = absurd is
element_simple classes char_base is = absurd is
element_simple classes short_base is = absurd is
element_simple classes int_base is = tt
element_simple classes long_base is = absurd is
element_simple classes float_base is = absurd is
element_simple classes double_base is = absurd is
element_simple classes (class_base name) is = tt

module _ (Is : JType → Type 0) where
  built : (texts : List (List ℕ)) → ((text : List ℕ) → Has texts text → (component : JType) × (text ≡ array_text component) × Is component)
      → (components : List JType) × (map array_text components ≡ texts) × AllByRecursion Is components
  built [] all = ([], refl, tt)
  built (text ∷ texts) all =
      let first : (component : JType) × (text ≡ array_text component) × Is component = all text (zero, refl) in
      let rest : (components : List JType) × (map array_text components ≡ texts) × AllByRecursion Is components = built texts (λ t has. all t (suc has.0, has.1)) in
      (first.0 ∷ rest.0, (rw (sym first.1, rest.1) refl), (first.2, rest.2))

all_map : {A : Type 0} (P Q : A → Type 0) (xs : List A) → ((x : A) → P x → Q x) → AllByRecursion P xs → AllByRecursion Q xs
all_map P Q [] from all = tt
all_map P Q (x ∷ xs) from all = (from x all.0, all_map P Q xs from all.1)

has_map : (components : List JType) (component : JType) → Has components component → Has (map array_text components) (array_text component)
has_map [] component has = absurd cc
has_map (c ∷ components) component (zero, at) = (let same : c ≡ component = cc in (zero, ap (λ (d : JType). Some (array_text d)) same))
has_map (c ∷ components) component (suc i, at) = (let rest : Has (map array_text components) (array_text component) = has_map components component (i, at) in (suc rest.0, rest.1))

map_has : (components : List JType) (component : JType) → Has (map array_text components) (array_text component) → Has components component
map_has [] component has = absurd cc
map_has (c ∷ components) component (zero, at) =
    let same : array_text c ≡ array_text component = cc in
    (zero, ap (λ (d : JType). Some d) (one_component c component same))
map_has (c ∷ components) component (suc i, at) = (let rest : Has components component = map_has components component (i, at) in (suc rest.0, rest.1))

-- ---- all of them

pub is_universe : (classes : List Class) (named arrays : List (List ℕ)) (first second universe : List ExactType)
    → ((text : List ℕ) → Has named text ↔ AnyOf IsTextGiven classes text)
    → IsRising arrays → ((text : List ℕ) → Has arrays text ↔ AnyOf (IsPartOf classes) named text)
    → first ≡ given_types classes → second ≡ first ++ platform_types named classes
    → ((components : List JType) → AllByRecursion (λ (component : JType). IsSimple (shape_of component).base) components → map array_text components ≡ arrays → universe ≡ second ++ map exact.Array components)
    → IsUniverse classes universe
is_universe classes named arrays first second universe same rises parts given platform pushed = record {
  platform = platform_types named classes;
  arrays = all.0;
  parts = pushed all.0 (all_map (IsNamedArray classes) (λ (component : JType). IsSimple (shape_of component).base) all.0 (λ c is. element_simple classes (shape_of c).base is.element) all.2) all.1
      ∙ ap (λ (ts : List ExactType). ts ++ map exact.Array all.0) (platform ∙ ap (λ (ts : List ExactType). ts ++ platform_types named classes) given);
  are_platform = are_platform classes named same classes;
  are_arrays = record {
    rises = subst IsRising (sym all.1) rises;
    same = λ component. (λ has. there component has, λ is. back component is);
  };
} where
  all : (components : List JType) × (map array_text components ≡ arrays) × AllByRecursion (IsNamedArray classes) components
  all = built (IsNamedArray classes) arrays (λ t has. part_there classes named same t ((parts t).0 has))

  there : (component : JType) → Has all.0 component → IsNamedArray classes component
  there component has =
      let text : Has arrays (array_text component) = subst (λ (ts : List (List ℕ)). Has ts (array_text component)) all.1 (has_map all.0 component has) in
      let h : (c : JType) × (array_text component ≡ array_text c) × IsNamedArray classes c = part_there classes named same (array_text component) ((parts (array_text component)).0 text) in
      subst (IsNamedArray classes) (sym (one_component component h.0 h.1)) h.2

  back : (component : JType) → IsNamedArray classes component → Has all.0 component
  back component is =
      map_has all.0 component (subst (λ (ts : List (List ℕ)). Has ts (array_text component)) (sym all.1) ((parts (array_text component)).1 (part_back classes named same component is)))
