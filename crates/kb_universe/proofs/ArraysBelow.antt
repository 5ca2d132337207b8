-- Whether an array of a universe is a subtype of a type: by the most dimensions of each element.
use Rattle.std.proofs.Common.{◌≡◌, ◌↔◌, ℕ, zero, suc, ◌+◌, ◌-◌, ◌^◌, ◌<◌, ◌≤◌, min, ◌⊎◌, inl, inr, Bool, true, false, true≢false, ◌&&◌, ◌||◌, nat_lt, List, [], length, Option, Some, None, IsSome, slice_get, slice_index_or, refl, sym, ap, ap₂, subst, ◌∙◌, arith}
use Rattle.std.specs.List.{list_any}
use Rattle.std.specs.Option.{option_map, option_map_or}
use Rattle.std.specs.Str.{bytes_eq}
use Rattle.std.proofs.lemmas.Bool.{cases_order}
use Rattle.std.proofs.lemmas.Bool.Decides.{Decides-ltb}
use Rattle.std.proofs.lemmas.Option.{same_Some, none-some}
use Rattle.std.proofs.lemmas.Slice.Eq.{bytes_eq-Decides}
use Rattle.kb_names.specs.Shape.{Base, bool_base, byte_base, char_base, short_base, int_base, long_base, float_base, double_base, class_base, Shape}
use Rattle.kb_names.specs.Types.{shape_of, arrays_of}
use Rattle.kb_names.proofs.ShapeLaws.{shape_of-arrays_of, arrays_of-shape_of}
use Rattle.kb_names.specs.declared.types.ExactType.{ExactType}
use Rattle.kb_names.specs.declared.types.ExactType.TheVariants as exact
use Rattle.kb_names.specs.declared.types.JType.{JType}
use Rattle.kb_class.specs.Class.{Class}
use Rattle.kb_class.specs.Naming.{Has}
use Rattle.kb_link.specs.Links.{IsLinked}
use Rattle.kb_classes.specs.Subtypes.{is_above_arrays, is_below, is_super, shape_of_exact, fits_base, fits_array, fits_shape}
use Rattle.kb_classes.specs.World.{World, number_in}
use Rattle.kb_classes.specs.Universe.{IsElement, IsNamedArray}
use Rattle.kb_classes.proofs.Named.{number_inside}
use Rattle.kb_classes.proofs.MethodNumbers.{none_named, number_of_named}
use Rattle.kb_universe.specs.Marks.{name_of_base, most_over, longest_of, is_array_below, reach, HasLowArray}
use Rattle.kb_universe.proofs.Lists.{any_some, any_true, get_there}
use Rattle.kb_classes.proofs.Walks.{same_test}
use Rattle.kb_universe.proofs.Members.{has_array}
use Rattle.kb_universe.proofs.Reaching.{reached, reaching, longest_has, has_longest, most_longest}

-- ---- dimensions

module _ (world : World) (low high : Base) where
  shorter : (below above : ℕ) → below < above → fits_shape world below low above high ≡ false
  shorter zero zero less = absurd (omega (arith, less))
  shorter zero (suc above) less = refl
  shorter (suc below) zero less = absurd (omega (arith, less))
  shorter (suc below) (suc above) less = shorter below above (omega (arith, less))

  as_long : (dims : ℕ) → fits_shape world dims low dims high ≡ fits_base world low high
  as_long zero = refl
  as_long (suc dims) = as_long dims

  longer : (below above : ℕ) → above < below → fits_shape world below low above high ≡ fits_array high
  longer zero above less = absurd (omega (arith, less))
  longer (suc below) zero less = refl
  longer (suc below) (suc above) less = longer below above (omega (arith, less))

-- ---- bases

-- an element that is a subtype of what is no class is the same
same_base : (world : World) (classes : List Class) (low high : Base) → IsElement classes low → fits_base world low high ≡ true → name_of_base high ≡ None → low ≡ high
same_base world classes bool_base bool_base el fits none = refl
same_base world classes bool_base byte_base el fits none = absurd (true≢false (sym fits))
same_base world classes bool_base char_base el fits none = absurd (true≢false (sym fits))
same_base world classes bool_base short_base el fits none = absurd (true≢false (sym fits))
same_base world classes bool_base int_base el fits none = absurd (true≢false (sym fits))
same_base world classes bool_base long_base el fits none = absurd (true≢false (sym fits))
same_base world classes bool_base float_base el fits none = absurd (true≢false (sym fits))
same_base world classes bool_base double_base el fits none = absurd (true≢false (sym fits))
same_base world classes bool_base (class_base name) el fits none = absurd (none-some name (sym none))
same_base world classes int_base bool_base el fits none = absurd (true≢false (sym fits))
same_base world classes int_base byte_base el fits none = absurd (true≢false (sym fits))
same_base world classes int_base char_base el fits none = absurd (true≢false (sym fits))
same_base world classes int_base short_base el fits none = absurd (true≢false (sym fits))
same_base world classes int_base int_base el fits none = refl
same_base world classes int_base long_base el fits none = absurd (true≢false (sym fits))
same_base world classes int_base float_base el fits none = absurd (true≢false (sym fits))
same_base world classes int_base double_base el fits none = absurd (true≢false (sym fits))
same_base world classes int_base (class_base name) el fits none = absurd (none-some name (sym none))
same_base world classes byte_base high el fits none = absurd el
same_base world classes char_base high el fits none = absurd el
same_base world classes short_base high el fits none = absurd el
same_base world classes long_base high el fits none = absurd el
same_base world classes float_base high el fits none = absurd el
same_base world classes double_base high el fits none = absurd el
same_base world classes (class_base name) bool_base el fits none = absurd (true≢false (sym fits))
same_base world classes (class_base name) byte_base el fits none = absurd (true≢false (sym fits))
same_base world classes (class_base name) char_base el fits none = absurd (true≢false (sym fits))
same_base world classes (class_base name) short_base el fits none = absurd (true≢false (sym fits))
same_base world classes (class_base name) int_base el fits none = absurd (true≢false (sym fits))
same_base world classes (class_base name) long_base el fits none = absurd (true≢false (sym fits))
same_base world classes (class_base name) float_base el fits none = absurd (true≢false (sym fits))
same_base world classes (class_base name) double_base el fits none = absurd (true≢false (sym fits))
same_base world classes (class_base name) (class_base other) el fits none = absurd (none-some other (sym none))

-- such an element is a subtype of itself
self_base : (world : World) (classes : List Class) (base : Base) → IsElement classes base → name_of_base base ≡ None → fits_base world base base ≡ true
self_base world classes bool_base el none = refl
self_base world classes byte_base el none = absurd el
self_base world classes char_base el none = absurd el
self_base world classes short_base el none = absurd el
self_base world classes int_base el none = refl
self_base world classes long_base el none = absurd el
self_base world classes float_base el none = absurd el
self_base world classes double_base el none = absurd el
self_base world classes (class_base name) el none = absurd (none-some name (sym none))

class_below : (world : World) (name : List ℕ) (low : Base) → fits_base world low (class_base name) ≡ true → (lower : List ℕ) × (low ≡ class_base lower) × (is_below world lower name ≡ true)
class_below world name bool_base fits = absurd (true≢false (sym fits))
class_below world name byte_base fits = absurd (true≢false (sym fits))
class_below world name char_base fits = absurd (true≢false (sym fits))
class_below world name short_base fits = absurd (true≢false (sym fits))
class_below world name int_base fits = absurd (true≢false (sym fits))
class_below world name long_base fits = absurd (true≢false (sym fits))
class_below world name float_base fits = absurd (true≢false (sym fits))
class_below world name double_base fits = absurd (true≢false (sym fits))
class_below world name (class_base low) fits = (low, refl, fits)

pub base_named : (base : Base) (name : List ℕ) → name_of_base base ≡ Some name → base ≡ class_base name
base_named bool_base name e = absurd (none-some name e)
base_named byte_base name e = absurd (none-some name e)
base_named char_base name e = absurd (none-some name e)
base_named short_base name e = absurd (none-some name e)
base_named int_base name e = absurd (none-some name e)
base_named long_base name e = absurd (none-some name e)
base_named float_base name e = absurd (none-some name e)
base_named double_base name e = absurd (none-some name e)
base_named (class_base other) name e = ap class_base (same_Some other name e)

-- ---- classes that are there

below_is : (world : World) (lower name : List ℕ) (low high : ℕ) → number_in world.classes lower ≡ Some low → number_in world.classes name ≡ Some high
    → is_below world lower name ≡ (bytes_eq lower name || is_super world.supers low high)
below_is world lower name low high at there = rw (at, there) refl

below_none : (world : World) (lower name : List ℕ) (low : ℕ) → number_in world.classes lower ≡ Some low → number_in world.classes name ≡ None
    → is_below world lower name ≡ (bytes_eq lower name || false)
below_none world lower name low at none = rw (at, none) refl

or_cases : (a b : Bool) → (a || b) ≡ true → (a ≡ true) ⊎ (b ≡ true)
or_cases true b e = inl refl
or_cases false b e = inr e

or_right : (a b : Bool) → b ≡ true → (a || b) ≡ true
or_right true b e = refl
or_right false b e = e

and_cases : (a b : Bool) → (a && b) ≡ true → (a ≡ true) × (b ≡ true)
and_cases true b e = (refl, e)
and_cases false b e = absurd (true≢false (sym e))

and_true : (a b : Bool) → a ≡ true → b ≡ true → (a && b) ≡ true
and_true true b e f = f
and_true false b e f = absurd (true≢false (sym e))

-- no array is a subtype of what is no class
pub no_array_fits : (base : Base) → None ≡ name_of_base base → fits_array base ≡ false
no_array_fits bool_base none = refl
no_array_fits byte_base none = refl
no_array_fits char_base none = refl
no_array_fits short_base none = refl
no_array_fits int_base none = refl
no_array_fits long_base none = refl
no_array_fits float_base none = refl
no_array_fits double_base none = refl
no_array_fits (class_base name) none = absurd (none-some name none)

-- whether there is a longer array, by dimensions as far as they fit 32 bits
pub longer_told : (base : Base) (name : List ℕ) (dims told less longest : ℕ) → Some name ≡ name_of_base base → is_above_arrays name ≡ true → told ≡ min dims 4294967295 → less ≡ longest - 1 → longest < 2 ^ 32
    → nat_lt told less ≡ (fits_array base && nat_lt (suc dims) longest)
longer_told base name dims told less longest named above count is fits = same_test (nat_lt told less) (fits_array base && nat_lt (suc dims) longest) there back where
  fits_it : fits_array base ≡ true
  fits_it = ap fits_array (base_named base name (sym named)) ∙ above

  there : nat_lt told less ≡ true → (fits_array base && nat_lt (suc dims) longest) ≡ true
  there e = (let below : told < less = (Decides-ltb told less).0 e in and_true (fits_array base) (nat_lt (suc dims) longest) fits_it ((Decides-ltb (suc dims) longest).1 (omega (arith, below, count, is, fits))))

  back : (fits_array base && nat_lt (suc dims) longest) ≡ true → nat_lt told less ≡ true
  back e = (let below : suc dims < longest = (Decides-ltb (suc dims) longest).0 (and_cases (fits_array base) (nat_lt (suc dims) longest) e).1 in (Decides-ltb told less).1 (omega (arith, below, count, is)))

pub not_longer : (base : Base) (name : List ℕ) (dims longest : ℕ) → Some name ≡ name_of_base base → is_above_arrays name ≡ false → false ≡ (fits_array base && nat_lt (suc dims) longest)
not_longer base name dims longest named above =
    sym (ap (λ (b : Bool). b && nat_lt (suc dims) longest) (ap fits_array (base_named base name (sym named)) ∙ above))

pub none_longer : (base : Base) (dims longest : ℕ) → None ≡ name_of_base base → false ≡ (fits_array base && nat_lt (suc dims) longest)
none_longer base dims longest none = sym (ap (λ (b : Bool). b && nat_lt (suc dims) longest) (no_array_fits base none))

-- a class below that of a name has a number, and so has the other
lower_class : (world : World) → IsLinked world → (lower name : List ℕ) (low : ℕ) → number_in world.classes lower ≡ Some low → is_below world lower name ≡ true
    → (high : ℕ) × (number_in world.classes name ≡ Some high) × (is_super world.supers low high ≡ true)
lower_class world linked lower name low at below = go (number_in world.classes name) refl where
  same_name : bytes_eq lower name ≡ true → number_in world.classes name ≡ Some low
  same_name e = ap (λ (n : List ℕ). number_in world.classes n) (sym ((bytes_eq-Decides lower name).0 e)) ∙ at

  inside : low < length world.classes
  inside = number_inside world.classes lower low at

  itself : is_super world.supers low low ≡ true
  itself = (linked.supers.each low low inside).1 ([], refl)

  go : (o : Option ℕ) → number_in world.classes name ≡ o → (high : ℕ) × (number_in world.classes name ≡ Some high) × (is_super world.supers low high ≡ true)
  go None none = elim (or_cases (bytes_eq lower name) false (sym (below_none world lower name low at none) ∙ below)) [
    | inl e ↦ absurd (none-some low (sym none ∙ same_name e))
    | inr e ↦ absurd (true≢false (sym e))
  ]
  go (Some high) there = elim (or_cases (bytes_eq lower name) (is_super world.supers low high) (sym (below_is world lower name low high at there) ∙ below)) [
    | inl e ↦ (let same : high ≡ low = same_Some high low (sym there ∙ same_name e) in (high, there, subst (λ (n : ℕ). is_super world.supers low n ≡ true) (sym same) itself))
    | inr e ↦ (high, there, e)
  ]

-- the number of a class's own name
own_number : (world : World) → IsLinked world → (low : ℕ) (class : Class) → slice_get world.classes low ≡ Some class → number_in world.classes class.name ≡ Some low
own_number world linked low class there = go (number_in world.classes class.name) refl where
  go : (o : Option ℕ) → number_in world.classes class.name ≡ o → number_in world.classes class.name ≡ Some low
  go None none = absurd (none_named world.classes class.name none low class there refl)
  go (Some n) at = at ∙ ap (λ (k : ℕ). Some k) (number_of_named world.classes class.name n low class linked.names at there refl)

number_of_class : (classes : List Class) (name : List ℕ) → IsElement classes (class_base name) → (number : ℕ) × (number_in classes name ≡ Some number)
number_of_class classes name is = go (number_in classes name) refl is where
  go : (o : Option ℕ) → number_in classes name ≡ o → IsSome o → (number : ℕ) × (number_in classes name ≡ Some number)
  go None at some = absurd (true≢false (sym some))
  go (Some n) at some = (n, at)

reach_class : (classes : List Class) (most : List ℕ) (name : List ℕ) (number : ℕ) → number_in classes name ≡ Some number → reach classes most (class_base name) ≡ slice_index_or most (number + 2) 0
reach_class classes most name number at = ap (λ (o : Option ℕ). option_map_or (λ (e : ℕ). slice_index_or most e 0) (option_map (λ (n : ℕ). n + 2) o) 0) at

-- ---- arrays below a type

array_type : (world : World) (of type : ExactType) → is_array_below world of type ≡ true → (component : JType) × (type ≡ exact.Array component)
array_type world of (exact.Class name) e = absurd (true≢false (sym e))
array_type world of (exact.Array component) e = (component, refl)

long_array : (type : ExactType) (dims : ℕ) → dims < (shape_of_exact type).dims → (component : JType) × (type ≡ exact.Array component)
long_array (exact.Class name) dims less = absurd (omega (arith, less))
long_array (exact.Array component) dims less = (component, refl)

module _ (world : World) (linked : IsLinked world) (most : List ℕ) (longest : ℕ)
    (each : (element : ℕ) → slice_index_or most element 0 ≡ most_over world.classes element world.universe) (longest_is : longest ≡ longest_of world.universe) where
  -- below a class
  pub by_class : (name : List ℕ) (told : Bool) → told ≡ (nat_lt 0 longest && is_above_arrays name) → told ≡ list_any (is_array_below world (exact.Class name)) world.universe
  by_class name told is = is ∙ same_test (nat_lt 0 longest && is_above_arrays name) (list_any (is_array_below world (exact.Class name)) world.universe) there back where
    there : (nat_lt 0 longest && is_above_arrays name) ≡ true → list_any (is_array_below world (exact.Class name)) world.universe ≡ true
    there e =
        let both = and_cases (nat_lt 0 longest) (is_above_arrays name) e in
        let some : 0 < longest = (Decides-ltb 0 longest).0 both.0 in
        let found = has_longest world.universe 0 (omega (arith, some, longest_is)) in
        let array = long_array found.0 0 found.2 in
        any_true (is_array_below world (exact.Class name)) world.universe found.0 found.1 (ap (is_array_below world (exact.Class name)) array.1 ∙ both.1)

    back : list_any (is_array_below world (exact.Class name)) world.universe ≡ true → (nat_lt 0 longest && is_above_arrays name) ≡ true
    back e =
        let found = any_some (is_array_below world (exact.Class name)) world.universe e in
        let array = array_type world (exact.Class name) found.0 found.2 in
        let above : is_above_arrays name ≡ true = sym (ap (is_array_below world (exact.Class name)) array.1) ∙ found.2 in
        let long : (shape_of_exact found.0).dims ≤ longest_of world.universe = longest_has world.universe found.0 found.1 in
        let dims : (shape_of_exact found.0).dims ≡ suc (shape_of array.0).dims = ap (λ (t : ExactType). (shape_of_exact t).dims) array.1 in
        and_true (nat_lt 0 longest) (is_above_arrays name) ((Decides-ltb 0 longest).1 (omega (arith, long, dims, longest_is))) above

  module _ (component : JType) where
    -- an array as long that is a subtype
    abbrev IsAsLong : Type 0
    IsAsLong = (other : JType) × Has world.universe (exact.Array other) × ((shape_of other).dims ≡ (shape_of component).dims) × (fits_base world (shape_of other).base (shape_of component).base ≡ true)

    as_long_there : IsAsLong → list_any (is_array_below world (exact.Array component)) world.universe ≡ true
    as_long_there h =
        any_true (is_array_below world (exact.Array component)) world.universe (exact.Array h.0) h.1
        (ap (λ (n : ℕ). fits_shape world n (shape_of h.0).base (shape_of component).dims (shape_of component).base) h.2
        ∙ as_long world (shape_of h.0).base (shape_of component).base (shape_of component).dims ∙ h.3)

    longer_there : (fits_array (shape_of component).base && nat_lt (suc (shape_of component).dims) longest) ≡ true → list_any (is_array_below world (exact.Array component)) world.universe ≡ true
    longer_there e =
        let both = and_cases (fits_array (shape_of component).base) (nat_lt (suc (shape_of component).dims) longest) e in
        let far : suc (shape_of component).dims < longest = (Decides-ltb (suc (shape_of component).dims) longest).0 both.1 in
        let found = has_longest world.universe (suc (shape_of component).dims) (omega (arith, far, longest_is)) in
        let array = long_array found.0 (suc (shape_of component).dims) found.2 in
        let is : (shape_of_exact found.0).dims ≡ suc (shape_of array.0).dims = ap (λ (t : ExactType). (shape_of_exact t).dims) array.1 in
        let more = found.2 in
        let less : (shape_of component).dims < (shape_of array.0).dims = omega (arith, more, is) in
        any_true (is_array_below world (exact.Array component)) world.universe found.0 found.1
        (ap (is_array_below world (exact.Array component)) array.1 ∙ longer world (shape_of array.0).base (shape_of component).base (shape_of array.0).dims (shape_of component).dims less ∙ both.0)

    -- there is no other
    split : list_any (is_array_below world (exact.Array component)) world.universe ≡ true
        → ((fits_array (shape_of component).base && nat_lt (suc (shape_of component).dims) longest) ≡ true) ⊎ IsAsLong
    split e =
        let found = any_some (is_array_below world (exact.Array component)) world.universe e in
        let array = array_type world (exact.Array component) found.0 found.2 in
        sort array.0 (subst (λ (t : ExactType). Has world.universe t) array.1 found.1) (sym (ap (is_array_below world (exact.Array component)) array.1) ∙ found.2)
      where
        sort : (other : JType) → Has world.universe (exact.Array other) → fits_shape world (shape_of other).dims (shape_of other).base (shape_of component).dims (shape_of component).base ≡ true
            → ((fits_array (shape_of component).base && nat_lt (suc (shape_of component).dims) longest) ≡ true) ⊎ IsAsLong
        sort other has fits = elim (cases_order (shape_of other).dims (shape_of component).dims) [
          | inl same ↦ inr (
            other,
            has,
            same,
            sym (ap (λ (n : ℕ). fits_shape world n (shape_of other).base (shape_of component).dims (shape_of component).base) same ∙ as_long world (shape_of other).base (shape_of component).base (shape_of component).dims)
                ∙ fits,
          )
          | inr (inl less) ↦ absurd (true≢false (sym fits ∙ shorter world (shape_of other).base (shape_of component).base (shape_of other).dims (shape_of component).dims less))
          | inr (inr more) ↦ (
              let long : suc (shape_of other).dims ≤ longest_of world.universe = longest_has world.universe (exact.Array other) has in
              inl (and_true (fits_array (shape_of component).base) (nat_lt (suc (shape_of component).dims) longest)
              (sym (longer world (shape_of other).base (shape_of component).base (shape_of other).dims (shape_of component).dims more) ∙ fits)
              ((Decides-ltb (suc (shape_of component).dims) longest).1 (omega (arith, long, more, longest_is))))
              )
        ]

    -- where there is no longer one
    short : (told : Bool) → told ≡ (fits_array (shape_of component).base && nat_lt (suc (shape_of component).dims) longest) → told ≡ false
        → list_any (is_array_below world (exact.Array component)) world.universe ≡ true → IsAsLong
    short told is none e = elim (split e) [ inl h ↦ absurd (true≢false (sym (is ∙ h) ∙ none)) | inr h ↦ h ]

    pub by_longer : (told : Bool) → told ≡ (fits_array (shape_of component).base && nat_lt (suc (shape_of component).dims) longest) → told ≡ true
        → true ≡ list_any (is_array_below world (exact.Array component)) world.universe
    by_longer told is e = sym (longer_there (sym is ∙ e))

    -- ---- the element is a class

    low_there : (name : List ℕ) → (shape_of component).base ≡ class_base name → IsAsLong → (many : ℕ) → many ≤ (shape_of component).dims → HasLowArray world most name many
    low_there name is h many few =
        let below = class_below world name (shape_of h.0).base (subst (λ (b : Base). fits_base world (shape_of h.0).base b ≡ true) is h.3) in
        let named : IsNamedArray world.classes h.0 = (linked.universe.are_arrays.same h.0).0 (has_array world linked.universe h.0 h.1) in
        let low = number_of_class world.classes below.0 (subst (IsElement world.classes) below.1 named.element) in
        let high = lower_class world linked below.0 name low.0 low.1 below.2 in
        let far : (shape_of h.0).dims < reach world.classes most (shape_of h.0).base = reached world linked.universe most each h.0 h.1 in
        let where_is : reach world.classes most (shape_of h.0).base ≡ slice_index_or most (low.0 + 2) 0 = ap (reach world.classes most) below.1 ∙ reach_class world.classes most below.0 low.0 low.1 in
        let same = h.2 in
        (high.0, high.1, low.0, number_inside world.classes below.0 low.0 low.1, high.2, omega (arith, far, where_is, same, few))

    low_back : (name : List ℕ) → (shape_of component).base ≡ class_base name → (high low : ℕ) → number_in world.classes name ≡ Some high → low < length world.classes
        → is_super world.supers low high ≡ true → (shape_of component).dims < slice_index_or most (low + 2) 0 → IsAsLong
    low_back name is high low at inside above far =
        let class = get_there world.classes low inside in
        let own : number_in world.classes class.0.name ≡ Some low = own_number world linked low class.0 class.1 in
        let shape : shape_of (arrays_of (shape_of component).dims (class_base class.0.name)) ≡ record { dims = (shape_of component).dims; base = class_base class.0.name } =
        shape_of-arrays_of (shape_of component).dims (class_base class.0.name) in
        let reaches : (shape_of component).dims < reach world.classes most (class_base class.0.name) = subst (λ (n : ℕ). (shape_of component).dims < n) (sym (reach_class world.classes most class.0.name low own)) far in
        let below : is_below world class.0.name name ≡ true = below_is world class.0.name name low high own at ∙ or_right (bytes_eq class.0.name name) (is_super world.supers low high) above in (
          arrays_of (shape_of component).dims (class_base class.0.name),
          reaching world linked.universe most each (arrays_of (shape_of component).dims (class_base class.0.name)) (subst (λ (s : Shape). s.dims < reach world.classes most s.base) (sym shape) reaches),
          ap (λ (s : Shape). s.dims) shape,
          subst (λ (s : Shape). fits_base world s.base (shape_of component).base ≡ true) (sym shape) (subst (λ (b : Base). fits_base world (class_base class.0.name) b ≡ true) (sym is) below),
        )

    pub by_low : (longer_told told : Bool) (name : List ℕ) (many : ℕ) → longer_told ≡ (fits_array (shape_of component).base && nat_lt (suc (shape_of component).dims) longest) → longer_told ≡ false
        → Some name ≡ name_of_base (shape_of component).base → many ≡ min (shape_of component).dims 4294967295 → longest < 2 ^ 32 → (told ≡ true) ↔ HasLowArray world most name many
        → told ≡ list_any (is_array_below world (exact.Array component)) world.universe
    by_low longer_told told name many is none named count fits low = same_test told (list_any (is_array_below world (exact.Array component)) world.universe) there back where
      is_class : (shape_of component).base ≡ class_base name
      is_class = base_named (shape_of component).base name (sym named)

      there : told ≡ true → list_any (is_array_below world (exact.Array component)) world.universe ≡ true
      there e =
          let h : HasLowArray world most name many = low.0 e in
          let most_is : slice_index_or most (h.2 + 2) 0 ≡ most_over world.classes (h.2 + 2) world.universe = each (h.2 + 2) in
          let no_more : most_over world.classes (h.2 + 2) world.universe ≤ longest_of world.universe = most_longest world.classes (h.2 + 2) world.universe in
          let far = h.5 in
          as_long_there (low_back name is_class h.0 h.2 h.1 h.3 h.4 (omega (arith, far, count, most_is, no_more, longest_is, fits)))

      back : list_any (is_array_below world (exact.Array component)) world.universe ≡ true → told ≡ true
      back e = low.1 (low_there name is_class (short longer_told is none e) many (omega (arith, count)))

    -- ---- the element is none

    pub by_own : (longer_told told : Bool) → longer_told ≡ (fits_array (shape_of component).base && nat_lt (suc (shape_of component).dims) longest) → longer_told ≡ false
        → None ≡ name_of_base (shape_of component).base → (told ≡ true) ↔ Has world.universe (exact.Array component)
        → told ≡ list_any (is_array_below world (exact.Array component)) world.universe
    by_own longer_told told is none named own = same_test told (list_any (is_array_below world (exact.Array component)) world.universe) there back where
      there : told ≡ true → list_any (is_array_below world (exact.Array component)) world.universe ≡ true
      there e =
          let has : Has world.universe (exact.Array component) = own.0 e in
          let array : IsNamedArray world.classes component = (linked.universe.are_arrays.same component).0 (has_array world linked.universe component has) in
          as_long_there (component, has, refl, self_base world world.classes (shape_of component).base array.element (sym named))

      back : list_any (is_array_below world (exact.Array component)) world.universe ≡ true → told ≡ true
      back e =
          let h : IsAsLong = short longer_told is none e in
          let array : IsNamedArray world.classes h.0 = (linked.universe.are_arrays.same h.0).0 (has_array world linked.universe h.0 h.1) in
          let same : (shape_of h.0).base ≡ (shape_of component).base = same_base world world.classes (shape_of h.0).base (shape_of component).base array.element h.3 (sym named) in
          let one : h.0 ≡ component = sym (arrays_of-shape_of h.0) ∙ ap₂ arrays_of h.2 same ∙ arrays_of-shape_of component in
          own.1 (subst (λ (c : JType). Has world.universe (exact.Array c)) one h.1)
