-- No literal is a Throwable: above java/lang/String stand java/lang/Object and two interfaces of the table of platform classes.
use Rattle.std.proofs.Common.{◌≡◌, ℕ, zero, suc, ◌+◌, ◌==◌, ◌⊎◌, inl, inr, Bool, true, false, true≢false, ◌||◌, List, [], ◌∷◌, ◌++◌, length, Option, Some, None, slice_get, slice_index_or, codes, refl, sym, ap, subst, ◌∙◌}
use Rattle.std.specs.Option.{option_map}
use Rattle.std.proofs.lemmas.Bool.{eqb-true, false_from_ne_true}
use Rattle.std.proofs.lemmas.Option.{same_Some, slice_get-map}
use Rattle.std.proofs.lemmas.Slice.Eq.{bytes_eq-Decides}
use Rattle.kb_class.specs.Class.{Class}
use Rattle.kb_class.specs.Naming.{Has}
use Rattle.kb_class.specs.Platform.{PlatformClass, comparable, interface, object_name, platform_table, serializable, throwable}
use Rattle.kb_class.proofs.Lists.{has_cases, has_first, has_later, has_none}
use Rattle.kb_classes.specs.Rules.{name_of}
use Rattle.kb_classes.specs.Subtypes.{direct_supers, fits, is_below, is_super, numbers_of, parent_names, super_names, with_number}
use Rattle.kb_classes.specs.World.{World, number_in}
use Rattle.kb_classes.proofs.MethodNumbers.{get_behind, named_at}
use Rattle.kb_classes.proofs.Named.{number_inside}
use Rattle.kb_heap.specs.Heap.{literal}
use Rattle.kb_link.specs.Links.{ArePlatform, HavePlatform, IsLinked}
use Rattle.kb_link.proofs.Above.{direct_at}
use Rattle.kb_names.specs.declared.types.JType.TheVariants as types
use Rattle.kb_order.specs.Order.{Climbs, stands}

-- ---- the numbers of names

-- a number among those of some names is that of one of them
stands_named : (classes : List Class) (names : List (List ℕ)) (high : ℕ) → stands high (numbers_of classes names) ≡ true → (name : List ℕ) × Has names name × (number_in classes name ≡ Some high)
stands_named classes [] high there = absurd (true≢false (sym there))
stands_named classes (name ∷ names) high there = go (stands_named classes names high) (number_in classes name) refl where
  Found : List (List ℕ) → Type 0
  Found all = (found : List ℕ) × Has all found × (number_in classes found ≡ Some high)

  later : Found names → Found (name ∷ names)
  later h = (h.0, has_later name h.0 names h.1, h.2)

  either : (stands high (numbers_of classes names) ≡ true → Found names) → (number : ℕ) → number_in classes name ≡ Some number → (b : Bool) → (number == high) ≡ b
      → (b || stands high (numbers_of classes names)) ≡ true → Found (name ∷ names)
  either behind number is true same among = (name, has_first name names, is ∙ ap (λ (n : ℕ). Some n) (eqb-true number high same))
  either behind number is false other among = later (behind among)

  go : (stands high (numbers_of classes names) ≡ true → Found names) → (o : Option ℕ) → number_in classes name ≡ o → Found (name ∷ names)
  go behind None is = later (behind (sym (ap (λ (o : Option ℕ). stands high (with_number o (numbers_of classes names))) is) ∙ there))
  go behind (Some number) is =
      either behind number is (number == high) refl (sym (ap (λ (o : Option ℕ). stands high (with_number o (numbers_of classes names))) is) ∙ there)

-- ---- rows of the table

abbrev string_name : List ℕ
string_name = codes "java/lang/String"

-- java/lang/String and what stands above it
abbrev IsAboveString : List ℕ → Type 0
IsAboveString name = (name ≡ string_name) ⊎ ((name ≡ object_name) ⊎ ((name ≡ serializable) ⊎ (name ≡ comparable)))

throwable_is_apart : IsAboveString throwable → ⊥
throwable_is_apart (inl e) = true≢false (sym ((bytes_eq-Decides throwable string_name).1 e))
throwable_is_apart (inr (inl e)) = true≢false (sym ((bytes_eq-Decides throwable object_name).1 e))
throwable_is_apart (inr (inr (inl e))) = true≢false (sym ((bytes_eq-Decides throwable serializable).1 e))
throwable_is_apart (inr (inr (inr e))) = true≢false (sym ((bytes_eq-Decides throwable comparable).1 e))

abbrev supers_of : PlatformClass → List (List ℕ)
supers_of row = parent_names row.parent ++ row.interfaces

-- a row with the name, above which only such classes stand
record HasRow (name : List ℕ) : Type 0 where
  place : ℕ
  row : PlatformClass
  there : slice_get platform_table place ≡ Some row
  named : row.name ≡ name
  supers : (super : List ℕ) → Has (supers_of row) super → IsAboveString super

abbrev row_at : ℕ → PlatformClass
row_at place = slice_index_or platform_table place (interface [])

only_object : (super : List ℕ) → Has (object_name ∷ []) super → IsAboveString super
only_object super has = elim (has_cases object_name super [] has) [
  | inl same ↦ inr (inl (sym same))
  | inr later ↦ absurd (has_none super later)
]

object_and_two : (super : List ℕ) → Has (object_name ∷ serializable ∷ comparable ∷ []) super → IsAboveString super
object_and_two super has = elim (has_cases object_name super (serializable ∷ comparable ∷ []) has) [
  | inl same ↦ inr (inl (sym same))
  | inr later ↦ elim (has_cases serializable super (comparable ∷ []) later) [
    | inl same ↦ inr (inr (inl (sym same)))
    | inr last ↦ elim (has_cases comparable super [] last) [
      | inl same ↦ inr (inr (inr (sym same)))
      | inr none ↦ absurd (has_none super none)
    ]
  ]
]

string_row : HasRow string_name
unfolding platform_table
string_row = record { place = 1; row = row_at 1; there = refl; named = refl; supers = object_and_two }

object_row : HasRow object_name
unfolding platform_table
object_row = record { place = 0; row = row_at 0; there = refl; named = refl; supers = λ super has. absurd (has_none super has) }

serializable_row : HasRow serializable
unfolding platform_table
serializable_row = record { place = 19; row = row_at 19; there = refl; named = refl; supers = only_object }

comparable_row : HasRow comparable
unfolding platform_table
comparable_row = record { place = 18; row = row_at 18; there = refl; named = refl; supers = only_object }

row_named : (name : List ℕ) → IsAboveString name → HasRow name
row_named name (inl e) = subst HasRow (sym e) string_row
row_named name (inr (inl e)) = subst HasRow (sym e) object_row
row_named name (inr (inr (inl e))) = subst HasRow (sym e) serializable_row
row_named name (inr (inr (inr e))) = subst HasRow (sym e) comparable_row

-- ---- rows as classes

-- the class of that number has the name of the row and what stands above it
record IsOfRow (classes : List Class) (number : ℕ) (row : PlatformClass) : Type 0 where
  class : Class
  there : slice_get classes number ≡ Some class
  name : class.name ≡ row.name
  supers : super_names class ≡ supers_of row

class_of_row : (first : ℕ) (table : List PlatformClass) (classes : List Class) (place : ℕ) (row : PlatformClass) → ArePlatform first table classes → slice_get table place ≡ Some row → IsOfRow classes place row
class_of_row first [] classes place row are at = absurd cc
class_of_row first (r ∷ table) [] place row are at = absurd are
class_of_row first (r ∷ table) (class ∷ classes) zero row are at =
    subst (IsOfRow (class ∷ classes) zero) (same_Some r row at)
    (record { class = class; there = refl; name = are.0.name; supers = λ i. parent_names (are.0.parent i) ++ are.0.interfaces i })
class_of_row first (r ∷ table) (class ∷ classes) (suc place) row are at =
    let behind = class_of_row (suc first) table classes place row are.1 at in
    record { class = behind.class; there = behind.there; name = behind.name; supers = behind.supers }

module _ (world : World) (linked : IsLinked world) where
  abbrev have : HavePlatform world.classes
  have = linked.loaded.platform

  -- the class of the name of such a row
  abbrev number_of : ℕ → ℕ
  number_of place = length have.own + place

  row_is_class : (place : ℕ) (row : PlatformClass) → slice_get platform_table place ≡ Some row → IsOfRow world.classes (number_of place) row
  row_is_class place row at =
      let is = class_of_row (length have.own) platform_table have.platform place row have.are_platform at in
      record {
        class = is.class;
        there = ap (λ (classes : List Class). slice_get classes (length have.own + place)) have.parts ∙ get_behind have.own have.platform place ∙ is.there;
        name = is.name;
        supers = is.supers;
      }

  -- what stands directly above such a class is such
  supers_are : (number : ℕ) (class : Class) → slice_get world.classes number ≡ Some class → IsAboveString class.name → (super : List ℕ) → Has (super_names class) super → IsAboveString super
  supers_are number class at is super has =
      let row = row_named class.name is in
      let there = row_is_class row.place row.row row.there in
      let same_number : number ≡ number_of row.place =
      linked.names number (number_of row.place) class.name (slice_get-map name_of world.classes number ∙ ap (λ (o : Option Class). option_map name_of o) at)
      (slice_get-map name_of world.classes (number_of row.place) ∙ ap (λ (o : Option Class). option_map name_of o) there.there ∙ ap (λ (n : List ℕ). Some n) (there.name ∙ row.named)) in
      let same : class ≡ there.class = same_Some class there.class (sym at ∙ ap (λ (n : ℕ). slice_get world.classes n) same_number ∙ there.there) in
      row.supers super (subst (λ (names : List (List ℕ)). Has names super) (ap super_names same ∙ there.supers) has)

  -- and so is what stands above it
  above_is : (path : List ℕ) (low high : ℕ) (class : Class) → slice_get world.classes low ≡ Some class → IsAboveString class.name → Climbs (direct_supers world.classes) low path high
      → (other : Class) × (slice_get world.classes high ≡ Some other) × IsAboveString other.name
  above_is [] low high class at is climbs = (class, subst (λ (n : ℕ). slice_get world.classes n ≡ Some class) climbs at, is)
  above_is (next ∷ path) low high class at is climbs =
      let found = stands_named world.classes (super_names class) next (subst (λ (numbers : List ℕ). stands next numbers ≡ true) (direct_at world.classes low class at) climbs.0) in
      let above = named_at world.classes found.0 next found.2 in
      above_is path next high above.0 above.1 (subst IsAboveString (sym above.2) (supers_are low class at is found.0 found.1)) climbs.1

  not_above : (low high : ℕ) → number_in world.classes string_name ≡ Some low → number_in world.classes throwable ≡ Some high → is_super world.supers low high ≡ true → ⊥
  not_above low high string thrown above =
      let bottom = named_at world.classes string_name low string in
      let top = named_at world.classes throwable high thrown in
      let way = (linked.supers.each low high (number_inside world.classes string_name low string)).0 above in
      let reached = above_is way.0 low high bottom.0 bottom.1 (inl bottom.2) way.1 in
      let same : reached.0 ≡ top.0 = same_Some reached.0 top.0 (sym reached.1 ∙ top.1) in
      throwable_is_apart (subst IsAboveString (ap name_of same ∙ top.2) reached.2)

  pub no_throwable : fits world literal.kind (types.Class throwable) ≡ false
  no_throwable = go (number_in world.classes string_name) (number_in world.classes throwable) refl refl where
    go : (low high : Option ℕ) → number_in world.classes string_name ≡ low → number_in world.classes throwable ≡ high → is_below world string_name throwable ≡ false
    go None high at above = rw at refl
    go (Some low) None at above = rw (at, above) refl
    go (Some low) (Some high) at above = rw (at, above) (false_from_ne_true (is_super world.supers low high) (not_above low high at above))
