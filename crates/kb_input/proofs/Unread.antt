-- The input in which nothing was read keeps the types: 0 and null are values of every type that a slot can have.
use Rattle.std.proofs.Common.{◌≡◌, ℕ, zero, suc, ◌<◌, ◌^◌, inl, inr, pos, Bool, true, false, true≢false, ◌&&◌, ◌||◌, not, cond, List, [], ◌∷◌, ◌++◌, map, filter, reverse, replicate, Option, Some, None, slice_get, refl, sym, subst}
use Rattle.std.proofs.lemmas.List.{length-replicate}
use Rattle.std.specs.Int.{w32}
use Rattle.std.specs.Int.RustNames.{FitsSigned}
use Rattle.std.specs.List.{AllByRecursion, list_any, flat_map, slice_index_or}
use Rattle.std.specs.Option.{option_map_or}
use Rattle.kb_arith.proofs.Laws.{truth-fits}
use Rattle.kb_class.proofs.Lists.{has_none, has_cases, has_either, has_mapped}
use Rattle.kb_class.specs.Class.{Class}
use Rattle.kb_class.specs.Naming.{Has}
use Rattle.kb_class.specs.declared.members.FieldInfo.{FieldInfo}
use Rattle.kb_class.specs.Members.{is_static}
use Rattle.kb_heap.specs.declared.heap.Heap.{Heap}
use Rattle.kb_classes.specs.Slots.{Declared, has_slot_type, has_slot, slots_among, own_slots_there, own_slots_at, numbered, slots_of}
use Rattle.kb_classes.specs.Universe.{IsElement, IsUniverse, AreNamedPlatform, exact_class, given_types, is_given, is_concrete}
use Rattle.kb_classes.specs.World.{World, number_in}
use Rattle.kb_classes.specs.declared.slots.FieldSlot.{FieldSlot}
use Rattle.kb_names.specs.Types.{shape_of}
use Rattle.kb_names.specs.declared.types.ExactType.{ExactType}
use Rattle.kb_names.specs.declared.types.ExactType.TheVariants as exact
use Rattle.kb_names.specs.declared.types.JType.{JType}
use Rattle.kb_names.specs.declared.types.JType.TheVariants as types
use Rattle.kb_semantics.specs.Inputs.{HasValuesOf}
use Rattle.kb_semantics.specs.Values.{IsValueOf, AreValuesOf, default_of, slots_of_class}
use Rattle.kb_resolution.specs.LeftOut.{is_left_out}
use Rattle.kb_input.specs.Emitted.{unread_object}

-- ---- types that slots have

abbrev pub HasSlots : JType → Type 0
HasSlots type = has_slot_type type ≡ true

abbrev IsSlotOf : Declared → Type 0
IsSlotOf d = HasSlots d.field.kind

abbrev pub IsTypedSlot : FieldSlot → Type 0
IsTypedSlot slot = HasSlots slot.kind

all_joined : {A : Type 0} (P : A → Type 0) (xs ys : List A) → AllByRecursion P xs → AllByRecursion P ys → AllByRecursion P (xs ++ ys)
all_joined P [] ys one other = other
all_joined P (x ∷ xs) ys one other = (one.0, all_joined P xs ys one.1 other)

all_numbered : (first : ℕ) (ds : List Declared) → AllByRecursion IsSlotOf ds → AllByRecursion IsTypedSlot (numbered first ds)
all_numbered first [] all = tt
all_numbered first (d ∷ ds) all = (all.0, all_numbered (suc first) ds all.1)

all_among : (number : ℕ) (fields : List FieldInfo) → AllByRecursion IsSlotOf (slots_among number fields)
all_among number [] = tt
all_among number (field ∷ fields) = go (all_among number fields) (has_slot field) refl
  where
    second : (a b : Bool) → (a && b) ≡ true → b ≡ true
    second true b e = e
    second false b e = absurd (true≢false (sym e))

    go : AllByRecursion IsSlotOf (slots_among number fields) → (b : Bool) → has_slot field ≡ b
        → AllByRecursion IsSlotOf (map (λ (f : FieldInfo). record { class = number; field = f }) (cond b (field ∷ filter has_slot fields) (filter has_slot fields)))
    go later false e = later
    go later true e = (second (not (is_static field.access)) (has_slot_type field.kind) e, later)

all_there : (number : ℕ) (class : Option Class) → AllByRecursion IsSlotOf (own_slots_there number class)
all_there number None = tt
all_there number (Some class) = all_among number class.fields

all_along : (classes : List Class) (chain : List ℕ) → AllByRecursion IsSlotOf (flat_map (own_slots_at classes) chain)
all_along classes [] = tt
all_along classes (number ∷ chain) =
    all_joined IsSlotOf (own_slots_at classes number) (flat_map (own_slots_at classes) chain) (all_there number (slice_get classes number)) (all_along classes chain)

pub slots_typed : (world : World) (name : List ℕ) → AllByRecursion IsTypedSlot (slots_of_class world name)
slots_typed world name = go (number_in world.classes name)
  where
    go : (number : Option ℕ) → AllByRecursion IsTypedSlot (option_map_or (slots_of world) number [])
    go None = tt
    go (Some number) =
        all_numbered 0 (flat_map (own_slots_at world.classes) (reverse (slice_index_or world.chains number [])))
        (all_along world.classes (reverse (slice_index_or world.chains number [])))

-- ---- default values

pub zero_fits : FitsSigned w32 (pos 0)
zero_fits = truth-fits false

pub default_typed : (world : World) (heap : Heap) (type : JType) → HasSlots type → IsValueOf world heap type (default_of type)
default_typed world heap types.Bool has = inl refl
default_typed world heap types.Int has = zero_fits
default_typed world heap (types.Class name) has = tt
default_typed world heap (types.Array component) has = tt
default_typed world heap _ has = absurd (true≢false (sym has))

pub defaults_typed : (world : World) (heap : Heap) (kinds : List JType) → AllByRecursion HasSlots kinds → AreValuesOf world heap kinds (map default_of kinds)
defaults_typed world heap [] has = tt
defaults_typed world heap (type ∷ kinds) has = (default_typed world heap type has.0, defaults_typed world heap kinds has.1)

slot_defaults : (world : World) (heap : Heap) (slots : List FieldSlot) → AllByRecursion IsTypedSlot slots
    → AreValuesOf world heap (map (λ (slot : FieldSlot). slot.kind) slots) (map (λ (slot : FieldSlot). default_of slot.kind) slots)
slot_defaults world heap [] has = tt
slot_defaults world heap (slot ∷ slots) has = (default_typed world heap slot.kind has.0, slot_defaults world heap slots has.1)

element_defaults : (world : World) (heap : Heap) (component : JType) (count : ℕ) → HasSlots component → AllByRecursion (IsValueOf world heap component) (replicate count (default_of component))
element_defaults world heap component zero has = tt
element_defaults world heap component (suc count) has = (default_typed world heap component has, element_defaults world heap component count has)

-- ---- objects

-- an array of the universe has a component that slots can have
element_has_slots : (classes : List Class) (component : JType) → IsElement classes (shape_of component).base → HasSlots component
element_has_slots classes types.Bool e = refl
element_has_slots classes types.Int e = refl
element_has_slots classes (types.Class name) e = refl
element_has_slots classes (types.Array component) e = refl
element_has_slots classes _ e = absurd e

-- the exact type is one whose slots have types that slots can have
abbrev pub HasTypedSlots : ExactType → Type 0
HasTypedSlots (exact.Class name) = Unit {0}
HasTypedSlots (exact.Array component) = HasSlots component

class_no_array : (class : Class) (component : JType) → exact_class class ≡ exact.Array component → ⊥
class_no_array class component e = absurd cc

array_inside : (one other : JType) → exact.Array one ≡ exact.Array other → one ≡ other
array_inside one other e = cc

-- an array of the universe is among its arrays
given_no_array : (classes : List Class) (component : JType) → Has (given_types classes) (exact.Array component) → ⊥
given_no_array classes component h = (let found = has_mapped exact_class (filter (λ class. is_given class && is_concrete class) classes) (exact.Array component) h in class_no_array found.0 component found.2)

platform_no_array : (all classes : List Class) (kinds : List ExactType) (component : JType) → AreNamedPlatform all classes kinds → Has kinds (exact.Array component) → ⊥
platform_no_array all [] kinds component are h = has_none (exact.Array component) (subst (λ (ks : List ExactType). Has ks (exact.Array component)) are h)
platform_no_array all (class ∷ classes) kinds component (inl a) h =
    elim (has_cases (exact_class class) (exact.Array component) a.1 (subst (λ (ks : List ExactType). Has ks (exact.Array component)) a.2 h)) [
      | inl e ↦ class_no_array class component e
      | inr g ↦ platform_no_array all classes a.1 component a.3 g
    ]
platform_no_array all (class ∷ classes) kinds component (inr b) h = platform_no_array all classes kinds component b.1 h

array_among : (world : World) (u : IsUniverse world.classes world.universe) (component : JType) → Has world.universe (exact.Array component) → Has u.arrays component
array_among world u component h =
    elim (has_either (given_types world.classes ++ u.platform) (map exact.Array u.arrays) (exact.Array component) (subst (λ (ks : List ExactType). Has ks (exact.Array component)) u.parts h)) [
      | inl front ↦ absurd (elim (has_either (given_types world.classes) u.platform (exact.Array component) front) [
        | inl g ↦ given_no_array world.classes component g
        | inr p ↦ platform_no_array world.classes world.classes u.platform component u.are_platform p
      ])
      | inr array ↦ component_of (has_mapped exact.Array u.arrays (exact.Array component) array)
    ]
  where
    component_of : ((c : JType) × Has u.arrays c × (exact.Array c ≡ exact.Array component)) → Has u.arrays component
    component_of found = subst (λ (c : JType). Has u.arrays c) (array_inside found.0 component found.2) found.1

pub universe_typed : (world : World) → IsUniverse world.classes world.universe → (kind : ExactType) → Has world.universe kind → HasTypedSlots kind
universe_typed world u (exact.Class name) h = tt
universe_typed world u (exact.Array component) h = element_has_slots world.classes component (named_array (array_among world u component h))
  where
    named_array : Has u.arrays component → IsElement world.classes (shape_of component).base
    named_array there = ((u.are_arrays.same component).0 there).element

pub unread_typed : (world : World) (heap : Heap) (kind : ExactType) (count : ℕ) → HasTypedSlots kind → count < 2 ^ 31 → HasValuesOf world heap kind (unread_object world kind count).values
unread_typed world heap (exact.Class name) count has short = slot_defaults world heap (slots_of_class world name) (slots_typed world name)
unread_typed world heap (exact.Array component) count has short =
    (subst (λ (n : ℕ). n < 2 ^ 31) (sym (length-replicate count (default_of component))) short, element_defaults world heap component count has)

pub unread_kind : (world : World) (kind : ExactType) (count : ℕ) → (unread_object world kind count).kind ≡ kind
unread_kind world (exact.Class name) count = refl
unread_kind world (exact.Array component) count = refl

-- ---- arguments

left_in : (type : JType) → is_left_out type ≡ false → HasSlots type
left_in types.Bool e = refl
left_in types.Int e = refl
left_in (types.Class name) e = refl
left_in (types.Array component) e = refl
left_in _ e = absurd (true≢false e)

pub params_typed : (params : List JType) → list_any is_left_out params ≡ false → AllByRecursion HasSlots params
params_typed [] e = tt
params_typed (type ∷ params) e = go (λ (g : list_any is_left_out params ≡ false). params_typed params g) (is_left_out type) refl e
  where
    go : (list_any is_left_out params ≡ false → AllByRecursion HasSlots params) → (b : Bool) → is_left_out type ≡ b → (b || list_any is_left_out params) ≡ false
        → HasSlots type × AllByRecursion HasSlots params
    go again true is f = absurd (true≢false f)
    go again false is f = (left_in type is, again f)
