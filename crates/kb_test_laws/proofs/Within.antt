-- Runs that stay within some methods and some types: each frame is one of such a method, and each object of such a type. The ways in
-- which a step goes on or ends stay within.
use Rattle.std.proofs.Common.{◌≡◌, ℕ, zero, suc, Bool, true, false, List, [], ◌∷◌, length, map, drop, Option, Some, None, slice_set, nat_lt, is_some, refl, if◌then◌else◌, option_and_then}
use Rattle.std.specs.List.{AllByRecursion}
use Rattle.std.specs.Option.{option_map_or}
use Rattle.kb_names.specs.Targets.{IsTarget}
use Rattle.kb_names.specs.declared.types.ExactType.{ExactType}
use Rattle.kb_names.specs.declared.types.ExactType.TheVariants as exact
use Rattle.kb_class.specs.declared.ids.MethodId.{MethodId}
use Rattle.kb_format.proofs.Lists.{all_joined}
use Rattle.kb_class.proofs.Lists.{all_has}
use Rattle.kb_heap.specs.declared.heap.Heap.{Heap}
use Rattle.kb_heap.specs.declared.heap.Object.{Object}
use Rattle.kb_heap.specs.declared.heap.Value.{Value}
use Rattle.kb_heap.specs.Heap.{object_at, object_with, with_object, with_object_at, with_value}
use Rattle.kb_semantics.specs.Config.{Config, Ends, Frame, Goes, Outcome, Setting, has_room, result_of, target_of}
use Rattle.kb_semantics.specs.Instructions.{with}
use Rattle.kb_semantics.specs.Values.{kept}
use Rattle.kb_semantics.specs.Ways.{array_store, arithmetic, branches, class_cast, counted, enters, goes_on, goes_to, hands_over, hands_to, index_outside, lands, nearest_handler, negative_size, null_pointer, pushed, returns_nothing, returns_value, standpoint, throws, throws_in}
use Rattle.kb_test_laws.specs.Texts.{EndingHasText}

-- ---- lists

all_dropped : {A : Type 0} (P : A → Type 0) (n : ℕ) (xs : List A) → AllByRecursion P xs → AllByRecursion P (drop n xs)
all_dropped P zero xs all = all
all_dropped P (suc n) [] all = tt
all_dropped P (suc n) (x ∷ xs) all = all_dropped P n xs all.1

all_set : {A : Type 0} (P : A → Type 0) (xs : List A) (i : ℕ) (y : A) → P y → AllByRecursion P xs → AllByRecursion P (slice_set xs i y)
all_set P [] i y one all = tt
all_set P (x ∷ xs) zero y one all = (one, all.1)
all_set P (x ∷ xs) (suc i) y one all = (all.0, all_set P xs i y one all.1)

module _ (s : Setting) (Kind : ExactType → Type 0) (Method : MethodId → Type 0) where
  -- ---- what stays

  abbrev pub IsOfKind : Object → Type 0
  IsOfKind object = Kind object.kind

  abbrev pub AreOfKinds : Heap → Type 0
  AreOfKinds heap = AllByRecursion IsOfKind heap.objects

  abbrev pub IsOfMethod : Frame → Type 0
  IsOfMethod frame = Method frame.method

  pub record IsWithin (c : Config) : Type 0 where
    pub frame : IsOfMethod c.frame
    pub callers : AllByRecursion IsOfMethod c.callers
    pub heap : AreOfKinds c.heap

  abbrev pub Stays : Outcome → Type 0
  Stays (Goes d) = IsWithin d
  Stays (Ends e) = AreOfKinds e.heap × EndingHasText e.ending

  -- the methods have texts, and what the machine throws is of such a type
  pub record IsClosed : Type 0 where
    pub named : (id : MethodId) → Method id → IsTarget (target_of s.world id)
    pub of_null : Kind (exact.Class null_pointer)
    pub of_division : Kind (exact.Class arithmetic)
    pub of_index : Kind (exact.Class index_outside)
    pub of_store : Kind (exact.Class array_store)
    pub of_cast : Kind (exact.Class class_cast)
    pub of_size : Kind (exact.Class negative_size)

  -- ---- heaps

  pub heap_set : (heap : Heap) (o slot : ℕ) (v : Value) → AreOfKinds heap → AreOfKinds (with_value heap o slot v)
  heap_set heap o slot v are = go (object_at heap o) refl where
    go : (found : Option Object) → object_at heap o ≡ found → AreOfKinds (with_object_at heap o slot v found)
    go None e = are
    go (Some object) e = all_set IsOfKind heap.objects o (object_with object slot v) (all_has IsOfKind heap.objects object are (o, e)) are

  pub heap_more : (heap : Heap) (object : Object) → AreOfKinds heap → IsOfKind object → AreOfKinds (with_object heap object)
  heap_more heap object are is = all_joined IsOfKind heap.objects (object ∷ []) are (is, tt)

  module _ (closed : IsClosed) (c : Config) (within : IsWithin c) where
    -- ---- tests

    pub with_stays : {A : Type 0} (it : Option A) (f : A → Outcome) → ((x : A) → it ≡ Some x → Stays (f x)) → Stays (with s c it f)
    with_stays None f h = (within.heap, closed.named c.frame.method within.frame)
    with_stays (Some x) f h = h x refl

    pub if_stays : (b : Bool) (x y : Outcome) → (b ≡ true → Stays x) → Stays y → Stays (if b then x else y)
    if_stays true x y hx hy = hx refl
    if_stays false x y hx hy = hy

    pub ill_typed_stays : AreOfKinds c.heap × IsTarget (target_of s.world c.frame.method)
    ill_typed_stays = (within.heap, closed.named c.frame.method within.frame)

    -- ---- goes on

    pub goes_on_stays : (next : ℕ) (locals : List (Option Value)) (stack : List Value) (heap : Heap) → AreOfKinds heap → Stays (goes_on s c next locals stack heap)
    unfolding goes_on
    goes_on_stays next locals stack heap are =
        if_stays (has_room s.world c.frame.method (length stack)) _ _ (λ e. record { frame = within.frame; callers = within.callers; heap = are }) ill_typed_stays

    counted_stays : (done : Option ℕ) (f : ℕ → Outcome) (y : Outcome) → ((n : ℕ) → Stays (f n)) → Stays y → Stays (option_map_or f done y)
    counted_stays None f y h hy = hy
    counted_stays (Some n) f y h hy = h n

    pub goes_to_stays : (frame : Frame) (callers : List Frame) (target : ℕ) (stack : List Value) (heap : Heap) → IsOfMethod frame → AllByRecursion IsOfMethod callers → AreOfKinds heap
        → Stays (goes_to s c frame callers target stack heap)
    unfolding goes_to
    goes_to_stays frame callers target stack heap is others are =
        if_stays (has_room s.world frame.method (length stack)) _ _
        (λ e. counted_stays (counted s.bounds frame.at target frame.transfers) _ _ (λ n. record { frame = is; callers = others; heap = are }) (within.heap, tt)) ill_typed_stays

    pub branches_stays : (next target : ℕ) (so : Bool) (stack : List Value) → Stays (branches s c next target so stack)
    branches_stays next target true stack = goes_to_stays c.frame c.callers target stack c.heap within.frame within.callers within.heap
    branches_stays next target false stack = goes_on_stays next c.frame.locals stack c.heap within.heap

    -- ---- throws

    lands_stays : (heap : Heap) (object target : ℕ) (frames : List Frame) → AreOfKinds heap → AllByRecursion IsOfMethod frames → Stays (lands s c heap object target frames)
    lands_stays heap object target [] are all = ill_typed_stays
    lands_stays heap object target (frame ∷ callers) are all = goes_to_stays frame callers target _ heap all.0 all.1 are

    found_stays : (found : Option (ℕ × ℕ)) (f : ℕ × ℕ → Outcome) (y : Outcome) → ((p : ℕ × ℕ) → Stays (f p)) → Stays y → Stays (option_map_or f found y)
    found_stays None f y h hy = hy
    found_stays (Some p) f y h hy = h p

    pub throws_in_stays : (heap : Heap) (object : ℕ) (kind : ExactType) → AreOfKinds heap → Stays (throws_in s c heap object kind)
    unfolding throws_in
    throws_in_stays heap object kind are =
        found_stays (nearest_handler s.world kind (map standpoint (c.frame ∷ c.callers))) _ _
        (λ p. lands_stays heap object p.1 (drop p.0 (c.frame ∷ c.callers)) are (all_dropped IsOfMethod p.0 (c.frame ∷ c.callers) (within.frame, within.callers))) (are, tt)

    pub throws_stays : (class : List ℕ) → Kind (exact.Class class) → Stays (throws s c class)
    unfolding throws
    throws_stays class is = throws_in_stays _ _ _ (heap_more c.heap _ within.heap is)

    -- ---- calls and returns

    pub enters_stays : (method : MethodId) (args rest : List Value) → Method method → Stays (enters s c method args rest)
    unfolding enters
    enters_stays method args rest is =
        if_stays (nat_lt (suc (length c.callers)) s.bounds.depth) _ _ (λ e. record { frame = is; callers = (within.frame, within.callers); heap = within.heap }) (within.heap, tt)

    hands_to_stays : (callers : List Frame) (result : Option Value) → AllByRecursion IsOfMethod callers → Stays (hands_to s c callers result)
    hands_to_stays [] result all = (within.heap, tt)
    hands_to_stays (caller ∷ more) result all =
        if_stays (has_room s.world caller.method (length (pushed result caller.stack))) _ _ (λ e. record { frame = all.0; callers = all.1; heap = within.heap }) ill_typed_stays

    pub hands_over_stays : (result : Option Value) → Stays (hands_over s c result)
    unfolding hands_over
    hands_over_stays result = hands_to_stays c.callers result within.callers

    pub returns_value_stays : (value : Value) → Stays (returns_value s c value)
    unfolding returns_value
    returns_value_stays value = with_stays (option_and_then (λ type. kept type value) (result_of s.world c.frame.method)) _ (λ v e. hands_over_stays (Some v))

    pub returns_nothing_stays : Stays (returns_nothing s c)
    unfolding returns_nothing
    returns_nothing_stays = if_stays (is_some (result_of s.world c.frame.method)) _ _ (λ e. ill_typed_stays) (hands_over_stays None)
