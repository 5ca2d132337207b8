-- What each instruction does stays within the methods and types, where what it makes and what it calls does.
use Rattle.std.proofs.Common.{◌≡◌, ℕ, ℤ, pos, negsuc, Bool, true, false, List, length, Option, Some, None, nat_le, is_some, slice_get, ap, ◌∙◌}
use Rattle.std.specs.Option.{option_map_or}
use Rattle.kb_names.specs.declared.types.ExactType.{ExactType}
use Rattle.kb_names.specs.declared.types.ExactType.TheVariants as exact
use Rattle.kb_names.specs.declared.types.JType.{JType}
use Rattle.kb_names.specs.declared.types.JType.TheVariants as types
use Rattle.kb_code.specs.declared.instruction.Elem.{Elem}
use Rattle.kb_code.specs.declared.instruction.Instr.{Instr}
use Rattle.kb_code.specs.declared.instruction.Instr.TheVariants as instrs
use Rattle.kb_class.specs.declared.ids.MethodId.{MethodId}
use Rattle.kb_class.specs.declared.members.MethodInfo.{MethodInfo}
use Rattle.kb_class.specs.Platform.{throwable}
use Rattle.kb_class.proofs.Lists.{all_has}
use Rattle.kb_heap.specs.declared.heap.Object.{Object}
use Rattle.kb_heap.specs.declared.heap.Value.{Value}
use Rattle.kb_heap.specs.declared.heap.Value.TheVariants.{Int}
use Rattle.kb_heap.specs.Heap.{object_at}
use Rattle.kb_classes.specs.Subtypes.{fits}
use Rattle.kb_classes.specs.World.{type_entry_of}
use Rattle.kb_world.specs.Calls.{has_code_at, is_without_file}
use Rattle.kb_universe.specs.Faults.{component_of_code}
use Rattle.kb_resolution.specs.Lookup.{resolved_field, resolved_method, selected_special}
use Rattle.kb_semantics.specs.Config.{Config, Outcome, Setting, info_of, local_of, with_local}
use Rattle.kb_semantics.specs.Instructions.{BySelection, CallKind, Callee, Elements, Special, Static, apply_two, array_at, array_length, callee_at, cast, class_of_entry, component_of_entry, constant_at, field_of, get_field, goto, here, if_int, if_ints, if_null, if_same, increase, instance_of, int2_value, invoke, invokes, invokes_on, is_instance, load_constant, load_element, load_int, load_reference, make_array, make_object, makes_array, narrow, negate, nop, on_array, on_object, operands_of, place_in_array, push_int, push_null, put_field, rearrange, return_int, return_nothing, return_reference, selected_at, sets_local, store_element, store_int, store_reference, switch, takes_object, throw}
use Rattle.kb_semantics.specs.Operands.{Reference, a_reference, an_element, an_element_and_value, an_int, an_object_and_value, int_of, receiver_of, reference_of, two_ints, two_references}
use Rattle.kb_semantics.specs.Step.{effect}
use Rattle.kb_semantics.specs.Values.{kept, takes_component}
use Rattle.kb_semantics.specs.Ways.{array_store, arithmetic, class_cast, goes_on, goes_to, ill_typed, index_outside, negative_size, null_pointer, throws}
use Rattle.kb_test_laws.proofs.Within.{IsClosed, IsOfKind, IsWithin, Stays, branches_stays, enters_stays, goes_on_stays, goes_to_stays, heap_more, heap_set, if_stays, ill_typed_stays, returns_nothing_stays, returns_value_stays, throws_in_stays, throws_stays, with_stays}

module _ (s : Setting) (Kind : ExactType → Type 0) (Method : MethodId → Type 0) where
  -- ---- what instructions make and call

  -- a method with code is one of these
  abbrev pub MayEnter : ℕ → Type 0
  MayEnter number = has_code_at s.world number ≡ true → Method (record { 0 = number })

  -- what a call of an entry finds, in code of the class
  abbrev pub Calls : ℕ → ℕ → CallKind → Type 0
  Calls class entry Static = (number : ℕ) → resolved_method s.world class entry ≡ Some number → MayEnter number
  Calls class entry Special = (number : ℕ) → selected_special s.world class entry ≡ Some number → MayEnter number
  Calls class entry BySelection =
      (callee : Callee) (receiver : ExactType) (number : ℕ) → callee_at s.world class entry ≡ Some callee → Kind receiver → selected_at s.world class entry callee receiver ≡ Some number
      → MayEnter number

  -- what an instruction makes and calls, in code of the class
  abbrev pub Brings : ℕ → Instr → Type 0
  Brings class (instrs.New entry) = (name : List ℕ) → type_entry_of s.world class entry ≡ Some (exact.Class name) → Kind (exact.Class name)
  Brings class (instrs.NewPrim code) = (component : JType) → component_of_code code ≡ Some component → Kind (exact.Array component)
  Brings class (instrs.NewRefs entry) = (component : JType) → component_of_entry s.world class entry ≡ Some component → Kind (exact.Array component)
  Brings class (instrs.Virtual entry) = Calls class entry BySelection
  Brings class (instrs.Interface entry) = Calls class entry BySelection
  Brings class (instrs.Special entry) = Calls class entry Special
  Brings class (instrs.Static entry) = Calls class entry Static
  Brings class _ = Unit {0}

  class_named : (found : Option ExactType) (name : List ℕ) → class_of_entry found ≡ Some name → found ≡ Some (exact.Class name)
  class_named (Some (exact.Class class)) name e = let same : class ≡ name = cc in ap (λ (n : List ℕ). Some (exact.Class n)) same
  class_named (Some (exact.Array component)) name e = absurd cc
  class_named None name e = absurd cc

  module _ (closed : IsClosed s Kind Method) (c : Config) (within : IsWithin s Kind Method c) where
    abbrev Stay : Outcome → Type 0
    Stay outcome = Stays s Kind Method outcome

    -- ---- parts of instructions

    with_keeps : {A : Type 0} (it : Option A) (f : A → Outcome) → ((x : A) → Stay (f x)) → Stay (option_map_or f it (ill_typed s c))
    with_keeps it f h = with_stays s Kind Method closed c within it f (λ x e. h x)

    goes_stays : (next : ℕ) (locals : List (Option Value)) (stack : List Value) → Stay (goes_on s c next locals stack c.heap)
    goes_stays next locals stack = goes_on_stays s Kind Method closed c within next locals stack c.heap within.heap

    on_object_stays : (r : Reference) (f : ℕ → Object → Outcome) → ((o : ℕ) (object : Object) → Kind object.kind → Stay (f o object)) → Stay (on_object s c r f)
    on_object_stays None f h = throws_stays s Kind Method closed c within null_pointer closed.of_null
    on_object_stays (Some o) f h =
        with_stays s Kind Method closed c within (object_at c.heap o) (f o) (λ object e. h o object (all_has (IsOfKind s Kind Method) c.heap.objects object within.heap (o, e)))

    on_array_stays : (r : Reference) (such : JType → Bool) (f : ℕ → Elements → Outcome) → ((o : ℕ) (array : Elements) → Stay (f o array)) → Stay (on_array s c r such f)
    on_array_stays None such f h = throws_stays s Kind Method closed c within null_pointer closed.of_null
    on_array_stays (Some o) such f h = with_keeps (array_at c.heap o such) (f o) (h o)

    or_throws : {A : Type 0} (it : Option A) (f : A → Outcome) (class : List ℕ) → Kind (exact.Class class) → ((x : A) → Stay (f x)) → Stay (option_map_or f it (throws s c class))
    or_throws None f class is h = throws_stays s Kind Method closed c within class is
    or_throws (Some x) f class is h = h x

    sets_local_stays : (next k : ℕ) (v : Value) (rest : List Value) → Stay (sets_local s next c k v rest)
    sets_local_stays next k v rest = with_keeps (with_local s.world c.frame k v) _ (λ locals. goes_stays next locals rest)

    makes_array_stays : (next : ℕ) (component : JType) (len : ℤ) (rest : List Value) → Kind (exact.Array component) → Stay (makes_array s next c component len rest)
    makes_array_stays next component (pos len) rest is =
        if_stays s Kind Method closed c within (nat_le len s.bounds.alloc) _ _ (λ e. goes_on_stays s Kind Method closed c within next c.frame.locals _ _ (heap_more s Kind Method c.heap _ within.heap is)) (within.heap, tt)
    makes_array_stays next component (negsuc n) rest is = throws_stays s Kind Method closed c within negative_size closed.of_size

    -- ---- calls

    coded : (number : ℕ) (method : MethodInfo) → info_of s.world (record { 0 = number }) ≡ Some method → is_some method.code ≡ true → has_code_at s.world number ≡ true
    coded number method at some = ap (λ (o : Option MethodInfo). option_map_or (λ (m : MethodInfo). is_some m.code) o false) at ∙ some

    invokes_stays : (next : ℕ) (found : Option ℕ) (args rest : List Value) → ((number : ℕ) → found ≡ Some number → MayEnter number) → Stay (invokes s next c found args rest)
    invokes_stays next found args rest may =
        with_stays s Kind Method closed c within found _ (λ number e. with_stays s Kind Method closed c within (info_of s.world (record { 0 = number })) _ (λ method at.
        if_stays s Kind Method closed c within (is_some method.code) _ _
        (λ some. enters_stays s Kind Method closed c within (record { 0 = number }) args rest (may number e (coded number method at some)))
        (if_stays s Kind Method closed c within (is_without_file s.world method.class.0) _ _ (λ e. goes_stays next c.frame.locals _) (ill_typed_stays s Kind Method closed c within))))

    invokes_on_stays : (kind : CallKind) (entry next : ℕ) (callee : Callee) (args rest : List Value) → callee_at s.world (here s c) entry ≡ Some callee → Calls (here s c) entry kind
        → Stay (invokes_on kind entry s next c callee args rest)
    invokes_on_stays Static entry next callee args rest at calls = invokes_stays next (resolved_method s.world (here s c) entry) args rest calls
    invokes_on_stays Special entry next callee args rest at calls =
        on_object_stays (receiver_of args) _ (λ o object is. invokes_stays next (selected_special s.world (here s c) entry) args rest calls)
    invokes_on_stays BySelection entry next callee args rest at calls =
        on_object_stays (receiver_of args) _ (λ o object is. invokes_stays next (selected_at s.world (here s c) entry callee object.kind) args rest
        (λ number e. calls callee object.kind number at is e))

    invoke_stays : (kind : CallKind) (entry next : ℕ) → Calls (here s c) entry kind → Stay (invoke kind entry s next c)
    unfolding invoke
    invoke_stays kind entry next calls =
        with_stays s Kind Method closed c within (callee_at s.world (here s c) entry) _ (λ callee at. with_keeps (operands_of kind callee.kind c.frame.stack) _
        (λ t. invokes_on_stays kind entry next callee t.it t.rest at calls))

    -- ---- instructions

    rearrange_stays : (how : List Value → Option (List Value)) (next : ℕ) → Stay (rearrange how s next c)
    unfolding rearrange
    rearrange_stays how next = with_keeps (how c.frame.stack) _ (goes_stays next c.frame.locals)

    make_array_stays : (component : Option JType) (next : ℕ) → ((type : JType) → component ≡ Some type → Kind (exact.Array type)) → Stay (make_array component s next c)
    unfolding make_array
    make_array_stays component next is =
        with_stays s Kind Method closed c within component _ (λ type e. with_keeps (an_int c.frame.stack) _ (λ len. makes_array_stays next type len.it len.rest (is type e)))

    jumps_stays : (target : ℕ) (stack : List Value) → Stay (goes_to s c c.frame c.callers target stack c.heap)
    jumps_stays target stack = goes_to_stays s Kind Method closed c within c.frame c.callers target stack c.heap within.frame within.callers within.heap

    switch_stays : (keys : List (ℤ × ℕ)) (default next : ℕ) → Stay (switch keys default s next c)
    unfolding switch
    switch_stays keys default next = with_keeps (an_int c.frame.stack) _ (λ a. jumps_stays _ a.rest)

    load_element_stays : (elem : Elem) (next : ℕ) → Stay (load_element elem s next c)
    unfolding load_element
    load_element_stays elem next =
        with_keeps (an_element c.frame.stack) _ (λ t. on_array_stays t.it.0 (takes_component elem) _ (λ o array.
        or_throws (place_in_array t.it.1 (length array.values)) _ index_outside closed.of_index (λ place.
        with_keeps (slice_get array.values place) _ (λ v. goes_stays next c.frame.locals _))))

    store_element_stays : (elem : Elem) (next : ℕ) → Stay (store_element elem s next c)
    unfolding store_element
    store_element_stays elem next =
        with_keeps (an_element_and_value elem c.frame.stack) _ (λ t. on_array_stays t.it.0.0 (takes_component elem) _ (λ o array.
        or_throws (place_in_array t.it.0.1 (length array.values)) _ index_outside closed.of_index (λ place.
        if_stays s Kind Method closed c within (takes_object s.world c.heap array.component t.it.1) _ _
        (λ e. with_keeps (kept array.component t.it.1) _ (λ v. goes_on_stays s Kind Method closed c within next c.frame.locals t.rest _ (heap_set s Kind Method c.heap o place v within.heap)))
        (throws_stays s Kind Method closed c within array_store closed.of_store))))

    make_object_stays : (entry next : ℕ) → Brings (here s c) (instrs.New entry) → Stay (make_object entry s next c)
    unfolding make_object
    make_object_stays entry next brings =
        with_stays s Kind Method closed c within (class_of_entry (type_entry_of s.world (here s c) entry)) _ (λ name e.
        goes_on_stays s Kind Method closed c within next c.frame.locals _ _
        (heap_more s Kind Method c.heap _ within.heap (brings name (class_named (type_entry_of s.world (here s c) entry) name e))))

    put_field_stays : (entry next : ℕ) → Stay (put_field entry s next c)
    unfolding put_field
    put_field_stays entry next =
        with_keeps (resolved_field s.world (here s c) entry) _ (λ field. with_keeps (an_object_and_value field.kind c.frame.stack) _ (λ t.
        on_object_stays t.it.0 _ (λ o object is. with_keeps (field_of s.world object field) _ (λ before.
        goes_on_stays s Kind Method closed c within next c.frame.locals t.rest _ (heap_set s Kind Method c.heap o field.slot t.it.1 within.heap)))))

    get_field_stays : (entry next : ℕ) → Stay (get_field entry s next c)
    unfolding get_field
    get_field_stays entry next =
        with_keeps (resolved_field s.world (here s c) entry) _ (λ field. with_keeps (a_reference c.frame.stack) _ (λ r.
        on_object_stays r.it _ (λ o object is. with_keeps (field_of s.world object field) _ (λ v. goes_stays next c.frame.locals _))))

    throw_stays : (next : ℕ) → Stay (throw s next c)
    unfolding throw
    throw_stays next =
        with_keeps (a_reference c.frame.stack) _ (λ r. on_object_stays r.it _ (λ o object is.
        if_stays s Kind Method closed c within (fits s.world object.kind (types.Class throwable)) _ _
        (λ e. throws_in_stays s Kind Method closed c within c.heap o object.kind within.heap) (ill_typed_stays s Kind Method closed c within)))

    cast_stays : (entry next : ℕ) → Stay (cast entry s next c)
    unfolding cast
    cast_stays entry next =
        with_keeps (type_entry_of s.world (here s c) entry) _ (λ type. with_keeps (a_reference c.frame.stack) _ (λ r.
        if_stays s Kind Method closed c within (option_map_or (is_instance s.world c.heap type) r.it true) _ _
        (λ e. goes_stays next c.frame.locals c.frame.stack) (throws_stays s Kind Method closed c within class_cast closed.of_cast)))

    pub effect_stays : (instr : Instr) (next : ℕ) → Brings (here s c) instr → Stay (effect instr s next c)
    unfolding effect nop push_null push_int load_constant load_int load_reference store_int store_reference increase apply_two negate narrow if_int if_ints if_same if_null goto return_int return_reference return_nothing array_length instance_of
    effect_stays instrs.Nop next brings = goes_stays next c.frame.locals _
    effect_stays instrs.PushNull next brings = goes_stays next c.frame.locals _
    effect_stays (instrs.PushInt z) next brings = goes_stays next c.frame.locals _
    effect_stays (instrs.Ldc entry) next brings = with_keeps (constant_at s.world (here s c) entry c.inputs) _ (λ v. goes_stays next c.frame.locals _)
    effect_stays (instrs.LoadInt k) next brings = with_keeps (int_of (local_of s.world c.frame k)) _ (λ z. goes_stays next c.frame.locals _)
    effect_stays (instrs.LoadRef k) next brings = with_keeps (reference_of (local_of s.world c.frame k)) _ (λ r. goes_stays next c.frame.locals _)
    effect_stays (instrs.StoreInt k) next brings = with_keeps (an_int c.frame.stack) _ (λ z. sets_local_stays next k _ z.rest)
    effect_stays (instrs.StoreRef k) next brings = with_keeps (a_reference c.frame.stack) _ (λ r. sets_local_stays next k _ r.rest)
    effect_stays (instrs.LoadElem elem) next brings = load_element_stays elem next
    effect_stays (instrs.StoreElem elem) next brings = store_element_stays elem next
    effect_stays instrs.Pop next brings = rearrange_stays _ next
    effect_stays instrs.Pop2 next brings = rearrange_stays _ next
    effect_stays instrs.Dup next brings = rearrange_stays _ next
    effect_stays instrs.DupX1 next brings = rearrange_stays _ next
    effect_stays instrs.DupX2 next brings = rearrange_stays _ next
    effect_stays instrs.Dup2 next brings = rearrange_stays _ next
    effect_stays instrs.Dup2X1 next brings = rearrange_stays _ next
    effect_stays instrs.Dup2X2 next brings = rearrange_stays _ next
    effect_stays instrs.Swap next brings = rearrange_stays _ next
    effect_stays (instrs.Int2 op) next brings =
        with_keeps (two_ints c.frame.stack) _ (λ t. or_throws (int2_value op t.it.0 t.it.1) _ arithmetic closed.of_division (λ z. goes_stays next c.frame.locals _))
    effect_stays instrs.Neg next brings = with_keeps (an_int c.frame.stack) _ (λ a. goes_stays next c.frame.locals _)
    effect_stays (instrs.Inc k z) next brings = with_keeps (int_of (local_of s.world c.frame k)) _ (λ a. sets_local_stays next k _ c.frame.stack)
    effect_stays (instrs.Narrow cut) next brings = with_keeps (an_int c.frame.stack) _ (λ a. goes_stays next c.frame.locals _)
    effect_stays (instrs.IfInt cond target) next brings = with_keeps (an_int c.frame.stack) _ (λ a. branches_stays s Kind Method closed c within next target _ a.rest)
    effect_stays (instrs.IfPair cond target) next brings = with_keeps (two_ints c.frame.stack) _ (λ t. branches_stays s Kind Method closed c within next target _ t.rest)
    effect_stays (instrs.IfSame want target) next brings = with_keeps (two_references c.frame.stack) _ (λ t. branches_stays s Kind Method closed c within next target _ t.rest)
    effect_stays (instrs.IfNull want target) next brings = with_keeps (a_reference c.frame.stack) _ (λ r. branches_stays s Kind Method closed c within next target _ r.rest)
    effect_stays (instrs.Goto target) next brings = jumps_stays target c.frame.stack
    effect_stays (instrs.Table low default targets) next brings = switch_stays _ default next
    effect_stays (instrs.Lookup default keys) next brings = switch_stays keys default next
    effect_stays instrs.ReturnInt next brings = with_keeps (an_int c.frame.stack) _ (λ a. returns_value_stays s Kind Method closed c within (Int a.it))
    effect_stays instrs.ReturnRef next brings = with_keeps (a_reference c.frame.stack) _ (λ r. returns_value_stays s Kind Method closed c within _)
    effect_stays instrs.Return next brings = returns_nothing_stays s Kind Method closed c within
    effect_stays (instrs.GetField entry) next brings = get_field_stays entry next
    effect_stays (instrs.PutField entry) next brings = put_field_stays entry next
    effect_stays (instrs.Virtual entry) next brings = invoke_stays BySelection entry next brings
    effect_stays (instrs.Special entry) next brings = invoke_stays Special entry next brings
    effect_stays (instrs.Static entry) next brings = invoke_stays Static entry next brings
    effect_stays (instrs.Interface entry) next brings = invoke_stays BySelection entry next brings
    effect_stays (instrs.New entry) next brings = make_object_stays entry next brings
    effect_stays (instrs.NewPrim code) next brings = make_array_stays _ next brings
    effect_stays (instrs.NewRefs entry) next brings = make_array_stays _ next brings
    effect_stays instrs.Length next brings =
        with_keeps (a_reference c.frame.stack) _ (λ r. on_array_stays r.it (λ component. true) _ (λ o array. goes_stays next c.frame.locals _))
    effect_stays instrs.Throw next brings = throw_stays next
    effect_stays (instrs.Cast entry) next brings = cast_stays entry next
    effect_stays (instrs.InstanceOf entry) next brings =
        with_keeps (type_entry_of s.world (here s c) entry) _ (λ type. with_keeps (a_reference c.frame.stack) _ (λ r. goes_stays next c.frame.locals _))
    effect_stays (instrs.Other op) next brings = ill_typed_stays s Kind Method closed c within
