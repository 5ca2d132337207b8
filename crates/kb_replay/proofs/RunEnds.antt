-- What every run keeps: it ends past no bound of explorations, and its heap begins with the objects of the first heap, each of
-- its exact type and with as many values.
use Rattle.std.proofs.Common.{◌≡◌, ℕ, zero, suc, ◌+◌, ◌<◌, ◌≤◌, ◌-◌, ℤ, pos, negsuc, Bool, true, false, List, [], ◌∷◌, ◌++◌, length, map, take, drop, replicate, Option, Some, None, refl, sym, ap, subst, ◌∙◌, arith, nat_le, nat_lt, is_some, slice_get, slice_set, option_and_then, append_assoc, append-nil, if◌then◌else◌}
use Rattle.std.specs.Option.{option_map_or}
use Rattle.std.proofs.lemmas.List.{map-append}
use Rattle.kb_names.specs.declared.types.ExactType.{ExactType}
use Rattle.kb_names.specs.declared.types.JType.{JType}
use Rattle.kb_names.specs.declared.types.JType.TheVariants as types
use Rattle.kb_code.specs.declared.instruction.Elem.{Elem}
use Rattle.kb_code.specs.declared.instruction.Instr.{Instr}
use Rattle.kb_code.specs.declared.instruction.Instr.TheVariants as instrs
use Rattle.kb_class.specs.declared.ids.MethodId.{MethodId}
use Rattle.kb_class.specs.declared.members.MethodInfo.{MethodInfo}
use Rattle.kb_class.specs.Platform.{throwable}
use Rattle.kb_heap.specs.declared.heap.Value.{Value}
use Rattle.kb_heap.specs.declared.heap.Value.TheVariants.{Int}
use Rattle.kb_heap.specs.declared.heap.Object.{Object}
use Rattle.kb_heap.specs.declared.heap.Heap.{Heap}
use Rattle.kb_heap.specs.declared.heap.Input.{Input}
use Rattle.kb_heap.specs.Heap.{object_at, object_with, with_object, with_object_at, with_value, literal}
use Rattle.kb_classes.specs.World.{World, type_entry_of}
use Rattle.kb_classes.specs.Subtypes.{fits}
use Rattle.kb_resolution.specs.Lookup.{resolved_field, resolved_method, selected_special}
use Rattle.kb_world.specs.Calls.{is_without_file}
use Rattle.kb_semantics.specs.Config.{Setting, Frame, Config, Ended, Outcome, Goes, Ends, has_room, info_of, instruction_at, local_of, result_of, with_local}
use Rattle.kb_semantics.specs.Values.{kept, new_object, takes_component}
use Rattle.kb_semantics.specs.Operands.{Reference, an_int, a_reference, two_ints, two_references, an_element, an_element_and_value, an_object_and_value, int_of, reference_of, receiver_of}
use Rattle.kb_semantics.specs.Ways.{goes_to, branches, counted, lands, throws_in, throws, nearest_handler, standpoint, ill_typed, arithmetic, index_outside, null_pointer, enters, goes_on, pushed, hands_to, hands_over, returns_value, returns_nothing}
use Rattle.kb_semantics.specs.Instructions.{with, here, nop, push_null, push_int, load_constant, constant_at, load_int, load_reference, sets_local, store_int, store_reference, increase, rearrange, apply_two, int2_value, negate, narrow, if_int, if_ints, if_same, if_null, goto, switch, return_int, return_reference, return_nothing, on_object, field_of, get_field, put_field, class_of_entry, make_object, Elements, array_at, on_array, place_in_array, load_element, takes_object, store_element, array_length, new_array, makes_array, make_array, is_instance, cast, instance_of, throw, CallKind, BySelection, Special, Static, Callee, callee_at, operands_of, selected_at, invokes_method, invokes, invokes_on, invoke}
use Rattle.kb_semantics.specs.Step.{effect, step, follow, run, run_of, first_heap, start_of}
use Rattle.kb_replay.specs.Ends.{Shape, shape_of, shapes, Grows, IsRunEnding, KeepsInput}

-- ---- heaps that grow

grown : (heap : Heap) → Grows heap heap
grown heap = record { more = []; is = sym (append-nil (shapes heap.objects)) }

grown_by : (heap : Heap) (of : Object) → Grows heap (with_object heap of)
grown_by heap of = record { more = shape_of of ∷ []; is = map-append shape_of heap.objects (of ∷ []) }

grows_on : (one two three : Heap) → Grows one two → Grows two three → Grows one three
grows_on one two three a b = record {
  more = a.more ++ b.more;
  is = b.is ∙ ap (λ (front : List Shape). front ++ b.more) a.is ∙ append_assoc (shapes one.objects) a.more b.more;
}

-- a value that is put leaves how many there are
same_size : (values : List Value) (slot : ℕ) (value : Value) → length (slice_set values slot value) ≡ length values
same_size [] slot value = refl
same_size (v ∷ values) zero value = refl
same_size (v ∷ values) (suc slot) value = ap suc (same_size values slot value)

same_shape : (of : Object) (slot : ℕ) (value : Value) → shape_of (object_with of slot value) ≡ shape_of of
same_shape of slot value = ap (λ (n : ℕ). (of.kind, n)) (same_size of.values slot value)

put_keeps : (objects : List Object) (object slot : ℕ) (value : Value) (of : Object) → slice_get objects object ≡ Some of →
    shapes (slice_set objects object (object_with of slot value)) ≡ shapes objects
put_keeps [] object slot value of at = refl
put_keeps (x ∷ objects) zero slot value of at =
    let same : x ≡ of = cc in
    ap (λ (shape : Shape). shape ∷ shapes objects) (same_shape of slot value ∙ ap shape_of (sym same))
put_keeps (x ∷ objects) (suc object) slot value of at = ap (λ (rest : List Shape). shape_of x ∷ rest) (put_keeps objects object slot value of at)

grown_put : (heap : Heap) (object slot : ℕ) (value : Value) → Grows heap (with_value heap object slot value)
grown_put heap object slot value = go (object_at heap object) refl
  where
    go : (found : Option Object) → object_at heap object ≡ found → Grows heap (with_object_at heap object slot value found)
    go None at = grown heap
    go (Some of) at = record { more = []; is = put_keeps heap.objects object slot value of at ∙ sym (append-nil (shapes heap.objects)) }

-- ---- each step

abbrev Keeps : Config → Outcome → Type 0
Keeps c (Goes d) = Grows c.heap d.heap
Keeps c (Ends e) = IsRunEnding e.ending × Grows c.heap e.heap

module _ (s : Setting) (c : Config) where
  kept_end : Unit {0} × Grows c.heap c.heap
  kept_end = (tt, grown c.heap)

  with_keeps : {A : Type 0} (it : Option A) (f : A → Outcome) → ((x : A) → Keeps c (f x)) → Keeps c (with s c it f)
  with_keeps None f h = kept_end
  with_keeps (Some x) f h = h x

  if_keeps : (b : Bool) (x y : Outcome) → Keeps c x → Keeps c y → Keeps c (if b then x else y)
  if_keeps true x y hx hy = hx
  if_keeps false x y hx hy = hy

  goes_on_keeps : (next : ℕ) (locals : List (Option Value)) (stack : List Value) (heap : Heap) → Grows c.heap heap → Keeps c (goes_on s c next locals stack heap)
  unfolding goes_on
  goes_on_keeps next locals stack heap grows = if_keeps (has_room s.world c.frame.method (length stack)) _ _ grows kept_end

  counted_keeps : (done : Option ℕ) (f : ℕ → Outcome) (y : Outcome) → ((n : ℕ) → Keeps c (f n)) → Keeps c y → Keeps c (option_map_or f done y)
  counted_keeps None f y h hy = hy
  counted_keeps (Some n) f y h hy = h n

  goes_to_keeps : (frame : Frame) (callers : List Frame) (target : ℕ) (stack : List Value) (heap : Heap) → Grows c.heap heap → Keeps c (goes_to s c frame callers target stack heap)
  unfolding goes_to
  goes_to_keeps frame callers target stack heap grows =
      if_keeps (has_room s.world frame.method (length stack)) _ _
      (counted_keeps (counted s.bounds frame.at target frame.transfers) _ _ (λ n. grows) kept_end) kept_end

  branches_keeps : (next target : ℕ) (so : Bool) (stack : List Value) → Keeps c (branches s c next target so stack)
  branches_keeps next target true stack = goes_to_keeps c.frame c.callers target stack c.heap (grown c.heap)
  branches_keeps next target false stack = goes_on_keeps next c.frame.locals stack c.heap (grown c.heap)

  lands_keeps : (heap : Heap) (object target : ℕ) (frames : List Frame) → Grows c.heap heap → Keeps c (lands s c heap object target frames)
  lands_keeps heap object target [] grows = kept_end
  lands_keeps heap object target (frame ∷ callers) grows = goes_to_keeps frame callers target _ heap grows

  found_keeps : (found : Option (ℕ × ℕ)) (f : ℕ × ℕ → Outcome) (y : Outcome) → ((p : ℕ × ℕ) → Keeps c (f p)) → Keeps c y → Keeps c (option_map_or f found y)
  found_keeps None f y h hy = hy
  found_keeps (Some p) f y h hy = h p

  throws_in_keeps : (heap : Heap) (object : ℕ) (kind : ExactType) → Grows c.heap heap → Keeps c (throws_in s c heap object kind)
  unfolding throws_in
  throws_in_keeps heap object kind grows =
      found_keeps (nearest_handler s.world kind (map standpoint (c.frame ∷ c.callers))) _ _
      (λ p. lands_keeps heap object p.1 (drop p.0 (c.frame ∷ c.callers)) grows) (tt, grows)

  throws_keeps : (class : List ℕ) → Keeps c (throws s c class)
  unfolding throws
  throws_keeps class = throws_in_keeps _ _ _ (grown_by c.heap (new_object s.world class))

  -- ---- calls and returns

  enters_keeps : (method : MethodId) (args rest : List Value) → Keeps c (enters s c method args rest)
  unfolding enters
  enters_keeps method args rest = if_keeps (nat_lt (suc (length c.callers)) s.bounds.depth) _ _ (grown c.heap) kept_end

  hands_to_keeps : (callers : List Frame) (result : Option Value) → Keeps c (hands_to s c callers result)
  hands_to_keeps [] result = kept_end
  hands_to_keeps (caller ∷ more) result = if_keeps (has_room s.world caller.method (length (pushed result caller.stack))) _ _ (grown c.heap) kept_end

  hands_over_keeps : (result : Option Value) → Keeps c (hands_over s c result)
  unfolding hands_over
  hands_over_keeps result = hands_to_keeps c.callers result

  returns_value_keeps : (value : Value) → Keeps c (returns_value s c value)
  unfolding returns_value
  returns_value_keeps value = with_keeps (option_and_then (λ type. kept type value) (result_of s.world c.frame.method)) _ (λ v. hands_over_keeps (Some v))

  returns_nothing_keeps : Keeps c (returns_nothing s c)
  unfolding returns_nothing
  returns_nothing_keeps = if_keeps (is_some (result_of s.world c.frame.method)) _ _ kept_end (hands_over_keeps None)

  -- ---- parts of instructions

  on_object_keeps : (r : Reference) (f : ℕ → Object → Outcome) → ((o : ℕ) (object : Object) → Keeps c (f o object)) → Keeps c (on_object s c r f)
  on_object_keeps None f h = throws_keeps null_pointer
  on_object_keeps (Some o) f h = with_keeps (object_at c.heap o) (f o) (h o)

  on_array_keeps : (r : Reference) (such : JType → Bool) (f : ℕ → Elements → Outcome) → ((o : ℕ) (array : Elements) → Keeps c (f o array)) → Keeps c (on_array s c r such f)
  on_array_keeps None such f h = throws_keeps null_pointer
  on_array_keeps (Some o) such f h = with_keeps (array_at c.heap o such) (f o) (h o)

  or_throws : {A : Type 0} (it : Option A) (f : A → Outcome) (class : List ℕ) → ((x : A) → Keeps c (f x)) → Keeps c (option_map_or f it (throws s c class))
  or_throws None f class h = throws_keeps class
  or_throws (Some x) f class h = h x

  sets_local_keeps : (next k : ℕ) (v : Value) (rest : List Value) → Keeps c (sets_local s next c k v rest)
  sets_local_keeps next k v rest = with_keeps (with_local s.world c.frame k v) _ (λ locals. goes_on_keeps next locals rest c.heap (grown c.heap))

  makes_array_keeps : (next : ℕ) (component : JType) (len : ℤ) (rest : List Value) → Keeps c (makes_array s next c component len rest)
  makes_array_keeps next component (pos len) rest = if_keeps (nat_le len s.bounds.alloc) _ _ (goes_on_keeps next c.frame.locals _ _ (grown_by c.heap (new_array component len))) kept_end
  makes_array_keeps next component (negsuc n) rest = throws_keeps _

  invokes_method_keeps : (next number : ℕ) (method : MethodInfo) (args rest : List Value) → Keeps c (invokes_method s next c number method args rest)
  invokes_method_keeps next number method args rest =
      if_keeps (is_some method.code) _ _ (enters_keeps (record { 0 = number }) args rest)
      (if_keeps (is_without_file s.world method.class.0) _ _ (goes_on_keeps next c.frame.locals _ c.heap (grown c.heap)) kept_end)

  invokes_keeps : (next : ℕ) (found : Option ℕ) (args rest : List Value) → Keeps c (invokes s next c found args rest)
  invokes_keeps next found args rest =
      with_keeps found _ (λ number. with_keeps (info_of s.world (record { 0 = number })) _ (λ method. invokes_method_keeps next number method args rest))

  invokes_on_keeps : (kind : CallKind) (entry next : ℕ) (callee : Callee) (args rest : List Value) → Keeps c (invokes_on kind entry s next c callee args rest)
  invokes_on_keeps Static entry next callee args rest = invokes_keeps next (resolved_method s.world (here s c) entry) args rest
  invokes_on_keeps Special entry next callee args rest =
      on_object_keeps (receiver_of args) _ (λ o object. invokes_keeps next (selected_special s.world (here s c) entry) args rest)
  invokes_on_keeps BySelection entry next callee args rest =
      on_object_keeps (receiver_of args) _ (λ o object. invokes_keeps next (selected_at s.world (here s c) entry callee object.kind) args rest)

  invoke_keeps : (kind : CallKind) (entry next : ℕ) → Keeps c (invoke kind entry s next c)
  unfolding invoke
  invoke_keeps kind entry next =
      with_keeps (callee_at s.world (here s c) entry) _ (λ callee. with_keeps (operands_of kind callee.kind c.frame.stack) _ (λ t. invokes_on_keeps kind entry next callee t.it t.rest))

  -- ---- instructions

  goes_keeps : (next : ℕ) (stack : List Value) → Keeps c (goes_on s c next c.frame.locals stack c.heap)
  goes_keeps next stack = goes_on_keeps next c.frame.locals stack c.heap (grown c.heap)

  rearrange_keeps : (how : List Value → Option (List Value)) (next : ℕ) → Keeps c (rearrange how s next c)
  unfolding rearrange
  rearrange_keeps how next = with_keeps (how c.frame.stack) _ (goes_keeps next)

  make_array_keeps : (component : Option JType) (next : ℕ) → Keeps c (make_array component s next c)
  unfolding make_array
  make_array_keeps component next =
      with_keeps component _ (λ type. with_keeps (an_int c.frame.stack) _ (λ len. makes_array_keeps next type len.it len.rest))

  switch_keeps : (keys : List (ℤ × ℕ)) (default next : ℕ) → Keeps c (switch keys default s next c)
  unfolding switch
  switch_keeps keys default next = with_keeps (an_int c.frame.stack) _ (λ a. goes_to_keeps c.frame c.callers _ a.rest c.heap (grown c.heap))

  load_element_keeps : (elem : Elem) (next : ℕ) → Keeps c (load_element elem s next c)
  unfolding load_element
  load_element_keeps elem next =
      with_keeps (an_element c.frame.stack) _ (λ t. on_array_keeps t.it.0 (takes_component elem) _ (λ o array.
      or_throws (place_in_array t.it.1 (length array.values)) _ index_outside (λ place. with_keeps (slice_get array.values place) _ (λ v. goes_keeps next _))))

  store_element_keeps : (elem : Elem) (next : ℕ) → Keeps c (store_element elem s next c)
  unfolding store_element
  store_element_keeps elem next =
      with_keeps (an_element_and_value elem c.frame.stack) _ (λ t. on_array_keeps t.it.0.0 (takes_component elem) _ (λ o array.
      or_throws (place_in_array t.it.0.1 (length array.values)) _ index_outside (λ place.
      if_keeps (takes_object s.world c.heap array.component t.it.1) _ _
      (with_keeps (kept array.component t.it.1) _ (λ v. goes_on_keeps next c.frame.locals t.rest (with_value c.heap o place v) (grown_put c.heap o place v)))
      (throws_keeps _))))

  effect_keeps : (instr : Instr) (next : ℕ) → Keeps c (effect instr s next c)
  unfolding effect nop push_null push_int load_constant load_int load_reference store_int store_reference increase apply_two negate narrow if_int if_ints if_same if_null goto return_int return_reference return_nothing get_field put_field make_object array_length cast instance_of throw
  effect_keeps instrs.Nop next = goes_keeps next _
  effect_keeps instrs.PushNull next = goes_keeps next _
  effect_keeps (instrs.PushInt z) next = goes_keeps next _
  effect_keeps (instrs.Ldc entry) next = with_keeps (constant_at s.world (here s c) entry c.inputs) _ (λ v. goes_keeps next _)
  effect_keeps (instrs.LoadInt k) next = with_keeps (int_of (local_of s.world c.frame k)) _ (λ z. goes_keeps next _)
  effect_keeps (instrs.LoadRef k) next = with_keeps (reference_of (local_of s.world c.frame k)) _ (λ r. goes_keeps next _)
  effect_keeps (instrs.StoreInt k) next = with_keeps (an_int c.frame.stack) _ (λ z. sets_local_keeps next k _ z.rest)
  effect_keeps (instrs.StoreRef k) next = with_keeps (a_reference c.frame.stack) _ (λ r. sets_local_keeps next k _ r.rest)
  effect_keeps (instrs.LoadElem elem) next = load_element_keeps elem next
  effect_keeps (instrs.StoreElem elem) next = store_element_keeps elem next
  effect_keeps instrs.Pop next = rearrange_keeps _ next
  effect_keeps instrs.Pop2 next = rearrange_keeps _ next
  effect_keeps instrs.Dup next = rearrange_keeps _ next
  effect_keeps instrs.DupX1 next = rearrange_keeps _ next
  effect_keeps instrs.DupX2 next = rearrange_keeps _ next
  effect_keeps instrs.Dup2 next = rearrange_keeps _ next
  effect_keeps instrs.Dup2X1 next = rearrange_keeps _ next
  effect_keeps instrs.Dup2X2 next = rearrange_keeps _ next
  effect_keeps instrs.Swap next = rearrange_keeps _ next
  effect_keeps (instrs.Int2 op) next =
      with_keeps (two_ints c.frame.stack) _ (λ t. or_throws (int2_value op t.it.0 t.it.1) _ arithmetic (λ z. goes_keeps next _))
  effect_keeps instrs.Neg next = with_keeps (an_int c.frame.stack) _ (λ a. goes_keeps next _)
  effect_keeps (instrs.Inc k z) next = with_keeps (int_of (local_of s.world c.frame k)) _ (λ a. sets_local_keeps next k _ c.frame.stack)
  effect_keeps (instrs.Narrow cut) next = with_keeps (an_int c.frame.stack) _ (λ a. goes_keeps next _)
  effect_keeps (instrs.IfInt cond target) next = with_keeps (an_int c.frame.stack) _ (λ a. branches_keeps next target _ a.rest)
  effect_keeps (instrs.IfPair cond target) next = with_keeps (two_ints c.frame.stack) _ (λ t. branches_keeps next target _ t.rest)
  effect_keeps (instrs.IfSame want target) next = with_keeps (two_references c.frame.stack) _ (λ t. branches_keeps next target _ t.rest)
  effect_keeps (instrs.IfNull want target) next = with_keeps (a_reference c.frame.stack) _ (λ r. branches_keeps next target _ r.rest)
  effect_keeps (instrs.Goto target) next = goes_to_keeps c.frame c.callers target c.frame.stack c.heap (grown c.heap)
  effect_keeps (instrs.Table low default targets) next = switch_keeps _ default next
  effect_keeps (instrs.Lookup default keys) next = switch_keeps keys default next
  effect_keeps instrs.ReturnInt next = with_keeps (an_int c.frame.stack) _ (λ a. returns_value_keeps (Int a.it))
  effect_keeps instrs.ReturnRef next = with_keeps (a_reference c.frame.stack) _ (λ r. returns_value_keeps _)
  effect_keeps instrs.Return next = returns_nothing_keeps
  effect_keeps (instrs.GetField entry) next =
      with_keeps (resolved_field s.world (here s c) entry) _ (λ field. with_keeps (a_reference c.frame.stack) _ (λ r.
      on_object_keeps r.it _ (λ o object. with_keeps (field_of s.world object field) _ (λ v. goes_keeps next _))))
  effect_keeps (instrs.PutField entry) next =
      with_keeps (resolved_field s.world (here s c) entry) _ (λ field. with_keeps (an_object_and_value field.kind c.frame.stack) _ (λ t.
      on_object_keeps t.it.0 _ (λ o object. with_keeps (field_of s.world object field) _ (λ before. goes_on_keeps next c.frame.locals t.rest _ (grown_put c.heap o field.slot t.it.1)))))
  effect_keeps (instrs.Virtual entry) next = invoke_keeps BySelection entry next
  effect_keeps (instrs.Special entry) next = invoke_keeps Special entry next
  effect_keeps (instrs.Static entry) next = invoke_keeps Static entry next
  effect_keeps (instrs.Interface entry) next = invoke_keeps BySelection entry next
  effect_keeps (instrs.New entry) next =
      with_keeps (class_of_entry (type_entry_of s.world (here s c) entry)) _ (λ name. goes_on_keeps next c.frame.locals _ _ (grown_by c.heap (new_object s.world name)))
  effect_keeps (instrs.NewPrim code) next = make_array_keeps _ next
  effect_keeps (instrs.NewRefs entry) next = make_array_keeps _ next
  effect_keeps instrs.Length next =
      with_keeps (a_reference c.frame.stack) _ (λ r. on_array_keeps r.it (λ component. true) _ (λ o array. goes_keeps next _))
  effect_keeps instrs.Throw next =
      with_keeps (a_reference c.frame.stack) _ (λ r. on_object_keeps r.it _ (λ o object.
      if_keeps (fits s.world object.kind (types.Class throwable)) _ _ (throws_in_keeps c.heap o object.kind (grown c.heap)) kept_end))
  effect_keeps (instrs.Cast entry) next =
      with_keeps (type_entry_of s.world (here s c) entry) _ (λ type. with_keeps (a_reference c.frame.stack) _ (λ r.
      if_keeps (option_map_or (is_instance s.world c.heap type) r.it true) _ _ (goes_keeps next c.frame.stack) (throws_keeps _)))
  effect_keeps (instrs.InstanceOf entry) next =
      with_keeps (type_entry_of s.world (here s c) entry) _ (λ type. with_keeps (a_reference c.frame.stack) _ (λ r. goes_keeps next _))
  effect_keeps (instrs.Other op) next = kept_end

-- ---- runs

taken_up_keeps : (s : Setting) (c : Config) (found : Option (Instr × ℕ)) → Keeps c (option_map_or (λ (f : Instr × ℕ). effect f.0 s f.1 c) found (ill_typed s c))
taken_up_keeps s c None = (tt, grown c.heap)
taken_up_keeps s c (Some found) = effect_keeps s c found.0 found.1

step_keeps : (s : Setting) (c : Config) → Keeps c (step s c)
unfolding step
step_keeps s c = if_keeps s c (nat_le s.bounds.steps c.carried) _ _ (tt, grown c.heap) (taken_up_keeps s c (instruction_at s.world c.frame.method c.frame.at))

abbrev EndsWell : Heap → Ended → Type 0
EndsWell before e = IsRunEnding e.ending × Grows before e.heap

follow_keeps : (n : ℕ) (s : Setting) (c : Config) (o : Outcome) → Keeps c o → ((d : Config) → EndsWell d.heap (run n s d)) → EndsWell c.heap (follow o (run n s))
follow_keeps n s c (Goes d) grows ih = let rest = ih d in (rest.0, grows_on c.heap d.heap (run n s d).heap grows rest.1)
follow_keeps n s c (Ends e) is ih = is

run_keeps : (n : ℕ) (s : Setting) (c : Config) → EndsWell c.heap (run n s c)
unfolding run
run_keeps zero s c = (tt, grown c.heap)
run_keeps (suc n) s c = follow_keeps n s c (step s c) (step_keeps s c) (λ d. run_keeps n s d)

-- ---- the heap that a run leaves

-- objects without values and of the type of a literal are literals
are_literals : (objects : List Object) (n : ℕ) (more : List Shape) → shapes objects ≡ replicate n (shape_of literal) ++ more → take n objects ≡ replicate n literal
are_literals objects zero more e = refl
are_literals [] (suc n) more e = absurd cc
are_literals (x ∷ objects) (suc n) more e =
    let first : shape_of x ≡ shape_of literal = cc in
    let rest : shapes objects ≡ replicate n (shape_of literal) ++ more = cc in
    let same : x ≡ literal = is_literal x first in
    rw (same, are_literals objects n more rest) refl
  where
    no_values : (values : List Value) → length values ≡ 0 → values ≡ []
    no_values [] e = refl
    no_values (v ∷ values) e = absurd (omega (arith, e))

    same_object : (x y : Object) → x.kind ≡ y.kind → x.values ≡ y.values → x ≡ y
    same_object x y e f = λ i. record { kind = e i; values = f i }

    is_literal : (x : Object) → shape_of x ≡ shape_of literal → x ≡ literal
    is_literal x e = same_object x literal (ap (λ (s : Shape). s.0) e) (no_values x.values (ap (λ (s : Shape). s.1) e))

-- what stands behind so many objects
behind_front : (inputs objects : List Object) (rest : List Shape) → shapes objects ≡ shapes inputs ++ rest →
    (length inputs ≤ length objects) × (shapes (take (length inputs) objects) ≡ shapes inputs) × (shapes (drop (length inputs) objects) ≡ rest)
behind_front [] objects rest e = (omega arith, refl, e)
behind_front (x ∷ inputs) [] rest e = absurd cc
behind_front (x ∷ inputs) (y ∷ objects) rest e =
    let first : shape_of y ≡ shape_of x = cc in
    let others : shapes objects ≡ shapes inputs ++ rest = cc in
    let found = behind_front inputs objects rest others in
    (omega (arith, found.0), ap (λ (s : Shape). s ∷ shapes (take (length inputs) objects)) first ∙ ap (λ (ss : List Shape). shape_of x ∷ ss) found.1, found.2)

literal_shapes : (n : ℕ) → shapes (replicate n literal) ≡ replicate n (shape_of literal)
literal_shapes zero = refl
literal_shapes (suc n) = ap (λ (ss : List Shape). shape_of literal ∷ ss) (literal_shapes n)

keeps_input : (literals : ℕ) (inputs : List Object) (heap : Heap) (more : List Shape) → shapes heap.objects ≡ shapes (inputs ++ replicate literals literal) ++ more →
    KeepsInput literals inputs heap
keeps_input literals inputs heap more e =
    let parts : shapes heap.objects ≡ shapes inputs ++ (replicate literals (shape_of literal) ++ more) =
    e ∙ ap (λ (ss : List Shape). ss ++ more) (map-append shape_of inputs (replicate literals literal) ∙ ap (λ (ss : List Shape). shapes inputs ++ ss) (literal_shapes literals))
    ∙ append_assoc (shapes inputs) (replicate literals (shape_of literal)) more in
    let found = behind_front inputs heap.objects (replicate literals (shape_of literal) ++ more) parts in
    record {
      inputs_there = found.0;
      inputs_kept = found.1;
      literals_kept = are_literals (drop (length inputs) heap.objects) literals more found.2;
    }

pub run_ends : (s : Setting) (id : MethodId) (input : Input) → IsRunEnding (run_of s id input).ending
run_ends s id input = (run_keeps (suc s.bounds.steps) s (start_of s.world id input)).0

pub run_keeps_input : (s : Setting) (id : MethodId) (input : Input) → KeepsInput (length s.world.literals) input.heap.objects (run_of s id input).heap
run_keeps_input s id input =
    let ends = run_keeps (suc s.bounds.steps) s (start_of s.world id input) in
    keeps_input (length s.world.literals) input.heap.objects (run_of s id input).heap ends.1.more ends.1.is
