-- Each instruction goes on or ends as every step does.
use Rattle.std.proofs.Common.{ℕ, suc, ℤ, pos, negsuc, Bool, true, List, [], ◌∷◌, length, Option, Some, None, refl, nat_le, nat_lt, is_some, slice_get, option_and_then}
use Rattle.std.specs.Option.{option_map_or}
use Rattle.kb_names.specs.declared.types.JType.{JType}
use Rattle.kb_names.specs.declared.types.JType.TheVariants as types
use Rattle.kb_code.specs.declared.instruction.Elem.{Elem}
use Rattle.kb_code.specs.declared.instruction.Instr.{Instr}
use Rattle.kb_code.specs.declared.instruction.Instr.TheVariants as instrs
use Rattle.kb_class.specs.declared.ids.MethodId.{MethodId}
use Rattle.kb_class.specs.declared.members.MethodInfo.{MethodInfo}
use Rattle.kb_class.specs.Platform.{throwable}
use Rattle.kb_heap.specs.declared.heap.Value.{Value}
use Rattle.kb_heap.specs.declared.heap.Value.TheVariants.{Int}
use Rattle.kb_heap.specs.declared.heap.Object.{Object}
use Rattle.kb_heap.specs.Heap.{object_at, with_value}
use Rattle.kb_classes.specs.Subtypes.{fits}
use Rattle.kb_world.specs.Calls.{resolved_field, resolved_method, selected_special, is_without_file}
use Rattle.kb_classes.specs.World.{type_entry_of}
use Rattle.kb_semantics.specs.Config.{Setting, Frame, Config, Outcome, has_room, info_of, local_of, result_of, with_local}
use Rattle.kb_semantics.specs.Values.{kept, takes_component}
use Rattle.kb_semantics.specs.Operands.{Reference, an_int, a_reference, two_ints, two_references, an_element, an_element_and_value, an_object_and_value, int_of, reference_of, receiver_of}
use Rattle.kb_semantics.specs.Ways.{throws, arithmetic, index_outside, null_pointer, enters, goes_on, pushed, hands_to, hands_over, returns_value, returns_nothing}
use Rattle.kb_semantics.specs.Instructions.{here, nop, push_null, push_int, load_constant, constant_at, load_int, load_reference, sets_local, store_int, store_reference, increase, rearrange, apply_two, int2_value, negate, narrow, if_int, if_ints, if_same, if_null, goto, switch, return_int, return_reference, return_nothing, on_object, field_of, get_field, put_field, class_of_entry, make_object, Elements, array_at, on_array, place_in_array, load_element, takes_object, store_element, array_length, makes_array, make_array, is_instance, cast, instance_of, throw, CallKind, BySelection, Special, Static, Callee, callee_at, operands_of, selected_at, invokes_method, invokes, invokes_on, invoke}
use Rattle.kb_semantics.specs.Step.{effect}
use Rattle.kb_semantics.proofs.Progress.{Follows, with_follows, if_follows, goes_on_follows, goes_to_follows, branches_follows, throws_in_follows, throws_follows}

module _ (s : Setting) (c : Config) where
  -- ---- calls and returns

  pub enters_follows : (method : MethodId) (args rest : List Value) → Follows c (enters s c method args rest)
  unfolding enters
  enters_follows method args rest = if_follows s c (nat_lt (suc (length c.callers)) s.bounds.depth) _ _ (refl, refl) refl

  hands_to_follows : (callers : List Frame) (result : Option Value) → Follows c (hands_to s c callers result)
  hands_to_follows [] result = tt
  hands_to_follows (caller ∷ more) result = if_follows s c (has_room s.world caller.method (length (pushed result caller.stack))) _ _ (refl, refl) refl

  pub hands_over_follows : (result : Option Value) → Follows c (hands_over s c result)
  unfolding hands_over
  hands_over_follows result = hands_to_follows c.callers result

  pub returns_value_follows : (value : Value) → Follows c (returns_value s c value)
  unfolding returns_value
  returns_value_follows value = with_follows s c (option_and_then (λ type. kept type value) (result_of s.world c.frame.method)) _ (λ v. hands_over_follows (Some v))

  pub returns_nothing_follows : Follows c (returns_nothing s c)
  unfolding returns_nothing
  returns_nothing_follows = if_follows s c (is_some (result_of s.world c.frame.method)) _ _ refl (hands_over_follows None)

  -- ---- parts of instructions

  on_object_follows : (r : Reference) (f : ℕ → Object → Outcome) → ((o : ℕ) (object : Object) → Follows c (f o object)) → Follows c (on_object s c r f)
  on_object_follows None f h = throws_follows s c null_pointer
  on_object_follows (Some o) f h = with_follows s c (object_at c.heap o) (f o) (h o)

  on_array_follows : (r : Reference) (such : JType → Bool) (f : ℕ → Elements → Outcome) → ((o : ℕ) (array : Elements) → Follows c (f o array)) → Follows c (on_array s c r such f)
  on_array_follows None such f h = throws_follows s c null_pointer
  on_array_follows (Some o) such f h = with_follows s c (array_at c.heap o such) (f o) (h o)

  or_throws : {A : Type 0} (it : Option A) (f : A → Outcome) (class : List ℕ) → ((x : A) → Follows c (f x)) → Follows c (option_map_or f it (throws s c class))
  or_throws None f class h = throws_follows s c class
  or_throws (Some x) f class h = h x

  sets_local_follows : (next k : ℕ) (v : Value) (rest : List Value) → Follows c (sets_local s next c k v rest)
  sets_local_follows next k v rest = with_follows s c (with_local s.world c.frame k v) _ (λ locals. goes_on_follows s c next locals rest c.heap)

  makes_array_follows : (next : ℕ) (component : JType) (len : ℤ) (rest : List Value) → Follows c (makes_array s next c component len rest)
  makes_array_follows next component (pos len) rest = if_follows s c (nat_le len s.bounds.alloc) _ _ (goes_on_follows s c next c.frame.locals _ _) refl
  makes_array_follows next component (negsuc n) rest = throws_follows s c _

  invokes_method_follows : (next number : ℕ) (method : MethodInfo) (args rest : List Value) → Follows c (invokes_method s next c number method args rest)
  invokes_method_follows next number method args rest =
      if_follows s c (is_some method.code) _ _ (enters_follows (record { 0 = number }) args rest)
      (if_follows s c (is_without_file s.world method.class.0) _ _ (goes_on_follows s c next c.frame.locals _ c.heap) refl)

  invokes_follows : (next : ℕ) (found : Option ℕ) (args rest : List Value) → Follows c (invokes s next c found args rest)
  invokes_follows next found args rest =
      with_follows s c found _ (λ number. with_follows s c (info_of s.world (record { 0 = number })) _ (λ method. invokes_method_follows next number method args rest))

  invokes_on_follows : (kind : CallKind) (entry next : ℕ) (callee : Callee) (args rest : List Value) → Follows c (invokes_on kind entry s next c callee args rest)
  invokes_on_follows Static entry next callee args rest = invokes_follows next (resolved_method s.world (here s c) entry) args rest
  invokes_on_follows Special entry next callee args rest =
      on_object_follows (receiver_of args) _ (λ o object. invokes_follows next (selected_special s.world (here s c) entry) args rest)
  invokes_on_follows BySelection entry next callee args rest =
      on_object_follows (receiver_of args) _ (λ o object. invokes_follows next (selected_at s.world (here s c) entry callee object.kind) args rest)

  invoke_follows : (kind : CallKind) (entry next : ℕ) → Follows c (invoke kind entry s next c)
  unfolding invoke
  invoke_follows kind entry next =
      with_follows s c (callee_at s.world (here s c) entry) _ (λ callee. with_follows s c (operands_of kind callee.kind c.frame.stack) _ (λ t. invokes_on_follows kind entry next callee t.it t.rest))

  -- ---- instructions

  goes_follows : (next : ℕ) (stack : List Value) → Follows c (goes_on s c next c.frame.locals stack c.heap)
  goes_follows next stack = goes_on_follows s c next c.frame.locals stack c.heap

  rearrange_follows : (how : List Value → Option (List Value)) (next : ℕ) → Follows c (rearrange how s next c)
  unfolding rearrange
  rearrange_follows how next = with_follows s c (how c.frame.stack) _ (goes_follows next)

  make_array_follows : (component : Option JType) (next : ℕ) → Follows c (make_array component s next c)
  unfolding make_array
  make_array_follows component next =
      with_follows s c component _ (λ type. with_follows s c (an_int c.frame.stack) _ (λ len. makes_array_follows next type len.it len.rest))

  switch_follows : (keys : List (ℤ × ℕ)) (default next : ℕ) → Follows c (switch keys default s next c)
  unfolding switch
  switch_follows keys default next = with_follows s c (an_int c.frame.stack) _ (λ a. goes_to_follows s c c.frame c.callers _ a.rest c.heap)

  load_element_follows : (elem : Elem) (next : ℕ) → Follows c (load_element elem s next c)
  unfolding load_element
  load_element_follows elem next =
      with_follows s c (an_element c.frame.stack) _ (λ t. on_array_follows t.it.0 (takes_component elem) _ (λ o array.
      or_throws (place_in_array t.it.1 (length array.values)) _ index_outside (λ place. with_follows s c (slice_get array.values place) _ (λ v. goes_follows next _))))

  store_element_follows : (elem : Elem) (next : ℕ) → Follows c (store_element elem s next c)
  unfolding store_element
  store_element_follows elem next =
      with_follows s c (an_element_and_value elem c.frame.stack) _ (λ t. on_array_follows t.it.0.0 (takes_component elem) _ (λ o array.
      or_throws (place_in_array t.it.0.1 (length array.values)) _ index_outside (λ place.
      if_follows s c (takes_object s.world c.heap array.component t.it.1) _ _
      (with_follows s c (kept array.component t.it.1) _ (λ v. goes_on_follows s c next c.frame.locals t.rest (with_value c.heap o place v)))
      (throws_follows s c _))))

  pub effect_follows : (instr : Instr) (next : ℕ) → Follows c (effect instr s next c)
  unfolding effect nop push_null push_int load_constant load_int load_reference store_int store_reference increase apply_two negate narrow if_int if_ints if_same if_null goto return_int return_reference return_nothing get_field put_field make_object array_length cast instance_of throw
  effect_follows instrs.Nop next = goes_follows next _
  effect_follows instrs.PushNull next = goes_follows next _
  effect_follows (instrs.PushInt z) next = goes_follows next _
  effect_follows (instrs.Ldc entry) next = with_follows s c (constant_at s.world (here s c) entry c.inputs) _ (λ v. goes_follows next _)
  effect_follows (instrs.LoadInt k) next = with_follows s c (int_of (local_of s.world c.frame k)) _ (λ z. goes_follows next _)
  effect_follows (instrs.LoadRef k) next = with_follows s c (reference_of (local_of s.world c.frame k)) _ (λ r. goes_follows next _)
  effect_follows (instrs.StoreInt k) next = with_follows s c (an_int c.frame.stack) _ (λ z. sets_local_follows next k _ z.rest)
  effect_follows (instrs.StoreRef k) next = with_follows s c (a_reference c.frame.stack) _ (λ r. sets_local_follows next k _ r.rest)
  effect_follows (instrs.LoadElem elem) next = load_element_follows elem next
  effect_follows (instrs.StoreElem elem) next = store_element_follows elem next
  effect_follows instrs.Pop next = rearrange_follows _ next
  effect_follows instrs.Pop2 next = rearrange_follows _ next
  effect_follows instrs.Dup next = rearrange_follows _ next
  effect_follows instrs.DupX1 next = rearrange_follows _ next
  effect_follows instrs.DupX2 next = rearrange_follows _ next
  effect_follows instrs.Dup2 next = rearrange_follows _ next
  effect_follows instrs.Dup2X1 next = rearrange_follows _ next
  effect_follows instrs.Dup2X2 next = rearrange_follows _ next
  effect_follows instrs.Swap next = rearrange_follows _ next
  effect_follows (instrs.Int2 op) next =
      with_follows s c (two_ints c.frame.stack) _ (λ t. or_throws (int2_value op t.it.0 t.it.1) _ arithmetic (λ z. goes_follows next _))
  effect_follows instrs.Neg next = with_follows s c (an_int c.frame.stack) _ (λ a. goes_follows next _)
  effect_follows (instrs.Inc k z) next = with_follows s c (int_of (local_of s.world c.frame k)) _ (λ a. sets_local_follows next k _ c.frame.stack)
  effect_follows (instrs.Narrow cut) next = with_follows s c (an_int c.frame.stack) _ (λ a. goes_follows next _)
  effect_follows (instrs.IfInt cond target) next = with_follows s c (an_int c.frame.stack) _ (λ a. branches_follows s c next target _ a.rest)
  effect_follows (instrs.IfPair cond target) next = with_follows s c (two_ints c.frame.stack) _ (λ t. branches_follows s c next target _ t.rest)
  effect_follows (instrs.IfSame want target) next = with_follows s c (two_references c.frame.stack) _ (λ t. branches_follows s c next target _ t.rest)
  effect_follows (instrs.IfNull want target) next = with_follows s c (a_reference c.frame.stack) _ (λ r. branches_follows s c next target _ r.rest)
  effect_follows (instrs.Goto target) next = goes_to_follows s c c.frame c.callers target c.frame.stack c.heap
  effect_follows (instrs.Table low default targets) next = switch_follows _ default next
  effect_follows (instrs.Lookup default keys) next = switch_follows keys default next
  effect_follows instrs.ReturnInt next = with_follows s c (an_int c.frame.stack) _ (λ a. returns_value_follows (Int a.it))
  effect_follows instrs.ReturnRef next = with_follows s c (a_reference c.frame.stack) _ (λ r. returns_value_follows _)
  effect_follows instrs.Return next = returns_nothing_follows
  effect_follows (instrs.GetField entry) next =
      with_follows s c (resolved_field s.world (here s c) entry) _ (λ field. with_follows s c (a_reference c.frame.stack) _ (λ r.
      on_object_follows r.it _ (λ o object. with_follows s c (field_of s.world object field) _ (λ v. goes_follows next _))))
  effect_follows (instrs.PutField entry) next =
      with_follows s c (resolved_field s.world (here s c) entry) _ (λ field. with_follows s c (an_object_and_value field.kind c.frame.stack) _ (λ t.
      on_object_follows t.it.0 _ (λ o object. with_follows s c (field_of s.world object field) _ (λ before. goes_on_follows s c next c.frame.locals t.rest _))))
  effect_follows (instrs.Virtual entry) next = invoke_follows BySelection entry next
  effect_follows (instrs.Special entry) next = invoke_follows Special entry next
  effect_follows (instrs.Static entry) next = invoke_follows Static entry next
  effect_follows (instrs.Interface entry) next = invoke_follows BySelection entry next
  effect_follows (instrs.New entry) next =
      with_follows s c (class_of_entry (type_entry_of s.world (here s c) entry)) _ (λ name. goes_on_follows s c next c.frame.locals _ _)
  effect_follows (instrs.NewPrim code) next = make_array_follows _ next
  effect_follows (instrs.NewRefs entry) next = make_array_follows _ next
  effect_follows instrs.Length next =
      with_follows s c (a_reference c.frame.stack) _ (λ r. on_array_follows r.it (λ component. true) _ (λ o array. goes_follows next _))
  effect_follows instrs.Throw next =
      with_follows s c (a_reference c.frame.stack) _ (λ r. on_object_follows r.it _ (λ o object.
      if_follows s c (fits s.world object.kind (types.Class throwable)) _ _ (throws_in_follows s c c.heap o object.kind) refl))
  effect_follows (instrs.Cast entry) next =
      with_follows s c (type_entry_of s.world (here s c) entry) _ (λ type. with_follows s c (a_reference c.frame.stack) _ (λ r.
      if_follows s c (option_map_or (is_instance s.world c.heap type) r.it true) _ _ (goes_follows next c.frame.stack) (throws_follows s c _)))
  effect_follows (instrs.InstanceOf entry) next =
      with_follows s c (type_entry_of s.world (here s c) entry) _ (λ type. with_follows s c (a_reference c.frame.stack) _ (λ r. goes_follows next _))
  effect_follows (instrs.Other op) next = refl
