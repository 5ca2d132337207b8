-- What holds of a state that is reached holds of it behind each instruction on references, and behind each take.
use Rattle.std.proofs.Common.{◌≡◌, ℕ, ◌+◌, ◌<◌, ◌≤◌, ◌^◌, ℤ, pos, Bool, true, false, cond, List, [], ◌∷◌, length, length-append, drop, nat_le, Option, Some, None, slice_get, slice_set, refl, sym, ap, subst, ◌∙◌, arith, if◌then◌else◌}
use Rattle.std.specs.Option.{option_map, option_map_or}
use Rattle.std.specs.Str.{bytes_eq}
use Rattle.std.proofs.lemmas.List.Quantifiers.{position-Some}
use Rattle.std.proofs.lemmas.Option.{none-some, option_and_then_some, same_Some}
use Rattle.kb_arith.specs.Word.{truth}
use Rattle.kb_class.proofs.Lists.{set_size}
use Rattle.kb_class.specs.Naming.{Has}
use Rattle.kb_code.specs.declared.instruction.Instr.{Instr}
use Rattle.kb_code.specs.declared.instruction.Instr.TheVariants as instrs
use Rattle.kb_heap.specs.declared.bounds.Bound.{Bound}
use Rattle.kb_heap.specs.declared.bounds.Bound.TheVariants.{Steps}
use Rattle.kb_heap.specs.declared.bounds.Bounds.{Bounds}
use Rattle.kb_class.specs.Platform.{throwable}
use Rattle.kb_classes.specs.Subtypes.{fits}
use Rattle.kb_names.specs.declared.types.ExactType.{ExactType}
use Rattle.kb_names.specs.declared.types.JType.TheVariants as types
use Rattle.kb_frames.specs.Heaps.{exact_type_of}
use Rattle.kb_classes.specs.World.{World, literal_entry_of, literal_in, type_entry_of}
use Rattle.kb_classes.specs.declared.slots.FieldSlot.{FieldSlot}
use Rattle.kb_names.specs.declared.types.JType.{JType}
use Rattle.kb_semantics.specs.Config.{has_room, instruction_at, max_locals_of}
use Rattle.kb_semantics.specs.Instructions.{BySelection, CallKind, Special, Static, is_wanted}
use Rattle.kb_semantics.specs.Ways.{class_cast, null_pointer}
use Rattle.kb_terms.specs.declared.node.Node.{Node}
use Rattle.kb_terms.specs.declared.node.Node.TheVariants.{Const}
use Rattle.kb_terms.specs.declared.node.TermId.{TermId}
use Rattle.kb_terms.specs.Terms.{interned}
use Rattle.kb_picture.specs.declared.choice.Choice.{Choice}
use Rattle.kb_picture.specs.declared.choice.Choice.TheVariants.{Only, Size}
use Rattle.kb_picture.specs.declared.picture.Origin.{Origin}
use Rattle.kb_picture.specs.declared.picture.Origin.TheVariants.{Arg, Field, Element}
use Rattle.kb_picture.specs.Queries.{kind_for}
use Rattle.kb_picture.specs.WellTyped.{is_reference_type}
use Rattle.kb_frames.specs.declared.frame.SymFrame.{SymFrame}
use Rattle.kb_frames.specs.declared.state.Stage.{Stage}
use Rattle.kb_frames.specs.declared.state.Stage.TheVariants.{Runs}
use Rattle.kb_frames.specs.declared.value.SymValue.{SymValue}
use Rattle.kb_frames.specs.declared.value.SymValue.TheVariants.{Int, Null, Obj, Literal, New, Loc}
use Rattle.kb_frames.specs.declared.value.Outcome.TheVariants.{Cut}
use Rattle.kb_frames.specs.FirstReads.{first_int, first_reference, found_in}
use Rattle.kb_frames.specs.Lent.{begun, local_in, locals_of, read_count, stack_of, with_nodes}
use Rattle.kb_frames.specs.Making.{with_made}
use Rattle.kb_frames.specs.Next.{argument_next, method_now, offset_now}
use Rattle.kb_frames.specs.State.{State}
use Rattle.kb_frames.specs.States.{Each, IsLocal, IsSymValue}
use Rattle.kb_ways.specs.Ways.{with_stack, ObjectThere, OfPicture, OfRun, Take, Way, Goes, Jumps, Enters, Throws, ThrowsThere, Fails, ill_typed, object_value}
use Rattle.kb_ways.proofs.AskedLaws.{interned_is_term}
use Rattle.kb_ways.proofs.GrowLaws.{if_has, interned_extends, interned_goes_on, more_terms, option_has}
use Rattle.kb_frames.proofs.ItemLaws.{each_cons, each_drop, each_set, option_has_at, only_has}
use Rattle.kb_ways.proofs.KeepLaws.{went_stays}
use Rattle.kb_ways.proofs.GoodWays.{IsGood, running_now, went_sound}
use Rattle.kb_ways.proofs.SoundLaws.{Sound, begun_sound, frame_sound, made_sound, sound_reached}
use Rattle.kb_stepcall.specs.Calls.{invokes}
use Rattle.kb_stepcall.specs.Making.{makes_object}
use Rattle.kb_stepcall.specs.Operands.{topmost}
use Rattle.kb_stepcall.proofs.CallLaws.{each_topmost}
use Rattle.kb_stepcall.proofs.PlanLaws.{HasWays, invokes_has, makes_has}
use Rattle.kb_frames.specs.Making.{with_array}
use Rattle.kb_semantics.specs.Instructions.{component_of_entry}
use Rattle.kb_universe.specs.Faults.{component_of_code}
use Rattle.kb_ways.proofs.SoundLaws.{array_sound}
use Rattle.kb_steparray.specs.Effects.{store_kept}
use Rattle.kb_steparray.proofs.PlanLaws.{HasWays as HasArrayWays, loads_has, makes_has as makes_array_has, stores_has, tells_has}
use Rattle.kb_stepref.specs.Choices.{alternatives}
use Rattle.kb_ways.specs.Plans.{Planned, plain, planned, carried_out, takes_next, takes_up, returns_value, here, pushes_term}
use Rattle.kb_stepref.specs.Effects.{branch_where, got, in_local, is_local, plan_of, put, put_kept, put_where, puts_kept, throws_object, throws_reference}
use Rattle.kb_ways.specs.Kept.{kept_in, kept, is_of_kind}
use Rattle.kb_stepref.specs.Types.{casts_to, is_instance, tells}
use Rattle.kb_stepref.specs.Fields.{field_named, has_place, held}
use Rattle.kb_lazy.specs.Laws.{AreInRange}
use Rattle.kb_stepref.specs.Laws.{IsAtReferences}
use Rattle.kb_ways.specs.Identity.{same}
use Rattle.kb_stepref.specs.Comparing.{is_null}
use Rattle.kb_ways.specs.Operands.{an_object_and_value, of_kind, a_reference, reference, two_references}
use Rattle.kb_ways.specs.declared.question.Question.TheVariants.{Reads}
use Rattle.kb_stepref.specs.Questions.{asked_at, asked_by, question_of}
use Rattle.kb_ways.specs.Questions.{answered, answers, behind_read, cut_where, passed_by}
use Rattle.kb_stepref.proofs.AnsweredLaws.{answered_sound}
use Rattle.kb_stepref.proofs.FirstReadLaws.{IsAskedAt, asked, where_so}
use Rattle.kb_frames.proofs.MoreLaws.{locals_more, values_more}
use Rattle.kb_stepref.proofs.WrittenLaws.{SoundBehind, held_in_there, held_there, kept_behind, more_behind, put_kept_behind, sound_itself}
use Rattle.kb_ways.proofs.KeptLaws.{kept_there, returns_has, of_kind_is, reference_is}

-- ---- operands

-- the value of the two that a putfield takes stands on the top
pub value_on_top : (type : JType) (stack : List SymValue) (t : SymValue × SymValue) → an_object_and_value type stack ≡ Some t → slice_get stack 0 ≡ Some t.1
value_on_top type stack t e =
    option_and_then_some (λ (value : SymValue). option_map (λ (object : SymValue). (object, value)) (reference (slice_get stack 1))) (of_kind type (slice_get stack 0)) t e (λ value is pair.
    (of_kind_is type (slice_get stack 0) t.1 (is ∙ ap (λ (v : SymValue). Some v) (go value (reference (slice_get stack 1)) pair))).0)
  where
    go : (value : SymValue) (object : Option SymValue) → option_map (λ (o : SymValue). (o, value)) object ≡ Some t → value ≡ t.1
    go value None pair = absurd (none-some t pair)
    go value (Some object) pair = ap (λ (p : SymValue × SymValue). p.1) (same_Some {A = SymValue × SymValue} (object, value) t pair)

-- ---- plans

-- A plan leaves a sound state, with the same frames, and leads on with values of it.
pub record IsGoodPlan (world : World) (state : State) (plan : Planned) : Type 0 where
  pub behind : SoundBehind world state plan.state
  pub good : IsGood world plan.state plan.way

-- a length that is chosen is an int
abbrev pub IsSized : Choice → Type 0
IsSized choice = (count : ℕ) → choice ≡ Size count → count < 2 ^ 31

module _ (world : World) (state : State) (sound : Sound world state) (frame : SymFrame) (callers : List SymFrame) (running : state.stage ≡ Runs frame callers) where
  room : max_locals_of world (method_now state.method state.stage) ≤ length (locals_of state.stage)
  room = subst (λ (stage : Stage). max_locals_of world (method_now state.method stage) ≤ length (locals_of stage)) (sym running) (frame_sound world state frame callers running sound).0.room

  locals : Each (IsLocal world state) (locals_of state.stage)
  locals = subst (λ (stage : Stage). Each (IsLocal world state) (locals_of stage)) (sym running) (frame_sound world state frame callers running sound).0.locals

  stack : Each (IsSymValue world state) (stack_of state.stage)
  stack = subst (λ (stage : Stage). Each (IsSymValue world state) (stack_of stage)) (sym running) (frame_sound world state frame callers running sound).0.stack

  abbrev IsRight : Planned → Type 0
  IsRight plan = IsGoodPlan world state plan

  plain_good : (way : Way) → IsGood world state way → IsRight (plain state way)
  plain_good way good = record { behind = sound_itself world state sound; good = good }

  fails_good : IsRight (plain state Fails)
  fails_good = plain_good Fails tt

  planned_good : {A : Type 0} (it : Option A) (f : A → Planned) → ((x : A) → it ≡ Some x → IsRight (f x)) → IsRight (planned state it f)
  planned_good it f h = option_has_at IsRight it f (plain state Fails) h fails_good

  rest_good : (count : ℕ) → Each (IsSymValue world state) (drop count (stack_of state.stage))
  rest_good count = each_drop (IsSymValue world state) count (stack_of state.stage) stack

  goes_good : (values : List SymValue) → Each (IsSymValue world state) values → IsRight (plain state (with_stack state values))
  goes_good values each = plain_good (with_stack state values) (record { room = room; each_local = locals; each_value = each })

  pushes_good : (value : SymValue) (count : ℕ) → IsSymValue world state value → IsRight (plain state (with_stack state (value ∷ drop count (stack_of state.stage))))
  pushes_good value count is = goes_good (value ∷ drop count (stack_of state.stage)) (each_cons (IsSymValue world state) value (drop count (stack_of state.stage)) is (rest_good count))

  -- a reference that stands on the stack
  top_there : (value : SymValue) → a_reference (stack_of state.stage) ≡ Some value → IsSymValue world state value
  top_there value e = stack 0 value (reference_is (slice_get (stack_of state.stage) 0) value e)

  -- one that a local holds
  local_there : (k : ℕ) (value : SymValue) → reference (cond (is_local world state k) (local_in state.stage k) None) ≡ Some value → IsSymValue world state value
  local_there k value e =
      let held_is : local_in state.stage k ≡ Some value =
      (where_so (is_local world state k) (local_in state.stage k) value (reference_is (cond (is_local world state k) (local_in state.stage k) None) value e)).1 in
      option_and_then_some (λ (it : Option SymValue). it) (slice_get (locals_of state.stage) k) value held_is (λ local there at. subst (IsLocal world state) at (locals k local there))

  in_local_good : (k : ℕ) (value : SymValue) → IsSymValue world state value → IsRight (plain state (in_local world state k value (drop 1 (stack_of state.stage))))
  in_local_good k value is =
      plain_good (in_local world state k value (drop 1 (stack_of state.stage)))
      (if_has (IsGood world state) (is_local world state k) (Goes (slice_set (locals_of state.stage) k (Some value)) (drop 1 (stack_of state.stage))) Fails
      (record {
        room = omega (arith, room, set_size (locals_of state.stage) k (Some value));
        each_local = each_set (IsLocal world state) (locals_of state.stage) k (Some value) is locals;
        each_value = rest_good 1;
      }) tt)

  branch_good : (so : Bool) (target count : ℕ) → IsRight (plain state (branch_where state so target count))
  branch_good so target count =
      plain_good (branch_where state so target count)
      (if_has (IsGood world state) so (Jumps target (drop count (stack_of state.stage))) (with_stack state (drop count (stack_of state.stage))) (rest_good count)
      (record { room = room; each_local = locals; each_value = rest_good count }))

  -- ---- fields

  held_good : (field : FieldSlot) (object : SymValue) → IsRight (planned state (held world state field object) (λ (it : SymValue). plain state (with_stack state (it ∷ drop 1 (stack_of state.stage)))))
  held_good field object =
      planned_good (held world state field object) (λ (it : SymValue). plain state (with_stack state (it ∷ drop 1 (stack_of state.stage))))
      (λ it e. pushes_good it 1 (held_there world state sound field object it e))

  got_good : (field : FieldSlot) (object : SymValue) → IsRight (got world state field object)
  got_good field Null = plain_good (Throws null_pointer) tt
  got_good field (Int term) = held_good field (Int term)
  got_good field (Obj number) = held_good field (Obj number)
  got_good field (Literal number) = held_good field (Literal number)
  got_good field (New number) = held_good field (New number)
  got_good field (Loc number) = held_good field (Loc number)

  -- the values that are left are those of the state behind
  goes_behind_to : (new : State) (values : List SymValue) → SoundBehind world state new → Each (IsSymValue world new) values → IsGood world new (with_stack state values)
  goes_behind_to new values behind each = record {
    room =
        subst (λ (stage : Stage). max_locals_of world (method_now new.method stage) ≤ length (locals_of state.stage)) (sym behind.stage)
        (subst (λ m. max_locals_of world (method_now m state.stage) ≤ length (locals_of state.stage)) (sym behind.method) room);
    each_local = locals_more world state new behind.more (locals_of state.stage) locals;
    each_value = each;
  }

  goes_behind_good : (new : State) (values : List SymValue) → SoundBehind world state new → Each (IsSymValue world state) values → IsGood world new (with_stack state values)
  goes_behind_good new values behind each = goes_behind_to new values behind (values_more world state new behind.more values each)

  put_where_good : (field : FieldSlot) (object value : SymValue) → IsSymValue world state value → IsRight (put_where world state field object value)
  put_where_good field object value is =
      if_has IsRight (has_room world (method_now state.method state.stage) (length (drop 2 (stack_of state.stage))))
      (planned state (kept field.kind value state) (puts_kept state object field.slot)) (plain state Fails)
      (only_has IsRight (is_of_kind field.kind value) (kept_in field.kind value state) (puts_kept state object field.slot) (plain state Fails)
      (record {
        behind = behind;
        good = goes_behind_good (put_kept object field.slot (kept_in field.kind value state)) (drop 2 (stack_of state.stage)) behind (rest_good 2);
      }) fails_good) fails_good
    where
      behind : SoundBehind world state (put_kept object field.slot (kept_in field.kind value state))
      behind = put_kept_behind world state frame callers object field.slot (kept_in field.kind value state) running (kept_behind world state sound field.kind value is)

  placed_good : (field : FieldSlot) (object value : SymValue) → IsSymValue world state value
      → IsRight (if has_place world state field object then put_where world state field object value else plain state Fails)
  placed_good field object value is =
      if_has IsRight (has_place world state field object) (put_where world state field object value) (plain state Fails) (put_where_good field object value is) fails_good

  put_good : (field : FieldSlot) (object value : SymValue) → IsSymValue world state value → IsRight (put world state field object value)
  put_good field Null value is = plain_good (Throws null_pointer) tt
  put_good field (Int term) value is = placed_good field (Int term) value is
  put_good field (Obj number) value is = placed_good field (Obj number) value is
  put_good field (Literal number) value is = placed_good field (Literal number) value is
  put_good field (New number) value is = placed_good field (New number) value is
  put_good field (Loc number) value is = placed_good field (Loc number) value is

  -- ---- athrow

  there_good : (object : ObjectThere) → IsSymValue world state (object_value object) → (kind : Option ExactType) → IsRight (planned state kind (throws_object world state object))
  there_good object is kind =
      planned_good kind (throws_object world state object)
      (λ k e. if_has IsRight (fits world k (types.Class throwable)) (plain state (ThrowsThere object k)) (plain state Fails) (plain_good (ThrowsThere object k) is) fails_good)

  thrown_good : (value : SymValue) → IsSymValue world state value → IsRight (throws_reference world state value)
  thrown_good Null is = plain_good (Throws null_pointer) tt
  thrown_good (Obj number) is = there_good (OfPicture number) is (exact_type_of state (Obj number))
  thrown_good (New number) is = there_good (OfRun number) is (exact_type_of state (New number))
  thrown_good (Int term) is = fails_good
  thrown_good (Literal number) is = fails_good
  thrown_good (Loc number) is = fails_good

  -- ---- calls and new objects

  -- a term that is made lies on what is left
  term_good : (z : ℤ) (count : ℕ) → IsRight (pushes_term state (drop count (stack_of state.stage)) (interned state.nodes (Const z)))
  term_good z count =
      let made : List Node × TermId = interned state.nodes (Const z) in
      let new : State = with_nodes state made.0 in
      let behind : SoundBehind world state new = more_behind world state sound new (more_terms state made.0 (interned_goes_on state.nodes (Const z) refl)) in
      record {
        behind = behind;
        good = goes_behind_to new (Int made.1 ∷ drop count (stack_of state.stage)) behind
            (each_cons (IsSymValue world new) (Int made.1) (drop count (stack_of state.stage)) (interned_is_term state.nodes (Const z))
            (values_more world state new behind.more (drop count (stack_of state.stage)) (rest_good count)));
      }

  call_ways : HasWays IsRight world state
  call_ways = record {
    fails = fails_good;
    throws = plain_good (Throws null_pointer) tt;
    enters = λ method count. plain_good (Enters method (topmost count (stack_of state.stage)) (drop count (stack_of state.stage)))
        (each_topmost (IsSymValue world state) count (stack_of state.stage) stack, rest_good count);
    nothing = λ count. goes_good (drop count (stack_of state.stage)) (rest_good count);
    term = term_good;
  }

  call_good : (call : CallKind) (entry : ℕ) → IsRight (invokes call world state entry)
  call_good call entry = invokes_has IsRight world state call_ways call entry

  object_good : (class : List ℕ) → IsRight (record { state = with_made world state class; way = with_stack state (New (length state.made) ∷ stack_of state.stage) })
  object_good class =
      let new : State = with_made world state class in
      let longer : length new.made ≡ length state.made + 1 = length-append state.made _ in
      let behind : SoundBehind world state new = record {
        sound = made_sound world state class sound;
        more = record { terms = interned_extends state.nodes (Const (pos 0)); objects = omega arith; locs = omega arith; made = omega (arith, longer) };
        stage = refl;
        method = refl;
        init = refl;
        picture = refl;
      } in
      let there : IsSymValue world new (New (length state.made)) = omega (arith, longer) in
      record {
        behind = behind;
        good = goes_behind_to new (New (length state.made) ∷ stack_of state.stage) behind
            (each_cons (IsSymValue world new) (New (length state.made)) (stack_of state.stage) there (values_more world state new behind.more (stack_of state.stage) stack));
      }

  make_good : (entry : ℕ) → IsRight (makes_object world state entry)
  make_good entry = makes_has IsRight world state fails_good object_good entry

  -- ---- types of objects, and literals

  cast_good : (b : Bool) → IsRight (plain state (if b then with_stack state (stack_of state.stage) else Throws class_cast))
  cast_good true = goes_good (stack_of state.stage) stack
  cast_good false = plain_good (Throws class_cast) tt

  -- an entry's literal is one of the world's
  literal_there : (number entry : ℕ) → literal_entry_of world (here world state) entry ≡ Some number → number < length world.literals
  literal_there number entry e = option_and_then_some (literal_in world.literals) _ number e (λ text of at. (position-Some (bytes_eq text) world.literals number [] at).0)

  -- ---- arrays

  element_good : (component : JType) (array : SymValue) (place : ℕ) (value : SymValue) → slice_get (stack_of state.stage) 0 ≡ Some value
      → IsRight (store_kept state array place (kept_in component value state))
  element_good component array place value e = record {
    behind = behind;
    good = goes_behind_good (put_kept array place (kept_in component value state)) (drop 3 (stack_of state.stage)) behind (rest_good 3);
  }
    where
      behind : SoundBehind world state (put_kept array place (kept_in component value state))
      behind = put_kept_behind world state frame callers array place (kept_in component value state) running (kept_behind world state sound component value (stack 0 value e))

  array_good : (component : JType) (count : ℕ) → count < 2 ^ 31 → IsRight (record { state = with_array state component count; way = with_stack state (New (length state.made) ∷ drop 1 (stack_of state.stage)) })
  array_good component count small =
      let new : State = with_array state component count in
      let longer : length new.made ≡ length state.made + 1 = length-append state.made _ in
      let behind : SoundBehind world state new = record {
        sound = array_sound world state component count small sound;
        more = record { terms = interned_extends state.nodes (Const (pos 0)); objects = omega arith; locs = omega arith; made = omega (arith, longer) };
        stage = refl;
        method = refl;
        init = refl;
        picture = refl;
      } in
      let there : IsSymValue world new (New (length state.made)) = omega (arith, longer) in
      record {
        behind = behind;
        good = goes_behind_to new (New (length state.made) ∷ drop 1 (stack_of state.stage)) behind
            (each_cons (IsSymValue world new) (New (length state.made)) (drop 1 (stack_of state.stage)) there (values_more world state new behind.more (drop 1 (stack_of state.stage)) (rest_good 1)));
      }

  array_ways : (choice : Choice) → IsSized choice → HasArrayWays IsRight world state choice
  array_ways choice sized = record {
    fails = fails_good;
    throws = λ class. plain_good (Throws class) tt;
    reads = λ array place value e. pushes_good value 2 (held_in_there world state sound array value place e);
    writes = element_good;
    term = term_good;
    makes = λ component count is. array_good component count (sized count is);
  }

  -- ---- all of them

  pub plan_sound : (choice : Choice) → IsSized choice → (instr : Instr) → IsGoodPlan world state (plan_of world state choice instr)
  plan_sound choice sized instrs.PushNull = pushes_good Null 0 tt
  plan_sound choice sized (instrs.LoadRef k) =
      planned_good (reference (cond (is_local world state k) (local_in state.stage k) None)) (λ (value : SymValue). plain state (with_stack state (value ∷ stack_of state.stage)))
      (λ value e. pushes_good value 0 (local_there k value e))
  plan_sound choice sized (instrs.StoreRef k) =
      planned_good (a_reference (stack_of state.stage)) (λ (value : SymValue). plain state (in_local world state k value (drop 1 (stack_of state.stage))))
      (λ value e. in_local_good k value (top_there value e))
  plan_sound choice sized (instrs.IfSame want target) =
      planned_good (two_references (stack_of state.stage)) (λ (t : SymValue × SymValue). plain state (branch_where state (is_wanted want (same t.0 t.1)) target 2))
      (λ t e. branch_good (is_wanted want (same t.0 t.1)) target 2)
  plan_sound choice sized (instrs.IfNull want target) =
      planned_good (a_reference (stack_of state.stage)) (λ (value : SymValue). plain state (branch_where state (is_wanted want (is_null value)) target 1))
      (λ value e. branch_good (is_wanted want (is_null value)) target 1)
  plan_sound choice sized instrs.ReturnRef =
      planned_good (a_reference (stack_of state.stage))
      (returns_value world state)
      (λ value e. returns_has IsRight world state value
      (λ type. record { behind = (kept_behind world state sound type value (top_there value e)).behind; good = kept_there world state type value (top_there value e) }) fails_good)
  plan_sound choice sized instrs.Throw = planned_good (a_reference (stack_of state.stage)) (throws_reference world state) (λ value e. thrown_good value (top_there value e))
  plan_sound choice sized (instrs.GetField entry) =
      planned_good (field_named world state entry) (λ (field : FieldSlot). planned state (a_reference (stack_of state.stage)) (got world state field))
      (λ field e. planned_good (a_reference (stack_of state.stage)) (got world state field) (λ object f. got_good field object))
  plan_sound choice sized (instrs.PutField entry) =
      planned_good (field_named world state entry)
      (λ (field : FieldSlot). planned state (an_object_and_value field.kind (stack_of state.stage)) (λ (t : SymValue × SymValue). put world state field t.0 t.1))
      (λ field e. planned_good (an_object_and_value field.kind (stack_of state.stage)) (λ (t : SymValue × SymValue). put world state field t.0 t.1)
      (λ t f. put_good field t.0 t.1 (stack 0 t.1 (value_on_top field.kind (stack_of state.stage) t f))))
  plan_sound choice sized (instrs.Virtual entry) = call_good BySelection entry
  plan_sound choice sized (instrs.Special entry) = call_good Special entry
  plan_sound choice sized (instrs.Static entry) = call_good Static entry
  plan_sound choice sized (instrs.Interface entry) = call_good BySelection entry
  plan_sound choice sized (instrs.New entry) = make_good entry
  plan_sound choice sized (instrs.LoadElem elem) = loads_has IsRight world state choice (array_ways choice sized) elem
  plan_sound choice sized (instrs.StoreElem elem) = stores_has IsRight world state choice (array_ways choice sized) elem
  plan_sound choice sized instrs.Length = tells_has IsRight world state choice (array_ways choice sized)
  plan_sound choice sized (instrs.NewPrim code) = makes_array_has IsRight world state choice (array_ways choice sized) (component_of_code code)
  plan_sound choice sized (instrs.NewRefs entry) = makes_array_has IsRight world state choice (array_ways choice sized) (component_of_entry world (here world state) entry)
  plan_sound choice sized (instrs.Cast entry) =
      planned_good (type_entry_of world (here world state) entry) (λ (type : ExactType). planned state (a_reference (stack_of state.stage)) (casts_to world state type))
      (λ type e. planned_good (a_reference (stack_of state.stage)) (casts_to world state type) (λ value f. cast_good (is_instance world state type true value)))
  plan_sound choice sized (instrs.InstanceOf entry) =
      planned_good (type_entry_of world (here world state) entry) (λ (type : ExactType). planned state (a_reference (stack_of state.stage)) (tells world state type))
      (λ type e. planned_good (a_reference (stack_of state.stage)) (tells world state type) (λ value f. term_good (truth (is_instance world state type false value)) 1))
  plan_sound choice sized (instrs.Ldc entry) =
      planned_good (literal_entry_of world (here world state) entry) (λ (number : ℕ). plain state (with_stack state (Literal number ∷ stack_of state.stage)))
      (λ number e. pushes_good (Literal number) 0 (literal_there number entry e))
  plan_sound choice sized _ = fails_good

-- ---- takes

-- A take leaves a sound state, of the same runs, with the same picture.
pub record SoundTo (world : World) (old new : State) : Type 0 where
  pub sound : Sound world new
  pub method : new.method ≡ old.method
  pub init : new.init ≡ old.init
  pub picture : new.picture ≡ old.picture

to_itself : (world : World) (state : State) → Sound world state → SoundTo world state state
to_itself world state sound = record { sound = sound; method = refl; init = refl; picture = refl }

module _ (world : World) (bounds : Bounds) where
  carried_out_sound : (choice : Choice) → IsSized choice → (state : State) (frame : SymFrame) (callers : List SymFrame) (found : Instr × ℕ) → state.stage ≡ Runs frame callers → Sound world state
      → SoundTo world state (carried_out plan_of world bounds choice state found).state
  carried_out_sound choice sized state frame callers found running sound =
      let plan : Planned = plan_of world state choice found.0 in
      let good = plan_sound world state sound frame callers running choice sized found.0 in
      let stays = went_stays world bounds found.1 plan.state plan.way in
      record {
        sound = went_sound world bounds found.1 plan.state frame callers (good.behind.stage ∙ running) good.behind.sound plan.way good.good;
        method = stays.method ∙ good.behind.method;
        init = stays.init ∙ good.behind.init;
        picture = stays.picture ∙ good.behind.picture;
      }

  -- by whichever alternative
  pub takes_up_sound_by : (choice : Choice) → IsSized choice → (state : State) (frame : SymFrame) (callers : List SymFrame) → state.stage ≡ Runs frame callers → Sound world state
      → SoundTo world state (takes_up plan_of world bounds choice state).state
  takes_up_sound_by choice sized state frame callers running sound =
      option_has (λ (take : Take). SoundTo world state take.state) (instruction_at world (method_now state.method state.stage) (offset_now state.stage)) (carried_out plan_of world bounds choice state) (ill_typed world state)
      (λ found. carried_out_sound choice sized state frame callers found running sound) (to_itself world state sound)

  pub takes_up_sound : (state : State) (frame : SymFrame) (callers : List SymFrame) → state.stage ≡ Runs frame callers → Sound world state → SoundTo world state (takes_up plan_of world bounds Only state).state
  takes_up_sound = takes_up_sound_by Only (λ count is. absurd (only_no_size count is)) where
    only_no_size : (count : ℕ) → Only ≡ Size count → ⊥
    only_no_size count e = cc

  begun_to : (old new : State) → SoundTo world (begun world old) new → SoundTo world old new
  begun_to old new to = record { sound = to.sound; method = to.method; init = to.init; picture = to.picture }

  pub takes_next_sound : (old : State) → Sound world old → argument_next world old.method old.stage ≡ None → SoundTo world old (takes_next plan_of world bounds Only old).state
  takes_next_sound old sound none =
      let run = running_now world bounds Only old in
      if_has (λ (take : Take). SoundTo world old take.state) (nat_le bounds.run.steps old.carried) (record { state = old; outcome = Cut Steps }) (takes_up plan_of world bounds Only (begun world old))
      (to_itself world old sound) (begun_to old _ (takes_up_sound (begun world old) run.0 run.1 run.2 (begun_sound world old sound none)))

-- where nothing is asked, all arguments are read
pub none_asked : (world : World) (bounds : Bounds) (state : State) → question_of world state bounds ≡ None → argument_next world state.method state.stage ≡ None
none_asked world bounds state none = go (argument_next world state.method state.stage) none where
  go : (type : Option JType) → option_map_or (λ (t : JType). Some (Reads (Arg (read_count state.stage)) t)) type (asked_at world state bounds) ≡ None → type ≡ None
  go None e = refl
  go (Some type) e = absurd (none-some (Reads (Arg (read_count state.stage)) type) (sym e))

-- an answer leaves the method, and the stage where it is no argument
module _ (world : World) (choice : Choice) (state : State) where
  found_method : (slot : Origin) (value : SymValue) (s : State) → (found_in slot value s).method ≡ s.method
  found_method (Arg number) value s = refl
  found_method (Field object place) value s = refl
  found_method (Element array index) value s = refl

  found_init : (slot : Origin) (value : SymValue) (s : State) → (found_in slot value s).init ≡ s.init
  found_init (Arg number) value s = refl
  found_init (Field object place) value s = refl
  found_init (Element array index) value s = refl

  pub answered_method : (slot : Origin) (type : JType) → (answered world choice state (Reads slot type)).method ≡ state.method
  answered_method slot type =
      if_has (λ (s : State). s.method ≡ state.method) (is_reference_type type) (first_reference world slot choice state) (first_int slot (kind_for (Some type)) state)
      (found_method slot _ _) (found_method slot _ _)

  pub answered_init : (slot : Origin) (type : JType) → (answered world choice state (Reads slot type)).init ≡ state.init
  answered_init slot type =
      if_has (λ (s : State). s.init ≡ state.init) (is_reference_type type) (first_reference world slot choice state) (first_int slot (kind_for (Some type)) state)
      (found_init slot _ _) (found_init slot _ _)

  pub answered_stage : (object place : ℕ) (type : JType) → (answered world choice state (Reads (Field object place) type)).stage ≡ state.stage
  answered_stage object place type =
      if_has (λ (s : State). s.stage ≡ state.stage) (is_reference_type type) (first_reference world (Field object place) choice state) (first_int (Field object place) (kind_for (Some type)) state) refl refl

  pub element_stage : (array place : ℕ) (type : JType) → (answered world choice state (Reads (Element array place) type)).stage ≡ state.stage
  element_stage array place type =
      if_has (λ (s : State). s.stage ≡ state.stage) (is_reference_type type) (first_reference world (Element array place) choice state) (first_int (Element array place) (kind_for (Some type)) state) refl refl

  pub answered_carried : (slot : Origin) (type : JType) → (answered world choice state (Reads slot type)).carried ≡ state.carried
  answered_carried slot type =
      if_has (λ (s : State). s.carried ≡ state.carried) (is_reference_type type) (first_reference world slot choice state) (first_int slot (kind_for (Some type)) state)
      (found_carried slot _ _) (found_carried slot _ _)
    where
      found_carried : (of : Origin) (value : SymValue) (s : State) → (found_in of value s).carried ≡ s.carried
      found_carried (Arg number) value s = refl
      found_carried (Field object place) value s = refl
      found_carried (Element array index) value s = refl

-- ---- behind an answer

module _ (world : World) (bounds : Bounds) (state : State) (at : IsAtReferences world state) (slot : Origin) (type : JType) (asks : question_of world state bounds ≡ Some (Reads slot type))
    (choice : Choice) (range : AreInRange bounds) (has : Has (alternatives world state bounds (Reads slot type)) choice) where
  abbrev pub told : State
  told = answered world choice state (Reads slot type)

  pub told_sound : Sound world told
  told_sound = answered_sound world bounds state (sound_reached world state at.reached) slot type (asked world bounds state at slot type asks) choice range has

  pub goes_behind_sound : SoundTo world told (behind_read plan_of world bounds slot told).state
  goes_behind_sound = go slot refl (asked world bounds state at slot type asks).from where
    go : (of : Origin) → slot ≡ of → IsAskedAt world bounds state of type → SoundTo world told (behind_read plan_of world bounds of told).state
    go (Arg number) is from = to_itself world told told_sound
    go (Field object place) is from =
        takes_up_sound world bounds told from.frame from.callers
        (ap (λ (s : Origin). (answered world choice state (Reads s type)).stage) is ∙ (answered_stage world choice state object place type ∙ from.running)) told_sound
    go (Element array place) is from =
        takes_up_sound world bounds told from.frame from.callers
        (ap (λ (s : Origin). (answered world choice state (Reads s type)).stage) is ∙ (element_stage world choice state array place type ∙ from.running)) told_sound

  pub answers_sound : SoundTo world told (answers (asked_by bounds) plan_of world bounds choice state (Reads slot type)).state
  answers_sound = go (passed_by choice) where
    go : (bound : Option Bound) → SoundTo world told (cut_where bound told (behind_read plan_of world bounds slot told)).state
    go None = goes_behind_sound
    go (Some bound) = to_itself world told told_sound
