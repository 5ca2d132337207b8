-- An instruction of a method over heaps calls nothing, and asks for nothing but what a field holds.
use Rattle.std.proofs.Common.{◌≡◌, ℕ, Bool, List, ◌∷◌, drop, length, slice_get, Option, Some, None, cond, refl, sym, ap, subst, ◌∙◌, if◌then◌else◌, false, true≢false}
use Rattle.std.proofs.lemmas.Option.{none-some, option_and_then_some, same_Some}
use Rattle.std.specs.Option.{option_map}
use Rattle.kb_class.specs.declared.ids.MethodId.{MethodId}
use Rattle.kb_code.specs.declared.instruction.Instr.{Instr}
use Rattle.kb_code.specs.declared.instruction.Instr.TheVariants as instrs
use Rattle.kb_heap.specs.declared.bounds.Bounds.{Bounds}
use Rattle.kb_classes.specs.World.{World, literal_entry_of}
use Rattle.kb_classes.specs.declared.slots.FieldSlot.{FieldSlot}
use Rattle.kb_names.specs.declared.types.JType.{JType}
use Rattle.kb_semantics.specs.Config.{has_room, instruction_at}
use Rattle.kb_picture.specs.declared.choice.Choice.{Choice}
use Rattle.kb_picture.specs.declared.picture.Origin.{Origin}
use Rattle.kb_frames.specs.declared.state.Stage.{Stage}
use Rattle.kb_frames.specs.declared.value.Cell.{Cell}
use Rattle.kb_frames.specs.declared.value.Cell.TheVariants.{Untouched, Read, Written}
use Rattle.kb_frames.specs.declared.value.SymValue.{SymValue}
use Rattle.kb_frames.specs.declared.value.SymValue.TheVariants.{Int, Null, Obj, Literal, New, Loc}
use Rattle.kb_frames.specs.Lent.{begun, local_in, stack_of}
use Rattle.kb_frames.specs.Next.{instruction_next, method_now, offset_now}
use Rattle.kb_frames.specs.State.{State}
use Rattle.kb_ways.specs.declared.question.Question.{Question}
use Rattle.kb_ways.specs.declared.question.Question.TheVariants as questions
use Rattle.kb_ways.specs.Operands.{an_object_and_value, a_reference, reference, two_references}
use Rattle.kb_ways.specs.Plans.{Planned, here, plain, planned, returns_value}
use Rattle.kb_ways.specs.Slots.{first_ask}
use Rattle.kb_ways.specs.Ways.{Fails, with_stack}
use Rattle.kb_ways.proofs.AloneLaws.{EntersNone}
use Rattle.kb_ways.proofs.BegunLaws.{place_same}
use Rattle.kb_ways.proofs.GrowLaws.{if_has, option_has}
use Rattle.kb_ways.proofs.KeptLaws.{returns_has}
use Rattle.kb_ways.specs.Kept.{kept}
use Rattle.kb_stepref.specs.Effects.{branch_where, got, in_local, is_local, plan_of, put, put_where, puts_kept}
use Rattle.kb_stepref.specs.Fields.{cell_of, field_named, has_place, held}
use Rattle.kb_stepref.specs.Questions.{asked_by, asks_field}
use Rattle.kb_drive.specs.HeapMethods.{is_left_to_steps}

-- ---- what is next

-- the next instruction, where there is one, is none of those that are left to steps
abbrev pub CallsNothing : World → State → Type 0
CallsNothing world state =
    (found : Instr × ℕ) → instruction_at world (method_now state.method state.stage) (offset_now state.stage) ≡ Some found → is_left_to_steps found.0 ≡ false

-- where another state stands at the same place
pub calls_same : (world : World) (old new : State) → new.method ≡ old.method → new.stage ≡ old.stage → CallsNothing world old → CallsNothing world new
calls_same world old new method stage calls found e =
    calls found
    (ap (λ (s : Stage). instruction_at world (method_now old.method s) (offset_now s)) (sym stage)
    ∙ ap (λ (m : MethodId). instruction_at world (method_now m new.stage) (offset_now new.stage)) (sym method) ∙ e)

-- and where the first frame is there
pub calls_begun : (world : World) (state : State) → CallsNothing world state → CallsNothing world (begun world state)
calls_begun world state calls found e = calls found (sym (place_same world state state.stage) ∙ e)

pub calls_next : (world : World) (state : State) → CallsNothing world state → (instr : Instr) → instruction_next world state.method state.stage ≡ Some instr → is_left_to_steps instr ≡ false
calls_next world state calls instr e = go (instruction_at world (method_now state.method state.stage) (offset_now state.stage)) refl e where
  go : (it : Option (Instr × ℕ)) → instruction_at world (method_now state.method state.stage) (offset_now state.stage) ≡ it → option_map (λ (f : Instr × ℕ). f.0) it ≡ Some instr
      → is_left_to_steps instr ≡ false
  go None at same = absurd (none-some instr same)
  go (Some found) at same = subst (λ (i : Instr). is_left_to_steps i ≡ false) (same_Some found.0 instr same) (calls found at)

-- ---- what it asks

abbrev pub IsRead : Question → Type 0
IsRead (questions.Reads slot type) = Unit {0}
IsRead (questions.Index x count) = ⊥
IsRead (questions.Length x most) = ⊥

module _ (world : World) (bounds : Bounds) (state : State) (q : Question) where
  cell_reads : (slot : Origin) (type : JType) (cell : Option Cell) → first_ask slot type cell ≡ Some q → IsRead q
  cell_reads slot type (Some Untouched) e = subst IsRead (same_Some (questions.Reads slot type) q e) tt
  cell_reads slot type (Some (Read value)) e = absurd (none-some q e)
  cell_reads slot type (Some (Written value)) e = absurd (none-some q e)
  cell_reads slot type None e = absurd (none-some q e)

  field_reads : (field : FieldSlot) (it : Option SymValue) → asks_field world state field it ≡ Some q → IsRead q
  field_reads field (Some (Obj number)) e = cell_reads _ field.kind (cell_of world state field number) e
  field_reads field (Some (Int term)) e = absurd (none-some q e)
  field_reads field (Some Null) e = absurd (none-some q e)
  field_reads field (Some (Literal number)) e = absurd (none-some q e)
  field_reads field (Some (New number)) e = absurd (none-some q e)
  field_reads field (Some (Loc number)) e = absurd (none-some q e)
  field_reads field None e = absurd (none-some q e)

  -- neither an index nor a length
  pub asks_read_alone : (instr : Instr) → is_left_to_steps instr ≡ false → asked_by bounds world state instr ≡ Some q → IsRead q
  asks_read_alone (instrs.GetField entry) calls e =
      option_and_then_some (λ (field : FieldSlot). asks_field world state field (slice_get (stack_of state.stage) 0)) (field_named world state entry) q e
      (λ field named there. field_reads field (slice_get (stack_of state.stage) 0) there)
  asks_read_alone (instrs.LoadElem elem) calls e = absurd (true≢false calls)
  asks_read_alone (instrs.StoreElem elem) calls e = absurd (true≢false calls)
  asks_read_alone (instrs.NewPrim code) calls e = absurd (true≢false calls)
  asks_read_alone (instrs.NewRefs entry) calls e = absurd (true≢false calls)
  asks_read_alone _ calls e = absurd (none-some q e)

-- ---- the way on

module _ (world : World) (state : State) where
  abbrev PlanEntersNone : Planned → Type 0
  PlanEntersNone plan = EntersNone plan.way

  planned_none : {A : Type 0} (it : Option A) (f : A → Planned) → ((x : A) → PlanEntersNone (f x)) → PlanEntersNone (planned state it f)
  planned_none it f h = option_has PlanEntersNone it f (plain state Fails) h tt

  local_none : (k : ℕ) (value : SymValue) (rest : List SymValue) → EntersNone (in_local world state k value rest)
  local_none k value rest = if_has EntersNone (is_local world state k) _ _ tt tt

  branch_none : (so : Bool) (target count : ℕ) → EntersNone (branch_where state so target count)
  branch_none so target count = if_has EntersNone so _ _ tt tt

  held_none : (field : FieldSlot) (value : SymValue) → PlanEntersNone (planned state (held world state field value) (λ it. plain state (with_stack state (it ∷ drop 1 (stack_of state.stage)))))
  held_none field value = planned_none (held world state field value) (λ it. plain state (with_stack state (it ∷ drop 1 (stack_of state.stage)))) (λ it. tt)

  got_none : (field : FieldSlot) (value : SymValue) → PlanEntersNone (got world state field value)
  got_none field Null = tt
  got_none field (Int term) = held_none field (Int term)
  got_none field (Obj number) = held_none field (Obj number)
  got_none field (Literal number) = held_none field (Literal number)
  got_none field (New number) = held_none field (New number)
  got_none field (Loc number) = held_none field (Loc number)

  where_none : (field : FieldSlot) (object value : SymValue) → PlanEntersNone (put_where world state field object value)
  where_none field object value =
      if_has PlanEntersNone (has_room world (method_now state.method state.stage) (length (drop 2 (stack_of state.stage)))) _ (plain state Fails)
      (planned_none (kept field.kind value state) (puts_kept state object field.slot) (λ it. tt)) tt

  there_none : (field : FieldSlot) (object value : SymValue) → PlanEntersNone (if has_place world state field object then put_where world state field object value else plain state Fails)
  there_none field object value = if_has PlanEntersNone (has_place world state field object) _ (plain state Fails) (where_none field object value) tt

  put_none : (field : FieldSlot) (object value : SymValue) → PlanEntersNone (put world state field object value)
  put_none field Null value = tt
  put_none field (Int term) value = there_none field (Int term) value
  put_none field (Obj number) value = there_none field (Obj number) value
  put_none field (Literal number) value = there_none field (Literal number) value
  put_none field (New number) value = there_none field (New number) value
  put_none field (Loc number) value = there_none field (Loc number) value

  pub plan_enters_none : (choice : Choice) (instr : Instr) → is_left_to_steps instr ≡ false → PlanEntersNone (plan_of world state choice instr)
  plan_enters_none choice (instrs.LoadRef k) calls = planned_none (reference (cond (is_local world state k) (local_in state.stage k) None)) _ (λ value. tt)
  plan_enters_none choice (instrs.StoreRef k) calls = planned_none (a_reference (stack_of state.stage)) _ (λ value. local_none k value _)
  plan_enters_none choice (instrs.IfSame want target) calls = planned_none (two_references (stack_of state.stage)) _ (λ t. branch_none _ target 2)
  plan_enters_none choice (instrs.IfNull want target) calls = planned_none (a_reference (stack_of state.stage)) _ (λ value. branch_none _ target 1)
  plan_enters_none choice instrs.ReturnRef calls =
      planned_none (a_reference (stack_of state.stage)) (returns_value world state) (λ value. returns_has PlanEntersNone world state value (λ type. tt) tt)
  plan_enters_none choice (instrs.GetField entry) calls =
      planned_none (field_named world state entry) _ (λ field. planned_none (a_reference (stack_of state.stage)) (got world state field) (got_none field))
  plan_enters_none choice (instrs.PutField entry) calls =
      planned_none (field_named world state entry) _ (λ field. planned_none (an_object_and_value field.kind (stack_of state.stage)) _ (λ t. put_none field t.0 t.1))
  plan_enters_none choice (instrs.Virtual entry) calls = absurd (true≢false calls)
  plan_enters_none choice (instrs.Special entry) calls = absurd (true≢false calls)
  plan_enters_none choice (instrs.Static entry) calls = absurd (true≢false calls)
  plan_enters_none choice (instrs.Interface entry) calls = absurd (true≢false calls)
  plan_enters_none choice (instrs.New entry) calls = absurd (true≢false calls)
  plan_enters_none choice instrs.Throw calls = absurd (true≢false calls)
  plan_enters_none choice (instrs.LoadElem elem) calls = absurd (true≢false calls)
  plan_enters_none choice (instrs.StoreElem elem) calls = absurd (true≢false calls)
  plan_enters_none choice instrs.Length calls = absurd (true≢false calls)
  plan_enters_none choice (instrs.NewPrim code) calls = absurd (true≢false calls)
  plan_enters_none choice (instrs.NewRefs entry) calls = absurd (true≢false calls)
  plan_enters_none choice (instrs.Cast entry) calls = absurd (true≢false calls)
  plan_enters_none choice (instrs.InstanceOf entry) calls = absurd (true≢false calls)
  plan_enters_none choice (instrs.Ldc entry) calls = planned_none (literal_entry_of world (here world state) entry) _ (λ number. tt)
  plan_enters_none choice _ calls = tt
