-- Where a take of an int step ends a run, the ending states what is there in the state.
use Rattle.std.proofs.Common.{◌≡◌, ℕ, zero, suc, ◌<◌, ℤ, pos, true, false, List, [], ◌∷◌, ◌++◌, length, length-append, slice_get, nat_le, nat_lt, Option, Some, None, refl, sym, ap, subst, ◌∙◌, arith}
use Rattle.std.specs.Prelude.{is_some, option_map}
use Rattle.kb_code.specs.declared.instruction.Instr.{Instr}
use Rattle.kb_code.specs.declared.instruction.Instr.TheVariants as instrs
use Rattle.kb_code.specs.declared.instruction.IntOp.{IntOp}
use Rattle.kb_heap.specs.declared.bounds.Bounds.{Bounds}
use Rattle.kb_classes.specs.World.{World, int_entry_of}
use Rattle.kb_names.specs.declared.types.JType.{JType}
use Rattle.kb_names.specs.declared.types.JType.TheVariants as types
use Rattle.kb_semantics.specs.Comparisons.{table_keys}
use Rattle.kb_semantics.specs.Config.{class_number, has_room, instruction_at, max_locals_of, result_of}
use Rattle.kb_semantics.specs.Ways.{counted}
use Rattle.kb_terms.specs.declared.node.Node.{Node}
use Rattle.kb_terms.specs.declared.node.Node.TheVariants.{Const}
use Rattle.kb_terms.specs.declared.node.TermId.{TermId}
use Rattle.kb_terms.specs.declared.op.Op.TheVariants.{And}
use Rattle.kb_terms.specs.Terms.{IsTerm, interned, made_node}
use Rattle.kb_terms.proofs.Values.{IsTerm-extends}
use Rattle.kb_picture.specs.declared.choice.Choice.{Choice}
use Rattle.kb_picture.specs.declared.choice.Choice.TheVariants as choices
use Rattle.kb_picture.specs.declared.path.Out.{Out}
use Rattle.kb_picture.specs.declared.path.Out.TheVariants as outs
use Rattle.kb_frames.specs.declared.state.Stage.{Stage}
use Rattle.kb_frames.specs.declared.state.Stage.TheVariants.{Begins, Runs}
use Rattle.kb_frames.specs.declared.value.SymValue.{SymValue}
use Rattle.kb_frames.specs.declared.value.SymValue.TheVariants.{Int, Null, Obj, Literal, New, Loc}
use Rattle.kb_frames.specs.Lent.{begun, begun_stage, stack_of, transfers_of, with_nodes}
use Rattle.kb_frames.specs.Making.{new_sym_object, with_made}
use Rattle.kb_frames.specs.Next.{argument_next, method_now, offset_now}
use Rattle.kb_frames.specs.StandsFor.{out_of}
use Rattle.kb_frames.specs.State.{State}
use Rattle.kb_frames.specs.States.{Each, IsOutIn, IsStage, IsSymValue}
use Rattle.kb_ways.specs.Asked.{all_asked}
use Rattle.kb_stepint.specs.Choices.{conditions_of}
use Rattle.kb_ways.specs.Plans.{Planned, plain, planned, takes_next, takes_up, carried_out, leaves_with, returns_value}
use Rattle.kb_stepint.specs.Effects.{branch_way, computes_by, in_local, int_local, picked, plan_of, pushes_int, rearranges, switch_way, effect_of}
use Rattle.kb_stepint.specs.Laws.{OfTakes}
use Rattle.kb_ways.specs.Operands.{int_term, an_int, two_ints}
use Rattle.kb_stepint.specs.Takes.{taken}
use Rattle.kb_names.specs.declared.types.ExactType.{ExactType}
use Rattle.kb_ways.specs.Ways.{ObjectThere, OfClass, OfPicture, OfRun, Take, There, Way, Goes as WayGoes, Jumps, Enters, Leaves, Throws, ThrowsThere, Fails, ends, ill_typed, object_value, uncaught, went}
use Rattle.kb_picture.specs.declared.path.SymEnding.TheVariants.{Returned}
use Rattle.kb_ways.proofs.CallLaws.{returned_has, thrown_has}
use Rattle.kb_ways.proofs.AskedLaws.{interned_is_term}
use Rattle.kb_ways.proofs.GrowLaws.{Grows, all_asked_grows, if_has, option_has}
use Rattle.kb_drive.specs.Steps.{EndsIn}
use Rattle.kb_ways.specs.Kept.{kept_in}
use Rattle.kb_ways.proofs.KeptLaws.{returns_has}

-- ---- the top of the stack

int_in : (world : World) (state : State) (value : SymValue) (t : TermId) → IsSymValue world state value → int_term (Some value) ≡ Some t → IsTerm state.nodes t
int_in world state (Int term) t is e = let same : term ≡ t = cc in subst (IsTerm state.nodes) same is
int_in world state Null t is e = absurd cc
int_in world state (Obj number) t is e = absurd cc
int_in world state (Literal number) t is e = absurd cc
int_in world state (New number) t is e = absurd cc
int_in world state (Loc number) t is e = absurd cc

top_in : (world : World) (state : State) (stack : List SymValue) (t : TermId) → Each (IsSymValue world state) stack → an_int stack ≡ Some t → IsTerm state.nodes t
top_in world state [] t each e = absurd cc
top_in world state (value ∷ rest) t each e = int_in world state value t (each 0 value refl) e

-- also once the run has its first frame
pub begun_top : (world : World) (state : State) (stage : Stage) (t : TermId) → IsStage world state stage → an_int (stack_of (begun_stage world state stage)) ≡ Some t
    → IsTerm state.nodes t
begun_top world state (Begins read) t is e = absurd cc
begun_top world state (Runs frame callers) t is e = top_in world state frame.stack t is.0.stack e

-- ---- ways out of the method

-- what is returned is there in the state
abbrev ReturnsIn : World → State → Option SymValue → Type 0
ReturnsIn world state None = Unit {0}
ReturnsIn world state (Some value) = IsOutIn world state (length state.made) (out_of value)

-- so it is of a way that returns; no method is called
abbrev pub LeavesIn : World → State → Way → Type 0
LeavesIn world state (WayGoes locals stack) = Unit {0}
LeavesIn world state (Jumps target stack) = Unit {0}
LeavesIn world state (Enters method arguments rest) = ⊥
LeavesIn world state (Leaves value) = ReturnsIn world state value
LeavesIn world state (Throws class) = Unit {0}
LeavesIn world state (ThrowsThere object kind) = IsOutIn world state (length state.made) (out_of (object_value object))
LeavesIn world state Fails = Unit {0}

module _ (world : World) (state : State) (top : (t : TermId) → an_int (stack_of state.stage) ≡ Some t → IsTerm state.nodes t) where
  abbrev PlanLeaves : Planned → Type 0
  PlanLeaves plan = LeavesIn world plan.state plan.way

  planned_leaves : {A : Type 0} (it : Option A) (f : A → Planned) → ((x : A) → PlanLeaves (f x)) → PlanLeaves (planned state it f)
  planned_leaves it f h = option_has PlanLeaves it f (plain state Fails) h tt

  local_leaves : (nodes : List Node) (k : ℕ) (t : TermId) (stack : List SymValue) → LeavesIn world (with_nodes state nodes) (in_local world state k t stack)
  local_leaves nodes k t stack = if_has (LeavesIn world (with_nodes state nodes)) (nat_lt k (max_locals_of world (method_now state.method state.stage))) _ _ tt tt

  rearranges_leaves : (depth : ℕ) (picks : List ℕ) → PlanLeaves (rearranges state depth picks)
  rearranges_leaves depth picks = planned_leaves (picked depth picks (stack_of state.stage)) _ (λ stack. tt)

  computes_by_leaves : (op : IntOp) (t : TermId × TermId) (choice : Choice) → PlanLeaves (computes_by state op t choice)
  computes_by_leaves op t choices.Zero = tt
  computes_by_leaves op t _ = tt

  branch_leaves : (target : ℕ) (rest : List SymValue) (choice : Choice) → LeavesIn world state (branch_way state target rest choice)
  branch_leaves target rest (choices.Branch true) = tt
  branch_leaves target rest (choices.Branch false) = tt
  branch_leaves target rest _ = tt

  switch_leaves : (keys : List (ℤ × ℕ)) (default : ℕ) (rest : List SymValue) (choice : Choice) → LeavesIn world state (switch_way keys default rest choice)
  switch_leaves keys default rest (choices.Key place) = option_has (LeavesIn world state) (slice_get keys place) (λ (key : ℤ × ℕ). Jumps key.1 rest) Fails (λ key. tt) tt
  switch_leaves keys default rest choices.Default = tt
  switch_leaves keys default rest _ = tt

  kept_leaves : (t : TermId) → IsTerm state.nodes t → (type : JType) → PlanLeaves (leaves_with (kept_in type (Int t) state))
  kept_leaves t there types.Bool =
      let one = interned state.nodes (Const (pos 1)) in
      interned_is_term one.0 (made_node one.0 And t (Some one.1))
  kept_leaves t there _ = there

  returns_leaves : (it : Option TermId) → an_int (stack_of state.stage) ≡ it → PlanLeaves (planned state it (λ t. returns_value world state (Int t)))
  returns_leaves None e = tt
  returns_leaves (Some t) e = returns_has PlanLeaves world state (Int t) (kept_leaves t (top t e)) tt

  pub effect_leaves : (choice : Choice) (instr : Instr) → PlanLeaves (effect_of world state choice instr)
  effect_leaves choice (instrs.Ldc entry) =
      planned_leaves (int_entry_of world (class_number world (method_now state.method state.stage)) entry) (pushes_int state) (λ z. tt)
  effect_leaves choice (instrs.LoadInt k) = planned_leaves (int_local world state k) _ (λ t. tt)
  effect_leaves choice (instrs.StoreInt k) = planned_leaves (an_int (stack_of state.stage)) _ (λ t. local_leaves state.nodes k t _)
  effect_leaves choice (instrs.Inc k by) = planned_leaves (int_local world state k) _ (λ t. local_leaves _ k _ (stack_of state.stage))
  effect_leaves choice instrs.Pop = rearranges_leaves 1 []
  effect_leaves choice instrs.Pop2 = rearranges_leaves 2 []
  effect_leaves choice instrs.Dup = rearranges_leaves 1 (0 ∷ 0 ∷ [])
  effect_leaves choice instrs.DupX1 = rearranges_leaves 2 (0 ∷ 1 ∷ 0 ∷ [])
  effect_leaves choice instrs.DupX2 = rearranges_leaves 3 (0 ∷ 1 ∷ 2 ∷ 0 ∷ [])
  effect_leaves choice instrs.Dup2 = rearranges_leaves 2 (0 ∷ 1 ∷ 0 ∷ 1 ∷ [])
  effect_leaves choice instrs.Dup2X1 = rearranges_leaves 3 (0 ∷ 1 ∷ 2 ∷ 0 ∷ 1 ∷ [])
  effect_leaves choice instrs.Dup2X2 = rearranges_leaves 4 (0 ∷ 1 ∷ 2 ∷ 3 ∷ 0 ∷ 1 ∷ [])
  effect_leaves choice instrs.Swap = rearranges_leaves 2 (1 ∷ 0 ∷ [])
  effect_leaves choice (instrs.Int2 op) = planned_leaves (two_ints (stack_of state.stage)) _ (λ t. computes_by_leaves op t choice)
  effect_leaves choice instrs.Neg = planned_leaves (an_int (stack_of state.stage)) _ (λ t. tt)
  effect_leaves choice (instrs.Narrow cut) = planned_leaves (an_int (stack_of state.stage)) _ (λ t. tt)
  effect_leaves choice (instrs.IfInt cond target) =
      if_has (LeavesIn world state) (is_some (an_int (stack_of state.stage))) _ _ (branch_leaves target _ choice) tt
  effect_leaves choice (instrs.IfPair cond target) =
      if_has (LeavesIn world state) (is_some (two_ints (stack_of state.stage))) _ _ (branch_leaves target _ choice) tt
  effect_leaves choice (instrs.Table low default targets) =
      if_has (LeavesIn world state) (is_some (an_int (stack_of state.stage))) _ _ (switch_leaves (table_keys low targets) default _ choice) tt
  effect_leaves choice (instrs.Lookup default keys) =
      if_has (LeavesIn world state) (is_some (an_int (stack_of state.stage))) _ _ (switch_leaves keys default _ choice) tt
  effect_leaves choice instrs.ReturnInt = returns_leaves (an_int (stack_of state.stage)) refl
  effect_leaves choice instrs.Return = if_has (LeavesIn world state) (is_some (result_of world (method_now state.method state.stage))) _ _ tt tt
  effect_leaves choice _ = tt

-- ---- endings

one_out : (world : World) (state : State) (made : ℕ) (value : Out) → IsOutIn world state made value → (i : ℕ) (out : Out) → slice_get (value ∷ []) i ≡ Some out
    → IsOutIn world state made out
one_out world state made value there zero out e = let same : value ≡ out = cc in subst (IsOutIn world state made) same there
one_out world state made value there (suc i) out e = absurd cc

module _ (world : World) (bounds : Bounds) where
  abbrev pub Ending : Take → Type 0
  Ending take = EndsIn world take.state take.outcome

  pub ill_ends : (state : State) → Ending (ill_typed world state)
  ill_ends state = record { outs = λ i out at. absurd cc; thrown = tt }

  returned_ends : (state : State) (value : Option SymValue) → ReturnsIn world state value → Ending (ends state (Returned (option_map out_of value)))
  returned_ends state None there = record { outs = λ i out at. absurd cc; thrown = tt }
  returned_ends state (Some value) there = record { outs = one_out world state (length state.made) (out_of value) there; thrown = tt }

  made_ends : (state : State) (class : List ℕ) → Ending (uncaught world state (OfClass class))
  made_ends state class =
      let zero_made = interned state.nodes (Const (pos 0)) in
      let one_more : length state.made < length (state.made ++ new_sym_object world class zero_made.1 ∷ []) =
      omega (arith, length-append state.made (new_sym_object world class zero_made.1 ∷ [])) in
      record {
        outs = one_out world (with_made world state class) (length (with_made world state class).made) (outs.New (length state.made)) one_more;
        thrown = tt;
      }

  there_ends : (state : State) (object : ObjectThere) (kind : ExactType) → IsOutIn world state (length state.made) (out_of (object_value object)) → Ending (uncaught world state (There object kind))
  there_ends state (OfPicture number) kind there = record { outs = one_out world state (length state.made) (outs.Obj number) there; thrown = tt }
  there_ends state (OfRun number) kind there = record { outs = one_out world state (length state.made) (outs.New number) there; thrown = tt }

  pub went_ends : (next : ℕ) (state : State) (way : Way) → LeavesIn world state way → Ending (went world bounds next state way)
  went_ends next state (WayGoes locals stack) there =
      if_has Ending (has_room world (method_now state.method state.stage) (length stack)) _ _ tt (ill_ends state)
  went_ends next state (Jumps target stack) there =
      if_has Ending (has_room world (method_now state.method state.stage) (length stack)) _ _
      (option_has Ending (counted bounds.run (offset_now state.stage) target (transfers_of state.stage)) _ _ (λ n. tt) tt) (ill_ends state)
  went_ends next state (Enters method arguments rest) there = absurd there
  went_ends next state (Leaves value) there = returned_has Ending world state value (returned_ends state value there) (λ caller more waits. tt) (ill_ends state)
  went_ends next state (Throws class) there =
      thrown_has Ending world bounds state (OfClass class) (made_ends state class) (λ count target n frame callers is. tt) tt (ill_ends state)
  went_ends next state (ThrowsThere object kind) there =
      thrown_has Ending world bounds state (There object kind) (there_ends state object kind there) (λ count target n frame callers is. tt) tt (ill_ends state)
  went_ends next state Fails there = ill_ends state

  abbrev HasTop : State → Type 0
  HasTop state = (t : TermId) → an_int (stack_of state.stage) ≡ Some t → IsTerm state.nodes t

  answers_end : (choice : Choice) (state : State) (found : Instr × ℕ) → HasTop state → Ending (carried_out plan_of world bounds choice state found)
  answers_end choice state found top =
      let conditions = conditions_of found.0 (stack_of state.stage) choice in
      let asked : State = all_asked state conditions in
      let grown : Grows state asked = all_asked_grows conditions state in
      let same : asked.stage ≡ state.stage = ap (λ (s : State). s.stage) grown.rest in
      let effect = effect_of world asked choice found.0 in
      went_ends found.1 effect.state effect.way
      (effect_leaves world asked (λ t e. IsTerm-extends state.nodes asked.nodes t grown.terms (top t (ap (λ stage. an_int (stack_of stage)) (sym same) ∙ e))) choice found.0)

  takes_up_ends : (choice : Choice) (state : State) → HasTop state → Ending (takes_up plan_of world bounds choice state)
  takes_up_ends choice state top =
      option_has Ending (instruction_at world (method_now state.method state.stage) (offset_now state.stage)) (carried_out plan_of world bounds choice state) (ill_typed world state)
      (λ found. answers_end choice state found top) (ill_ends state)

  takes_next_ends : (choice : Choice) (state : State) → IsStage world state state.stage → Ending (takes_next plan_of world bounds choice state)
  takes_next_ends choice state is =
      if_has Ending (nat_le bounds.run.steps state.carried) _ _ tt (takes_up_ends choice (begun world state) (λ t e. begun_top world state state.stage t is e))

  taken_ends : (choice : Choice) (state : State) → IsStage world state state.stage → Ending (taken world bounds state choice)
  taken_ends choice state is =
      option_has Ending (argument_next world state.method state.stage) _ (takes_next plan_of world bounds choice state) (λ type. tt) (takes_next_ends choice state is)

-- An ending states what is there, and what is thrown is an object.
pub endings_there : OfTakes (λ world bounds state take. EndsIn world take.state take.outcome)
endings_there world bounds state choice at has = taken_ends world bounds choice state at.reached.sound.stage
