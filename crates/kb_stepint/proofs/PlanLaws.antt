-- A plan leads on with values of the state that has its terms: one lemma for each kind of effect.
use Rattle.std.proofs.Common.{◌≡◌, ℕ, ◌≤◌, ℤ, Bool, true, false, List, [], ◌∷◌, ◌++◌, length, drop, filter_map, nat_lt, nat_le, cond, Option, Some, None, slice_get, slice_set, refl, subst, is_some, if◌then◌else◌, option_and_then, arith}
use Rattle.std.proofs.lemmas.List.{length-set}
use Rattle.kb_code.specs.declared.instruction.Instr.{Instr}
use Rattle.kb_code.specs.declared.instruction.Instr.TheVariants as instrs
use Rattle.kb_code.specs.declared.instruction.IntOp.{IntOp}
use Rattle.kb_classes.specs.World.{World, int_entry_of}
use Rattle.kb_semantics.specs.Config.{class_number, max_locals_of, result_of}
use Rattle.kb_semantics.specs.Comparisons.{table_keys}
use Rattle.kb_terms.specs.declared.op.Op.{Op}
use Rattle.kb_terms.specs.declared.op.Op.TheVariants.{Add, Neg}
use Rattle.kb_terms.specs.declared.node.TermId.{TermId}
use Rattle.kb_terms.specs.declared.node.Node.{Node}
use Rattle.kb_terms.specs.declared.node.Node.TheVariants.{Const}
use Rattle.kb_terms.specs.Terms.{Extends, IsTerm, interned, made_node}
use Rattle.kb_terms.proofs.Values.{Extends-refl, Extends-trans}
use Rattle.kb_picture.specs.declared.choice.Choice.{Choice}
use Rattle.kb_picture.specs.declared.choice.Choice.TheVariants as choices
use Rattle.kb_frames.specs.declared.value.SymValue.{SymValue}
use Rattle.kb_frames.specs.declared.value.SymValue.TheVariants.{Int, Null, Obj, Literal, New, Loc}
use Rattle.kb_frames.specs.Lent.{local_in, locals_of, stack_of, with_nodes}
use Rattle.kb_frames.specs.Next.{method_now}
use Rattle.kb_frames.specs.State.{State}
use Rattle.kb_frames.specs.States.{Each, IsLocal, IsSymValue}
use Rattle.kb_ways.specs.Asked.{interned_op}
use Rattle.kb_ways.specs.Plans.{Planned, plain, planned, returns_value}
use Rattle.kb_stepint.specs.Effects.{adds, branch_way, computes_by, in_local, int_local, op_of, op_of_cut, pushes, pushes_int, rearranges, switch_way, effect_of}
use Rattle.kb_ways.specs.Ways.{with_stack, Goes, Jumps, Leaves, Fails}
use Rattle.kb_ways.specs.Operands.{int_term, an_int, two_ints}
use Rattle.kb_ways.proofs.AskedLaws.{interned_is_term}
use Rattle.kb_ways.proofs.GrowLaws.{if_has, interned_extends, op_extends, option_has}
use Rattle.kb_frames.proofs.ItemLaws.{each_append, each_cons, each_drop, each_picked, each_set, option_has_at}
use Rattle.kb_ways.proofs.SoundLaws.{Still, locals_still, values_still}
use Rattle.kb_ways.proofs.GoodWays.{CanGo, IsGood}
use Rattle.kb_ways.proofs.KeptLaws.{kept_there, returns_has}

-- ---- operands

-- the term of a value that is there
int_there : (world : World) (state : State) (it : Option SymValue) (t : TermId) → ((value : SymValue) → it ≡ Some value → IsSymValue world state value) → int_term it ≡ Some t → IsTerm state.nodes t
int_there world state None t there e = absurd cc
int_there world state (Some (Int x)) t there e = let same : x ≡ t = cc in subst (IsTerm state.nodes) same (there (Int x) refl)
int_there world state (Some Null) t there e = absurd cc
int_there world state (Some (Obj n)) t there e = absurd cc
int_there world state (Some (Literal n)) t there e = absurd cc
int_there world state (Some (New n)) t there e = absurd cc
int_there world state (Some (Loc n)) t there e = absurd cc

-- what a local that was written holds
local_there : (world : World) (state : State) (it : Option (Option SymValue)) (value : SymValue) → ((local : Option SymValue) → it ≡ Some local → IsLocal world state local)
    → option_and_then (λ (v : Option SymValue). v) it ≡ Some value → IsSymValue world state value
local_there world state None value each e = absurd cc
local_there world state (Some None) value each e = absurd cc
local_there world state (Some (Some v)) value each e = let same : v ≡ value = cc in subst (IsSymValue world state) same (each (Some v) refl)

below_limit : (b : Bool) (it : Option SymValue) (value : SymValue) → cond b it None ≡ Some value → it ≡ Some value
below_limit true it value e = e
below_limit false it value e = absurd cc

-- ---- plans

module _ (world : World) (state : State) (room : max_locals_of world (method_now state.method state.stage) ≤ length (locals_of state.stage))
    (locals : Each (IsLocal world state) (locals_of state.stage)) (stack : Each (IsSymValue world state) (stack_of state.stage)) where
  abbrev pub IsGoodPlan : Planned → Type 0
  IsGoodPlan plan = IsGood world plan.state plan.way

  -- more terms
  module _ (nodes : List Node) (extends : Extends state.nodes nodes) where
    abbrev more : State
    more = with_nodes state nodes

    more_still : Still state more
    more_still = record { terms = extends; objects = refl; locs = refl; made = omega arith }

    goes_good : (values : List SymValue) → Each (IsSymValue world more) values → CanGo world more (locals_of state.stage) values
    goes_good values each = record { room = room; each_local = locals_still world state more more_still (locals_of state.stage) locals; each_value = each }

    rest_good : (count : ℕ) → Each (IsSymValue world more) (drop count (stack_of state.stage))
    rest_good count = each_drop (IsSymValue world more) count (stack_of state.stage) (values_still world state more more_still (stack_of state.stage) stack)

    in_local_good : (k : ℕ) (t : TermId) (values : List SymValue) → IsTerm nodes t → Each (IsSymValue world more) values → IsGood world more (in_local world state k t values)
    in_local_good k t values there each =
        if_has (IsGood world more) (nat_lt k (max_locals_of world (method_now state.method state.stage))) (Goes (slice_set (locals_of state.stage) k (Some (Int t))) values) Fails
        (record {
          room = omega (arith, room, length-set (locals_of state.stage) k (Some (Int t)));
          each_local = each_set (IsLocal world more) (locals_of state.stage) k (Some (Int t)) there (locals_still world state more more_still (locals_of state.stage) locals);
          each_value = each;
        }) tt

  same : Extends state.nodes state.nodes
  same = Extends-refl state.nodes

  pushes_good : (rest : List SymValue) (made : List Node × TermId) → Extends state.nodes made.0 → IsTerm made.0 made.1 → Each (IsSymValue world (with_nodes state made.0)) rest → IsGoodPlan (pushes state rest made)
  pushes_good rest made extends there each = goes_good made.0 extends (Int made.1 ∷ rest) (each_cons (IsSymValue world (with_nodes state made.0)) (Int made.1) rest there each)

  planned_good : {A : Type 0} (it : Option A) (f : A → Planned) → ((x : A) → it ≡ Some x → IsGoodPlan (f x)) → IsGoodPlan (planned state it f)
  planned_good it f h = option_has_at IsGoodPlan it f (plain state Fails) h tt

  int_good : (z : ℤ) → IsGoodPlan (pushes_int state z)
  int_good z =
      let made = interned state.nodes (Const z) in
      pushes_good (stack_of state.stage) made (interned_extends state.nodes (Const z)) (interned_is_term state.nodes (Const z)) (rest_good made.0 (interned_extends state.nodes (Const z)) 0)

  -- an operation's term stands in the place of its operands
  op_good : (count : ℕ) (op : Op) (left : TermId) (right : Option TermId) → IsGoodPlan (pushes state (drop count (stack_of state.stage)) (interned_op state.nodes op left right))
  op_good count op left right =
      let made = interned_op state.nodes op left right in
      let extends = op_extends state.nodes op left right in
      pushes_good (drop count (stack_of state.stage)) made extends (interned_is_term state.nodes (made_node state.nodes op left right)) (rest_good made.0 extends count)

  local_term : (k : ℕ) (t : TermId) → int_local world state k ≡ Some t → IsTerm state.nodes t
  local_term k t e =
      int_there world state (cond (nat_lt k (max_locals_of world (method_now state.method state.stage))) (local_in state.stage k) None) t
      (λ value at. local_there world state (slice_get (locals_of state.stage) k) value (λ local there. locals k local there)
      (below_limit (nat_lt k (max_locals_of world (method_now state.method state.stage))) (local_in state.stage k) value at)) e

  top_term : (t : TermId) → an_int (stack_of state.stage) ≡ Some t → IsTerm state.nodes t
  top_term t e = int_there world state (slice_get (stack_of state.stage) 0) t (λ value at. stack 0 value at) e

  load_good : (k : ℕ) (t : TermId) → int_local world state k ≡ Some t → IsGoodPlan (plain state (with_stack state (Int t ∷ stack_of state.stage)))
  load_good k t e = pushes_good (stack_of state.stage) (state.nodes, t) same (local_term k t e) stack

  adds_good : (k : ℕ) (z : ℤ) (t : TermId) → IsGoodPlan (adds world state k t (interned state.nodes (Const z)))
  adds_good k z t =
      let one = interned state.nodes (Const z) in
      let sum = interned_op one.0 Add t (Some one.1) in
      let extends : Extends state.nodes sum.0 = Extends-trans state.nodes one.0 sum.0 (interned_extends state.nodes (Const z)) (op_extends one.0 Add t (Some one.1)) in
      in_local_good sum.0 extends k sum.1 (stack_of state.stage) (interned_is_term one.0 (made_node one.0 Add t (Some one.1))) (rest_good sum.0 extends 0)

  rearranges_good : (depth : ℕ) (picks : List ℕ) → IsGoodPlan (rearranges state depth picks)
  rearranges_good depth picks = go (nat_le depth (length (stack_of state.stage))) where
    values : List SymValue
    values = filter_map (λ (place : ℕ). slice_get (stack_of state.stage) place) picks ++ drop depth (stack_of state.stage)

    each : Each (IsSymValue world state) values
    each = each_append (IsSymValue world state) (filter_map (λ (place : ℕ). slice_get (stack_of state.stage) place) picks) (drop depth (stack_of state.stage))
        (each_picked (IsSymValue world state) (stack_of state.stage) picks stack) (each_drop (IsSymValue world state) depth (stack_of state.stage) stack)

    go : (b : Bool) → IsGoodPlan (planned state (if b then Some values else None) (λ (stack : List SymValue). plain state (with_stack state stack)))
    go true = goes_good state.nodes same values each
    go false = tt

  computes_by_good : (op : IntOp) (t : TermId × TermId) (choice : Choice) → IsGoodPlan (computes_by state op t choice)
  computes_by_good op t choices.Zero = tt
  computes_by_good op t _ = op_good 2 (op_of op) t.0 (Some t.1)

  branch_good : (target count : ℕ) (choice : Choice) → IsGood world state (branch_way state target (drop count (stack_of state.stage)) choice)
  branch_good target count (choices.Branch true) = rest_good state.nodes same count
  branch_good target count (choices.Branch false) = goes_good state.nodes same (drop count (stack_of state.stage)) (rest_good state.nodes same count)
  branch_good target count _ = tt

  branches_good : (there : Bool) (target count : ℕ) (choice : Choice) → IsGood world state (if there then branch_way state target (drop count (stack_of state.stage)) choice else Fails)
  branches_good there target count choice = if_has (IsGood world state) there (branch_way state target (drop count (stack_of state.stage)) choice) Fails (branch_good target count choice) tt

  switch_good : (keys : List (ℤ × ℕ)) (default : ℕ) (choice : Choice) → IsGood world state (switch_way keys default (drop 1 (stack_of state.stage)) choice)
  switch_good keys default (choices.Key place) =
      option_has (IsGood world state) (slice_get keys place) (λ (key : ℤ × ℕ). Jumps key.1 (drop 1 (stack_of state.stage))) Fails (λ key. rest_good state.nodes same 1) tt
  switch_good keys default choices.Default = rest_good state.nodes same 1
  switch_good keys default _ = tt

  switches_good : (there : Bool) (keys : List (ℤ × ℕ)) (default : ℕ) (choice : Choice) → IsGood world state (if there then switch_way keys default (drop 1 (stack_of state.stage)) choice else Fails)
  switches_good there keys default choice = if_has (IsGood world state) there (switch_way keys default (drop 1 (stack_of state.stage)) choice) Fails (switch_good keys default choice) tt

  pub effect_good : (choice : Choice) (instr : Instr) → IsGoodPlan (effect_of world state choice instr)
  effect_good choice instrs.Nop = goes_good state.nodes same (stack_of state.stage) stack
  effect_good choice (instrs.PushInt z) = int_good z
  effect_good choice (instrs.Ldc entry) = planned_good (int_entry_of world (class_number world (method_now state.method state.stage)) entry) (pushes_int state) (λ z e. int_good z)
  effect_good choice (instrs.LoadInt k) = planned_good (int_local world state k) (λ t. plain state (with_stack state (Int t ∷ stack_of state.stage))) (load_good k)
  effect_good choice (instrs.StoreInt k) =
      planned_good (an_int (stack_of state.stage)) (λ t. plain state (in_local world state k t (drop 1 (stack_of state.stage))))
      (λ t e. in_local_good state.nodes same k t (drop 1 (stack_of state.stage)) (top_term t e) (rest_good state.nodes same 1))
  effect_good choice (instrs.Inc k by) = planned_good (int_local world state k) (λ t. adds world state k t (interned state.nodes (Const by))) (λ t e. adds_good k by t)
  effect_good choice instrs.Pop = rearranges_good 1 []
  effect_good choice instrs.Pop2 = rearranges_good 2 []
  effect_good choice instrs.Dup = rearranges_good 1 (0 ∷ 0 ∷ [])
  effect_good choice instrs.DupX1 = rearranges_good 2 (0 ∷ 1 ∷ 0 ∷ [])
  effect_good choice instrs.DupX2 = rearranges_good 3 (0 ∷ 1 ∷ 2 ∷ 0 ∷ [])
  effect_good choice instrs.Dup2 = rearranges_good 2 (0 ∷ 1 ∷ 0 ∷ 1 ∷ [])
  effect_good choice instrs.Dup2X1 = rearranges_good 3 (0 ∷ 1 ∷ 2 ∷ 0 ∷ 1 ∷ [])
  effect_good choice instrs.Dup2X2 = rearranges_good 4 (0 ∷ 1 ∷ 2 ∷ 3 ∷ 0 ∷ 1 ∷ [])
  effect_good choice instrs.Swap = rearranges_good 2 (1 ∷ 0 ∷ [])
  effect_good choice (instrs.Int2 op) = planned_good (two_ints (stack_of state.stage)) (λ t. computes_by state op t choice) (λ t e. computes_by_good op t choice)
  effect_good choice instrs.Neg = planned_good (an_int (stack_of state.stage)) (λ t. pushes state (drop 1 (stack_of state.stage)) (interned_op state.nodes Neg t None)) (λ t e. op_good 1 Neg t None)
  effect_good choice (instrs.Narrow cut) =
      planned_good (an_int (stack_of state.stage)) (λ t. pushes state (drop 1 (stack_of state.stage)) (interned_op state.nodes (op_of_cut cut) t None)) (λ t e. op_good 1 (op_of_cut cut) t None)
  effect_good choice (instrs.IfInt cond target) = branches_good (is_some (an_int (stack_of state.stage))) target 1 choice
  effect_good choice (instrs.IfPair cond target) = branches_good (is_some (two_ints (stack_of state.stage))) target 2 choice
  effect_good choice (instrs.Goto target) = stack
  effect_good choice (instrs.Table low default targets) = switches_good (is_some (an_int (stack_of state.stage))) (table_keys low targets) default choice
  effect_good choice (instrs.Lookup default keys) = switches_good (is_some (an_int (stack_of state.stage))) keys default choice
  effect_good choice instrs.ReturnInt =
      planned_good (an_int (stack_of state.stage)) (λ t. returns_value world state (Int t)) (λ t e. returns_has IsGoodPlan world state (Int t) (λ type. kept_there world state type (Int t) (top_term t e)) tt)
  effect_good choice instrs.Return = if_has (IsGood world state) (is_some (result_of world (method_now state.method state.stage))) Fails (Leaves None) tt tt
  effect_good choice _ = tt
