-- The only way on asks for nothing, so it adds no condition; and no alternative of what is to be told is the only way on.
use Rattle.std.proofs.Common.{◌≡◌, ℕ, ◌+◌, ℤ, pos, Bool, true, false, not, List, [], ◌∷◌, cond, filter, nat_le, Option, Some, refl, ap, subst, ◌∙◌}
use Rattle.std.specs.List.{AllByRecursion}
use Rattle.kb_code.specs.declared.instruction.Instr.{Instr}
use Rattle.kb_code.specs.declared.instruction.Instr.TheVariants as instrs
use Rattle.kb_code.specs.declared.instruction.IntOp.{IntOp}
use Rattle.kb_code.specs.declared.instruction.IntOp.TheVariants as ops
use Rattle.kb_heap.specs.declared.bounds.Bound.TheVariants.{Steps}
use Rattle.kb_heap.specs.declared.bounds.Bounds.{Bounds}
use Rattle.kb_classes.specs.World.{World}
use Rattle.kb_semantics.specs.Comparisons.{table_keys}
use Rattle.kb_semantics.specs.Config.{instruction_at}
use Rattle.kb_semantics.specs.Looks.{if_some}
use Rattle.kb_terms.specs.declared.node.TermId.{TermId}
use Rattle.kb_picture.specs.declared.choice.Choice.{Choice}
use Rattle.kb_picture.specs.declared.choice.Choice.TheVariants as choices
use Rattle.kb_frames.specs.declared.value.Outcome.TheVariants.{Cut}
use Rattle.kb_frames.specs.declared.value.SymValue.{SymValue}
use Rattle.kb_frames.specs.Lent.{begun, stack_of}
use Rattle.kb_frames.specs.Next.{argument_next, method_now, offset_now}
use Rattle.kb_frames.specs.State.{State}
use Rattle.kb_ways.specs.declared.condition.Condition.{Condition}
use Rattle.kb_ways.specs.declared.condition.Side.TheVariants.{Term, Number}
use Rattle.kb_ways.specs.Advancing.{only}
use Rattle.kb_ways.specs.Asked.{all_asked, is_refuted}
use Rattle.kb_ways.specs.Operands.{an_int, two_ints}
use Rattle.kb_ways.specs.Plans.{Planned, carried_out, takes_next, takes_up}
use Rattle.kb_ways.specs.Simulation.{AddsNoCondition}
use Rattle.kb_ways.specs.Ways.{Take, ill_typed}
use Rattle.kb_ways.proofs.GrowLaws.{if_has, option_has}
use Rattle.kb_ways.proofs.KeepLaws.{went_when}
use Rattle.kb_stepint.specs.declared.questions.IntQuestion.{IntQuestion}
use Rattle.kb_stepint.specs.declared.questions.IntQuestion.TheVariants as questions
use Rattle.kb_stepint.specs.Choices.{branch_conditions, conditions_of, division_conditions, key_conditions, keys_from}
use Rattle.kb_stepint.specs.Effects.{effect_of, plan_of}
use Rattle.kb_stepint.specs.Keys.{keys_of}
use Rattle.kb_stepint.specs.Questions.{alternatives, asks_for, offered_by}
use Rattle.kb_stepint.specs.Takes.{reads_argument, taken}
use Rattle.kb_stepint.proofs.KeepLaws.{effect_makes}

-- ---- what the only way on asks for

if_some_none : {A : Type 0} (it : Option A) (f : A → List Condition) → ((x : A) → f x ≡ []) → if_some it f ≡ []
if_some_none it f h = option_has (λ (cs : List Condition). cs ≡ []) it f [] h refl

division_none : (op : IntOp) (x : TermId) → division_conditions op x choices.Only ≡ []
division_none ops.Div x = refl
division_none ops.Rem x = refl
division_none _ x = refl

pub only_asks_nothing : (instr : Instr) (stack : List SymValue) → conditions_of instr stack choices.Only ≡ []
only_asks_nothing (instrs.IfInt cond target) stack = if_some_none (an_int stack) (λ x. branch_conditions cond (Term x) (Number (pos 0)) choices.Only) (λ x. refl)
only_asks_nothing (instrs.IfPair cond target) stack = if_some_none (two_ints stack) (λ t. branch_conditions cond (Term t.0) (Term t.1) choices.Only) (λ t. refl)
only_asks_nothing (instrs.Table low default targets) stack = if_some_none (an_int stack) (λ x. key_conditions x (table_keys low targets) choices.Only) (λ x. refl)
only_asks_nothing (instrs.Lookup default keys) stack = if_some_none (an_int stack) (λ x. key_conditions x keys choices.Only) (λ x. refl)
only_asks_nothing (instrs.Int2 op) stack = if_some_none (two_ints stack) (λ t. division_conditions op t.1 choices.Only) (λ t. division_none op t.1)
only_asks_nothing _ stack = refl

-- ---- it adds no condition

module _ (world : World) (bounds : Bounds) where
  carried_when : (state : State) (found : Instr × ℕ) → (carried_out plan_of world bounds choices.Only state found).state.when ≡ state.when
  carried_when state found =
      let asked : State = all_asked state (conditions_of found.0 (stack_of state.stage) choices.Only) in
      let plan : Planned = effect_of world asked choices.Only found.0 in
      went_when world bounds found.1 plan.state plan.way ∙ ap (λ (s : State). s.when) (effect_makes world asked choices.Only found.0).rest
      ∙ ap (λ (cs : List Condition). (all_asked state cs).when) (only_asks_nothing found.0 (stack_of state.stage))

  takes_up_when : (state : State) → (takes_up plan_of world bounds choices.Only state).state.when ≡ state.when
  takes_up_when state =
      option_has (λ (take : Take). take.state.when ≡ state.when) (instruction_at world (method_now state.method state.stage) (offset_now state.stage)) (carried_out plan_of world bounds choices.Only state)
      (ill_typed world state) (carried_when state) refl

  takes_next_when : (old : State) → (takes_next plan_of world bounds choices.Only old).state.when ≡ old.when
  takes_next_when old =
      if_has (λ (take : Take). take.state.when ≡ old.when) (nat_le bounds.run.steps old.carried) (record { state = old; outcome = Cut Steps }) (takes_up plan_of world bounds choices.Only (begun world old))
      refl (takes_up_when (begun world old))

  pub only_way_when : (old : State) → AddsNoCondition old (taken world bounds old choices.Only).state
  only_way_when old =
      option_has (λ (take : Take). take.state.when ≡ old.when) (argument_next world old.method old.stage) (reads_argument old) (takes_next plan_of world bounds choices.Only old)
      (λ type. refl) (takes_next_when old)

-- ---- what is chosen

-- the alternative is not the only way on
abbrev pub IsChosen : Choice → Type 0
IsChosen choices.Only = ⊥
IsChosen _ = Unit {0}

filter_all : (p : Choice → Bool) (xs : List Choice) → AllByRecursion IsChosen xs → AllByRecursion IsChosen (filter p xs)
filter_all p [] all = tt
filter_all p (x ∷ xs) all = go (p x) all.0 (filter_all p xs all.1) where
  go : (b : Bool) → IsChosen x → AllByRecursion IsChosen (filter p xs) → AllByRecursion IsChosen (cond b (x ∷ filter p xs) (filter p xs))
  go true here later = (here, later)
  go false here later = later

keys_chosen : (place : ℕ) (keys : List (ℤ × ℕ)) → AllByRecursion IsChosen (keys_from place keys)
keys_chosen place [] = (tt, tt)
keys_chosen place (key ∷ keys) = (tt, keys_chosen (place + 1) keys)

all_chosen : (question : IntQuestion) → AllByRecursion IsChosen (alternatives question)
all_chosen (questions.Branch cond left right) = (tt, (tt, tt))
all_chosen (questions.Key x keys) = keys_chosen 0 (keys_of keys)
all_chosen (questions.Divisor x) = (tt, (tt, tt))

-- also one that is alone
pub chosen_not_only : (state : State) (question : IntQuestion) → offered_by state (Some question) ≡ only → ⊥
chosen_not_only state question is =
    (subst (AllByRecursion IsChosen) is (filter_all (λ (choice : Choice). not (is_refuted state (asks_for question choice))) (alternatives question) (all_chosen question))).0
