-- What a take keeps of a state, and that it sees nothing but an argument.
use Rattle.std.proofs.Common.{◌≡◌, ℕ, ℤ, inl, inr, List, [], ◌∷◌, ◌++◌, length, take, nat_le, Option, Some, None, refl, ap, subst}
use Rattle.kb_code.specs.declared.instruction.Instr.{Instr}
use Rattle.kb_code.specs.declared.instruction.IntOp.{IntOp}
use Rattle.kb_heap.specs.declared.bounds.Bounds.{Bounds}
use Rattle.kb_classes.specs.World.{World, int_entry_of}
use Rattle.kb_semantics.specs.Config.{class_number, instruction_at}
use Rattle.kb_terms.specs.declared.op.Op.TheVariants.{Add, Neg}
use Rattle.kb_terms.specs.declared.node.TermId.{TermId}
use Rattle.kb_terms.specs.declared.node.Node.{Node}
use Rattle.kb_terms.specs.declared.node.Node.TheVariants.{Const, Var}
use Rattle.kb_terms.specs.Terms.{interned, variables_of}
use Rattle.kb_terms.proofs.Entries.{end-cases}
use Rattle.kb_picture.specs.declared.choice.Choice.{Choice}
use Rattle.kb_picture.specs.declared.picture.Origin.{Origin}
use Rattle.kb_picture.specs.declared.picture.Origin.TheVariants.{Arg}
use Rattle.kb_picture.specs.declared.picture.Seen.{Seen}
use Rattle.kb_picture.specs.Growth.{after_int_read}
use Rattle.kb_picture.specs.Queries.{kind_for}
use Rattle.kb_picture.specs.WellFormed.{variables_seen}
use Rattle.kb_picture.proofs.GrownShapes.{int_shape}
use Rattle.kb_frames.specs.Cuts.{setting_of}
use Rattle.kb_frames.specs.FirstReads.{first_int}
use Rattle.kb_frames.specs.Lent.{begun, read_count, stack_of, with_nodes}
use Rattle.kb_frames.specs.Next.{argument_next, method_now, offset_now}
use Rattle.kb_frames.specs.State.{State}
use Rattle.kb_terms.specs.declared.node.VarKind.{VarKind}
use Rattle.kb_ways.specs.Asked.{all_asked, interned_op}
use Rattle.kb_stepint.specs.Choices.{conditions_of}
use Rattle.kb_ways.specs.Plans.{Planned, plain, planned, takes_next, takes_up, carried_out}
use Rattle.kb_stepint.specs.Effects.{plan_of, pushes_int, adds, rearranges, picked, op_of, op_of_cut, computes_by, int_local, effect_of}
use Rattle.kb_ways.specs.Operands.{an_int, two_ints}
use Rattle.kb_ways.specs.Simulation.{Keeps, IsRead, ReadsWhatItSees}
use Rattle.kb_stepint.specs.Takes.{taken, reads_argument}
use Rattle.kb_ways.specs.Ways.{Take, Fails, ill_typed}
use Rattle.kb_ways.proofs.GrowLaws.{if_has, option_has, all_asked_grows, front_itself, goes_on_behind, interned_goes_on, op_goes_on, HasMore, more_itself, more_terms, more_grows}
use Rattle.kb_ways.proofs.KeepLaws.{Stays, stays_grown, stays_on, begun_stays, same_stays, went_stays, kept_of_stays, past, same_reads}
use Rattle.kb_terms.specs.declared.op.Op.{Op}
use Rattle.kb_ways.proofs.KeptLaws.{returns_has, kept_more}
use Rattle.kb_frames.specs.declared.value.SymValue.TheVariants.{Int}
use Rattle.kb_code.specs.declared.instruction.Instr.TheVariants as instrs
use Rattle.kb_picture.specs.declared.choice.Choice.TheVariants as choices
use Rattle.kb_picture.specs.declared.picture.Seen.TheVariants as seens

-- ---- plans

module _ (world : World) (state : State) where
  abbrev Makes : Planned → Type 0
  Makes plan = HasMore state plan.state

  no_terms : HasMore state state
  no_terms = more_itself state

  planned_makes : {A : Type 0} (it : Option A) (f : A → Planned) → ((x : A) → Makes (f x)) → Makes (planned state it f)
  planned_makes it f h = option_has Makes it f (plain state Fails) h no_terms

  int_makes : (z : ℤ) → Makes (pushes_int state z)
  int_makes z = more_terms state (interned state.nodes (Const z)).0 (interned_goes_on state.nodes (Const z) refl)

  -- an operation on an int
  op_makes : (op : Op) (t : TermId) → HasMore state (with_nodes state (interned_op state.nodes op t None).0)
  op_makes op t = more_terms state (interned_op state.nodes op t None).0 (op_goes_on state.nodes op t None)

  adds_makes : (k : ℕ) (z : ℤ) (t : TermId) → Makes (adds world state k t (interned state.nodes (Const z)))
  adds_makes k z t =
      let one = interned state.nodes (Const z) in
      more_terms state (interned_op one.0 Add t (Some one.1)).0
      (goes_on_behind state.nodes one.0 (interned_op one.0 Add t (Some one.1)).0 (interned_goes_on state.nodes (Const z) refl) (op_goes_on one.0 Add t (Some one.1)))

  computes_by_makes : (op : IntOp) (t : TermId × TermId) (choice : Choice) → Makes (computes_by state op t choice)
  computes_by_makes op t choices.Zero = no_terms
  computes_by_makes op t _ = more_terms state (interned_op state.nodes (op_of op) t.0 (Some t.1)).0 (op_goes_on state.nodes (op_of op) t.0 (Some t.1))

  rearranges_makes : (depth : ℕ) (picks : List ℕ) → Makes (rearranges state depth picks)
  rearranges_makes depth picks = planned_makes (picked depth picks (stack_of state.stage)) _ (λ stack. no_terms)

  pub effect_makes : (choice : Choice) (instr : Instr) → Makes (effect_of world state choice instr)
  effect_makes choice (instrs.PushInt z) = int_makes z
  effect_makes choice (instrs.Ldc entry) =
      planned_makes (int_entry_of world (class_number world (method_now state.method state.stage)) entry) (pushes_int state) int_makes
  effect_makes choice (instrs.LoadInt k) = planned_makes (int_local world state k) _ (λ t. no_terms)
  effect_makes choice (instrs.StoreInt k) = planned_makes (an_int (stack_of state.stage)) _ (λ t. no_terms)
  effect_makes choice (instrs.Inc k by) = planned_makes (int_local world state k) _ (λ t. adds_makes k by t)
  effect_makes choice instrs.Pop = rearranges_makes 1 []
  effect_makes choice instrs.Pop2 = rearranges_makes 2 []
  effect_makes choice instrs.Dup = rearranges_makes 1 (0 ∷ 0 ∷ [])
  effect_makes choice instrs.DupX1 = rearranges_makes 2 (0 ∷ 1 ∷ 0 ∷ [])
  effect_makes choice instrs.DupX2 = rearranges_makes 3 (0 ∷ 1 ∷ 2 ∷ 0 ∷ [])
  effect_makes choice instrs.Dup2 = rearranges_makes 2 (0 ∷ 1 ∷ 0 ∷ 1 ∷ [])
  effect_makes choice instrs.Dup2X1 = rearranges_makes 3 (0 ∷ 1 ∷ 2 ∷ 0 ∷ 1 ∷ [])
  effect_makes choice instrs.Dup2X2 = rearranges_makes 4 (0 ∷ 1 ∷ 2 ∷ 3 ∷ 0 ∷ 1 ∷ [])
  effect_makes choice instrs.Swap = rearranges_makes 2 (1 ∷ 0 ∷ [])
  effect_makes choice (instrs.Int2 op) = planned_makes (two_ints (stack_of state.stage)) _ (λ t. computes_by_makes op t choice)
  effect_makes choice instrs.Neg = planned_makes (an_int (stack_of state.stage)) _ (op_makes Neg)
  effect_makes choice (instrs.Narrow cut) = planned_makes (an_int (stack_of state.stage)) _ (op_makes (op_of_cut cut))
  effect_makes choice instrs.ReturnInt =
      planned_makes (an_int (stack_of state.stage)) _ (λ t. returns_has Makes world state (Int t) (λ type. kept_more type (Int t) state) no_terms)
  effect_makes choice _ = no_terms

-- ---- takes

module _ (world : World) (bounds : Bounds) (choice : Choice) where
  answered_stays : (state : State) (found : Instr × ℕ) → Stays state (carried_out plan_of world bounds choice state found).state
  answered_stays state found =
      let conditions = conditions_of found.0 (stack_of state.stage) choice in
      let asked : State = all_asked state conditions in
      let effect = effect_of world asked choice found.0 in
      stays_on state asked _ (stays_grown state asked (all_asked_grows conditions state))
      (stays_on asked effect.state _ (stays_grown asked effect.state (more_grows asked effect.state (effect_makes world asked choice found.0)))
      (went_stays world bounds found.1 effect.state effect.way))

  takes_up_stays : (state : State) → Stays state (takes_up plan_of world bounds choice state).state
  takes_up_stays state =
      option_has (λ (take : Take). Stays state take.state) (instruction_at world (method_now state.method state.stage) (offset_now state.stage)) (carried_out plan_of world bounds choice state) (ill_typed world state)
      (answered_stays state) (same_stays world bounds 0 state)

  -- where no argument is read
  pub takes_next_stays : (old : State) → Stays old (takes_next plan_of world bounds choice old).state
  takes_next_stays old =
      if_has (λ (take : Take). Stays old take.state) (nat_le bounds.run.steps old.carried) _ _ (same_stays world bounds 0 old)
      (stays_on old (begun world old) _ (begun_stays world old) (takes_up_stays (begun world old)))

-- ---- what is kept

argument_kept : (old : State) (kind : VarKind) → Keeps old (first_int (Arg (read_count old.stage)) kind old)
argument_kept old kind = record {
  method = refl;
  init = refl;
  terms = record { kept = seam old.nodes (Var (variables_of old.nodes) kind ∷ []) };
  conditions = front_itself old.when;
  shapes = λ input shape. int_shape old.picture (Arg (read_count old.stage)) input shape;
} where
  seam : (xs ys : List Node) → take (length xs) (xs ++ ys) ≡ xs
  seam [] ys = refl
  seam (x ∷ xs) ys = ap (λ (l : List Node). x ∷ l) (seam xs ys)

pub kept : (world : World) (bounds : Bounds) (old : State) (choice : Choice) → Keeps old (taken world bounds old choice).state
kept world bounds old choice =
    option_has (λ (take : Take). Keeps old take.state) (argument_next world old.method old.stage) (reads_argument old) (takes_next plan_of world bounds choice old)
    (λ type. argument_kept old (kind_for (Some type))) (kept_of_stays old _ (takes_next_stays world bounds choice old))

-- ---- what is read

argument_reads : (world : World) (bounds : Bounds) (old : State) (kind : VarKind) → ReadsWhatItSees world bounds old (first_int (Arg (read_count old.stage)) kind old)
unfolding after_int_read
argument_reads world bounds old kind input c correct stands instance_of = record {
  seen = λ i slot from at. elim (end-cases old.picture.seen (Arg (read_count old.stage), seens.Int (length (variables_seen old.picture))) i slot at) [
    | inl before ↦ absurd (past (length old.picture.seen) i from before.0)
    | inr last ↦ subst (λ (x : Origin × Seen). IsRead (setting_of world bounds) old input c instance_of.shape.places.objects x.0) last.1 tt
  ];
  objects = λ lazier number from below. absurd (past (length old.picture.objects) number from below);
  beyond = λ lazier number loc at standing other. absurd (other at);
}

pub reads : (world : World) (bounds : Bounds) (old : State) (choice : Choice) → ReadsWhatItSees world bounds old (taken world bounds old choice).state
reads world bounds old choice =
    option_has (λ (take : Take). ReadsWhatItSees world bounds old take.state) (argument_next world old.method old.stage) (reads_argument old)
    (takes_next plan_of world bounds choice old) (λ type. argument_reads world bounds old (kind_for (Some type)))
    (same_reads world bounds old (takes_next plan_of world bounds choice old).state (takes_next_stays world bounds choice old).picture)
