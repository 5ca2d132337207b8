use Rattle.std.proofs.Common.{◌≡◌, ℕ, ◌-◌, Some, None, option_map, sym, ap, ◌∙◌, arith}
use Rattle.kb_code.specs.declared.instruction.Instr.{Instr}
use Rattle.kb_semantics.specs.Config.{Setting, instruction_at}
use Rattle.kb_lookups.specs.Listings.{plain_found}
use Rattle.kb_machine.specs.Turns.{reached}
use Rattle.kb_machine.specs.declared.turn.Step.TheVariants as steps
use Rattle.kb_machine.specs.declared.turn.Turn.{Turn}
use Rattle.kb_machine.proofs.RunLaws.{found_at_frame, goes_on, ends, runs_off, runs_past, told_so}
use Rattle.kb_machine.proofs.machine.run_from.Goals as goal

pub returns-in_default : goal.returns-in_default
returns-in_default c =
    let s : Setting = record { world = c.args.world.now; bounds = c.args.bounds.now } in
    let state = c.loop-carried.state in
    let none : instruction_at c.args.world.now state.frame.method state.frame.at ≡ None =
    found_at_frame c.args.world.now state.frame _ _ None c.method.ensures c.at.ensures (sym c.instruction_at.ensures ∙ ap (option_map plain_found) c.in_default.is) in
    told_so c.ending_of.result _ state.heap _ (rw c.ill_typed.ensures at c.ending_of.ensures)
    (sym c.loop-carried.invariant
    ∙ runs_off s (reached c.args.inputs c.loop-carried.carried state) (c.args.bounds.now.steps - c.loop-carried.carried) c.loop-carried-test.true none)

pub returns-then-ne : goal.returns-then-ne
returns-then-ne c =
    let state = c.loop-carried.state in
    let found : Instr × ℕ = (c.in-Some.found.instr.now, c.in-Some.found.next) in
    let turn : Turn = record { alloc = c.args.alloc; world = c.args.world; bounds = c.args.bounds.now; inputs = c.args.inputs; carried = c.loop-carried.carried; next = c.in-Some.found.next } in
    let at : instruction_at c.args.world.now state.frame.method state.frame.at ≡ Some found =
    found_at_frame c.args.world.now state.frame _ _ (Some found) c.method.ensures c.at.ensures (sym c.instruction_at.ensures ∙ ap (option_map plain_found) c.in-Some.is) in
    let other : c.in_ok-step.step ≡ steps.Goes → ⊥ = λ e. grind (arith, e) in
    told_so c.ending_of-then-ne.result _ c.take.new.self.heap _ c.ending_of-then-ne.ensures
    (sym c.loop-carried.invariant
    ∙ ends turn state c.take.new.self found c.loop-carried-test.true at c.in_ok-step.step other c.in_ok-step.ensures)

pub loop-carried-preserved : goal.loop-carried-preserved
loop-carried-preserved c =
    let state = c.loop-carried.state in
    let found : Instr × ℕ = (c.in-Some.found.instr.now, c.in-Some.found.next) in
    let turn : Turn = record { alloc = c.args.alloc; world = c.args.world; bounds = c.args.bounds.now; inputs = c.args.inputs; carried = c.loop-carried.carried; next = c.in-Some.found.next } in
    let at : instruction_at c.args.world.now state.frame.method state.frame.at ≡ Some found =
    found_at_frame c.args.world.now state.frame _ _ (Some found) c.method.ensures c.at.ensures (sym c.instruction_at.ensures ∙ ap (option_map plain_found) c.in-Some.is) in
    let goes : c.in_ok-step.step ≡ steps.Goes = grind arith in
    sym (goes_on turn state c.take.new.self found c.loop-carried-test.true at (rw goes at c.in_ok-step.ensures))
    ∙ c.loop-carried.invariant

pub returns : goal.returns
returns c =
    let s : Setting = record { world = c.args.world.now; bounds = c.args.bounds.now } in
    let spent = c.loop-carried-test.false in
    sym c.loop-carried.invariant
    ∙ runs_past s (reached c.args.inputs c.loop-carried.carried c.loop-carried.state) (c.args.bounds.now.steps - c.loop-carried.carried) (omega (arith, spent))
