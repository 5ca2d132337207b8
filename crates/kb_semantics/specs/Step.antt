-- One step of the machine, runs, and the configurations of a run (JVMS 8 sections 2.6, 2.11 and 6.5).
use Rattle.std.specs.Prelude.{ℕ, zero, suc, [], ◌++◌, length, replicate, nat_le, Option, Some, None, option_and_then, if◌then◌else◌}
use Rattle.std.specs.Option.{option_map_or}
use Rattle.kb_code.specs.declared.instruction.Instr.{Instr}
use Rattle.kb_code.specs.declared.instruction.Instr.TheVariants as instrs
use Rattle.kb_class.specs.declared.ids.MethodId.{MethodId}
use Rattle.kb_heap.specs.declared.bounds.Bound.TheVariants.{Steps}
use Rattle.kb_heap.specs.declared.ending.Ending.TheVariants.{Past}
use Rattle.kb_heap.specs.declared.heap.Heap.{Heap}
use Rattle.kb_heap.specs.declared.heap.Input.{Input}
use Rattle.kb_classes.specs.World.{World}
use Rattle.kb_heap.specs.Heap.{literal}
use Rattle.kb_semantics.specs.Config.{Setting, Config, Ended, Outcome, Goes, Ends, instruction_at, first_frame}
use Rattle.kb_world.specs.Calls.{component_of_code}
use Rattle.kb_semantics.specs.Comparisons.{table_keys}
use Rattle.kb_semantics.specs.Ways.{ill_typed, past}
use Rattle.kb_semantics.specs.Instructions.{here, nop, push_null, push_int, load_constant, load_int, load_reference, store_int, store_reference, increase, without, copied_below, exchanged, rearrange, apply_two, negate, narrow, if_int, if_ints, if_same, if_null, goto, switch, return_int, return_reference, return_nothing, get_field, put_field, make_object, load_element, store_element, array_length, make_array, component_of_entry, cast, instance_of, throw, BySelection, Special, Static, invoke}

-- What an instruction does in a configuration, where `next` is the offset behind it. An instruction that is left out ends the
-- run as ill-typed: nothing that may be run reaches one.
unfoldable pub effect : Instr → Setting → ℕ → Config → Outcome
effect instrs.Nop = nop
effect instrs.PushNull = push_null
effect (instrs.PushInt z) = push_int z
effect (instrs.Ldc entry) = load_constant entry
effect (instrs.LoadInt k) = load_int k
effect (instrs.LoadRef k) = load_reference k
effect (instrs.StoreInt k) = store_int k
effect (instrs.StoreRef k) = store_reference k
effect (instrs.LoadElem elem) = load_element elem
effect (instrs.StoreElem elem) = store_element elem
effect instrs.Pop = rearrange (without 1)
effect instrs.Pop2 = rearrange (without 2)
effect instrs.Dup = rearrange (copied_below 1 1)
effect instrs.DupX1 = rearrange (copied_below 1 2)
effect instrs.DupX2 = rearrange (copied_below 1 3)
effect instrs.Dup2 = rearrange (copied_below 2 2)
effect instrs.Dup2X1 = rearrange (copied_below 2 3)
effect instrs.Dup2X2 = rearrange (copied_below 2 4)
effect instrs.Swap = rearrange exchanged
effect (instrs.Int2 op) = apply_two op
effect instrs.Neg = negate
effect (instrs.Inc k z) = increase k z
effect (instrs.Narrow cut) = narrow cut
effect (instrs.IfInt cond target) = if_int cond target
effect (instrs.IfPair cond target) = if_ints cond target
effect (instrs.IfSame want target) = if_same want target
effect (instrs.IfNull want target) = if_null want target
effect (instrs.Goto target) = goto target
effect (instrs.Table low default targets) = switch (table_keys low targets) default
effect (instrs.Lookup default keys) = switch keys default
effect instrs.ReturnInt = return_int
effect instrs.ReturnRef = return_reference
effect instrs.Return = return_nothing
effect (instrs.GetField entry) = get_field entry
effect (instrs.PutField entry) = put_field entry
effect (instrs.Virtual entry) = invoke BySelection entry
effect (instrs.Special entry) = invoke Special entry
effect (instrs.Static entry) = invoke Static entry
effect (instrs.Interface entry) = invoke BySelection entry
effect (instrs.New entry) = make_object entry
effect (instrs.NewPrim code) = make_array (component_of_code code)
effect (instrs.NewRefs entry) = λ s next c. make_array (component_of_entry s.world (here s c) entry) s next c
effect instrs.Length = array_length
effect instrs.Throw = throw
effect (instrs.Cast entry) = cast entry
effect (instrs.InstanceOf entry) = instance_of entry
effect (instrs.Other op) = λ s next c. ill_typed s c

-- One step: where as many instructions were carried out as may be, the run ends; else the instruction at the current offset is
-- taken up. Where there is none, the code has run off its end.
unfoldable pub step : Setting → Config → Outcome
step s c =
    if nat_le s.bounds.steps c.carried then past c Steps
    else option_map_or (λ found. effect found.0 s found.1 c) (instruction_at s.world c.frame.method c.frame.at) (ill_typed s c)

-- what follows an outcome
abbrev pub follow : Outcome → (Config → Ended) → Ended
follow (Goes c) f = f c
follow (Ends e) f = e

-- The step repeated, up to an ending. The first number is there for the recursion alone: a run of `start_of` takes at most one
-- step more than the bound.
unfoldable pub run : ℕ → Setting → Config → Ended
run zero s c = record { ending = Past Steps; heap = c.heap }
run (suc n) s c = follow (step s c) (run n s)

-- The first heap of a run: the objects of the input, and behind them one object for each literal of the world.
abbrev pub first_heap : World → Heap → Heap
first_heap world heap = record { objects = heap.objects ++ replicate (length world.literals) literal }

-- the beginning of a run of a method over an input
abbrev pub start_of : World → MethodId → Input → Config
start_of world method input =
    record {
      frame = first_frame world method input.args;
      callers = [];
      heap = first_heap world input.heap;
      inputs = length input.heap.objects;
      carried = 0;
    }

-- The run of a method over an input.
abbrev pub run_of : Setting → MethodId → Input → Ended
run_of s method input = run (suc s.bounds.steps) s (start_of s.world method input)

abbrev pub next_config : Outcome → Option Config
next_config (Goes c) = Some c
next_config (Ends e) = None

-- the configuration after so many steps, where the run has not ended before
abbrev pub config_at : Setting → ℕ → Config → Option Config
config_at s zero c = Some c
config_at s (suc n) c = option_and_then (config_at s n) (next_config (step s c))
