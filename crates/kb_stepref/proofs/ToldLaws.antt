-- What an instruction on references must have been told before it is carried out, and that it has been where it asks nothing.
use Rattle.std.proofs.Common.{◌≡◌, is_some, Option, Some, None, sym, ap, ◌∙◌}
use Rattle.std.specs.Option.{option_map}
use Rattle.std.proofs.lemmas.Option.{none-some}
use Rattle.kb_code.specs.declared.instruction.Instr.{Instr}
use Rattle.kb_code.specs.declared.instruction.Instr.TheVariants as instrs
use Rattle.kb_heap.specs.declared.bounds.Bounds.{Bounds}
use Rattle.kb_classes.specs.World.{World}
use Rattle.kb_names.specs.declared.types.JType.{JType}
use Rattle.kb_semantics.specs.Instructions.{component_of_entry}
use Rattle.kb_semantics.specs.Values.{takes_component}
use Rattle.kb_universe.specs.Faults.{component_of_code}
use Rattle.kb_terms.specs.declared.node.TermId.{TermId}
use Rattle.kb_picture.specs.Endings.{Reading}
use Rattle.kb_picture.specs.declared.choice.Choice.{Choice}
use Rattle.kb_frames.specs.declared.value.SymValue.{SymValue}
use Rattle.kb_frames.specs.Next.{instruction_next}
use Rattle.kb_frames.specs.StandsFor.{reading_at}
use Rattle.kb_frames.specs.State.{State}
use Rattle.kb_ways.specs.declared.question.Question.TheVariants as questions
use Rattle.kb_ways.specs.Operands.{an_int}
use Rattle.kb_ways.specs.Plans.{here}
use Rattle.kb_ways.proofs.PlannedLaws.{Situation, state_of}
use Rattle.kb_steparray.specs.Arrays.{Array, AreCounted, array_of}
use Rattle.kb_steparray.specs.Operands.{an_element, an_element_and_value}
use Rattle.kb_steparray.specs.Questions.{asks_length}
use Rattle.kb_steparray.proofs.LoadLaws.{IsElementTold, IsPlaceTold}
use Rattle.kb_steparray.proofs.MakeLaws.{IsLengthTold}
use Rattle.kb_steparray.proofs.OperandLaws.{int_value}
use Rattle.kb_steparray.proofs.ToldLaws.{load_told, store_told}
use Rattle.kb_stepref.specs.Questions.{asked_by}

module _ (world : World) (bounds : Bounds) (at : Situation world bounds) where
  abbrev state : State
  state = state_of world bounds at

  abbrev r : Reading
  r = reading_at world state at.input at.stands.instance_of.shape.places

  -- what an array that is to be made must be told
  abbrev IsSizeTold : Choice → Option JType → Type 0
  IsSizeTold choice component = (x : TermId) (type : JType) → component ≡ Some type → an_int at.frame.stack ≡ Some x → IsLengthTold bounds (int_value r x) choice

  -- An instruction has been told what it must: a field and an element what they hold, an access its place, a new array its length.
  abbrev pub IsTold : Choice → Instr → Type 0
  IsTold choice (instrs.GetField entry) = asked_by bounds world state (instrs.GetField entry) ≡ None
  IsTold choice (instrs.LoadElem elem) =
      (t : SymValue × TermId) → an_element at.frame.stack ≡ Some t → (a : Array) → array_of state (takes_component elem) t.0 ≡ Some a
      → IsPlaceTold (int_value r t.1) a.length state.chosen × IsElementTold state t.0 a.component state.chosen
  IsTold choice (instrs.StoreElem elem) =
      (t : SymValue × TermId × SymValue) → an_element_and_value elem at.frame.stack ≡ Some t → (a : Array) → array_of state (takes_component elem) t.0 ≡ Some a
      → IsPlaceTold (int_value r t.1) a.length state.chosen
  IsTold choice (instrs.NewPrim code) = IsSizeTold choice (component_of_code code)
  IsTold choice (instrs.NewRefs entry) = IsSizeTold choice (component_of_entry world (here world state) entry)
  IsTold choice _ = Unit {0}

  size_told : (choice : Choice) (component : Option JType) → asks_length state bounds.run.alloc (is_some component) ≡ None → IsSizeTold choice component
  size_told choice component none x type is found =
      absurd (none-some (questions.Length x bounds.run.alloc) (sym none ∙ (ap (λ (it : Option JType). asks_length state bounds.run.alloc (is_some it)) is ∙ ap (option_map (λ (l : TermId). questions.Length l bounds.run.alloc)) found)))

  -- where nothing is asked, all is told
  pub quiet_told : AreCounted at.base.picture → (choice : Choice) (instr : Instr) → instruction_next world state.method state.stage ≡ Some instr → asked_by bounds world state instr ≡ None → IsTold choice instr
  quiet_told bounded choice (instrs.GetField entry) there none = none
  quiet_told bounded choice (instrs.LoadElem elem) there none = load_told world bounds at bounded elem there none
  quiet_told bounded choice (instrs.StoreElem elem) there none = store_told world bounds at bounded elem there none
  quiet_told bounded choice (instrs.NewPrim code) there none = size_told choice (component_of_code code) none
  quiet_told bounded choice (instrs.NewRefs entry) there none = size_told choice (component_of_entry world (here world state) entry) none
  quiet_told bounded choice _ there none = tt
