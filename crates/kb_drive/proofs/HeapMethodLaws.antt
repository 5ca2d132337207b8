-- Methods over heaps: how their states begin, and that each of their instructions is one of theirs.
use Rattle.std.proofs.Common.{◌≡◌, ℕ, inl, inr, slice_get, Bool, true, false, ◌&&◌, List, [], ◌∷◌, Option, Some, None, refl, sym, ap, ◌∙◌}
use Rattle.std.specs.List.{list_all, list_any}
use Rattle.std.specs.Option.{option_and_then, option_map_or}
use Rattle.std.proofs.lemmas.Bool.{and_parts}
use Rattle.kb_class.specs.declared.ids.MethodId.{MethodId}
use Rattle.kb_class.specs.declared.members.MethodCode.{MethodCode}
use Rattle.kb_class.specs.declared.members.MethodInfo.{MethodInfo}
use Rattle.kb_code.specs.declared.instruction.Instr.{Instr}
use Rattle.kb_link.specs.Links.{IsLinked}
use Rattle.kb_classes.specs.Slots.{has_slot_type}
use Rattle.kb_classes.specs.World.{World}
use Rattle.kb_names.specs.declared.types.JType.{JType}
use Rattle.kb_names.specs.declared.types.JType.TheVariants as types
use Rattle.kb_semantics.specs.Config.{info_of, instruction_at, instruction_in}
use Rattle.kb_resolution.specs.LeftOut.{is_left_out}
use Rattle.kb_picture.specs.declared.choice.Init.TheVariants.{Lazy}
use Rattle.kb_frames.specs.State.{start_state}
use Rattle.kb_frames.specs.States.{IsState}
use Rattle.kb_frames.proofs.StateLaws.{start_is_state}
use Rattle.kb_ways.specs.Reached.{has_none}
use Rattle.kb_ways.proofs.MethodLaws.{all_passed, code_found, found_has, start_typed, all_rise}
use Rattle.kb_drive.specs.HeapMethods.{is_heap_code, is_heap_info, is_heap_instruction, is_heap_method, is_none_or_value}
use Rattle.kb_drive.specs.Reached.{IsHeapReached}

-- ---- what such a method has

-- its types, each of which is one of slots, and its code
pub record HasHeapInfo (world : World) (id : MethodId) : Type 0 where
  pub info : MethodInfo
  pub info_is : info_of world id ≡ Some info
  pub params : list_all has_slot_type info.kind.params ≡ true
  pub code : MethodCode
  pub code_is : info.code ≡ Some code
  pub handlers : has_none code.handlers ≡ true
  pub instructions : list_all (λ (item : ℕ × Instr). is_heap_instruction world id item.1) code.listing.items ≡ true

pub heap_info : (world : World) (id : MethodId) → is_heap_method world id ≡ true → HasHeapInfo world id
heap_info world id e = go (info_of world id) refl e where
  with_code : (info : MethodInfo) → info_of world id ≡ Some info → list_all has_slot_type info.kind.params ≡ true → (code : Option MethodCode) → info.code ≡ code
      → option_map_or (is_heap_code world id) code false ≡ true → HasHeapInfo world id
  with_code info at params None there is = absurd cc
  with_code info at params (Some code) there is =
      let both = and_parts (has_none code.handlers) (list_all (λ (item : ℕ × Instr). is_heap_instruction world id item.1) code.listing.items) is in
      record { info = info; info_is = at; params = params; code = code; code_is = there; handlers = both.0; instructions = both.1 }

  go : (found : Option MethodInfo) → info_of world id ≡ found → option_map_or (is_heap_info world id) found false ≡ true → HasHeapInfo world id
  go None at is = absurd cc
  go (Some info) at is =
      let first = and_parts (list_all has_slot_type info.kind.params) (is_none_or_value info.kind.result && option_map_or (is_heap_code world id) info.code false) is in
      let second = and_parts (is_none_or_value info.kind.result) (option_map_or (is_heap_code world id) info.code false) first.1 in
      with_code info at first.0 info.code refl second.1

-- a type of slots is none that is left out
slot_is_built : (type : JType) → has_slot_type type ≡ true → is_left_out type ≡ false
slot_is_built types.Int e = refl
slot_is_built types.Bool e = refl
slot_is_built (types.Class name) e = refl
slot_is_built (types.Array component) e = refl
slot_is_built _ e = absurd cc

none_left_out : (kinds : List JType) → list_all has_slot_type kinds ≡ true → list_any is_left_out kinds ≡ false
none_left_out [] e = refl
none_left_out (type ∷ kinds) e =
    let both = and_parts (has_slot_type type) (list_all has_slot_type kinds) e in
    let built : is_left_out type ≡ false = slot_is_built type both.0 in
    rw built (none_left_out kinds both.1)

-- ---- how its states begin

-- Before the arguments are read nothing is seen.
pub heap_methods_begin : (world : World) (method : MethodId) → IsLinked world → is_heap_method world method ≡ true → IsHeapReached world (start_state Lazy method)
heap_methods_begin world method linked heap = record {
  reached = record {
    sound = sound;
    typed = start_typed world Lazy method sound;
    receiver = tt;
    parameters = rw h.info_is (none_left_out h.info.kind.params h.params);
    keys = all_rise world linked;
  };
  alone = tt;
  linked = linked;
  method = heap;
  lazy = refl;
  known = refl;
  within = λ slot beyond. elim beyond [ inl seen ↦ no_at seen.0 _ seen.1 | inr loc ↦ no_at loc.0 _ loc.1 ];
  bounded = λ number object at. absurd (no_at number object at);
} where
  h : HasHeapInfo world method
  h = heap_info world method heap

  sound : IsState world (start_state Lazy method)
  sound = start_is_state world Lazy method h.info h.info_is

  no_at : {A : Type 0} (i : ℕ) (x : A) → slice_get [] i ≡ Some x → ⊥
  no_at i x e = absurd cc

-- ---- its instructions

-- each of them is one on ints, the stack, references or fields
pub instruction_is_heap : (world : World) (id : MethodId) (at : ℕ) (found : Instr × ℕ) → is_heap_method world id ≡ true → instruction_at world id at ≡ Some found
    → is_heap_instruction world id found.0 ≡ true
instruction_is_heap world id at found heap e =
    let h : HasHeapInfo world id = heap_info world id heap in
    found_has (λ (instr : Instr). is_heap_instruction world id instr ≡ true) h.code.listing.items h.code.size at found
    (all_passed (λ (item : ℕ × Instr). is_heap_instruction world id item.1) h.code.listing.items h.instructions)
    (ap (option_and_then (λ (code : MethodCode). instruction_in code.listing.items code.size at)) (sym (code_found world id h.info h.code h.info_is h.code_is)) ∙ e)
