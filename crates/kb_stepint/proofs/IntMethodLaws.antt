-- Methods over ints: how their states begin, and that all their steps are int steps.
use Rattle.std.proofs.Common.{◌≡◌, ℕ, true, false, ◌&&◌, List, [], ◌∷◌, length, Option, Some, None, slice_get, refl, sym, ap, ◌∙◌, subst}
use Rattle.std.specs.List.{list_all, list_any}
use Rattle.std.specs.Option.{option_map, option_map_or, option_and_then}
use Rattle.kb_class.specs.declared.ids.MethodId.{MethodId}
use Rattle.kb_class.specs.declared.members.MethodCode.{MethodCode}
use Rattle.kb_class.specs.declared.members.MethodInfo.{MethodInfo}
use Rattle.kb_class.specs.Members.{is_static}
use Rattle.kb_code.specs.declared.instruction.Instr.{Instr}
use Rattle.kb_link.specs.Links.{IsLinked}
use Rattle.kb_classes.specs.World.{World}
use Rattle.kb_names.specs.declared.types.JType.{JType}
use Rattle.kb_names.specs.declared.types.JType.TheVariants as types
use Rattle.kb_resolution.specs.LeftOut.{is_left_out}
use Rattle.kb_semantics.specs.Config.{code_of, info_of, instruction_at, instruction_in}
use Rattle.kb_semantics.specs.Inputs.{argument_types}
use Rattle.kb_picture.specs.declared.choice.Init.{Init}
use Rattle.kb_frames.specs.declared.state.Stage.{Stage}
use Rattle.kb_frames.specs.declared.state.Stage.TheVariants.{Begins, Runs}
use Rattle.kb_picture.specs.WellTyped.{is_int_type, is_reference_type}
use Rattle.kb_frames.specs.Next.{argument_next, instruction_next, is_int, is_int_instruction, is_int_next, method_now, next_is_int}
use Rattle.kb_frames.specs.State.{State, start_state}
use Rattle.kb_frames.specs.States.{IsState}
use Rattle.kb_frames.proofs.StateLaws.{start_is_state}
use Rattle.kb_ways.specs.Reached.{has_none, IsAlone, IsReached, HasNoHandlers}
use Rattle.kb_stepint.specs.IntMethods.{is_int_code, is_int_info, is_int_method, is_none_or_int}
use Rattle.kb_ways.proofs.MethodLaws.{and_both, code_found, all_at, all_passed, found_has, start_typed, handlers_none, all_rise}

-- ---- what an int method has

-- its types, each of which is an int or a boolean, and its code
pub record IsIntInfo (world : World) (id : MethodId) (info : MethodInfo) : Type 0 where
  pub static : is_static info.access ≡ true
  pub params : list_all is_int_type info.kind.params ≡ true
  pub code : MethodCode
  pub code_is : info.code ≡ Some code
  pub handlers : has_none code.handlers ≡ true
  pub instructions : list_all (λ (item : ℕ × Instr). is_int_instruction world id item.1) code.listing.items ≡ true

pub record HasIntInfo (world : World) (id : MethodId) : Type 0 where
  pub info : MethodInfo
  pub info_is : info_of world id ≡ Some info
  pub int_info : IsIntInfo world id info

pub int_info : (world : World) (id : MethodId) → is_int_method world id ≡ true → HasIntInfo world id
int_info world id e = go (info_of world id) refl e where
  with_code : (info : MethodInfo) (code : Option MethodCode) → info.code ≡ code → is_static info.access ≡ true → list_all is_int_type info.kind.params ≡ true
      → option_map_or (is_int_code world id) code false ≡ true → IsIntInfo world id info
  with_code info None at static params is = absurd cc
  with_code info (Some code) at static params is =
      let both = and_both (has_none code.handlers) (list_all (λ (item : ℕ × Instr). is_int_instruction world id item.1) code.listing.items) is in
      record { static = static; params = params; code = code; code_is = at; handlers = both.0; instructions = both.1 }

  parts : (info : MethodInfo) → is_int_info world id info ≡ true → IsIntInfo world id info
  parts info is =
      let first = and_both (is_static info.access) (list_all is_int_type info.kind.params && (is_none_or_int info.kind.result && option_map_or (is_int_code world id) info.code false)) is in
      let second = and_both (list_all is_int_type info.kind.params) (is_none_or_int info.kind.result && option_map_or (is_int_code world id) info.code false) first.1 in
      let third = and_both (is_none_or_int info.kind.result) (option_map_or (is_int_code world id) info.code false) second.1 in
      with_code info info.code refl first.0 second.0 third.1

  go : (found : Option MethodInfo) → info_of world id ≡ found → option_map_or (is_int_info world id) found false ≡ true → HasIntInfo world id
  go None at is = absurd cc
  go (Some info) at is = record { info = info; info_is = at; int_info = parts info is }

pub code_is : (world : World) (id : MethodId) (h : HasIntInfo world id) → code_of world id ≡ Some h.int_info.code
code_is world id h = code_found world id h.info h.int_info.code h.info_is h.int_info.code_is

-- ---- arguments

pub int_is_no_reference : (type : JType) → is_int_type type ≡ true → is_reference_type type ≡ false
int_is_no_reference types.Int e = refl
int_is_no_reference types.Bool e = refl
int_is_no_reference (types.Class name) e = absurd cc
int_is_no_reference (types.Array component) e = absurd cc
int_is_no_reference types.Byte e = absurd cc
int_is_no_reference types.Char e = absurd cc
int_is_no_reference types.Short e = absurd cc
int_is_no_reference types.Long e = absurd cc
int_is_no_reference types.Float e = absurd cc
int_is_no_reference types.Double e = absurd cc

int_is_built : (type : JType) → is_int_type type ≡ true → is_left_out type ≡ false
int_is_built types.Int e = refl
int_is_built types.Bool e = refl
int_is_built (types.Class name) e = absurd cc
int_is_built (types.Array component) e = absurd cc
int_is_built types.Byte e = absurd cc
int_is_built types.Char e = absurd cc
int_is_built types.Short e = absurd cc
int_is_built types.Long e = absurd cc
int_is_built types.Float e = absurd cc
int_is_built types.Double e = absurd cc

none_left_out : (kinds : List JType) → list_all is_int_type kinds ≡ true → list_any is_left_out kinds ≡ false
none_left_out [] e = refl
none_left_out (type ∷ kinds) e =
    let both = and_both (is_int_type type) (list_all is_int_type kinds) e in
    let built : is_left_out type ≡ false = int_is_built type both.0 in
    rw built (none_left_out kinds both.1)

-- ---- states

-- While arguments are read the next one is an int or a boolean; then the frame is the method's own, and each instruction of its
-- code is one of ints.
pub ints_next : (world : World) (state : State) → IsAlone state.method state.stage → is_int_method world state.method ≡ true → next_is_int world state ≡ true
ints_next world state alone ints = go state.stage alone where
  h : HasIntInfo world state.method
  h = int_info world state.method ints

  -- the instruction at whatever offset, or none
  at_offset : (at : ℕ) → is_int_next world state.method (option_map (λ (found : Instr × ℕ). found.0) (instruction_at world state.method at)) ≡ true
  at_offset at = rw (code_is world state.method h) (either (instruction_in h.int_info.code.listing.items h.int_info.code.size at) refl) where
    either : (found : Option (Instr × ℕ)) → instruction_in h.int_info.code.listing.items h.int_info.code.size at ≡ found
        → is_int_next world state.method (option_map (λ (f : Instr × ℕ). f.0) found) ≡ true
    either None e = refl
    either (Some found) e =
        found_has (λ (instr : Instr). is_int_instruction world state.method instr ≡ true) h.int_info.code.listing.items h.int_info.code.size at found
        (all_passed (λ (item : ℕ × Instr). is_int_instruction world state.method item.1) h.int_info.code.listing.items h.int_info.instructions) e

  types_are : argument_types world h.info ≡ h.info.kind.params
  types_are = rw h.int_info.static refl

  by_argument : (type : Option JType) (i : ℕ) → slice_get h.info.kind.params i ≡ type
      → is_int (option_map is_reference_type type) (is_int_next world state.method (option_map (λ (found : Instr × ℕ). found.0) (instruction_at world state.method 0))) ≡ true
  by_argument None i e = at_offset 0
  by_argument (Some type) i e = let never = int_is_no_reference type (all_at is_int_type h.info.kind.params i type h.int_info.params e) in rw never refl

  go : (stage : Stage) → IsAlone state.method stage
      → is_int (option_map is_reference_type (argument_next world state.method stage)) (is_int_next world (method_now state.method stage) (instruction_next world state.method stage)) ≡ true
  go (Begins read) alone =
      let next : argument_next world state.method (Begins read) ≡ slice_get h.info.kind.params (length read) =
      ap (option_and_then (λ (info : MethodInfo). slice_get (argument_types world info) (length read))) h.info_is ∙ ap (λ (kinds : List JType). slice_get kinds (length read)) types_are in
      subst (λ (type : Option JType). is_int (option_map is_reference_type type) (is_int_next world (method_now state.method (Begins read)) (instruction_next world state.method (Begins read))) ≡ true) (sym next)
      (by_argument (slice_get h.info.kind.params (length read)) (length read) refl)
  go (Runs frame callers) alone = rw alone.0 (at_offset frame.at)

pub unhandled : (world : World) (method : MethodId) → is_int_method world method ≡ true → HasNoHandlers world method
unhandled world method ints =
    let h : HasIntInfo world method = int_info world method ints in
    rw (code_is world method h) (handlers_none h.int_info.code.handlers h.int_info.handlers)

pub start_reached : (world : World) (init : Init) (method : MethodId) → IsLinked world → is_int_method world method ≡ true → IsReached world (start_state init method)
start_reached world init method linked ints = record {
  sound = sound;
  typed = start_typed world init method sound;
  receiver = tt;
  parameters = rw h.info_is (none_left_out h.info.kind.params h.int_info.params);
  keys = all_rise world linked;
} where
  h : HasIntInfo world method
  h = int_info world method ints

  sound : IsState world (start_state init method)
  sound = start_is_state world init method h.info h.info_is
