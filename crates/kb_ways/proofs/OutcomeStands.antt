-- The frames with which a run goes on once its arguments are read stand for those of the configuration, whatever terms are
-- added.
use Rattle.std.proofs.Common.{◌≡◌, ℕ, zero, suc, ◌-◌, ◌≤◌, List, [], ◌∷◌, ◌++◌, length, length-append, map, replicate, take, slice_get, Option, Some, None, refl, sym, ap, subst, ◌∙◌, arith}
use Rattle.std.specs.Option.{option_map, option_and_then}
use Rattle.std.proofs.lemmas.List.{length-map, length-replicate, map-append, take_all}
use Rattle.kb_class.specs.declared.ids.MethodId.{MethodId}
use Rattle.kb_class.specs.declared.members.MethodInfo.{MethodInfo}
use Rattle.kb_heap.specs.declared.heap.Heap.{Heap}
use Rattle.kb_heap.specs.declared.heap.Input.{Input}
use Rattle.kb_heap.specs.declared.heap.Value.{Value}
use Rattle.kb_classes.specs.World.{World}
use Rattle.kb_names.specs.declared.types.JType.{JType}
use Rattle.kb_semantics.specs.Config.{Setting, Config, Frame, first_locals, max_locals_of}
use Rattle.kb_semantics.specs.Inputs.{IsTypeCorrect, argument_types}
use Rattle.kb_semantics.specs.Step.{config_at}
use Rattle.kb_semantics.specs.Values.{AreValuesOf}
use Rattle.kb_picture.specs.Endings.{Reading}
use Rattle.kb_frames.specs.declared.frame.SymFrame.{SymFrame}
use Rattle.kb_frames.specs.declared.state.Stage.{Stage}
use Rattle.kb_frames.specs.declared.state.Stage.TheVariants.{Begins, Runs}
use Rattle.kb_frames.specs.declared.value.SymValue.{SymValue}
use Rattle.kb_frames.specs.Lent.{begun_frame, begun_locals, begun_stage}
use Rattle.kb_frames.specs.Next.{argument_next}
use Rattle.kb_frames.specs.StandsFor.{FrameStandsFor, FramesStandFor, IsOfRun, StageStandsFor, beginning_of, value_of_sym}
use Rattle.kb_frames.specs.State.{State}
use Rattle.kb_frames.specs.States.{Each, IsFrame, IsLocal, IsStage, IsSymValue}
use Rattle.kb_frames.proofs.ItemLaws.{no_items}
use Rattle.kb_ways.proofs.SoundLaws.{begun_is_frame}

-- The frames of a state whose arguments are read.
pub record Running (world : World) (old : State) (stage : Stage) (r : Reading) (c : Config) : Type 0 where
  pub frame : SymFrame
  pub callers : List SymFrame
  pub is : begun_stage world old stage ≡ Runs frame callers
  pub sound : IsFrame world old frame
  pub each : Each (IsFrame world old) callers
  pub stands : FrameStandsFor r frame c.frame
  pub waiting : FramesStandFor r callers c.callers

-- ---- a run that begins

past_end : {A : Type 0} (xs : List A) (i : ℕ) → slice_get xs i ≡ None → length xs ≤ i
past_end [] i e = omega arith
past_end (x ∷ xs) zero e = absurd cc
past_end (x ∷ xs) (suc i) e = (let rest = past_end xs i e in omega (arith, rest))

pub as_many : (world : World) (heap : Heap) (kinds : List JType) (args : List Value) → AreValuesOf world heap kinds args → length args ≡ length kinds
as_many world heap [] [] are = refl
as_many world heap [] (value ∷ args) are = absurd are
as_many world heap (kind ∷ kinds) [] are = absurd are
as_many world heap (kind ∷ kinds) (value ∷ args) are = ap suc (as_many world heap kinds args are.1)

all_read : (world : World) (method : MethodId) (input : Input) (read : List SymValue) → IsTypeCorrect world method input → argument_next world method (Begins read) ≡ None → length input.args ≤ length read
all_read world method input read correct none =
    let found : slice_get (argument_types world correct.method) (length read) ≡ None =
    ap (λ (o : Option MethodInfo). option_and_then (λ (i : MethodInfo). slice_get (argument_types world i) (length read)) o) (sym correct.method_is) ∙ none in
    let past : length (argument_types world correct.method) ≤ length read = past_end (argument_types world correct.method) (length read) found in
    let many : length input.args ≡ length (argument_types world correct.method) = as_many world input.heap (argument_types world correct.method) input.args correct.arguments in
    omega (arith, past, many)

module _ (v : SymValue → Value) where
  written_locals : (read : List SymValue) → map (option_map v) (map (λ (value : SymValue). Some value) read) ≡ map (λ (value : Value). Some value) (map v read)
  written_locals [] = refl
  written_locals (value ∷ read) = ap (λ (l : List (Option Value)). Some (v value) ∷ l) (written_locals read)

  other_locals : (n : ℕ) → map (option_map v) (replicate n None) ≡ replicate n None
  other_locals zero = refl
  other_locals (suc n) = ap (λ (l : List (Option Value)). None ∷ l) (other_locals n)

  pub first_ones : (read : List SymValue) (args : List Value) (limit : ℕ) → map v read ≡ args → first_locals args limit ≡ map (option_map v) (begun_locals read limit)
  first_ones read args limit e =
      let many : length args ≡ length read = ap length (sym e) ∙ length-map read v in
      let front : map (λ (value : Value). Some value) args ≡ map (option_map v) (map (λ (value : SymValue). Some value) read) =
      ap (map (λ (value : Value). Some value)) (sym e) ∙ sym (written_locals read) in
      let back : replicate (limit - length args) None ≡ map (option_map v) (replicate (limit - length read) None) =
      ap (λ (n : ℕ). replicate (limit - n) None) many ∙ sym (other_locals (limit - length read)) in
      ap (λ (l : List (Option Value)). l ++ replicate (limit - length args) None) front
      ∙ ap (λ (l : List (Option Value)). map (option_map v) (map (λ (value : SymValue). Some value) read) ++ l) back
      ∙ sym (map-append (option_map v) (map (λ (value : SymValue). Some value) read) (replicate (limit - length read) None))

-- ---- both

module _ (s : Setting) (old : State) (input : Input) (c : Config) (r : Reading) (correct : IsTypeCorrect s.world old.method input) (run : IsOfRun s old input c) where
  pub running : (stage : Stage) → IsStage s.world old stage → StageStandsFor r input stage c → argument_next s.world old.method stage ≡ None → Running s.world old stage r c
  running (Begins read) sound stands none =
      let start : Config = beginning_of s.world old input in
      let at_start : config_at s 0 start ≡ Some c = subst (λ (n : ℕ). config_at s n start ≡ Some c) sound.carried run in
      let same : start ≡ c = cc in
      let whole : take (length read) input.args ≡ input.args = take_all (length read) input.args (all_read s.world old.method input read correct none) in
      record {
        frame = begun_frame s.world old.method read;
        callers = [];
        is = refl;
        sound = begun_is_frame s.world old old.method read sound.values;
        each = no_items (IsFrame s.world old);
        stands = subst (λ (x : Config). FrameStandsFor r (begun_frame s.world old.method read) x.frame) same (record {
          method = refl;
          at = refl;
          locals = first_ones (value_of_sym r) read input.args (max_locals_of s.world old.method) (stands.1 ∙ whole);
          stack = refl;
          transfers = refl;
        });
        waiting = subst (λ (x : Config). FramesStandFor r [] x.callers) same tt;
      }
  running (Runs frame callers) sound stands none = record {
    frame = frame;
    callers = callers;
    is = refl;
    sound = sound.0;
    each = sound.1;
    stands = stands.0;
    waiting = stands.1;
  }
