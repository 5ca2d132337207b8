-- Where two readings give the same value to each symbolic value that names what is there, what stands for a configuration by
-- one of them does so by the other.
use Rattle.std.proofs.Common.{◌≡◌, List, [], ◌∷◌, map, Option, Some, None, refl, sym, ap, ◌∙◌}
use Rattle.std.specs.Option.{option_map}
use Rattle.kb_heap.specs.declared.heap.Input.{Input}
use Rattle.kb_heap.specs.declared.heap.Object.{Object}
use Rattle.kb_heap.specs.declared.heap.Value.{Value}
use Rattle.kb_classes.specs.World.{World}
use Rattle.kb_semantics.specs.Config.{Config, Frame}
use Rattle.kb_picture.specs.Endings.{Reading}
use Rattle.kb_frames.specs.declared.frame.SymFrame.{SymFrame}
use Rattle.kb_frames.specs.declared.state.Stage.{Stage}
use Rattle.kb_frames.specs.declared.state.Stage.TheVariants.{Begins, Runs}
use Rattle.kb_frames.specs.declared.state.SymObject.{SymObject}
use Rattle.kb_frames.specs.declared.value.Cell.{Cell}
use Rattle.kb_frames.specs.declared.value.Cell.TheVariants.{Untouched, Read, Written}
use Rattle.kb_frames.specs.declared.value.SymValue.{SymValue}
use Rattle.kb_frames.specs.StandsFor.{FrameStandsFor, FramesStandFor, StageStandsFor, made_at, present_value, value_of_sym, values_of_sym}
use Rattle.kb_frames.specs.State.{State}
use Rattle.kb_frames.specs.States.{Each, IsCell, IsFrame, IsLocal, IsMade, IsStage, IsSymValue}
use Rattle.kb_frames.proofs.ItemLaws.{each_rest}

-- the values of a state that name what is there have the same value by both
abbrev pub AreAlike : World → State → Reading → Reading → Type 0
AreAlike world state r later = (value : SymValue) → IsSymValue world state value → value_of_sym later value ≡ value_of_sym r value

module _ (world : World) (state : State) (r later : Reading) (alike : AreAlike world state r later) where
  pub values_alike : (values : List SymValue) → Each (IsSymValue world state) values → values_of_sym later values ≡ values_of_sym r values
  values_alike [] each = refl
  values_alike (v ∷ vs) each =
      ap (λ (x : Value). x ∷ values_of_sym later vs) (alike v (each 0 v refl))
      ∙ ap (λ (l : List Value). value_of_sym r v ∷ l) (values_alike vs (each_rest (IsSymValue world state) v vs each))

  local_alike : (local : Option SymValue) → IsLocal world state local → option_map (value_of_sym later) local ≡ option_map (value_of_sym r) local
  local_alike None h = refl
  local_alike (Some value) h = ap Some (alike value h)

  pub locals_alike : (locals : List (Option SymValue)) → Each (IsLocal world state) locals → map (option_map (value_of_sym later)) locals ≡ map (option_map (value_of_sym r)) locals
  locals_alike [] each = refl
  locals_alike (l ∷ ls) each =
      ap (λ (x : Option Value). x ∷ map (option_map (value_of_sym later)) ls) (local_alike l (each 0 l refl))
      ∙ ap (λ (xs : List (Option Value)). option_map (value_of_sym r) l ∷ xs) (locals_alike ls (each_rest (IsLocal world state) l ls each))

  pub frame_alike : (symbolic : SymFrame) (frame : Frame) → IsFrame world state symbolic → FrameStandsFor r symbolic frame → FrameStandsFor later symbolic frame
  frame_alike symbolic frame sound stands = record {
    method = stands.method;
    at = stands.at;
    locals = stands.locals ∙ sym (locals_alike symbolic.locals sound.locals);
    stack = stands.stack ∙ sym (values_alike symbolic.stack sound.stack);
    transfers = stands.transfers;
  }

  pub frames_alike : (symbolic : List SymFrame) (frames : List Frame) → Each (IsFrame world state) symbolic → FramesStandFor r symbolic frames → FramesStandFor later symbolic frames
  frames_alike [] [] each stand = tt
  frames_alike [] (frame ∷ frames) each stand = absurd stand
  frames_alike (symbolic ∷ others) [] each stand = absurd stand
  frames_alike (symbolic ∷ others) (frame ∷ frames) each stand =
      (frame_alike symbolic frame (each 0 symbolic refl) stand.0, frames_alike others frames (each_rest (IsFrame world state) symbolic others each) stand.1)

  pub stage_alike : (input : Input) (c : Config) (stage : Stage) → IsStage world state stage → StageStandsFor r input stage c → StageStandsFor later input stage c
  stage_alike input c (Begins read) sound stands = (stands.0, values_alike read sound.values ∙ stands.1)
  stage_alike input c (Runs frame callers) sound stands = (frame_alike frame c.frame sound.0 stands.0, frames_alike callers c.callers sound.1 stands.1)

  object_alike : (made : SymObject) → IsMade world state made → made_at later made ≡ made_at r made
  object_alike made h = ap (λ (vs : List Value). record { kind = made.kind; values = vs }) (values_alike made.values h.values)

  pub objects_alike : (made : List SymObject) → Each (IsMade world state) made → map (made_at later) made ≡ map (made_at r) made
  objects_alike [] each = refl
  objects_alike (m ∷ ms) each =
      ap (λ (x : Object). x ∷ map (made_at later) ms) (object_alike m (each 0 m refl))
      ∙ ap (λ (xs : List Object). made_at r m ∷ xs) (objects_alike ms (each_rest (IsMade world state) m ms each))

  pub cell_alike : (first : Option Value) (cell : Cell) → IsCell world state cell → present_value later first cell ≡ present_value r first cell
  cell_alike first Untouched h = refl
  cell_alike first (Read value) h = ap Some (alike value h)
  cell_alike first (Written value) h = ap Some (alike value h)
