-- What holds of a state that is reached holds of one of which the stage, the picture, the heap and the terms are others that hold
-- together.
use Rattle.std.proofs.Common.{◌≡◌, List}
use Rattle.std.specs.Prelude.{IfSome}
use Rattle.kb_blast.specs.Query.{kinds_of}
use Rattle.kb_classes.specs.World.{World}
use Rattle.kb_terms.specs.declared.node.Node.{Node}
use Rattle.kb_terms.specs.Terms.{Extends}
use Rattle.kb_picture.specs.declared.picture.Picture.{Picture}
use Rattle.kb_picture.specs.Finding.{IsFoundFirst}
use Rattle.kb_picture.specs.Queries.{kinds_seen}
use Rattle.kb_picture.specs.WellTyped.{IsWellTyped}
use Rattle.kb_frames.specs.declared.state.Stage.{Stage}
use Rattle.kb_frames.specs.declared.state.SymObject.{SymObject}
use Rattle.kb_frames.specs.declared.value.Cell.{Cell}
use Rattle.kb_frames.specs.Arrays.{IsPlaceNext}
use Rattle.kb_frames.specs.State.{State}
use Rattle.kb_frames.specs.States.{AreCells, Each, IsMade, IsStage}
use Rattle.kb_ways.specs.Reached.{HasReadReceiver}
use Rattle.kb_ways.proofs.SoundLaws.{Sound, conditions_still}

module _ (world : World) (state : State) (stage : Stage) (picture : Picture) (cells : List (List Cell)) (made : List SymObject) (nodes : List Node) where
  abbrev pub changed : State
  changed = record state { stage = stage; picture = picture; cells = cells; made = made; nodes = nodes }

  pub changed_sound : Sound world state → Extends state.nodes nodes → IsWellTyped world state.method picture → IsFoundFirst picture → kinds_of nodes ≡ kinds_seen world state.method picture → IsStage world changed stage
      → AreCells world changed → Each (IsMade world changed) made → HasReadReceiver world state.method stage picture → IfSome state.chosen (IsPlaceNext world changed) → Sound world changed
  changed_sound sound terms typed found kinds is_stage are_cells are_made receiver placed = record {
    typed = typed;
    found = found;
    kinds = kinds;
    conditions = conditions_still state.nodes nodes state.when terms sound.conditions;
    stage = is_stage;
    cells = are_cells;
    made = are_made;
    receiver = receiver;
    parameters = sound.parameters;
    keys = sound.keys;
    chosen = placed;
  }
