-- A place is chosen: what held of the state holds still, where the place is one of the array, and it stands for the configuration
-- for which it stood, where the index has the value of the place.
use Rattle.std.proofs.Common.{◌≡◌, ℕ, List, pos, Some, refl, ap, subst, arith}
use Rattle.kb_class.specs.Naming.{Has}
use Rattle.kb_heap.specs.declared.heap.Input.{Input}
use Rattle.kb_classes.specs.World.{World}
use Rattle.kb_semantics.specs.Config.{Setting, Config}
use Rattle.kb_semantics.specs.Looks.{Slot}
use Rattle.kb_terms.proofs.Values.{Extends-refl}
use Rattle.kb_frames.specs.declared.frame.SymFrame.{SymFrame}
use Rattle.kb_frames.specs.declared.state.Stage.{Stage}
use Rattle.kb_frames.specs.declared.state.Stage.TheVariants.{Begins, Runs}
use Rattle.kb_frames.specs.Arrays.{IsPlaceNext}
use Rattle.kb_frames.specs.Lent.{placed}
use Rattle.kb_frames.specs.StandsFor.{IsIndexNext, IsInstanceOf, StandsFor, reading_at}
use Rattle.kb_frames.specs.State.{State}
use Rattle.kb_frames.specs.States.{IsStage}
use Rattle.kb_ways.proofs.SoundLaws.{Sound, Still, cells_still, frame_still, frames_still, made_still, values_still}

module _ (world : World) (state : State) (place : ℕ) where
  placed_still : Still state (placed place state)
  placed_still = record { terms = Extends-refl state.nodes; objects = refl; locs = refl; made = omega arith }

  placed_stage : (stage : Stage) → IsStage world state stage → IsStage world (placed place state) stage
  placed_stage (Begins read) h = record { values = values_still world state (placed place state) placed_still read h.values; seen = h.seen; carried = h.carried }
  placed_stage (Runs frame callers) h =
      (frame_still world state (placed place state) placed_still frame h.0, frames_still world state (placed place state) placed_still callers h.1)

  pub placed_sound : Sound world state → IsPlaceNext world (placed place state) place → Sound world (placed place state)
  placed_sound sound inside = record {
    typed = sound.typed;
    found = sound.found;
    kinds = sound.kinds;
    conditions = sound.conditions;
    stage = placed_stage state.stage sound.stage;
    cells = cells_still world state (placed place state) placed_still refl sound.cells.seen sound.cells;
    made = made_still world state (placed place state) placed_still state.made sound.made;
    receiver = sound.receiver;
    parameters = sound.parameters;
    keys = sound.keys;
    chosen = inside;
  }

  -- an instance of the one is one of the other
  abbrev pub placed_instance : (input : Input) → IsInstanceOf state input → IsInstanceOf (placed place state) input
  placed_instance input i = record { shape = i.shape; conditions = i.conditions }

  pub instance_placed : (input : Input) → IsInstanceOf (placed place state) input → IsInstanceOf state input
  instance_placed input i = record { shape = i.shape; conditions = i.conditions }

module _ (s : Setting) (state : State) (place : ℕ) (input : Input) (c : Config) (stands : StandsFor s state input c) where
  pub placed_stands : IsIndexNext s.world (reading_at s.world state input stands.instance_of.shape.places) state place → StandsFor s (placed place state) input c
  unfolding reading_at
  placed_stands indexed = record {
    run = stands.run;
    instance_of = placed_instance s.world state place input stands.instance_of;
    stage = stands.stage;
    heap = record { made = stands.heap.made; like = stands.heap.like; cells = stands.heap.cells; kept = stands.heap.kept; others = stands.heap.others };
    written = λ slot inside. (
      (λ has. (let k = (stands.written slot inside).0 has in record { object = k.object; place = k.place; value = k.value; cell = k.cell })),
      (λ k. (stands.written slot inside).1 (record { object = k.object; place = k.place; value = k.value; cell = k.cell })),
    );
    chosen = indexed;
  }
