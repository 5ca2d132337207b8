-- An int step of a state from which steps lead on leaves one.
use Rattle.std.proofs.Common.{◌≡◌, true, Option, Some, None, sym, subst, ◌∙◌}
use Rattle.std.specs.Option.{option_map_or}
use Rattle.kb_heap.specs.declared.bounds.Bounds.{Bounds}
use Rattle.kb_classes.specs.World.{World}
use Rattle.kb_names.specs.declared.types.JType.{JType}
use Rattle.kb_terms.specs.Terms.{IsPool}
use Rattle.kb_picture.specs.declared.choice.Choice.{Choice}
use Rattle.kb_picture.specs.declared.picture.Origin.TheVariants.{Arg}
use Rattle.kb_frames.specs.Lent.{read_count}
use Rattle.kb_frames.specs.Next.{argument_next, next_is_int}
use Rattle.kb_frames.specs.State.{State}
use Rattle.kb_stepint.specs.Laws.{IsAtInts}
use Rattle.kb_ways.specs.Simulation.{Keeps}
use Rattle.kb_stepint.specs.Takes.{taken as int_taken, reads_argument}
use Rattle.kb_stepint.proofs.KeepLaws.{kept as int_kept, takes_next_stays}
use Rattle.kb_stepint.proofs.ReachedLaws.{is_reached as int_is_reached}
use Rattle.kb_drive.specs.HeapMethods.{is_heap_method}
use Rattle.kb_drive.specs.Reached.{IsHeapReached}
use Rattle.kb_stepref.proofs.ReachedLaws.{IsPlain, int_plain}
use Rattle.kb_ways.specs.Plans.{takes_next}
use Rattle.kb_stepint.specs.Effects.{plan_of}
use Rattle.kb_drive.proofs.HeapLaws.{at_ints}
use Rattle.kb_ways.specs.Reached.{IsAlone}
use Rattle.kb_drive.proofs.AloneTakes.{ints_alone}

pub ints_keep : (world : World) (bounds : Bounds) (state : State) (choice : Choice) → IsHeapReached world state → next_is_int world state ≡ true
    → IsPool (int_taken world bounds state choice).state.nodes → IsHeapReached world (int_taken world bounds state choice).state
ints_keep world bounds state choice h ints pool = record {
  reached = int_is_reached world bounds choice state at pool;
  alone = alone;
  linked = h.linked;
  method = subst (λ m. is_heap_method world m ≡ true) (sym keeps.method) h.method;
  lazy = keeps.init ∙ h.lazy;
  known = plain.0;
  within = plain.1;
  bounded = plain.2;
} where
  at : IsAtInts world state
  at = at_ints world state h ints

  alone : IsAlone (int_taken world bounds state choice).state.method (int_taken world bounds state choice).state.stage
  alone = ints_alone world bounds state choice at h.alone

  keeps : Keeps state (int_taken world bounds state choice).state
  keeps = int_kept world bounds state choice

  plain : IsPlain (int_taken world bounds state choice).state.picture
  plain = go (argument_next world state.method state.stage) where
    go : (type : Option JType) → IsPlain (option_map_or (reads_argument state) type (takes_next plan_of world bounds choice state)).state.picture
    go None = subst IsPlain (sym (takes_next_stays world bounds choice state).picture) (h.known, h.within, h.bounded)
    go (Some type) = int_plain state.picture (Arg (read_count state.stage)) (h.known, h.within, h.bounded)
