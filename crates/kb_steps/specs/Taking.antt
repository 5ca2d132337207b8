-- The alternatives of the next step of a state, and what a take makes of it: a step of ints or one on references, by the word that
-- tells which kind is next.
use Rattle.std.specs.Prelude.{List, if◌then◌else◌}
use Rattle.kb_heap.specs.declared.bounds.Bounds.{Bounds}
use Rattle.kb_classes.specs.World.{World}
use Rattle.kb_picture.specs.declared.choice.Choice.{Choice}
use Rattle.kb_frames.specs.Next.{next_is_int}
use Rattle.kb_frames.specs.State.{State}
use Rattle.kb_stepint.specs.Choices.{choices_of as int_choices}
use Rattle.kb_stepint.specs.Takes.{taken as int_taken}
use Rattle.kb_ways.specs.Ways.{Take}
use Rattle.kb_stepref.specs.Choices.{choices_of as reference_choices}
use Rattle.kb_stepref.specs.Takes.{taken as reference_taken}

-- the alternatives of a state, in order
abbrev pub choices_at : World → Bounds → State → List Choice
choices_at world bounds state = if next_is_int world state then int_choices world state bounds else reference_choices world state bounds

-- the state behind an alternative, and what became of it
abbrev pub taken_at : World → Bounds → State → Choice → Take
taken_at world bounds state choice = if next_is_int world state then int_taken world bounds state choice else reference_taken world bounds state choice
