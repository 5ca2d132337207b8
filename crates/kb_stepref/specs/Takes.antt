-- What a step on references makes of a state when an alternative is taken: the answer of its question is put into the state, and
-- what comes behind it is done; where nothing is asked the instruction is carried out.
use Rattle.std.specs.Option.{option_map_or}
use Rattle.kb_heap.specs.declared.bounds.Bounds.{Bounds}
use Rattle.kb_classes.specs.World.{World}
use Rattle.kb_picture.specs.declared.choice.Choice.{Choice}
use Rattle.kb_picture.specs.declared.choice.Choice.TheVariants.{Only}
use Rattle.kb_frames.specs.State.{State}
use Rattle.kb_ways.specs.Plans.{takes_next}
use Rattle.kb_ways.specs.Questions.{answers}
use Rattle.kb_ways.specs.Ways.{Take}
use Rattle.kb_stepref.specs.Effects.{plan_of}
use Rattle.kb_stepref.specs.Questions.{asked_by, question_of}

-- What taking an alternative makes of a state.
abbrev pub taken : World → Bounds → State → Choice → Take
taken world bounds state choice = option_map_or (answers (asked_by bounds) plan_of world bounds choice state) (question_of world state bounds) (takes_next plan_of world bounds Only state)
