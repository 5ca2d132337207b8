-- What an int step makes of a state when an alternative is taken: an argument is read, or the alternative's conditions are
-- added and the instruction is carried out. Each argument that is read is a choice of its own, so that the instruction comes
-- behind an Asks.
use Rattle.std.specs.Prelude.{Some}
use Rattle.std.specs.Option.{option_map_or}
use Rattle.kb_names.specs.declared.types.JType.{JType}
use Rattle.kb_heap.specs.declared.bounds.Bounds.{Bounds}
use Rattle.kb_classes.specs.World.{World}
use Rattle.kb_picture.specs.declared.choice.Choice.{Choice}
use Rattle.kb_picture.specs.declared.picture.Origin.TheVariants.{Arg}
use Rattle.kb_picture.specs.Queries.{kind_for}
use Rattle.kb_frames.specs.declared.value.Outcome.TheVariants.{Asks}
use Rattle.kb_frames.specs.State.{State}
use Rattle.kb_frames.specs.FirstReads.{first_int}
use Rattle.kb_frames.specs.Lent.{read_count}
use Rattle.kb_frames.specs.Next.{argument_next}
use Rattle.kb_ways.specs.Plans.{takes_next}
use Rattle.kb_ways.specs.Ways.{Take}
use Rattle.kb_stepint.specs.Effects.{plan_of}

-- the next argument is read: a new variable
abbrev pub reads_argument : State → JType → Take
reads_argument state type = record { state = first_int (Arg (read_count state.stage)) (kind_for (Some type)) state; outcome = Asks }

-- What taking an alternative makes of a state.
abbrev pub taken : World → Bounds → State → Choice → Take
taken world bounds state choice =
    option_map_or (reads_argument state) (argument_next world state.method state.stage) (takes_next plan_of world bounds choice state)
