-- What surrounds one step, and what its functions tell.
use Rattle.std.specs.Prelude.{ℕ}
use Rattle.kb_code.specs.declared.instruction.Instr.{Instr}
use Rattle.kb_frames.specs.declared.value.Outcome.{Outcome}
use Rattle.kb_frames.specs.State.{State}
use Rattle.kb_ways.specs.declared.exception.Thrown.{Thrown as LentThrown}
use Rattle.kb_ways.specs.declared.exception.Thrown.TheVariants as lents
use Rattle.kb_ways.specs.declared.turn.Turn.{Turn}
use Rattle.kb_ways.specs.Plans.{Planned, followed}
use Rattle.kb_ways.specs.Ways.{OfClass, OfPicture, OfRun, Take, There, Thrown, Way, went}

-- a state that was left, with its outcome
abbrev pub told : State → Outcome → Take
told state outcome = record { state = state; outcome = outcome }

-- the instruction of a turn, and the offset behind it
abbrev pub found_of : Turn → Instr × ℕ
found_of turn = (turn.instr.now, turn.next)

-- where a way leads from a state, and where a plan does
abbrev pub led : Turn → State → Way → Take
led turn state way = went turn.world.now turn.bounds turn.next state way

abbrev pub led_by : Turn → Planned → Take
led_by turn plan = followed turn.world.now turn.bounds turn.next plan

-- what is thrown, as it is lent
abbrev pub thrown_now : LentThrown → Thrown
thrown_now (lents.Class class) = OfClass class.now
thrown_now (lents.Obj number kind) = There (OfPicture number) kind.now
thrown_now (lents.New number kind) = There (OfRun number) kind.now
