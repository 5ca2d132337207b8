use Rattle.std.proofs.Common.{◌≡◌, ap, Result, Err}
use Rattle.kiasan.specs.declared.refusals.Answer.{Answer}
use Rattle.kiasan.specs.declared.refusals.Fault.{Fault}
use Rattle.kiasan.specs.declared.refusals.Fault.TheVariants as faults
use Rattle.kiasan.proofs.TopLaws.{owes_read}
use Rattle.kiasan.proofs.top.kiasan_gated.Goals as goal

abbrev stops_at : Fault → Result Answer Fault
stops_at fault = Err fault

read_stops : (fault : Fault) → fault ≡ faults.Read → stops_at fault ≡ stops_at faults.Read
read_stops fault is = ap stops_at is

pub returns-in-Err-Read : goal.returns-in-Err-Read
returns-in-Err-Read g c =
    let is = read_stops c.in-Err-Read.field-0 c.in-Err-Read.field-0-is in
    owes_read _ _ _ _ _ _ _ _ (c.in-Err-Read.ensures.counted is) (c.in-Err-Read.ensures.unsound is)
