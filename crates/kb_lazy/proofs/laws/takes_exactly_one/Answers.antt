use Rattle.kb_lazy.proofs.TakesLaws.{one_taken}
use Rattle.kb_lazy.proofs.laws.takes_exactly_one.Goals as goal

pub returns : goal.returns
returns c = λ init world id picture slot type receiver k array input linked first inside correct shape.
    one_taken world id picture slot type receiver k array input linked first inside correct shape init
