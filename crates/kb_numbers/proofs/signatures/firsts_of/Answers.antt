use Rattle.std.proofs.Common.{sym, subst}
use Rattle.kb_numbers.specs.Pairs.{AreFirsts}
use Rattle.kb_numbers.proofs.PairLaws.{are_firsts}
use Rattle.kb_numbers.proofs.signatures.firsts_of.Goals as goal

pub returns : goal.returns
returns c = subst (AreFirsts c.args.pairs.now) (sym c.in_ok-firsts.ensures) (are_firsts c.in_ok-table.table c.args.pairs.now c.in_ok-table.ensures)
