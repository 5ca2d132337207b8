use Rattle.std.proofs.Common.{arith}
use Rattle.std.specs.Prelude.{string_bytes}
use Rattle.kb_words.proofs.OrderLaws.{no_words}
use Rattle.kb_words.proofs.orders.read_words.Goals as goal

pub returns-in_default-clause-order : goal.returns-in_default-clause-order
returns-in_default-clause-order c = no_words string_bytes c.args.words.now (omega (arith, c.in_default.len_below))
