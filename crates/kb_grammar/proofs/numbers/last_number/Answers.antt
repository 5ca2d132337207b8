use Rattle.std.proofs.Common.{ℕ, ◌<◌, ◌^◌}
use Rattle.std.specs.Fmt.{decimal}
use Rattle.kb_grammar.proofs.ReadLaws.{behind_read}
use Rattle.kb_grammar.proofs.numbers.last_number.Goals as goal

pub returns : goal.returns
returns c =
    behind_read (λ (n : ℕ). n < 2 ^ 32) decimal c.args.front.now c.in_ok-behind.field-0.now c.args.text.now c.read_number.result c.in_ok-behind.ensures c.read_number.ensures
