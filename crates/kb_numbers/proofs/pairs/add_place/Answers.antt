use Rattle.std.proofs.Common.{sym, ◌∙◌}
use Rattle.kb_numbers.proofs.PairLaws.{first_added, still_there}
use Rattle.kb_numbers.proofs.pairs.add_place.Goals as goal

pub returns-then-contains_key : goal.returns-then-contains_key
returns-then-contains_key c = still_there c.args.table.now c.args.pair c.args.place (sym c.contains_key.ensures ∙ c.if-contains_key.true)

pub returns : goal.returns
returns c = first_added c.args.table.now c.args.pair c.args.place c.insert.new.self c.in_ok-insert.ensures.updates.0 (sym c.contains_key.ensures ∙ c.if-contains_key.false)
