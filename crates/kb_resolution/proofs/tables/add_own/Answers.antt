use Rattle.std.proofs.Common.{ap, ◌∙◌}
use Rattle.std.specs.Option.{option_or}
use Rattle.std.proofs.lemmas.Result.{on_ok_weaker}
use Rattle.kb_numbers.specs.Pairs.{is_pair, place_told}
use Rattle.kb_resolution.proofs.KeyLaws.{other_class, own_class}
use Rattle.kb_resolution.proofs.tables.add_own.Goals as goal

pub returns-then-key-class : goal.returns-then-key-class
returns-then-key-class c = λ pair. other_class c.args.class c.args.key.class (is_pair c.args.key.pair pair) (place_told c.args.table.now pair) c.args.place c.if-key-class.true

pub returns : goal.returns
returns c =
    on_ok_weaker c.add_place.result
    (λ added pair. added pair ∙ ap (option_or (place_told c.args.table.now pair)) (own_class c.args.class c.args.key.class (is_pair c.args.key.pair pair) c.args.place c.if-key-class.false)) c.add_place.ensures
