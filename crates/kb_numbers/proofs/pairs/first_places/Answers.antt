use Rattle.std.proofs.lemmas.Option.{slice_get-get_or}
use Rattle.kb_numbers.specs.declared.pairs.Pair.{Pair}
use Rattle.kb_numbers.specs.Pairs.{place_told}
use Rattle.kb_numbers.proofs.PairLaws.{first_next}
use Rattle.kb_numbers.proofs.pairs.first_places.Goals as goal

abbrev none : Pair
none = record { name = 0; kind = 0 }

pub loop-place-preserved : goal.loop-place-preserved
loop-place-preserved c =
    first_next (place_told c.loop-place.table) (place_told c.add_place.new.table) c.args.pairs.now c.loop-place.place _ c.loop-place-test.true
    (slice_get-get_or c.args.pairs.now c.loop-place.place none c.loop-place-test.true) c.loop-place.invariant c.in_ok-add_place.ensures
