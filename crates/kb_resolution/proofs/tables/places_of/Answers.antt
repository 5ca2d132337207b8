use Rattle.std.proofs.lemmas.Option.{slice_get-get_or}
use Rattle.kb_numbers.specs.Pairs.{place_told}
use Rattle.kb_resolution.specs.declared.tables.SlotKey.{SlotKey}
use Rattle.kb_resolution.proofs.KeyLaws.{key_next}
use Rattle.kb_resolution.proofs.tables.places_of.Goals as goal

abbrev none : SlotKey
none = record { class = 0; pair = record { name = 0; kind = 0 } }

pub loop-place-preserved : goal.loop-place-preserved
loop-place-preserved c =
    key_next c.args.class (place_told c.loop-place.table) (place_told c.add_own.new.table) c.args.keys.now c.loop-place.place _ c.loop-place-test.true
    (slice_get-get_or c.args.keys.now c.loop-place.place none c.loop-place-test.true) c.loop-place.invariant c.in_ok-add_own.ensures
