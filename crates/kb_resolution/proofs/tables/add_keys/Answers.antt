use Rattle.std.proofs.Common.{◌≡◌, ◌<◌, ◌++◌, List, length, min, Some, slice_get, refl, ap, ◌∙◌, arith}
use Rattle.std.proofs.lemmas.Option.{slice_get_read, slice_get-get_or}
use Rattle.kb_numbers.specs.declared.pairs.Pair.{Pair}
use Rattle.kb_resolution.specs.declared.tables.SlotKey.{SlotKey}
use Rattle.kb_resolution.proofs.KeyLaws.{keys_next, keys_all}
use Rattle.kb_resolution.proofs.tables.add_keys.Goals as goal

abbrev none : Pair
none = record { name = 0; kind = 0 }

pub loop-place-preserved : goal.loop-place-preserved
loop-place-preserved c =
    let fields = c.args.fields.now in
    let pairs = c.args.pairs.now in
    let place = c.loop-place.place in
    let in_fields : place < length fields = omega (arith, c.loop-place-test.true, c.min-count.ensures) in
    let in_pairs : place < length pairs = omega (arith, c.loop-place-test.true, c.min-count.ensures) in
    let field : slice_get fields place ≡ Some c.index-fields-place.result = slice_get_read fields (length fields) place c.index-fields-place.result refl in_fields c.index-fields-place.is in
    keys_next c.args.class fields pairs place c.index-fields-place.result _ field (slice_get-get_or pairs place none in_pairs) c.args.keys.now.items c.loop-place.keys.items c.add_key.new.keys.items
    c.loop-place.invariant c.in_ok-add_key.ensures

pub returns : goal.returns
returns c =
    let fields = c.args.fields.now in
    let pairs = c.args.pairs.now in
    let all : c.loop-place.place ≡ min (length fields) (length pairs) = omega (arith, c.loop-place-test.false, c.loop-place.auto.place-end, c.min-count.ensures) in
    c.loop-place.invariant ∙ ap (λ (ks : List SlotKey). c.args.keys.now.items ++ ks) (keys_all c.args.class fields pairs c.loop-place.place all)
