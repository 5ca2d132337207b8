use Rattle.std.proofs.Common.{◌≡◌, List, take, subst}
use Rattle.std.proofs.lemmas.List.{take_all}
use Rattle.std.proofs.lemmas.Option.{slice_get-get_or}
use Rattle.std.specs.List.{AllZip}
use Rattle.kb_classes.specs.declared.methods.MethodPlace.{MethodPlace}
use Rattle.kb_classes.proofs.Placings.{IsTableAt, whole_there, placing_pushed, are_placings}
use Rattle.kb_classes.proofs.placing.placings_of.Goals as goal

abbrev none : MethodPlace
none = record { class = 0; place = 0 }

pub placing_at-requires : goal.placing_at-requires
placing_at-requires c =
    whole_there c.args.classes.now c.args.places.now c.loop-place.place-index _ c.requires.0 c.requires.1 (slice_get-get_or c.args.places.now c.loop-place.place-index none c.loop-place-test.true)

pub loop-place-preserved : goal.loop-place-preserved
loop-place-preserved c =
    placing_pushed c.args.classes.now c.args.places.now c.loop-place.place-index _ c.loop-place.tables.items c.push.new.self.items c.in_ok-table.table
    (slice_get-get_or c.args.places.now c.loop-place.place-index none c.loop-place-test.true) c.loop-place.invariant c.in_ok-table.ensures c.in_ok-push.ensures.items

pub returns : goal.returns
returns c =
    let all : take c.loop-place.place-index c.args.places.now ≡ c.args.places.now = take_all c.loop-place.place-index c.args.places.now c.loop-place-test.false in
    are_placings c.args.classes.now c.args.places.now c.loop-place.tables.items c.requires.0
    (subst (λ (ps : List MethodPlace). AllZip (IsTableAt c.args.classes.now) ps c.loop-place.tables.items) all c.loop-place.invariant)
