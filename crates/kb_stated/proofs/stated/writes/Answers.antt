use Rattle.std.proofs.Common.{◌≡◌, ◌+◌, ◌∙◌, rules}
use Rattle.std.specs.Option.{option_copied}
use Rattle.kb_stated.proofs.StatedLaws.{next_object}
use Rattle.kb_stated.proofs.stated.writes.Goals as goal

pub loop-rest-preserved : goal.loop-rest-preserved
loop-rest-preserved c =
    let more : c.in_ok-number.number ≡ c.loop-rest.number + 1 = search rules in
    next_object c.args.state.now.picture.locs c.as_slice-objects.result.now c.loop-rest.number c.in_ok-number.number c.loop-rest.writes c.add_object.new.writes
    (option_copied c.object_at-object.result) c.as_slice.result.now c.slots-item.result c.loop-rest.rest.now
    c.object_at-object.ensures c.as_slice.ensures c.in-len1-up.len_at_least c.slots-item.is more c.in_ok-add_object.ensures
    ∙ c.loop-rest.invariant
