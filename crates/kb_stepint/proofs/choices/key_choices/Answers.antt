use Rattle.std.proofs.Common.{◌≡◌, ◌<◌, ℤ, ℕ, Bool, List, length, filter, not, arith}
use Rattle.kb_picture.specs.declared.choice.Choice.{Choice}
use Rattle.kb_ways.specs.Asked.{is_refuted}
use Rattle.kb_stepint.specs.Choices.{key_conditions, keys_from}
use Rattle.kb_stepint.specs.Keys.{keys_of}
use Rattle.kb_stepint.proofs.ChoiceLaws.{all_offered, key_offered}
use Rattle.kb_stepint.proofs.choices.key_choices.Goals as goal

pub loop-place-preserved : goal.loop-place-preserved
loop-place-preserved c =
    let keys : List (ℤ × ℕ) = keys_of c.args.keys.now in
    let p : Choice → Bool = λ choice. not (is_refuted c.args.state.now (key_conditions c.args.x keys choice)) in
    let inside : c.loop-place.place < length keys = omega (arith, c.loop-place-test.true, c.len-place-end.ensures) in
    key_offered p keys c.loop-place.place c.loop-place.choices.items c.offer_key.new.choices.items (filter p (keys_from 0 keys)) inside c.in_ok-offer_key.ensures c.loop-place.invariant

pub returns : goal.returns
returns c =
    let keys : List (ℤ × ℕ) = keys_of c.args.keys.now in
    let p : Choice → Bool = λ choice. not (is_refuted c.args.state.now (key_conditions c.args.x keys choice)) in
    let end : c.loop-place.place ≡ length keys = omega (arith, c.loop-place-test.false, c.loop-place.auto.place-end, c.len-place-end.ensures) in
    all_offered p keys c.loop-place.place c.loop-place.choices.items c.offer_default.new.choices.items (filter p (keys_from 0 keys)) end c.in_ok-offer_default.ensures c.loop-place.invariant
