use Rattle.std.proofs.Common.{◌∙◌, ap, get_or, set}
use Rattle.std.proofs.lemmas.List.Edits.{map_over_more}
use Rattle.kb_propagate.specs.Forgetting.{only_awake}
use Rattle.kb_propagate.proofs.watches.Watches.purge.Goals as goal

pub loop-list-preserved : goal.loop-list-preserved
loop-list-preserved c =
    let now = c.loop-list.list-items in
    let i = c.loop-list.list-index in
    ap (set now i) c.keep_awake.ensures
    ∙ map_over_more (only_awake c.args.clauses.now) c.deref_mut-list-items.result.now now i (get_or now i c.list-item.result) c.loop-list-test.true c.loop-list.invariant
    (ap (get_or now i) c.list-item.is)
