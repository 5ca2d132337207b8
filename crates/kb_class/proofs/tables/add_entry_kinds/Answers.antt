use Rattle.std.proofs.Common.{List, ℕ, ◌++◌, ap, ◌∙◌, sym, append_assoc, option_to_list, filter_map, take}
use Rattle.kb_class.specs.Tables.{kind_index_of}
use Rattle.kb_class.proofs.Lists.{filter_next}
use Rattle.kb_class.proofs.tables.add_entry_kinds.Goals as goal

pub loop-entry-preserved : goal.loop-entry-preserved
loop-entry-preserved c =
    let before = filter_map kind_index_of (take c.loop-entry.entry-index c.args.pool.now) in
    let one = option_to_list (kind_index_of c.entry-item.result) in
    c.in_ok-add_kind.ensures ∙ ap (λ (ns : List ℕ). ns ++ one) c.loop-entry.invariant ∙ append_assoc c.args.numbers.now before one
    ∙ ap (λ (ns : List ℕ). c.args.numbers.now ++ ns) (sym (filter_next kind_index_of c.args.pool.now c.loop-entry.entry-index c.entry-item.result c.loop-entry-test.true c.entry-item.is))
