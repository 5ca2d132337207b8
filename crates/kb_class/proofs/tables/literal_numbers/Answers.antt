use Rattle.std.proofs.Common.{◌≡◌, List, ℕ, ◌+◌, ◌++◌, ap, subst, ◌∙◌, sym, take, filter_map, option_to_list}
use Rattle.kb_classfile.specs.declared.file.PoolEntry.{PoolEntry}
use Rattle.kb_class.specs.Tables.{literal_index_of}
use Rattle.kb_class.proofs.Lists.{filter_next}
use Rattle.kb_class.proofs.tables.literal_numbers.Goals as goal

pub loop-entry-preserved : goal.loop-entry-preserved
loop-entry-preserved c =
    let index_of = literal_index_of c.args.file.now.pool in
    let one = option_to_list (index_of c.entry-item.result) in
    let i = c.loop-entry.entry-index in
    let next =
    subst (λ (pool : List PoolEntry). filter_map index_of (take (i + 1) pool) ≡ filter_map index_of (take i pool) ++ one) c.as_slice-entry-items.ensures
    (filter_next index_of c.as_slice-entry-items.result.now i c.entry-item.result c.loop-entry-test.true c.entry-item.is) in
    c.in_ok-add_literal.ensures ∙ ap (λ (ns : List ℕ). ns ++ one) c.loop-entry.invariant ∙ sym next
