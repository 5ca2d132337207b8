use Rattle.std.proofs.Common.{List, ap, subst, ◌∙◌}
use Rattle.kb_resolution.specs.Tables.{IsSlotTable, keys_along}
use Rattle.kb_resolution.specs.declared.tables.SlotKey.{SlotKey}
use Rattle.kb_resolution.proofs.tables.slot_table.Goals as goal

pub returns : goal.returns
returns c =
    subst (λ (ks : List SlotKey). IsSlotTable c.args.class.0 ks c.in_ok-table.table)
    (c.as_slice.ensures.value ∙ c.in_ok-keys.ensures ∙ ap (keys_along c.args.linked.now.classes c.args.numbers.now.classes.items) c.chain_of.ensures) c.in_ok-table.ensures
