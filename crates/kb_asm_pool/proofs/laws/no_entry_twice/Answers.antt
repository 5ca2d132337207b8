use Rattle.kb_asm_pool.proofs.ItemLaws.{all_distinct}
use Rattle.kb_asm_pool.proofs.laws.no_entry_twice.Goals as goal

pub returns : goal.returns
returns c = all_distinct
