use Rattle.std.proofs.Common.{◌∷◌, [], ◌++◌, List, ℕ, map, take, add-one, sym, ap, ◌∙◌}
use Rattle.kb_classfile.specs.declared.file.PoolEntry.{PoolEntry}
use Rattle.kb_classfile.specs.declared.file.PoolEntry.TheVariants as entries
use Rattle.kb_asm_pool.specs.Entries.{entry_of}
use Rattle.kb_asm_pool.proofs.ItemLaws.{one_more}
use Rattle.kb_asm_pool.proofs.items.Items.entries.Goals as goal

pub loop-place-preserved : goal.loop-place-preserved
loop-place-preserved c =
    let says = c.args.self.now.says in
    let place = c.loop-place.place in
    let entry = c.in_ok-entry_at.field-0 in
    c.in_ok-push-2.ensures.ok
    ∙ ap (λ (l : List PoolEntry). l ++ entry ∷ []) c.loop-place.invariant
    ∙ ap (λ (l : List PoolEntry). entries.Skipped ∷ l) (sym (one_more (entry_of says) says place entry c.in_ok-entry_at.ensures))
    ∙ ap (λ (n : ℕ). entries.Skipped ∷ map (entry_of says) (take n says)) (sym (add-one place))
