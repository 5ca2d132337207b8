use Rattle.std.proofs.Common.{◌≡◌, List, map, subst, ◌∙◌}
use Rattle.kb_classfile.specs.declared.file.PoolEntry.{PoolEntry}
use Rattle.kb_numbers.specs.Pools.{IsTextRow, method_pair, field_pair, entry_numbers}
use Rattle.kb_numbers.proofs.PoolLaws.{file_numbered}
use Rattle.kb_numbers.proofs.pool.given_numbers.Goals as goal

pub returns-clause-numbers : goal.returns-clause-numbers
returns-clause-numbers c = λ class of.
    let file = c.args.file.now in
    let row = c.in_ok-row.row.items in
    let texts = c.text_row.new.texts in
    let is : IsTextRow texts file.pool row = subst (λ (ps : List PoolEntry). IsTextRow texts ps row) c.as_slice.ensures c.in_ok-row.ensures.row in
    let methods : c.in_ok-methods.methods.items ≡ map (method_pair row) file.methods = c.in_ok-methods.ensures ∙ (λ i. map (method_pair (c.as_slice-2.ensures.value i)) (c.as_slice-3.ensures i)) in
    let fields : c.in_ok-fields.fields.items ≡ map (field_pair row) file.fields = c.in_ok-fields.ensures ∙ (λ i. map (field_pair (c.as_slice-4.ensures.value i)) (c.as_slice-5.ensures i)) in
    let told : c.in_ok-entries.entries.items ≡ map (entry_numbers file.pool row) file.pool =
    c.in_ok-entries.ensures ∙ (λ i. map (entry_numbers (c.as_slice-7.ensures i) (c.as_slice-6.ensures.value i)) (c.as_slice-7.ensures i)) in
    file_numbered texts class file row c.args.first c.in_ok-own.own of is
    (c.in_ok-own.ensures ∙ (λ i. record { first = c.args.first; methods = methods i; fields = fields i; entries = told i }))
