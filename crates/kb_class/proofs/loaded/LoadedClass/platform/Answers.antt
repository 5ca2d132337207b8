use Rattle.std.proofs.Common.{◌≡◌, ℕ, List, Some, slice_get, length, sym, ap, ◌∙◌, arith}
use Rattle.kb_class.specs.Platform.{platform_table}
use Rattle.kb_class.specs.PlatformRows.{row_of}
use Rattle.kb_class.proofs.PlatformLaws.{table_size, row_at, is_platform, platform_indexed}
use Rattle.kb_class.proofs.PoolLaws.{same_some}
use Rattle.kb_class.proofs.loaded.LoadedClass.platform.Goals as goal

pub kind_at-kind-requires : goal.kind_at-kind-requires
kind_at-kind-requires c = (let size : length platform_table ≡ 20 = table_size in omega (arith, size, c.requires))

pub name_at-requires : goal.name_at-requires
name_at-requires c = (let size : length platform_table ≡ 20 = table_size in omega (arith, size, c.requires))

pub invariant_of-result : goal.invariant_of-result
invariant_of-result c =
    let methods = c.in_ok-methods.methods in
    rw (c.access.ensures, c.in_ok-parent.ensures, c.in_ok-interfaces.ensures, c.new.ensures, c.methods-2.view_is, c.new-2.ensures, c.in_ok-kinds.ensures, c.as_slice.ensures)
    (tt, platform_indexed c.in_ok-from_slice.field-0 c.kind_at-kind.result methods)

pub returns : goal.returns
returns c = λ row at.
    let name = c.in_ok-from_slice.field-0 in
    let kind = c.kind_at-kind.result in
    let named = c.name_at.ensures ∙ ap (λ (bytes : List ℕ). Some bytes) (sym c.in_ok-from_slice.ensures) in
    let there : slice_get platform_table c.args.place ≡ Some (row_of name kind) = row_at c.args.place name kind named c.kind_at-kind.ensures in
    let same : row ≡ row_of name kind = same_some (slice_get platform_table c.args.place) row (row_of name kind) at there in
    rw (same, c.access.ensures, c.in_ok-parent.ensures, c.in_ok-interfaces.ensures, c.new.ensures, c.methods-2.view_is)
    (is_platform name kind c.in_ok-methods.methods c.args.id.0 c.in_ok-methods.ensures)
