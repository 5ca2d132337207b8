use Rattle.std.proofs.Common.{sym, ◌∙◌}
use Rattle.std.proofs.lemmas.Result.{err_from_is_err_and}
use Rattle.kb_code.proofs.PlacingLaws.{placing_fails, handler_fails, all_is_well}
use Rattle.kb_code.proofs.decoding.listing_of.Goals as goal

pub returns-in_err-placed : goal.returns-in_err-placed
returns-in_err-placed c =
    let p = err_from_is_err_and c.from_residual-in_err-placed.result c.from_residual-in_err-placed.ensures.1 in
    let table = rw c.as_slice.ensures.value at c.in_ok-table.ensures.table in
    let fails = rw c.as_slice-2.ensures.value at c.in_err-placed.ensures in
    rw (p.1, p.2) (placing_fails c.in_err-placed.field-0.0 c.args.code.now c.args.handlers.now c.in_ok-items.items.items c.in_ok-table.table.items c.in_ok-items.ensures.read table fails)

pub returns-in-Some : goal.returns-in-Some
returns-in-Some c =
    let table = rw c.as_slice.ensures.value at c.in_ok-table.ensures.table in
    let each = rw c.as_slice-2.ensures.value at c.in_ok-placed.ensures in
    let told = rw c.as_slice-3.ensures.value at (sym c.in-Some.is ∙ c.handlers_fault.ensures) in
    handler_fails c.in-Some.refusal c.args.code.now c.args.handlers.now c.in_ok-items.items.items c.in_ok-table.table.items c.in_ok-placed.placed.items c.in_ok-items.ensures.read table each told

pub returns : goal.returns
returns c =
    let table = rw c.as_slice.ensures.value at c.in_ok-table.ensures.table in
    let each = rw c.as_slice-2.ensures.value at c.in_ok-placed.ensures in
    let told = rw c.as_slice-3.ensures.value at (sym c.in_default.is ∙ c.handlers_fault.ensures) in
    rw (c.from_vec.ensures) (all_is_well c.args.code.now c.args.handlers.now c.in_ok-items.items.items c.in_ok-table.table.items c.in_ok-placed.placed.items c.in_ok-items.ensures.read table each told)
