use Rattle.std.proofs.Common.{◌≡◌, ℕ, List, Option, IfOk, subst}
use mathlib.Core.Path.{fun_ext}
use Rattle.kb_asm_body.specs.Layout.{label_of, offset_at}
use Rattle.kb_asm_body.specs.Faults.{fault_from}
use Rattle.kb_asm_body.proofs.faults.body_fault.Goals as goal

pub returns-clause-fault : goal.returns-clause-fault
returns-clause-fault c =
    let body = c.args.body.now in
    let same : offset_at c.in_ok-layout.layout.labels ≡ label_of body = fun_ext c.in_ok-layout.ensures.labels in
    subst (λ (labels : List ℕ → Option ℕ). IfOk c.first_fault.result (λ fault. fault ≡ fault_from labels c.args.is_whole 0 0 body)) same c.first_fault.ensures.fault
