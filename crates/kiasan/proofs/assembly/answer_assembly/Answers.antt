use Rattle.std.proofs.Common.{ℕ, Vec, Global, rules}
use Rattle.std.proofs.lemmas.Result.{err_from_is_err_and}
use Rattle.kb_asm.specs.Class.{IsAssembled}
use Rattle.kiasan.proofs.OneAssembly.{assembly_stops}
use Rattle.kiasan.proofs.assembly.answer_assembly.Goals as goal

pub returns-in_err-text : goal.returns-in_err-text
returns-in_err-text c =
    let p = err_from_is_err_and c.from_residual.result c.from_residual.ensures.1 in
    rw (p.1, p.2) (assembly_stops c.args.bytes.now (λ (bytes : Vec ℕ Global). IsAssembled c.args.bytes.now bytes.items) c.in_err-text.field-0.0 (search rules) c.in_err-text.ensures)
