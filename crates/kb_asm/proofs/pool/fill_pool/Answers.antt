use Rattle.std.proofs.Common.{◌≡◌, [], List, flat_map, ap, ◌∙◌}
use Rattle.kb_asm_pool.specs.Says.{Says, all_added}
use Rattle.kb_asm_pool.specs.Needs.{line_needs}
use Rattle.kb_asm_check.specs.Limits.{ldc_says}
use Rattle.kb_asm.proofs.CodeLaws.{on_ok}
use Rattle.kb_asm.proofs.pool.fill_pool.Goals as goal

pub returns : goal.returns
returns c =
    let lines = c.args.lines.now in
    let first : c.add_constants.new.pool.says ≡ all_added [] (flat_map ldc_says lines) =
    c.in_ok-add_constants.ensures ∙ ap (λ (l : List Says). all_added l (flat_map ldc_says lines)) c.requires in
    on_ok c.add_all_needs.result (λ (grown : c.add_all_needs.new.pool.says ≡ all_added c.add_constants.new.pool.says (flat_map line_needs lines)).
    grown ∙ ap (λ (l : List Says). all_added l (flat_map line_needs lines)) first) c.add_all_needs.ensures
