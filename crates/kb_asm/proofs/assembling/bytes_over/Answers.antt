use Rattle.std.proofs.Common.{◌≡◌, true, List, sym, subst, ◌∙◌, flat_map}
use Rattle.kb_asm_pool.specs.Says.{Says}
use Rattle.kb_asm_check.specs.Limits.{ldc_says}
use Rattle.kb_asm.specs.Needs.{have_all, IsWhole, AreFirst}
use Rattle.kb_asm.specs.Working.{IsFileOf}
use Rattle.kb_asm.proofs.PoolLaws.{has_needs}
use Rattle.kb_asm.proofs.KeptLaws.{is_whole, are_first}
use Rattle.kb_asm.proofs.assembling.bytes_over.Goals as goal

pub file_of-requires-clause-whole : goal.file_of-requires-clause-whole
file_of-requires-clause-whole c = subst IsWhole (sym c.in_ok-fill_pool.ensures) (is_whole c.args.lines.now c.requires.text.1.sound)

pub file_of-requires-clause-there : goal.file_of-requires-clause-there
file_of-requires-clause-there c = subst (λ (s : List Says). have_all s c.args.lines.now ≡ true) (sym c.in_ok-fill_pool.ensures) (has_needs c.args.lines.now)

pub file_of-requires-clause-first : goal.file_of-requires-clause-first
file_of-requires-clause-first c =
    let lines = c.args.lines.now in
    subst (λ (s : List Says). AreFirst s (flat_map ldc_says lines)) (sym c.in_ok-fill_pool.ensures) (are_first lines c.requires.text.1.sound)

pub written-requires-clause-whole : goal.written-requires-clause-whole
written-requires-clause-whole c = subst IsWhole (sym (c.in_ok-file.ensures.same ∙ c.in_ok-fill_pool.ensures)) (is_whole c.args.lines.now c.requires.text.1.sound)

pub written-requires-clause-whose : goal.written-requires-clause-whose
written-requires-clause-whose c = subst (λ (s : List Says). IsFileOf s c.args.lines.now c.in_ok-file.file) (sym c.in_ok-file.ensures.same) c.in_ok-file.ensures.file
