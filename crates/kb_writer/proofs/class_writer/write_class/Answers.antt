use Rattle.std.proofs.Common.{ℕ, List, ◌++◌, ◌≡◌, ◌∙◌, ap, sym, subst}
use Rattle.kb_classfile.specs.Spelling.{Spells}
use Rattle.kb_writer.specs.Files.{class_bytes}
use Rattle.kb_writer.proofs.FileLaws.{file_spells}
use Rattle.kb_writer.proofs.class_writer.write_class.Goals as goal

pub returns-clause-spelled : goal.returns-clause-spelled
returns-clause-spelled c =
    let name = c.args.code_name in
    let file = c.args.file.now in
    let is : c.push_class.new.into.items ≡ class_bytes name file = c.in_ok-push_class.ensures.bytes ∙ ap (λ (l : List ℕ). l ++ class_bytes name file) c.new-bytes.ensures.items in
    subst (λ (bytes : List ℕ). Spells file bytes) (sym is) (file_spells name file c.requires c.in_ok-push_class.ensures.numbers)
