use Rattle.std.proofs.Common.{sym, ◌∙◌}
use Rattle.kb_class.proofs.EntryLooks.{reference_looked_up}
use Rattle.kb_class.proofs.loaded.LoadedClass.reference_entry.Goals as goal

pub returns-in-File : goal.returns-in-File
returns-in-File c =
    let found = rw (c.get.ensures, c.as_slice.ensures, c.as_slice-in-File.ensures) at c.reference_entry.ensures in
    rw (← c.self.view_is, c.in-File.is) (found ∙ sym (reference_looked_up c.in-File.file.pool c.self.inside.types c.self.inside.kinds c.args.entry))
