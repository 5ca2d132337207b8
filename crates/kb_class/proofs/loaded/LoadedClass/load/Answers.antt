use Rattle.kb_class.proofs.loaded.LoadedClass.load.Goals as goal

pub of_file-requires-clause-given : goal.of_file-requires-clause-given
of_file-requires-clause-given c = rw (c.in_ok-file.ensures, c.into_vec.ensures) c.requires.given

pub of_file-requires-clause-rules : goal.of_file-requires-clause-rules
of_file-requires-clause-rules c = rw c.in_ok-file.ensures c.requires.rules

pub returns : goal.returns
returns c = rw (c.in_ok-file.ensures, c.into_vec.ensures) at c.of_file.ensures
