use Rattle.kb_class.proofs.loaded.LoadedClass.named_types.Goals as goal

pub returns : goal.returns
returns c = rw (← c.self.view_is, c.as_slice.ensures) c.self.invariant.1.named
