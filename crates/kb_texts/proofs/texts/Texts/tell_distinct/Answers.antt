use Rattle.std.proofs.Common.{subst}
use Rattle.kb_texts.specs.Texts.{AreDistinct}
use Rattle.kb_texts.proofs.texts.Texts.tell_distinct.Goals as goal

pub returns : goal.returns
returns c = subst AreDistinct c.self.view_is c.self.invariant
