use Rattle.std.proofs.Common.{◌∙◌, sym}
use Rattle.std.proofs.lemmas.Bool.{false≢true}
use Rattle.kb_propagate.proofs.Places.{at_has}
use Rattle.kb_propagate.proofs.base.forces.Goals as goal

pub returns-then-not-is_true-clause-free : goal.returns-then-not-is_true-clause-free
returns-then-not-is_true-clause-free c i e f = false≢true (sym (sym c.is_true.ensures ∙ c.if-not-is_true.true) ∙ at_has c.args.trail.now.literals i c.args.literal e)
