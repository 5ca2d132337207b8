use Rattle.kiasan.proofs.ClassLaws.{AreListed}
use Rattle.kiasan.proofs.classes.list_methods.Given as goal

abbrev pub invariant-loop-method : goal.invariant-loop-method
invariant-loop-method l = AreListed l.methods l.method-index l.listings.items
