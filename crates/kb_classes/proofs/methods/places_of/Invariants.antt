use Rattle.std.proofs.Common.{◌≡◌, map, take, Some}
use Rattle.kb_class.specs.declared.members.MethodInfo.{MethodInfo}
use Rattle.kb_classes.specs.World.{methods_in}
use Rattle.kb_classes.specs.Methods.{method_in}
use Rattle.kb_classes.proofs.methods.places_of.Given as goal

abbrev pub invariant-loop-number : goal.invariant-loop-number
invariant-loop-number l = map (method_in l.classes) l.places.items ≡ map (λ (m : MethodInfo). Some m) (methods_in (take l.number l.classes))
