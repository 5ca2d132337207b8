use Rattle.std.proofs.Common.{◌≡◌, ◌++◌, map, take, Some}
use Rattle.kb_class.specs.declared.members.MethodInfo.{MethodInfo}
use Rattle.kb_classes.specs.Methods.{method_in}
use Rattle.kb_classes.proofs.methods.with_places.Given as goal

abbrev pub invariant-loop-place : goal.invariant-loop-place
invariant-loop-place l = map (method_in l.classes) l.after.items ≡ map (method_in l.classes) l.fn.places.items ++ map (λ (m : MethodInfo). Some m) (take l.place l.methods)
