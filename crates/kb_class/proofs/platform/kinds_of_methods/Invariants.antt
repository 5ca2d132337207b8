use Rattle.std.proofs.Common.{◌≡◌, map, take}
use Rattle.kb_class.specs.PlatformRows.{method_kind}
use Rattle.kb_class.proofs.platform.kinds_of_methods.Given as goal

abbrev pub invariant-loop-method : goal.invariant-loop-method
invariant-loop-method l = l.kinds ≡ map method_kind (take l.method-index l.methods)
