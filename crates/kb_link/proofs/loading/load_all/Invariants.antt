use Rattle.std.proofs.Common.{◌≡◌, List, ◌++◌}
use Rattle.kb_class.specs.declared.given.GivenClass.{GivenClass}
use Rattle.kb_link.specs.Links.{AreClassesOf}
use Rattle.kb_link.proofs.loading.load_all.Given as goal

abbrev pub invariant-loop-class : goal.invariant-loop-class
invariant-loop-class l =
    (done : List GivenClass) × (done ++ l.class-iterator.rest.items ≡ l.fn.given.items) × AreClassesOf 0 done l.classes.items
