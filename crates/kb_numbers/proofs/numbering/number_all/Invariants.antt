use Rattle.std.proofs.Common.{◌≡◌, length, take}
use Rattle.kb_numbers.specs.Numbers.{AreNumberedFrom}
use Rattle.kb_numbers.specs.Members.{methods_of}
use Rattle.kb_numbers.proofs.numbering.number_all.Given as goal

abbrev pub invariant-loop-class : goal.invariant-loop-class
invariant-loop-class l = record {
  each : AreNumberedFrom l.texts 0 (take l.class-index l.classes) l.numbers.items;
  first_is : l.first ≡ length (methods_of (take l.class-index l.classes));
}
