use Rattle.std.proofs.Common.{take}
use Rattle.std.specs.List.{AllZip}
use Rattle.kb_texts.specs.Texts.{Keeps}
use Rattle.kb_numbers.specs.Members.{method_pairs, methods_of}
use Rattle.kb_numbers.specs.Typed.{AreEnds, IsTypedMethod}
use Rattle.kb_numbers.proofs.numbering.types_of.Given as goal

abbrev pub invariant-loop-number : goal.invariant-loop-number
invariant-loop-number l = record {
  keeps : Keeps l.fn.texts l.texts;
  ends : AreEnds l.texts l.types;
  typed : AllZip (IsTypedMethod l.texts l.types) (methods_of (take l.number l.classes)) (method_pairs (take l.number l.numbers));
}
