use Rattle.std.proofs.Common.{take}
use Rattle.std.specs.List.{AllZip}
use Rattle.kb_texts.specs.Texts.{Keeps}
use Rattle.kb_numbers.specs.Typed.{AreEnds, IsTypedMethod, KeepsTypes}
use Rattle.kb_numbers.proofs.types.add_types.Given as goal

abbrev pub invariant-loop-place : goal.invariant-loop-place
invariant-loop-place l = record {
  keeps : Keeps l.fn.texts l.texts;
  stays : KeepsTypes l.fn.types l.types;
  ends : AreEnds l.texts l.types;
  typed : AllZip (IsTypedMethod l.texts l.types) (take l.place l.methods) (take l.place l.pairs);
}
