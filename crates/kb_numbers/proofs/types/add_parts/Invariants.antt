use Rattle.std.proofs.Common.{◌-◌, drop, length}
use Rattle.kb_texts.specs.Texts.{Keeps}
use Rattle.kb_numbers.specs.Types.{IsPath}
use Rattle.kb_numbers.proofs.types.add_parts.Given as goal

abbrev pub invariant-loop-back : goal.invariant-loop-back
invariant-loop-back l = record {
  keeps : Keeps l.fn.parts l.parts;
  path : IsPath l.texts l.parts l.kind.result (drop (length l.kind.params - l.back) l.kind.params) l.number;
}
