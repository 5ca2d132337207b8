use Rattle.std.proofs.Common.{◌≡◌, take}
use Rattle.kb_texts.specs.Texts.{Keeps}
use Rattle.kb_numbers.specs.Types.{with_param_names}
use Rattle.kb_numbers.proofs.types.add_param_names.Given as goal

abbrev pub invariant-loop-param : goal.invariant-loop-param
invariant-loop-param l = record {
  keeps : Keeps l.fn.texts l.texts;
  names : l.texts ≡ with_param_names l.fn.texts (take l.param-index l.params);
}
