use Rattle.std.proofs.Common.{sym, ◌∙◌, arith}
use Rattle.std.specs.Prelude.{string_bytes}
use Rattle.kb_words.proofs.SettingLaws.{no_method}
use Rattle.kb_words.proofs.settings.method_word.Goals as goal

pub returns : goal.returns
returns c = sym (no_method string_bytes c.loop-rest.rest.now (omega (arith, c.in_default.len_below))) ∙ c.loop-rest.invariant
