use Rattle.std.proofs.Common.{◌≡◌, ◌++◌, take, vec_len}
use Rattle.kb_names.specs.Escapes.{name_text}
use Rattle.kb_names.proofs.name_texts.write_name.Given as goal

abbrev pub invariant-loop-byte : goal.invariant-loop-byte
invariant-loop-byte l = record {
  start : l.start ≡ vec_len l.fn.into;
  written : l.into.items ≡ l.fn.into.items ++ name_text (take l.byte-index l.byte-items);
}
