use Rattle.std.proofs.Common.{◌≡◌, ◌++◌, string_bytes}
use Rattle.kb_sample.specs.Sample.{blocks_text}
use Rattle.kb_sample.proofs.text.write_blocks.Given as goal

abbrev pub invariant-loop-block : goal.invariant-loop-block
invariant-loop-block l = string_bytes l.text ≡ string_bytes l.initial.text ++ blocks_text l.block
