use Rattle.std.proofs.Common.{List, ℕ, [], ◌++◌, ap, string_bytes, ◌∙◌}
use Rattle.kb_sample.specs.Sample.{blocks_text, end_text, head_text, sample_text}
use Rattle.kb_sample.proofs.TextLaws.{three_joined}
use Rattle.kb_sample.proofs.text.sample_text.Goals as goal

pub returns : goal.returns
unfolding sample_text
returns c =
    three_joined [] (string_bytes c.write_head.new.text) (string_bytes c.write_blocks.new.text) (string_bytes c.write_end.new.text) head_text (blocks_text c.args.blocks) end_text
    (c.in_ok-write_head.ensures ∙ ap (λ (t : List ℕ). t ++ head_text) c.new-text.ensures.bytes) c.in_ok-write_blocks.ensures c.in_ok-write_end.ensures
