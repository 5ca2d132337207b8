use Rattle.std.proofs.Common.{string_bytes}
use Rattle.std.proofs.lemmas.Result.{on_ok_weaker}
use Rattle.kb_sample.specs.Sample.{count_text}
use Rattle.kb_sample.proofs.TextLaws.{three_joined}
use Rattle.kb_sample.proofs.text.write_count.Goals as goal

pub returns : goal.returns
unfolding count_text
returns c =
    on_ok_weaker c.write_numbered-2.result
    (λ last. three_joined (string_bytes c.args.text.now) (string_bytes c.write_numbered.new.text) (string_bytes c.write_increment.new.text) (string_bytes c.write_numbered-2.new.text) _ _ _
    c.in_ok-write_numbered.ensures c.in_ok-write_increment.ensures last)
    c.write_numbered-2.ensures
