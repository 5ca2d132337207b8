use Rattle.std.proofs.Common.{◌≡◌, ◌++◌, List, map, ap, ◌∙◌}
use Rattle.std.proofs.lemmas.Result.{on_ok_weaker}
use Rattle.kb_grammar.specs.Lines.{lines_text}
use Rattle.kb_heap.specs.declared.heap.Value.{Value}
use Rattle.kb_heap.specs.declared.heap.Object.{Object}
use Rattle.kb_path_words.specs.Lines.{numbered_lines}
use Rattle.kb_report_text.specs.Blocks.{arg_line, in_line, input_lines}
use Rattle.kb_path_words.proofs.TextLaws.{two_joined}
use Rattle.kb_report_text.proofs.leaves.write_input.Goals as goal

pub returns : goal.returns
unfolding input_lines
returns c =
    let input = c.args.input.now in
    let args : c.write_args.new.text ≡ c.args.text.now ++ lines_text (map arg_line input.args) =
    c.in_ok-write_args.ensures ∙ ap (λ (vs : List Value). c.args.text.now ++ lines_text (map arg_line vs)) c.as_slice.ensures in
    on_ok_weaker c.write_input_objects.result
    (λ last. two_joined c.args.text.now c.write_args.new.text c.write_input_objects.new.text (map arg_line input.args) (numbered_lines in_line 0 input.heap.objects) args
    (last ∙ ap (λ (os : List Object). c.write_args.new.text ++ lines_text (numbered_lines in_line 0 os)) c.as_slice-2.ensures))
    c.write_input_objects.ensures
