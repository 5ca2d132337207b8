use Rattle.std.proofs.Common.{◌≡◌, ◌++◌, drop}
use Rattle.std.specs.Fmt.{decimal}
use Rattle.kb_path_words.specs.Words.{out_text}
use Rattle.kb_diagram.specs.Diagram.{numbered_words, cell_word}
use Rattle.kb_diagram.proofs.made.write_element_values.Given as goal

abbrev pub invariant-loop-index : goal.invariant-loop-index
invariant-loop-index l =
    l.initial.text ++ numbered_words (λ index out. cell_word (decimal index) (out_text out)) 0 l.values
    ≡ l.text ++ numbered_words (λ index out. cell_word (decimal index) (out_text out)) l.index (drop l.index l.values)
