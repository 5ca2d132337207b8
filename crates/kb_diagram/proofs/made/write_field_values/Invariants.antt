use Rattle.std.proofs.Common.{◌≡◌, ◌++◌, drop}
use Rattle.kb_path_words.specs.Words.{out_text}
use Rattle.kb_diagram.specs.Diagram.{numbered_words, cell_word, field_name}
use Rattle.kb_diagram.proofs.made.write_field_values.Given as goal

abbrev pub invariant-loop-slot : goal.invariant-loop-slot
invariant-loop-slot l =
    l.initial.text ++ numbered_words (λ slot out. cell_word (field_name l.fields slot) (out_text out)) 0 l.values
    ≡ l.text ++ numbered_words (λ slot out. cell_word (field_name l.fields slot) (out_text out)) l.slot (drop l.slot l.values)
