use Rattle.std.proofs.Common.{List, ℕ, [], ◌∷◌, ◌++◌, ◌∙◌, ap, append_assoc}
use Rattle.kb_test_lines.specs.Lines.{bounds_text, line_text}
use Rattle.kb_grammar.proofs.ReadLaws.{on_ok}
use Rattle.kb_test.proofs.writing.append_bounds_line.Goals as goal

pub returns-clause-ok : goal.returns-clause-ok
unfolding line_text bounds_text
returns-clause-ok c =
    on_ok c.append-2.result
    (λ h.
    h
    ∙ ap (λ (l : List ℕ). l ++ 10 ∷ []) (c.in_ok-append.ensures.ok ∙ ap (λ (l : List ℕ). c.args.into.now.items ++ l) (c.as_bytes.ensures.value ∙ c.in_ok-line.ensures.ok))
    ∙ append_assoc c.args.into.now.items (bounds_text c.args.bounds.now) (10 ∷ []))
    c.append-2.ensures.ok
