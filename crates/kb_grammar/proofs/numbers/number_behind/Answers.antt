use Rattle.std.proofs.Common.{◌∷◌, ◌++◌, arith, sym, ◌∙◌}
use Rattle.std.specs.Fmt.{decimal}
use Rattle.kb_grammar.proofs.WordLaws.{same_behind, same_cut, not_lacking}
use Rattle.kb_grammar.proofs.NumberLaws.{Lacks-decimal}
use Rattle.kb_grammar.proofs.numbers.number_behind.Goals as goal

pub returns-in_err-word : goal.returns-in_err-word
returns-in_err-word c = rw c.from_residual-in_err-word.ensures (λ n rest small e.
    let words = same_behind c.args.front.now c.in_ok-behind.field-0.now (decimal n ++ 32 ∷ rest) (sym c.in_ok-behind.ensures ∙ e) in
    not_lacking 32 (decimal n) rest c.in_ok-behind.field-0.now c.in_err-word.ensures (sym words))

pub returns-in_err-read_number : goal.returns-in_err-read_number
returns-in_err-read_number c = rw c.from_residual-in_err-read_number.ensures (λ n rest small e.
    let words = same_behind c.args.front.now c.in_ok-behind.field-0.now (decimal n ++ 32 ∷ rest) (sym c.in_ok-behind.ensures ∙ e) in
    let cuts = same_cut 32 c.in_ok-word.word.now (decimal n) c.in_ok-word.rest.now rest c.in_ok-word.ensures.0 (Lacks-decimal 32 n (omega arith) (omega (arith, small)))
    (sym c.in_ok-word.ensures.1 ∙ words) in
    c.in_err-read_number.ensures n (small, cuts.0))
