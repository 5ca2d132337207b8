use Rattle.std.proofs.Common.{◌++◌, arith, sym, ◌∙◌}
use Rattle.std.specs.Fmt.{decimal}
use Rattle.kb_grammar.proofs.WordLaws.{same_behind, same_first}
use Rattle.kb_grammar.proofs.NumberLaws.{Lacks-decimal}
use Rattle.kb_grammar.proofs.numbers.number_before.Goals as goal

pub returns-in_err-read_number : goal.returns-in_err-read_number
returns-in_err-read_number c = rw c.from_residual-in_err-read_number.ensures (λ n rest small tail e.
    let words = same_behind c.args.front.now c.in_ok-behind.field-0.now (decimal n ++ rest) (sym c.in_ok-behind.ensures ∙ e) in
    let parts = same_first c.args.end c.first_part.result.0.now (decimal n) c.first_part.result.1.now rest c.first_part.ensures.part (Lacks-decimal c.args.end n c.requires (omega (arith, small)))
    c.first_part.ensures.rest tail (sym c.first_part.ensures.text ∙ words) in
    c.in_err-read_number.ensures n (small, parts.0))
