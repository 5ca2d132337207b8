use Rattle.std.proofs.Common.{◌≡◌, false, List, sym, ◌∙◌, ap}
use Rattle.kb_code.specs.Switches.{are_rising}
use Rattle.kb_asm_text.specs.declared.line.Case.{Case}
use Rattle.kb_asm_text.specs.Lines.{key_of_case}
use Rattle.kb_asm_text.proofs.SwitchLaws.{lookup_refuted}
use Rattle.kb_asm_text.proofs.switches.lookup_operand.Goals as goal

pub returns-then-not-are_rising : goal.returns-then-not-are_rising
returns-then-not-are_rising c =
    let wrong : are_rising key_of_case c.in-Some-3.cases ≡ false = ap (λ (cs : List Case). are_rising key_of_case cs) (sym c.as_slice.ensures) ∙ sym c.are_rising.ensures ∙ c.if-not-are_rising.true in
    lookup_refuted c.args.words.now c.in-Some.first.now c.in-Some.others.now c.in-Some-3.cases c.in-Some.ensures (rw c.in-Some-3.is at c.in_ok-cases.ensures) wrong
