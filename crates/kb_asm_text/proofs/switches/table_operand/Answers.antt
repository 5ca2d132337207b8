use Rattle.std.proofs.Common.{◌≡◌, ℕ, ℤ, false, List, ◌∷◌, length, sym, ◌∙◌, ap, to_z, of_z}
use Rattle.std.proofs.lemmas.Int.{to_z-of_z}
use mir.Syntax.{w32}
use Rattle.kb_code.specs.Switches.{is_table}
use Rattle.kb_asm_text.proofs.SwitchLaws.{table_refuted}
use Rattle.kb_asm_text.proofs.switches.table_operand.Goals as goal

pub returns-then-not-is_table : goal.returns-then-not-is_table
returns-then-not-is_table c =
    let low = c.in-Some-read_int.low in
    let clean = to_z-of_z w32 low c.in-Some-read_int.ensures.0 in
    let wrong : is_table low (length c.in-Some-3.targets) ≡ false =
    sym (ap (λ (z : ℤ). is_table z (length c.in-Some-3.targets)) clean)
    ∙ ap (λ (ts : List (List ℕ)). is_table (to_z w32 (of_z w32 low)) (length ts)) (sym c.as_slice.ensures)
    ∙ sym c.is_table.ensures
    ∙ c.if-not-is_table.true in
    table_refuted c.args.words.now c.in-Some.first.now c.in-Some-first_word.second.now c.in-Some-first_word.rest.now low c.in-Some-3.targets
    (c.in-Some.ensures ∙ ap (λ (r : List (List ℕ)). c.in-Some.first.now ∷ r) c.in-Some-first_word.ensures)
    c.in-Some-read_int.ensures (rw c.in-Some-3.is at c.in_ok-targets.ensures) wrong
