-- Switches whose ints may not stand so.
use Rattle.std.proofs.Common.{◌≡◌, ℕ, Bool, true, false, List, ◌∷◌, length, sym, ◌∙◌, ap, subst}
use Rattle.std.specs.Prelude.{ℤ, IsTrue}
use Rattle.kb_grammar.specs.Numbers.{SpellsInt}
use Rattle.kb_asm_text.specs.declared.line.Case.{Case}
use Rattle.kb_asm_text.specs.declared.line.Operand.{Operand}
use Rattle.kb_asm_text.specs.declared.shape.Shape.TheVariants as shapes
use Rattle.kb_asm_text.specs.Words.{FirstWord, EachWord}
use Rattle.kb_asm_text.specs.Tokens.{SpellsLabel}
use Rattle.kb_code.specs.Switches.{are_rising, is_table}
use Rattle.kb_asm_text.specs.Lines.{key_of_case, SpellsCase, SpellsOperand}
use Rattle.kb_asm_text.proofs.EachLaws.{each_same}
use Rattle.kb_asm_text.proofs.TokenLaws.{same_int, same_label, same_case}

not_both : (a b : Bool) → a ≡ b → IsTrue a → b ≡ false → ⊥
not_both a b e h f = let no : true ≡ false = sym h ∙ e ∙ f in cc

pub table_refuted : (words : List (List ℕ)) (first second : List ℕ) (others : List (List ℕ)) (low : ℤ) (targets : List (List ℕ))
    → words ≡ first ∷ second ∷ others → SpellsInt low first → EachWord SpellsLabel targets others → is_table low (length targets) ≡ false
    → (operand : Operand) → SpellsOperand shapes.Table operand words → ⊥
table_refuted words first second others low targets e int labels wrong operand h =
    let parts = subst
    (λ (ws : List (List ℕ)). FirstWord (λ word rest. SpellsInt h.0 word × FirstWord (λ next more. SpellsLabel h.1 next × EachWord SpellsLabel h.2 more) rest) ws) e
    h.4.spelled in
    let lows : h.0 ≡ low = same_int h.0 low first parts.0 int in
    let all : h.2 ≡ targets = each_same SpellsLabel same_label h.2 targets others parts.1.1 labels in
    not_both (is_table h.0 (length h.2)) (is_table low (length targets))
    (ap (λ (z : ℤ). is_table z (length h.2)) lows ∙ ap (λ (ls : List (List ℕ)). is_table low (length ls)) all) h.4.sound wrong

pub lookup_refuted : (words : List (List ℕ)) (first : List ℕ) (others : List (List ℕ)) (cases : List Case)
    → words ≡ first ∷ others → EachWord SpellsCase cases others → are_rising key_of_case cases ≡ false
    → (operand : Operand) → SpellsOperand shapes.Lookup operand words → ⊥
lookup_refuted words first others cases e spelled wrong operand h =
    let parts = subst (λ (ws : List (List ℕ)). FirstWord (λ word rest. SpellsLabel h.0 word × EachWord SpellsCase h.1 rest) ws) e h.3.spelled in
    let all : h.1 ≡ cases = each_same SpellsCase same_case h.1 cases others parts.1 spelled in
    not_both (are_rising key_of_case h.1) (are_rising key_of_case cases) (ap (λ (cs : List Case). are_rising key_of_case cs) all) h.3.rising wrong
