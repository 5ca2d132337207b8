-- Bodies without bytes of their own are listings.
use Rattle.std.proofs.Common.{◌≡◌, ℕ, ◌+◌, false, true≢false, List, [], ◌∷◌, ◌++◌, length, Option, refl, sym, ap, subst, ◌∙◌, arith}
use Rattle.std.specs.List.{list_any}
use Rattle.std.proofs.lemmas.Bool.{or_parts}
use Rattle.kb_grammar.specs.Grammar.{Each}
use Rattle.kb_classfile.specs.declared.file.PoolEntry.{PoolEntry}
use Rattle.kb_code.specs.declared.instruction.Instr.{Instr}
use Rattle.kb_code.specs.Listing.{ListsFrom}
use Rattle.kb_asm_text.specs.declared.line.BodyLine.TheVariants as bodies
use Rattle.kb_asm_text.specs.declared.line.Line.{Line}
use Rattle.kb_asm_text.specs.declared.line.Line.TheVariants as lines
use Rattle.kb_asm.specs.Instructions.{SpellsCode, EncodesLine}
use Rattle.kb_asm.specs.Listings.{is_raw}

abbrev HasItems : ℕ → List ℕ → Type 0
HasItems at bytes = (items : List (ℕ × Instr)) × ListsFrom at items bytes

module _ (pool : List PoolEntry) (labels : List ℕ → Option ℕ) where
  -- no bytes stand before the others
  behind_none : (at : ℕ) (front back bytes : List ℕ) → bytes ≡ front ++ back → front ≡ [] → HasItems (at + length front) back → HasItems at bytes
  behind_none at front back bytes parts none h =
      let here : at + length front ≡ at = omega (arith, ap (λ (l : List ℕ). length l) none) in
      let same : bytes ≡ back = parts ∙ ap (λ (l : List ℕ). l ++ back) none in
      subst (λ (n : ℕ). HasItems n bytes) here (subst (HasItems (at + length front)) (sym same) h)

  line_items : (line : Line) (at : ℕ) (front back bytes : List ℕ) → is_raw line ≡ false → bytes ≡ front ++ back → SpellsCode pool labels line at front
      → HasItems (at + length front) back → HasItems at bytes
  line_items (lines.Body (bodies.Instr op operand)) at front back bytes own parts s h =
      ((at, s.instr) ∷ h.0, record { front = front; back = back; parts = parts; begins = (refl, s.spelled); ends = h.1 })
  line_items (lines.Body (bodies.Raw byte)) at front back bytes own parts s h = absurd (true≢false own)
  line_items line at front back bytes own parts s h = behind_none at front back bytes parts s h

  pub items_of : (body : List Line) (at : ℕ) (bytes : List ℕ) → list_any is_raw body ≡ false → Each (EncodesLine pool labels) body at bytes → HasItems at bytes
  items_of [] at bytes own s = ([], s)
  items_of (line ∷ body) at bytes own s =
      let p = or_parts (is_raw line) (list_any is_raw body) own in
      line_items line at s.front s.back bytes p.0 s.parts s.begins.code (items_of body (at + length s.front) s.back p.1 s.ends)
