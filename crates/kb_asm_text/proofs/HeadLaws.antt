-- The lines of methods, and opcodes by their mnemonics.
use Rattle.std.proofs.Common.{◌≡◌, ℕ, ◌<◌, ◌≤◌, Bool, true, false, ltb, List, [], ◌∷◌, Option, None, Some, Result, Ok, Err, IfOk, MatchOption, refl, sym, ◌∙◌, arith}
use Rattle.std.proofs.lemmas.Bool.{le-ltb, ltb-false, ltb-true}
use Rattle.kb_code.specs.Names.{name_of}
use Rattle.kb_asm_text.specs.declared.line.Sizes.{Sizes}
use Rattle.kb_asm_text.specs.declared.line.MethodHead.{MethodHead}
use Rattle.kb_asm_text.specs.Words.{IsReadAs}
use Rattle.kb_asm_text.specs.Shapes.{IsOpOf}
use Rattle.kb_asm_text.specs.Lines.{SpellsMember, SpellsSized, SpellsMethodHead}
use Rattle.kb_asm_text.proofs.WordLaws.{not_three}

-- words that are not three spell a method with code, or none
pub coded_read : {E : Type 0} (words : List (List ℕ)) (read : Result (Option MethodHead) E) → ((a b c : List ℕ) → words ≡ a ∷ b ∷ c ∷ [] → ⊥)
    → IfOk read (λ found. MatchOption found ((head : MethodHead) (sizes : Sizes) → SpellsSized (Some sizes) head words → ⊥) (λ head. SpellsMethodHead head words))
    → IfOk read (IsReadAs SpellsMethodHead words)
coded_read words (Err e) none h = tt
coded_read words (Ok (Some head)) none h = h
coded_read words (Ok None) none h = λ head spelled. go head head.sizes spelled
  where
    go : (head : MethodHead) (sizes : Option Sizes) → SpellsSized sizes head words → ⊥
    go head None spelled = not_three (SpellsMember head) words none spelled
    go head (Some sizes) spelled = h head sizes spelled

-- no opcode above the table has a mnemonic
no_name : (op : ℕ) → 0xca ≤ op → name_of op ≡ None
unfolding name_of
no_name op high =
    rw (le-ltb op 0x15 (omega (arith, high)), le-ltb op 0x36 (omega (arith, high)), le-ltb op 0x57 (omega (arith, high)), le-ltb op 0x60 (omega (arith, high)), le-ltb op 0x85 (omega (arith, high)), le-ltb op 0x94 (omega (arith, high)), le-ltb op 0xa7 (omega (arith, high)), le-ltb op 0xb2 (omega (arith, high)), le-ltb op 0xc4 (omega (arith, high)), le-ltb op 0xca high) refl

pub none_named : (name : List ℕ) → ((k : ℕ) → k < 0xca → name_of k ≡ Some name → ⊥) → (op : ℕ) → IsOpOf op name → ⊥
none_named name none op is = go (ltb op 0xca) refl
  where
    go : (b : Bool) → ltb op 0xca ≡ b → ⊥
    go true low = none op (ltb-true op 0xca low) is.named
    go false high = let no : None ≡ Some name = sym (no_name op (ltb-false op 0xca high)) ∙ is.named in absurd cc

-- a mnemonic is that of one opcode
pub same_op : (a b : ℕ) (name : List ℕ) → IsOpOf a name → IsOpOf b name → a ≡ b
same_op a b name p q = go (ltb a b) refl (ltb b a) refl
  where
    go : (c : Bool) → ltb a b ≡ c → (d : Bool) → ltb b a ≡ d → a ≡ b
    go true e d f = absurd (q.first a (ltb-true a b e) p.named)
    go false e true f = absurd (p.first b (ltb-true b a f) q.named)
    go false e false f = (let one = ltb-false a b e in let other = ltb-false b a f in omega (arith, one, other))
