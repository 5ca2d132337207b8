-- A table of offsets by labels.
use Rattle.std.proofs.Common.{◌≡◌, ◌≢◌, ℕ, ◌+◌, Bool, true, false, if◌then◌else◌, List, ◌∷◌, Option, None, Some, is_some, refl, sym, ap, subst, ◌∙◌}
use Rattle.std.specs.HashMap.{HashMap, UpdatesBy}
use Rattle.std.specs.Option.{option_or}
use Rattle.std.specs.Map.{KeepsOthers, IsKeyTest, AreApart, lookup}
use Rattle.std.specs.Str.{bytes_eq}
use Rattle.std.specs.declared.vec.Vec.{Vec}
use Rattle.std.specs.declared.alloc.Global.{Global}
use Rattle.std.proofs.lemmas.Cmp.{nat_list_eq_equiv}
use Rattle.std.proofs.lemmas.Slice.Eq.{bytes_eq-Decides}
use Rattle.kb_asm_text.specs.declared.line.Line.{Line}
use Rattle.kb_asm_body.specs.Layout.{line_size, is_label, label_from, offset_at}

other_entries : {K X : Type 0} (eq : K → K → Bool) (test : K → Bool) (old new : List (K × X)) → KeepsOthers eq test old new → (other : K → Bool) → IsKeyTest eq other → AreApart test other → lookup other new ≡ lookup other old
unfolding KeepsOthers
other_entries eq test old new keeps = keeps

module _ {S : Type 0} (old new : HashMap (Vec ℕ Global) ℕ S) (name : List ℕ) (value : Option ℕ)
    (updates : UpdatesBy (λ (x y : Vec ℕ Global). bytes_eq x.items y.items) (λ (k : Vec ℕ Global). bytes_eq name k.items) old new value) where
  apart : (other : List ℕ) → name ≢ other → (k : Vec ℕ Global) → bytes_eq name k.items ≡ true → bytes_eq other k.items ≡ false
  apart other differs k here = go (bytes_eq other k.items) refl where
    go : (b : Bool) → bytes_eq other k.items ≡ b → bytes_eq other k.items ≡ false
    go true e = absurd (differs ((bytes_eq-Decides name k.items).0 here ∙ sym ((bytes_eq-Decides other k.items).0 e)))
    go false e = e

  others_kept : (other : List ℕ) → name ≢ other → offset_at new other ≡ offset_at old other
  others_kept other differs =
      other_entries (λ (x y : Vec ℕ Global). bytes_eq x.items y.items) (λ (k : Vec ℕ Global). bytes_eq name k.items) old.entries new.entries updates.3 (λ (k : Vec ℕ Global). bytes_eq other k.items)
      (λ x y. nat_list_eq_equiv.congr other x.items y.items)
      (apart other differs)

-- a label that is noted leads there, and each other one where it did
noted : {S : Type 0} (old new : HashMap (Vec ℕ Global) ℕ S) (label : List ℕ) (key : Vec ℕ Global) (at : ℕ) → key.items ≡ label
    → UpdatesBy (λ (x y : Vec ℕ Global). bytes_eq x.items y.items) (λ (k : Vec ℕ Global). bytes_eq key.items k.items) old new (Some at)
    → (name : List ℕ) → offset_at new name ≡ (if bytes_eq label name then Some at else offset_at old name)
noted old new label key at same put name = go (bytes_eq label name) refl
  where
    go : (b : Bool) → bytes_eq label name ≡ b → offset_at new name ≡ (if b then Some at else offset_at old name)
    go true e = let is : label ≡ name = (bytes_eq-Decides label name).0 e in subst (λ (n : List ℕ). offset_at new n ≡ Some at) (same ∙ is) put.1
    go false e = others_kept old new key.items (Some at) put name (λ h. absurd (let t : bytes_eq label name ≡ true = (bytes_eq-Decides label name).1 (sym same ∙ h) in cc))

-- where that label led nowhere, it leads there, and each other one where it did
pub first_noted : {S : Type 0} (old new : HashMap (Vec ℕ Global) ℕ S) (label : List ℕ) (key : Vec ℕ Global) (at : ℕ) → key.items ≡ label
    → UpdatesBy (λ (x y : Vec ℕ Global). bytes_eq x.items y.items) (λ (k : Vec ℕ Global). bytes_eq key.items k.items) old new (Some at)
    → is_some (offset_at old label) ≡ false
    → (name : List ℕ) → offset_at new name ≡ option_or (offset_at old name) (if bytes_eq label name then Some at else None)
first_noted old new label key at same put none name = go (bytes_eq label name) refl (offset_at old name) refl (noted old new label key at same put name)
  where
    go : (b : Bool) → bytes_eq label name ≡ b → (o : Option ℕ) → offset_at old name ≡ o → offset_at new name ≡ (if bytes_eq label name then Some at else offset_at old name)
        → offset_at new name ≡ option_or o (if b then Some at else None)
    go true e None led put = cc
    go true e (Some to) led put =
        let is : label ≡ name = (bytes_eq-Decides label name).0 e in
        let there : is_some (offset_at old label) ≡ true = ap (λ (n : List ℕ). is_some (offset_at old n)) is ∙ ap is_some led in
        absurd (let no : true ≡ false = sym there ∙ none in cc)
    go false e None led put = cc
    go false e (Some to) led put = cc

-- a label that is there leads where it did
pub there_still : {S : Type 0} (old : HashMap (Vec ℕ Global) ℕ S) (label : List ℕ) (at : ℕ) → is_some (offset_at old label) ≡ true
    → (name : List ℕ) → offset_at old name ≡ option_or (offset_at old name) (if bytes_eq label name then Some at else None)
there_still old label at some name = go (bytes_eq label name) refl (offset_at old name) refl
  where
    go : (b : Bool) → bytes_eq label name ≡ b → (o : Option ℕ) → offset_at old name ≡ o → o ≡ option_or o (if b then Some at else None)
    go b e (Some to) led = refl
    go false e None led = refl
    go true e None led =
        let is : label ≡ name = (bytes_eq-Decides label name).0 e in
        let none : is_some (offset_at old label) ≡ false = ap (λ (n : List ℕ). is_some (offset_at old n)) is ∙ ap is_some led in
        absurd (let no : true ≡ false = sym some ∙ none in cc)

-- no label is noted
pub none_noted : (o : Option ℕ) (b : Bool) (at : ℕ) → b ≡ false → o ≡ option_or o (if b then Some at else None)
none_noted (Some to) b at e = refl
none_noted None true at e = absurd cc
none_noted None false at e = refl

-- one line more
pub label_next : {S : Type 0} (old new : HashMap (Vec ℕ Global) ℕ S) (line : Line) (at next : ℕ) (rest others : List Line) (found : List ℕ → Option ℕ)
    → ((name : List ℕ) → offset_at new name ≡ option_or (offset_at old name) (if is_label line name then Some at else None))
    → next ≡ at + line_size line at → rest ≡ line ∷ others
    → ((name : List ℕ) → option_or (offset_at old name) (label_from name at rest) ≡ found name)
    → (name : List ℕ) → option_or (offset_at new name) (label_from name next others) ≡ found name
label_next old new line at next rest others found note is begins before name =
    ap (λ (o : Option ℕ). option_or o (label_from name next others)) (note name)
    ∙ ap (λ (n : ℕ). option_or (option_or (offset_at old name) (if is_label line name then Some at else None)) (label_from name n others)) is
    ∙ both (offset_at old name) (is_label line name) (label_from name (at + line_size line at) others)
    ∙ ap (λ (l : List Line). option_or (offset_at old name) (label_from name at l)) (sym begins)
    ∙ before name
  where
    both : (o : Option ℕ) (b : Bool) (behind : Option ℕ) → option_or (option_or o (if b then Some at else None)) behind ≡ option_or o (if b then Some at else behind)
    both (Some to) b behind = refl
    both None true behind = refl
    both None false behind = refl
