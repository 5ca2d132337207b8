-- What a reader of a part of a text says of the whole.
use Rattle.std.proofs.Common.{◌≡◌, ℕ, List, ◌++◌, Option, None, Some, Result, Ok, Err, IfOk, OnOk, sym, ◌∙◌, ap, subst}
use Rattle.kb_grammar.specs.Lines.{IsRead}
use Rattle.kb_grammar.proofs.WordLaws.{same_behind}

-- a value by its text, and the text behind a front
pub behind_read : {A : Type 0} (Is : A → Type 0) (text_of : A → List ℕ) (front rest text : List ℕ) (read : Option A) → text ≡ front ++ rest
    → IsRead (λ x t. Is x × (t ≡ text_of x)) rest read → IsRead (λ x t. Is x × (t ≡ front ++ text_of x)) text read
behind_read Is text_of front rest text (Some x) e h = (h.0, e ∙ ap (λ (r : List ℕ). front ++ r) h.1)
behind_read Is text_of front rest text None e h = λ x spells. h x (spells.0, same_behind front rest (text_of x) (sym e ∙ spells.1))

pub if_ok : {A E : Type 0} (P Q : A → Type 0) (r : Result A E) → ((x : A) → P x → Q x) → IfOk r P → IfOk r Q
if_ok P Q (Ok x) f h = f x h
if_ok P Q (Err e) f h = h

-- nothing was read
pub none_read : {A : Type 0} (Spells : A → List ℕ → Type 0) (text : List ℕ) (read : Option A) → read ≡ None → IsRead Spells text read → (x : A) → Spells x text → ⊥
none_read Spells text (Some x) e h = cc
none_read Spells text None e h = h

-- that was read
pub some_read : {A : Type 0} (Spells : A → List ℕ → Type 0) (text : List ℕ) (read : Option A) (x : A) → read ≡ Some x → IsRead Spells text read → Spells x text
some_read {A} Spells text (Some y) x e h = let same : y ≡ x = cc in subst (λ (z : A). Spells z text) same h
some_read Spells text None x e h = absurd cc

pub on_ok : {A E P Q : Type 0} (r : Result A E) → (P → Q) → OnOk r P → OnOk r Q
on_ok (Ok x) f h = f h
on_ok (Err x) f h = tt
