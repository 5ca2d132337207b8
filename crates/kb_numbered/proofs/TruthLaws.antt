-- A condition on a term that has no truth yet stands behind the others, in the list and in the table.
use Rattle.std.proofs.Common.{◌≡◌, Bool, true, false, cond, List, [], ◌∷◌, ◌++◌, Some, refl, sym, ap, ◌∙◌, true≢false, is_some, if◌then◌else◌}
use Rattle.std.specs.Map.{lookup}
use Rattle.indexmap.specs.IndexMap.{insert_entry}

pub insert-absent : {K X : Type 0} (eq : K → K → Bool) (k : K) (v : X) (es : List (K × X)) → is_some (lookup (eq k) es) ≡ false
    → insert_entry eq es k v ≡ es ++ (k, v) ∷ []
insert-absent eq k v [] none = refl
insert-absent {K} {X} eq k v (e ∷ es) none = go (eq k e.0) none (insert-absent eq k v es)
  where
    go : (b : Bool) → is_some (cond b (Some e.1) (lookup (eq k) es)) ≡ false
        → (is_some (lookup (eq k) es) ≡ false → insert_entry eq es k v ≡ es ++ (k, v) ∷ [])
        → (if b then (e.0, v) ∷ es else e ∷ insert_entry eq es k v) ≡ e ∷ es ++ (k, v) ∷ []
    go true some later = absurd (true≢false some)
    go false none' later = ap (λ l. e ∷ l) (later none')

-- the table after the insertion is the list after the push
pub added : {K X : Type 0} (eq : K → K → Bool) (k : K) (v : X) (before list pushed after : List (K × X))
    → before ≡ list → is_some (lookup (eq k) before) ≡ false → after ≡ insert_entry eq before k v → pushed ≡ list ++ (k, v) ∷ [] → after ≡ pushed
added {K} {X} eq k v before list pushed after same none inserted push =
    inserted ∙ insert-absent eq k v before none ∙ ap (λ (l : List (K × X)). l ++ (k, v) ∷ []) same ∙ sym push
