-- Names that are looked up.
use Rattle.std.proofs.Common.{◌≡◌, ℕ, Bool, true, false, cond, List, [], ◌∷◌, Option, Some, None, refl, sym, ◌∙◌, subst}
use Rattle.std.specs.List.{find}
use Rattle.std.specs.Str.{bytes_eq}
use Rattle.std.proofs.lemmas.Slice.Eq.{bytes_eq-Decides}

-- what is found passes
found_passes : {A : Type 0} (test : A → Bool) (xs : List A) (x : A) → find test xs ≡ Some x → test x ≡ true
found_passes test [] x e = absurd cc
found_passes test (first ∷ xs) x e = go (λ (later : find test xs ≡ Some x). found_passes test xs x later) (test first) refl e where
  go : (find test xs ≡ Some x → test x ≡ true) → (passes : Bool) → test first ≡ passes → cond passes (Some first) (find test xs) ≡ Some x → test x ≡ true
  go later true is e = let same : first ≡ x = cc in subst (λ y. test y ≡ true) same is
  go later false is e = later e

-- a name that is found is the one that was sought
pub found_name : (names : List (List ℕ)) (name found : List ℕ) → find (bytes_eq name) names ≡ Some found → found ≡ name
found_name names name found e = sym ((bytes_eq-Decides name found).0 (found_passes (bytes_eq name) names found e))
