-- What is offered, alternative by alternative.
use Rattle.std.proofs.Common.{◌≡◌, ℕ, suc, Bool, List, [], ◌∷◌, ◌++◌, map, filter, sym, ap, ◌∙◌}
use Rattle.std.proofs.lemmas.List.{append_assoc, map-append}
use Rattle.std.proofs.lemmas.List.Elements.{filter-append}
use Rattle.kb_semantics.specs.Looks.{numbers_below}
use Rattle.kb_picture.specs.declared.choice.Choice.{Choice}

module _ (p : Choice → Bool) (start : List Choice) where
  -- some more alternatives were offered behind others
  pub behind : (xs ys before after : List Choice) → after ≡ before ++ filter p ys → before ≡ start ++ filter p xs → after ≡ start ++ filter p (xs ++ ys)
  behind xs ys before after pushed earlier =
      pushed ∙ ap (λ (l : List Choice). l ++ filter p ys) earlier ∙ append_assoc start (filter p xs) (filter p ys) ∙ ap (λ (l : List Choice). start ++ l) (sym (filter-append p xs ys))

  -- that of a number was, behind those of the numbers below it
  pub one_behind : (f : ℕ → Choice) (n m : ℕ) (before after : List Choice) → m ≡ suc n → after ≡ before ++ filter p (f n ∷ []) → before ≡ start ++ filter p (map f (numbers_below n))
      → after ≡ start ++ filter p (map f (numbers_below m))
  one_behind f n m before after next pushed earlier =
      behind (map f (numbers_below n)) (f n ∷ []) before after pushed earlier
      ∙ ap (λ (l : List Choice). start ++ filter p l) (sym (map-append f (numbers_below n) (n ∷ [])))
      ∙ ap (λ (k : ℕ). start ++ filter p (map f (numbers_below k))) (sym next)
