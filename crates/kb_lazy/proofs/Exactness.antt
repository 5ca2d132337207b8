-- Lists of things that have inputs: exactly one of two lists' things, and what is none of them.
use Rattle.std.proofs.Common.{inl, inr, List, [], ◌∷◌, ◌++◌}
use Rattle.kb_heap.specs.declared.heap.Input.{Input}
use Rattle.kb_picture.specs.Exactly.{NoneHas, ExactlyOneHas}

module _ {A : Type 0} (Has : A → Input → Type 0) (input : Input) where
  pub none_joined : (xs ys : List A) → NoneHas Has xs input → NoneHas Has ys input → NoneHas Has (xs ++ ys) input
  none_joined [] ys one other = other
  none_joined (x ∷ xs) ys one other = (one.0, none_joined xs ys one.1 other)

  pub one_first : (xs ys : List A) → ExactlyOneHas Has xs input → NoneHas Has ys input → ExactlyOneHas Has (xs ++ ys) input
  one_first [] ys one none = absurd one
  one_first (x ∷ xs) ys (inl h) none = inl (h.0, none_joined xs ys h.1 none)
  one_first (x ∷ xs) ys (inr h) none = inr (h.0, one_first xs ys h.1 none)

  pub one_second : (xs ys : List A) → NoneHas Has xs input → ExactlyOneHas Has ys input → ExactlyOneHas Has (xs ++ ys) input
  one_second [] ys none one = one
  one_second (x ∷ xs) ys none one = inr (none.0, one_second xs ys none.1 one)

  pub one_alone : (x : A) → Has x input → ExactlyOneHas Has (x ∷ []) input
  one_alone x h = inl (h, tt)
