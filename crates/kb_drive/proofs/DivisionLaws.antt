-- What is in exactly one of a list of things, and in none of it, when some of the things are replaced by others.
use Rattle.std.proofs.Common.{◌⊎◌, List, [], ◌∷◌, ◌++◌, inl, inr}
use Rattle.kb_heap.specs.declared.heap.Input.{Input}
use Rattle.kb_picture.specs.Exactly.{NoneHas, ExactlyOneHas}

module _ {A : Type 0} (Has : A → Input → Type 0) (input : Input) where
  -- ---- lists put together

  pub none_append : (xs ys : List A) → NoneHas Has xs input → NoneHas Has ys input → NoneHas Has (xs ++ ys) input
  none_append [] ys none more = more
  none_append (x ∷ xs) ys none more = (none.0, none_append xs ys none.1 more)

  pub none_front : (xs ys : List A) → NoneHas Has (xs ++ ys) input → NoneHas Has xs input
  none_front [] ys none = tt
  none_front (x ∷ xs) ys none = (none.0, none_front xs ys none.1)

  pub none_behind : (xs ys : List A) → NoneHas Has (xs ++ ys) input → NoneHas Has ys input
  none_behind [] ys none = none
  none_behind (x ∷ xs) ys none = none_behind xs ys none.1

  pub one_front : (xs ys : List A) → ExactlyOneHas Has xs input → NoneHas Has ys input → ExactlyOneHas Has (xs ++ ys) input
  one_front [] ys one none = absurd one
  one_front (x ∷ xs) ys one none = elim one [
    | inl here ↦ inl (here.0, none_append xs ys here.1 none)
    | inr later ↦ inr (later.0, one_front xs ys later.1 none)
  ]

  pub one_behind : (xs ys : List A) → NoneHas Has xs input → ExactlyOneHas Has ys input → ExactlyOneHas Has (xs ++ ys) input
  one_behind [] ys none one = one
  one_behind (x ∷ xs) ys none one = inr (none.0, one_behind xs ys none.1 one)

  -- it is in one thing of the one list or of the other
  abbrev pub InOneOf : List A → List A → Type 0
  InOneOf xs ys = (ExactlyOneHas Has xs input × NoneHas Has ys input) ⊎ (NoneHas Has xs input × ExactlyOneHas Has ys input)

  one_later : (x : A) (xs ys : List A) → (Has x input → ⊥) → InOneOf xs ys → InOneOf (x ∷ xs) ys
  one_later x xs ys not (inl front) = inl (inr (not, front.0), front.1)
  one_later x xs ys not (inr behind) = inr ((not, behind.0), behind.1)

  pub one_of_two : (xs ys : List A) → ExactlyOneHas Has (xs ++ ys) input → InOneOf xs ys
  one_of_two [] ys one = inr (tt, one)
  one_of_two (x ∷ xs) ys one = elim one [
    | inl here ↦ inl (inl (here.0, none_front xs ys here.1), none_behind xs ys here.1)
    | inr later ↦ one_later x xs ys later.0 (one_of_two xs ys later.1)
  ]

  -- ---- things that are replaced

  -- what is in exactly one of the old things is in exactly one of the new ones, and what is in none is in none
  pub record Replaces (old new : List A) : Type 0 where
    pub one : ExactlyOneHas Has old input → ExactlyOneHas Has new input
    pub none : NoneHas Has old input → NoneHas Has new input

  one_with_more : (old new ys : List A) → Replaces old new → InOneOf old ys → ExactlyOneHas Has (new ++ ys) input
  one_with_more old new ys r (inl front) = one_front new ys (r.one front.0) front.1
  one_with_more old new ys r (inr behind) = one_behind new ys (r.none behind.0) behind.1

  -- with the same things behind them
  pub replaces_front : (old new ys : List A) → Replaces old new → Replaces (old ++ ys) (new ++ ys)
  replaces_front old new ys r = record {
    one = λ one. one_with_more old new ys r (one_of_two old ys one);
    none = λ none. none_append new ys (r.none (none_front old ys none)) (none_behind old ys none);
  }

  -- with the same things before them
  pub replaces_behind : (xs old new : List A) → Replaces old new → Replaces (xs ++ old) (xs ++ new)
  replaces_behind [] old new r = r
  replaces_behind (x ∷ xs) old new r = later (replaces_behind xs old new r)
    where
      later : Replaces (xs ++ old) (xs ++ new) → Replaces (x ∷ xs ++ old) (x ∷ xs ++ new)
      later q = record {
        one = λ one. elim one [ inl here ↦ inl (here.0, q.none here.1) | inr behind ↦ inr (behind.0, q.one behind.1) ];
        none = λ none. (none.0, q.none none.1);
      }

  -- in the midst of others
  pub replaces_within : (xs old new ys : List A) → Replaces old new → Replaces (xs ++ (old ++ ys)) (xs ++ (new ++ ys))
  replaces_within xs old new ys r = replaces_behind xs (old ++ ys) (new ++ ys) (replaces_front old new ys r)

  -- ---- one thing that is replaced

  -- by a thing with the same inputs
  pub same_thing : (x y : A) → (Has x input → Has y input) → (Has y input → Has x input) → Replaces (x ∷ []) (y ∷ [])
  same_thing x y to from = record {
    one = λ one. elim one [ inl here ↦ inl (to here.0, tt) | inr later ↦ absurd later.1 ];
    none = λ none. ((λ has. none.0 (from has)), tt);
  }

  -- by nothing, where it has none
  pub no_thing : (x : A) → (Has x input → ⊥) → Replaces (x ∷ []) []
  no_thing x not = record {
    one = λ one. elim one [ inl here ↦ absurd (not here.0) | inr later ↦ absurd later.1 ];
    none = λ none. tt;
  }

  -- by things that divide its inputs
  pub split_thing : (x : A) (ys : List A) → (Has x input → ExactlyOneHas Has ys input) → ((Has x input → ⊥) → NoneHas Has ys input) → Replaces (x ∷ []) ys
  split_thing x ys divided none = record {
    one = λ one. elim one [ inl here ↦ divided here.0 | inr later ↦ absurd later.1 ];
    none = λ not. none not.0;
  }
