-- Heaps that are compared object by object.
use Rattle.std.proofs.Common.{◌≡◌, ◌↔◌, ℕ, zero, suc, ◌+◌, ◌-◌, ◌<◌, ◌≤◌, Bool, true, false, not, Option, None, Some, List, [], ◌∷◌, length, take, drop, get_or, is_some, refl, sym, ◌∙◌, ap, arith, subst}
use Rattle.std.specs.Prelude.{slice_get, IsTrue, MatchOption}
use Rattle.std.proofs.lemmas.List.{take_all}
use Rattle.kb_heap.specs.declared.heap.Object.{Object}
use Rattle.kb_heap.specs.declared.heap.Heap.{Heap}
use Rattle.kb_test.proofs.Appending.{next_object, no_object}

-- the objects up to a number are the same, so the heaps are where the others are
pub record AreAlike (mine theirs : List Object) (number : ℕ) (rest : List Object) : Type 0 where
  pub whole : mine ≡ theirs → drop number mine ≡ rest
  pub parts : drop number mine ≡ rest → mine ≡ theirs

pub none_compared : (mine theirs : List Object) → AreAlike mine theirs 0 theirs
none_compared mine theirs = record { whole = λ e. e; parts = λ e. e }

module _ (mine theirs : List Object) (number : ℕ) where
  -- no object is left
  pub shorter : (first : Object) (others : List Object) → AreAlike mine theirs number (first ∷ others) → slice_get mine number ≡ None → mine ≡ theirs → ⊥
  shorter first others alike none e =
      let all : drop number mine ≡ first ∷ others = alike.whole e in
      let end : drop number mine ≡ [] = no_object mine number none in
      cc

  -- the next objects differ
  pub other_object : (object first : Object) (others : List Object) → AreAlike mine theirs number (first ∷ others) → slice_get mine number ≡ Some object → (object ≡ first → ⊥)
      → mine ≡ theirs → ⊥
  other_object object first others alike some differ e =
      let all : drop number mine ≡ first ∷ others = alike.whole e in
      let here : drop number mine ≡ object ∷ drop (number + 1) mine = next_object mine number object some in
      let same : object ≡ first = cc in
      differ same

  -- the next objects are the same
  pub same_object : (object first : Object) (others : List Object) → AreAlike mine theirs number (first ∷ others) → slice_get mine number ≡ Some object → object ≡ first
      → AreAlike mine theirs (number + 1) others
  same_object object first others alike some same =
      let here : drop number mine ≡ object ∷ drop (number + 1) mine = next_object mine number object some in
      record {
        whole = λ e. (let all : drop number mine ≡ first ∷ others = alike.whole e in let rest : drop (number + 1) mine ≡ others = cc in rest);
        parts = λ e. alike.parts (here ∙ ap (λ (o : Object). o ∷ drop (number + 1) mine) same ∙ ap (λ (os : List Object). first ∷ os) e);
      }

  -- what is left of a list behind its first one
  others_of : (head : Object) (others : List Object) → take (length (head ∷ others) - 1) others ≡ others
  others_of head others = take_all (length (head ∷ others) - 1) others (omega arith)

  pub next_alike : (rest : List Object) (object first : Object) → 1 ≤ length rest → first ≡ get_or rest 0 first → AreAlike mine theirs number rest → slice_get mine number ≡ Some object → object ≡ first
      → AreAlike mine theirs (number + 1) (take (length rest - 1) (drop 1 rest))
  next_alike [] object first some at alike there same = absurd (omega (arith, some))
  next_alike (head ∷ others) object first some at alike there same =
      let is : first ≡ head = at in
      subst (AreAlike mine theirs (number + 1)) (sym (others_of head others)) (same_object object head others alike there (same ∙ is))

  pub next_counted : (rest : List Object) → 1 ≤ length rest → number + length rest ≡ length theirs → number + 1 + length (take (length rest - 1) (drop 1 rest)) ≡ length theirs
  next_counted [] some counted = absurd (omega (arith, some))
  next_counted (head ∷ others) some counted =
      let left : length (take (length (head ∷ others) - 1) others) ≡ length others = ap length (others_of head others) in
      omega (arith, left, counted)

-- no object of the others is left
pub compared : (mine theirs : Heap) (number : ℕ) (rest : List Object) (none : Bool) → length rest < 1 → AreAlike mine.objects theirs.objects number rest
    → {A : Type 0} (found : Option A) (now : A → Object) → MatchOption found (slice_get mine.objects number ≡ None) (λ (a : A). slice_get mine.objects number ≡ Some (now a)) → is_some found ≡ not none
    → IsTrue none ↔ (mine ≡ theirs)
compared mine theirs number (head ∷ rest) none few alike found now there is = absurd (omega (arith, few))
compared mine theirs number [] true few alike None now there is =
    (λ t. ap (λ (objects : List Object). (let heap : Heap = record { objects = objects } in heap)) (alike.parts (no_object mine.objects number there)), λ e. refl)
compared mine theirs number [] false few alike None now there is = absurd cc
compared mine theirs number [] true few alike (Some a) now there is = absurd cc
compared mine theirs number [] false few alike (Some a) now there is = (λ t. absurd cc, λ e. absurd (longer (ap (λ (heap : Heap). heap.objects) e)))
  where
    longer : mine.objects ≡ theirs.objects → ⊥
    longer e =
        let end : drop number mine.objects ≡ [] = alike.whole e in
        let here : drop number mine.objects ≡ now a ∷ drop (number + 1) mine.objects = next_object mine.objects number (now a) there in
        cc
