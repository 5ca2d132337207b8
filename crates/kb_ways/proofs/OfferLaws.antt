-- What outside of an array asks for, and which alternatives are left of a list.
use Rattle.std.proofs.Common.{◌≡◌, ℕ, zero, suc, Bool, true, false, pos, List, [], ◌∷◌, filter, slice_get, Some, refl, sym, ap, subst, ◌∙◌, inl, inr}
use Rattle.kb_class.specs.Naming.{Has}
use Rattle.kb_terms.specs.declared.node.TermId.{TermId}
use Rattle.kb_picture.specs.Exactly.{ExactlyOneHas, NoneHas}
use Rattle.kb_ways.specs.declared.condition.Side.TheVariants.{Term, Number}
use Rattle.kb_ways.specs.Asked.{unsigned_sides}
use Rattle.kb_ways.specs.Choosing.{outside_conditions}

-- what outside of an array with elements asks for
pub outside_asks : (x : TermId) (count : ℕ) → (count ≡ 0 → ⊥) → outside_conditions x count ≡ unsigned_sides (Term x) (Number (pos count)) false ∷ []
outside_asks x zero some = absurd (some refl)
outside_asks x (suc n) some = refl

-- ---- one of those that are left

pub filter_kept : {A : Type 0} (keep : A → Bool) (x : A) (xs : List A) → keep x ≡ true → filter keep (x ∷ xs) ≡ x ∷ filter keep xs
filter_kept keep x xs e = rw e refl

pub filter_dropped : {A : Type 0} (keep : A → Bool) (x : A) (xs : List A) → keep x ≡ false → filter keep (x ∷ xs) ≡ filter keep xs
filter_dropped keep x xs e = rw e refl

module _ {A B C : Type 0} (P : A → B → Type 0) (Q : A → C → Type 0) (values : B) (input : C) (keep : A → Bool) (kept : (x : A) → P x values → keep x ≡ true)
    (there : (x : A) → P x values → Q x input) (back : (x : A) → keep x ≡ true → Q x input → P x values) where
  pub none_left : (xs : List A) → NoneHas P xs values → NoneHas Q (filter keep xs) input
  none_left [] none = tt
  none_left (x ∷ xs) none = go (none_left xs none.1) (keep x) refl where
    go : NoneHas Q (filter keep xs) input → (b : Bool) → keep x ≡ b → NoneHas Q (filter keep (x ∷ xs)) input
    go rest true e = subst (λ (left : List A). NoneHas Q left input) (sym (filter_kept keep x xs e)) ((λ q. none.0 (back x e q)), rest)
    go rest false e = subst (λ (left : List A). NoneHas Q left input) (sym (filter_dropped keep x xs e)) rest

  pub one_left : (xs : List A) → ExactlyOneHas P xs values → ExactlyOneHas Q (filter keep xs) input
  one_left [] one = one
  one_left (x ∷ xs) one = elim one [
    | inl here ↦ subst (λ (left : List A). ExactlyOneHas Q left input) (sym (filter_kept keep x xs (kept x here.0))) (inl (there x here.0, none_left xs here.1))
    | inr later ↦ go (one_left xs later.1) (keep x) refl later.0
  ] where
    go : ExactlyOneHas Q (filter keep xs) input → (b : Bool) → keep x ≡ b → (P x values → ⊥) → ExactlyOneHas Q (filter keep (x ∷ xs)) input
    go rest true e never = subst (λ (left : List A). ExactlyOneHas Q left input) (sym (filter_kept keep x xs e)) (inr ((λ q. never (back x e q)), rest))
    go rest false e never = subst (λ (left : List A). ExactlyOneHas Q left input) (sym (filter_dropped keep x xs e)) rest

-- what is left of a list stands in it, and was to be kept
pub has_kept : {A : Type 0} (keep : A → Bool) (xs : List A) (x : A) → Has (filter keep xs) x → Has xs x × (keep x ≡ true)
has_kept keep [] x (n, e) = absurd cc
has_kept {A} keep (y ∷ xs) x has = go (λ (h : Has (filter keep xs) x). has_kept keep xs x h) (keep y) refl has where
  later : Has xs x × (keep x ≡ true) → Has (y ∷ xs) x × (keep x ≡ true)
  later both = ((suc both.0.0, both.0.1), both.1)

  at_place : keep y ≡ true → (n : ℕ) → slice_get (y ∷ filter keep xs) n ≡ Some x → (Has (filter keep xs) x → Has xs x × (keep x ≡ true)) → Has (y ∷ xs) x × (keep x ≡ true)
  at_place kept zero e again = (let same : y ≡ x = cc in ((zero, ap Some same), ap keep (sym same) ∙ kept))
  at_place kept (suc n) e again = later (again (n, e))

  go : (Has (filter keep xs) x → Has xs x × (keep x ≡ true)) → (b : Bool) → keep y ≡ b → Has (filter keep (y ∷ xs)) x → Has (y ∷ xs) x × (keep x ≡ true)
  go again true kept has = (let here : Has (y ∷ filter keep xs) x = subst (λ (l : List A). Has l x) (let same : filter keep (y ∷ xs) ≡ y ∷ filter keep xs = rw kept refl in same) has in at_place kept here.0 here.1 again)
  go again false kept has = later (again (subst (λ (l : List A). Has l x) (let same : filter keep (y ∷ xs) ≡ filter keep xs = rw kept refl in same) has))
