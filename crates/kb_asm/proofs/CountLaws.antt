-- A list in which none stands twice is no longer than one that has all that it has.
use Rattle.std.proofs.Common.{◌≡◌, ◌⊎◌, inl, inr, zero, suc, ◌+◌, ◌≤◌, Bool, true, false, ◌||◌, if◌then◌else◌, List, [], ◌∷◌, length, Some, refl, sym, ap, subst, ◌∙◌, arith}
use Rattle.std.specs.List.{list_any}
use Rattle.kb_texts.specs.Texts.{AreDistinct}
use Rattle.kb_asm_pool.specs.Says.{Says, same}
use Rattle.kb_asm_pool.proofs.ItemLaws.{same-true}
use Rattle.kb_asm.specs.Pool.{Has}
use Rattle.kb_asm.proofs.SaysLaws.{here, there, which, none, placed}

-- the list without the first that is this one
abbrev without : Says → List Says → List Says
without one [] = []
without one (other ∷ says) = if same one other then says else other ∷ without one says

shorter : (one : Says) (says : List Says) → Has says one → length says ≡ 1 + length (without one says)
shorter one [] h = absurd (none one h)
shorter one (other ∷ says) h = go (same one other) (λ m. shorter one says m) h
  where
    go : (b : Bool) → (list_any (same one) says ≡ true → length says ≡ 1 + length (without one says)) → (b || list_any (same one) says) ≡ true
        → length (other ∷ says) ≡ 1 + length (if b then says else other ∷ without one says)
    go true more h = omega arith
    go false more h = omega (arith, more h)

still_there : (one other : Says) (says : List Says) → Has says other → (other ≡ one → ⊥) → Has (without one says) other
still_there one other [] h apart = absurd (none other h)
still_there one other (first ∷ says) h apart = go (same one first) refl (λ m. still_there one other says m apart) (which first other says h)
  where
    go : (b : Bool) → same one first ≡ b → (Has says other → Has (without one says) other) → (other ≡ first) ⊎ Has says other
        → Has (if b then says else first ∷ without one says) other
    go true e more h = elim h [ inl is ↦ absurd (apart (is ∙ sym (same-true one first e))) | inr m ↦ m ]
    go false e more h =
        elim h [
          | inl is ↦ subst (Has (first ∷ without one says)) (sym is) (here first (without one says))
          | inr m ↦ there first other (without one says) (more m)
        ]

distinct_rest : (first : Says) (says : List Says) → AreDistinct (first ∷ says) → AreDistinct says
distinct_rest first says distinct one other x p q = let e : suc one ≡ suc other = distinct (suc one) (suc other) x p q in omega arith

first_apart : (first : Says) (says : List Says) → AreDistinct (first ∷ says) → (other : Says) → Has says other → other ≡ first → ⊥
first_apart first says distinct other h is =
    let p = placed says other h in
    let e : zero ≡ suc p.0 = distinct zero (suc p.0) first refl (p.1 ∙ ap (λ (s : Says). Some s) is) in
    omega (arith, e)

pub within_length : (says others : List Says) → AreDistinct says → ((one : Says) → Has says one → Has others one) → length says ≤ length others
within_length [] others distinct within = omega arith
within_length (first ∷ says) others distinct within =
    let next : length says ≤ length (without first others) =
    within_length says (without first others) (distinct_rest first says distinct)
    (λ one h. still_there first one others (within one (there first one says h)) (first_apart first says distinct one h)) in
    let less : length others ≡ 1 + length (without first others) = shorter first others (within first (here first says)) in
    omega arith
