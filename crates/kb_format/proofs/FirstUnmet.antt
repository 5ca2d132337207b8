-- The first place that is not met, as it is computed and as a fact.
use Rattle.std.proofs.Common.{◌≡◌, ℕ, Bool, true, false, List, [], ◌∷◌, ◌++◌, Some, None, if◌then◌else◌, refl, sym, ap, subst, ◌∙◌}
use Rattle.std.specs.List.{AllByRecursion}
use Rattle.kb_classfile.specs.declared.file.PoolEntry.{PoolEntry}
use Rattle.kb_format.specs.declared.place.Place.{Place}
use Rattle.kb_format.specs.declared.verdicts.Verdict.{Verdict}
use Rattle.kb_format.specs.Places.{IsMet, asked}
use Rattle.kb_format.specs.Faults.{IsFirstUnmet}
use Rattle.kb_format.specs.Verdicts.{AreVerdicts, is_met, first_unmet}
use Rattle.kb_format.proofs.Lists.{all_back, Meeting, same, behind, ahead, meeting}

-- ---- in parts

module _ (verdicts : List Verdict) where
  pub first_front : (xs ys : List Place) (number : ℕ) → first_unmet verdicts xs ≡ Some number → first_unmet verdicts (xs ++ ys) ≡ Some number
  first_front [] ys number e = absurd cc
  first_front (x ∷ xs) ys number e = go (λ h. first_front xs ys number h) (is_met verdicts x) e where
    go : (first_unmet verdicts xs ≡ Some number → first_unmet verdicts (xs ++ ys) ≡ Some number) → (b : Bool) →
        (if b then first_unmet verdicts xs else Some x.text) ≡ Some number → (if b then first_unmet verdicts (xs ++ ys) else Some x.text) ≡ Some number
    go later true h = later h
    go later false h = h

  pub first_back : (xs ys : List Place) → first_unmet verdicts xs ≡ None → first_unmet verdicts (xs ++ ys) ≡ first_unmet verdicts ys
  first_back [] ys e = refl
  first_back (x ∷ xs) ys e = go (λ h. first_back xs ys h) (is_met verdicts x) e where
    go : (first_unmet verdicts xs ≡ None → first_unmet verdicts (xs ++ ys) ≡ first_unmet verdicts ys) → (b : Bool) →
        (if b then first_unmet verdicts xs else Some x.text) ≡ None → (if b then first_unmet verdicts (xs ++ ys) else Some x.text) ≡ first_unmet verdicts ys
    go later true h = later h
    go later false h = absurd cc

  -- of three lists of places
  module _ (xs ys zs : List Place) where
    pub in_first : (number : ℕ) → Some number ≡ first_unmet verdicts xs → Some number ≡ first_unmet verdicts (xs ++ (ys ++ zs))
    in_first number e = sym (first_front xs (ys ++ zs) number (sym e))

    pub in_second : (number : ℕ) → first_unmet verdicts xs ≡ None → Some number ≡ first_unmet verdicts ys → Some number ≡ first_unmet verdicts (xs ++ (ys ++ zs))
    in_second number none e = sym (first_back xs (ys ++ zs) none ∙ first_front ys zs number (sym e))

    pub in_third : first_unmet verdicts xs ≡ None → first_unmet verdicts ys ≡ None → first_unmet verdicts zs ≡ first_unmet verdicts (xs ++ (ys ++ zs))
    in_third none nothing = sym (first_back xs (ys ++ zs) none ∙ first_back ys zs nothing)

-- ---- as a fact

module _ (pool : List PoolEntry) (verdicts : List Verdict) (known : AreVerdicts pool verdicts) where
  not_met : (place : Place) → is_met verdicts place ≡ false → IsMet pool place → ⊥
  not_met place e met = let passes : is_met verdicts place ≡ true = (known place).1 met in absurd cc

  pub all_met : (places : List Place) → first_unmet verdicts places ≡ None → AllByRecursion (IsMet pool) places
  all_met [] e = tt
  all_met (x ∷ xs) e = go (λ h. all_met xs h) (is_met verdicts x) refl e where
    go : (first_unmet verdicts xs ≡ None → AllByRecursion (IsMet pool) xs) → (b : Bool) → is_met verdicts x ≡ b →
        (if b then first_unmet verdicts xs else Some x.text) ≡ None → IsMet pool x × AllByRecursion (IsMet pool) xs
    go later true is h = ((known x).0 is, later h)
    go later false is h = absurd cc

  pub some_unmet : (places : List Place) (number : ℕ) → first_unmet verdicts places ≡ Some number → IsFirstUnmet pool places number
  some_unmet [] number e = absurd cc
  some_unmet (x ∷ xs) number e = go (λ h. some_unmet xs number h) (is_met verdicts x) refl e where
    go : (first_unmet verdicts xs ≡ Some number → IsFirstUnmet pool xs number) → (b : Bool) → is_met verdicts x ≡ b →
        (if b then first_unmet verdicts xs else Some x.text) ≡ Some number → IsFirstUnmet pool (x ∷ xs) number
    go later true is h =
        let l = later h in
        record { before = x ∷ l.before; demand = l.demand; after = l.after; parts = ap (λ (t : List Place). x ∷ t) l.parts; met = ((known x).0 is, l.met); unmet = l.unmet }
    go later false is h =
        let at : x.text ≡ number = cc in
        let here : IsFirstUnmet pool (x ∷ xs) x.text = record { before = []; demand = x.demand; after = xs; parts = refl; met = tt; unmet = λ met. not_met x is met } in
        subst (IsFirstUnmet pool (x ∷ xs)) at here

-- ---- there is one

module _ (pool : List PoolEntry) (places : List Place) where
  -- a place that is not met is not one of places that are
  pub none_unmet : (number : ℕ) → IsFirstUnmet pool places number → AllByRecursion (IsMet pool) places → ⊥
  none_unmet number first all =
      let parted = subst (AllByRecursion (IsMet pool)) first.parts all in
      first.unmet (all_back (IsMet pool) first.before (asked first.demand number ∷ first.after) parted).0

  apart : (front : List Place) (x : Place) (between : List Place) → (IsMet pool x → ⊥) → AllByRecursion (IsMet pool) (front ++ x ∷ between) → ⊥
  apart front x between unmet all = unmet (all_back (IsMet pool) front (x ∷ between) all).0

  pub one_unmet : (one other : ℕ) → IsFirstUnmet pool places one → IsFirstUnmet pool places other → one ≡ other
  one_unmet one other f g =
      go (meeting f.before g.before (asked f.demand one) (asked g.demand other) f.after g.after (rw (← f.parts) g.parts))
    where
      go : Meeting f.before g.before (asked f.demand one) (asked g.demand other) → one ≡ other
      go (same e is) = ap (λ (place : Place). place.text) is
      go (behind between e) = absurd (apart f.before (asked f.demand one) between f.unmet (subst (AllByRecursion (IsMet pool)) e g.met))
      go (ahead between e) = absurd (apart g.before (asked g.demand other) between g.unmet (subst (AllByRecursion (IsMet pool)) e f.met))
