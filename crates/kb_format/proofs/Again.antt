-- Members by their numbers, in a set of those that were met.
use Rattle.std.proofs.Common.{◌≡◌, ℕ, ◌+◌, ◌<◌, Bool, true, false, not, ◌&&◌, List, [], ◌∷◌, ◌++◌, length, take, drop, get_or, Option, Some, None, map, refl, sym, ap, subst, ◌∙◌, append_assoc}
use Rattle.std.specs.Bool.{Decides, nat_eq}
use Rattle.std.specs.List.{list_any}
use Rattle.std.specs.Option.{option_eq}
use Rattle.std.proofs.lemmas.Bool.Decides.{Decides-eqb}
use Rattle.std.proofs.lemmas.List.{map_push, take-append-drop}
use Rattle.std.proofs.lemmas.Grind.{take_at_read}
use Rattle.kb_format.specs.declared.place.Member.{Member}
use Rattle.kb_format.specs.Rules.{IsNoneOf, AllDiffer}
use Rattle.kb_format.specs.Members.{key_of, TellsAgain}
use Rattle.kb_format.proofs.Differing.{absent, present, differ_pushed}

abbrev pub Key : Type 0
Key = Option ℕ × Option ℕ

-- what `==` of two keys computes
abbrev pub key_eq : Key → Key → Bool
key_eq k l = option_eq nat_eq k.0 l.0 && option_eq nat_eq k.1 l.1

number_eq-Decides : (a b : Option ℕ) → Decides (option_eq nat_eq a b) (a ≡ b)
number_eq-Decides None None = ((λ e. refl), (λ e. refl))
number_eq-Decides None (Some b) = ((λ e. absurd cc), (λ e. absurd cc))
number_eq-Decides (Some a) None = ((λ e. absurd cc), (λ e. absurd cc))
number_eq-Decides (Some a) (Some b) =
    let d = Decides-eqb a b in
    ((λ e. ap (λ (n : ℕ). Some n) (d.0 e)), (λ e. let same : a ≡ b = cc in d.1 same))

both_true : (a b : Bool) → (a && b) ≡ true → (a ≡ true) × (b ≡ true)
both_true true true e = (refl, refl)
both_true true false e = absurd cc
both_true false b e = absurd cc

pub key_eq-Decides : (k l : Key) → Decides (key_eq k l) (k ≡ l)
key_eq-Decides k l =
    let d0 = number_eq-Decides k.0 l.0 in
    let d1 = number_eq-Decides k.1 l.1 in (
      (λ e. let b = both_true (option_eq nat_eq k.0 l.0) (option_eq nat_eq k.1 l.1) e in ap (λ (n : Option ℕ). (n, k.1)) (d0.0 b.0) ∙ ap (λ (n : Option ℕ). (l.0, n)) (d1.0 b.1)),
      (λ e. rw (d0.1 (ap (λ (p : Key). p.0) e), d1.1 (ap (λ (p : Key). p.1) e)) refl),
    )

-- ---- the loop

taken : {A : Type 0} (ms : List A) (i : ℕ) (m : A) → i < length ms → take (i + 1) ms ≡ take i ms ++ get_or ms i m ∷ []
taken ms i m lt = (take_at_read ms i m lt).1

parted : {A : Type 0} (ms : List A) (i : ℕ) (m : A) → i < length ms → ms ≡ take i ms ++ get_or ms i m ∷ drop (i + 1) ms
parted {A} ms i m lt =
    sym (take-append-drop (i + 1) ms) ∙ ap (λ (x : List A). x ++ drop (i + 1) ms) (taken ms i m lt) ∙ append_assoc (take i ms) (get_or ms i m ∷ []) (drop (i + 1) ms)

map_same : (keys : List Key) → map (λ k. k) keys ≡ keys
map_same [] = refl
map_same (k ∷ keys) = ap (λ (t : List Key). k ∷ t) (map_same keys)

module _ (numbers : List (Option ℕ)) (members : List Member) (i : ℕ) (default : Member) (lt : i < length members) (keys : List Key)
    (met : keys ≡ map (key_of numbers) (take i members)) (differ : AllDiffer (map (key_of numbers) (take i members))) where
  abbrev pub member : Member
  member = get_or members i default

  abbrev pub key : Key
  key = key_of numbers member

  -- a member more, which is none of those that were met
  pub one_more : list_any (key_eq key) keys ≡ false
      → (keys ++ key ∷ [] ≡ map (key_of numbers) (take (i + 1) members)) × AllDiffer (map (key_of numbers) (take (i + 1) members))
  one_more new =
      let longer : map (key_of numbers) (take (i + 1) members) ≡ map (key_of numbers) (take i members) ++ key ∷ [] =
      ap (map (key_of numbers)) (taken members i default lt) ∙ map_push (key_of numbers) (take i members) member in
      let apart = absent (key_eq key) (λ (k : Key). k) key (λ l. key_eq-Decides key l) keys new in
      let none : IsNoneOf (map (key_of numbers) (take i members)) key = subst (λ (ks : List Key). IsNoneOf ks key) (map_same keys ∙ met) apart in
      (ap (λ (ks : List Key). ks ++ key ∷ []) met ∙ sym longer, subst AllDiffer (sym longer) (differ_pushed (map (key_of numbers) (take i members)) key differ none))

  -- a member that was met before
  pub met_again : list_any (key_eq key) keys ≡ true → TellsAgain numbers members (Some member.name)
  met_again old =
      let again : IsNoneOf (map (key_of numbers) (take i members)) key → ⊥ =
      λ none. present (key_eq key) (λ (k : Key). k) key (λ l. key_eq-Decides key l) keys old (subst (λ (ks : List Key). IsNoneOf ks key) (sym (map_same keys ∙ met)) none) in
      (member, record { before = take i members; after = drop (i + 1) members; parts = parted members i default lt; differ = differ; again = again }, refl)

-- what a set says of a new key
pub not_in : (b : Bool) → not b ≡ true → b ≡ false
not_in true e = absurd cc
not_in false e = refl

pub is_in : (b : Bool) → not b ≡ false → b ≡ true
is_in true e = refl
is_in false e = absurd cc
