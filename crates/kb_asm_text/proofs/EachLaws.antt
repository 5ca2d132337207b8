-- A word for each value.
use Rattle.std.proofs.Common.{◌≡◌, ℕ, List, [], ◌∷◌, ◌++◌, refl, sym, ◌∙◌, ap, append_assoc, append-nil, subst}
use Rattle.kb_asm_text.specs.Words.{EachWord}

-- the values are those of the words before the rest
pub record AreEachRead {A : Type 0} (S : A → List ℕ → Type 0) (values : List A) (words rest : List (List ℕ)) : Type 0 where
  pub there : (more : List A) → EachWord S more rest → EachWord S (values ++ more) words
  pub back : (all : List A) → EachWord S all words → (more : List A) × EachWord S more rest

module _ {A : Type 0} (S : A → List ℕ → Type 0) where
  pub each_starts : (words : List (List ℕ)) → AreEachRead S [] words words
  each_starts words = record { there = λ more h. h; back = λ all h. (all, h) }

  behind : (more : List A) (first : List ℕ) (others : List (List ℕ)) → EachWord S more (first ∷ others) → (value : A) × S value first × ((less : List A) × EachWord S less others)
  behind [] first others h = absurd (let no : first ∷ others ≡ [] = h in cc)
  behind (value ∷ more) first others h = (value, h.0, (more, h.1))

  pub each_next : (values next : List A) (value : A) (words rest others : List (List ℕ)) (first : List ℕ) → AreEachRead S values words rest
      → rest ≡ first ∷ others → S value first → next ≡ values ++ value ∷ [] → AreEachRead S next words others
  each_next values next value words rest others first at begins spelled is = record {
    there = λ more h.
        subst (λ (l : List A). EachWord S l words) (sym (append_assoc values (value ∷ []) more) ∙ ap (λ (l : List A). l ++ more) (sym is))
        (at.there (value ∷ more) (subst (EachWord S (value ∷ more)) (sym begins) (spelled, h)));
    back = λ all h. let more = at.back all h in (behind more.0 first others (subst (EachWord S more.0) begins more.1)).2;
  }

  pub each_none : (values : List A) (words rest others : List (List ℕ)) (first : List ℕ) → AreEachRead S values words rest
      → rest ≡ first ∷ others → ((value : A) → S value first → ⊥) → (all : List A) → EachWord S all words → ⊥
  each_none values words rest others first at begins none all h =
      let more = at.back all h in
      let one = behind more.0 first others (subst (EachWord S more.0) begins more.1) in
      none one.0 one.1

  pub each_ends : (values : List A) (words rest : List (List ℕ)) → AreEachRead S values words rest → rest ≡ [] → EachWord S values words
  each_ends values words rest at ends = subst (λ (l : List A). EachWord S l words) (append-nil values) (at.there [] ends)

  pub each_same : ((a b : A) (word : List ℕ) → S a word → S b word → a ≡ b) → (xs ys : List A) (words : List (List ℕ)) → EachWord S xs words → EachWord S ys words → xs ≡ ys
  each_same one [] [] words p q = refl
  each_same one [] (y ∷ ys) [] p q = absurd q
  each_same one [] (y ∷ ys) (word ∷ words) p q = absurd (let no : word ∷ words ≡ [] = p in cc)
  each_same one (x ∷ xs) [] [] p q = absurd p
  each_same one (x ∷ xs) [] (word ∷ words) p q = absurd (let no : word ∷ words ≡ [] = q in cc)
  each_same one (x ∷ xs) (y ∷ ys) [] p q = absurd p
  each_same one (x ∷ xs) (y ∷ ys) (word ∷ words) p q =
      ap (λ (v : A). v ∷ xs) (one x y word p.0 q.0) ∙ ap (λ (l : List A). y ∷ l) (each_same one xs ys words p.1 q.1)
