-- Lists of words and of lines: a line of words is that of one list of words, and sections of lines are told apart by how their
-- lines begin.
use Rattle.std.proofs.Common.{◌≡◌, ◌≢◌, ℕ, ◌+◌, ◌*◌, ◌<◌, ◌^◌, List, [], ◌∷◌, ◌++◌, length, map, refl, sym, ◌∙◌, arith, subst, append-nil}
use Rattle.std.specs.Prelude.{slice_index}
use Rattle.std.specs.List.{AllByRecursion}
use Rattle.kb_grammar.specs.Lines.{Lacks, AreLines}
use Rattle.kb_grammar.proofs.WordLaws.{Lacks-++, same_cut, not_lacking}
use Rattle.kb_path_words.specs.Lines.{numbered_lines, spaced}

-- two numbers that are not one
pub unlike : (x y : ℕ) → x ≢ y → x ≡ y → ⊥
unlike x y ne same = ne same

-- ---- words

module _ {A : Type 0} (word : A → List ℕ) (Fits : A → Type 0) (lacks : (x : A) → Fits x → Lacks 32 (word x)) (same : (x y : A) → Fits x → Fits y → word x ≡ word y → x ≡ y) where
  -- words behind a first one
  pub same_words : (first other : List ℕ) (xs ys : List A) → Lacks 32 first → Lacks 32 other → AllByRecursion Fits xs → AllByRecursion Fits ys
      → first ++ spaced word xs ≡ other ++ spaced word ys → (first ≡ other) × (xs ≡ ys)
  same_words first other [] [] p q h k e = (sym (append-nil first) ∙ e ∙ append-nil other, refl)
  same_words first other [] (y ∷ ys) p q h k e = absurd (not_lacking 32 other (word y ++ spaced word ys) first p (sym e ∙ append-nil first))
  same_words first other (x ∷ xs) [] p q h k e = absurd (not_lacking 32 first (word x ++ spaced word xs) other q (e ∙ append-nil other))
  same_words first other (x ∷ xs) (y ∷ ys) p q h k e =
      let parts = same_cut 32 first other (word x ++ spaced word xs) (word y ++ spaced word ys) p q e in
      let rest = same_words (word x) (word y) xs ys (lacks x h.0) (lacks y k.0) h.1 k.1 parts.1 in
      let head = same x y h.0 k.0 rest.0 in
      (parts.0, λ i. head i ∷ rest.1 i)

pub spaced_lacks : {A : Type 0} (byte : ℕ) (word : A → List ℕ) (Fits : A → Type 0) → 32 ≢ byte → ((x : A) → Fits x → Lacks byte (word x)) → (xs : List A) → AllByRecursion Fits xs → Lacks byte (spaced word xs)
spaced_lacks byte word Fits gap lacks [] all = tt
spaced_lacks byte word Fits gap lacks (x ∷ xs) all = (gap, Lacks-++ byte (word x) (spaced word xs) (lacks x all.0) (spaced_lacks byte word Fits gap lacks xs all.1))

-- ---- lines, one for each of a list

pub heads : {A : Type 0} (x y : A) (xs ys : List A) → x ∷ xs ≡ y ∷ ys → (x ≡ y) × (xs ≡ ys)
heads x y xs ys e = (cc, cc)

pub same_mapped : {A : Type 0} (f g : A → List ℕ) (P Q : A → Type 0) → ((x y : A) → P x → Q y → f x ≡ g y → x ≡ y) → (xs ys : List A) → AllByRecursion P xs → AllByRecursion Q ys
    → map f xs ≡ map g ys → xs ≡ ys
same_mapped f g P Q same [] [] p q e = refl
same_mapped f g P Q same [] (y ∷ ys) p q e = absurd cc
same_mapped f g P Q same (x ∷ xs) [] p q e = absurd cc
same_mapped f g P Q same (x ∷ xs) (y ∷ ys) p q e =
    let parts = heads (f x) (g y) (map f xs) (map g ys) e in
    let head = same x y p.0 q.0 parts.0 in
    let rest = same_mapped f g P Q same xs ys p.1 q.1 parts.1 in
    λ i. head i ∷ rest i

-- two lists of as many items, related one by one
abbrev pub EachPair : {A : Type 0} → (A → A → Type 0) → List A → List A → Type 0
EachPair R [] [] = Unit {0}
EachPair R (x ∷ xs) (y ∷ ys) = R x y × EachPair R xs ys
EachPair R [] (y ∷ ys) = ⊥
EachPair R (x ∷ xs) [] = ⊥

pub pairs_numbered : {A : Type 0} (f g : ℕ → A → List ℕ) (P Q : A → Type 0) (R : A → A → Type 0) → ((n : ℕ) (x y : A) → P x → Q y → f n x ≡ g n y → R x y)
    → (n : ℕ) (xs ys : List A) → AllByRecursion P xs → AllByRecursion Q ys → numbered_lines f n xs ≡ numbered_lines g n ys → EachPair R xs ys
pairs_numbered f g P Q R same n [] [] p q e = tt
pairs_numbered f g P Q R same n [] (y ∷ ys) p q e = absurd cc
pairs_numbered f g P Q R same n (x ∷ xs) [] p q e = absurd cc
pairs_numbered f g P Q R same n (x ∷ xs) (y ∷ ys) p q e =
    let parts = heads (f n x) (g n y) (numbered_lines f (n + 1) xs) (numbered_lines g (n + 1) ys) e in
    (same n x y p.0 q.0 parts.0, pairs_numbered f g P Q R same (n + 1) xs ys p.1 q.1 parts.1)

pub pairs_same : {A : Type 0} (P Q : A → Type 0) (R : A → A → Type 0) → ((x y : A) → P x → Q y → R x y → x ≡ y) → (xs ys : List A) → AllByRecursion P xs → AllByRecursion Q ys → EachPair R xs ys → xs ≡ ys
pairs_same P Q R same [] [] p q e = refl
pairs_same P Q R same [] (y ∷ ys) p q e = absurd e
pairs_same P Q R same (x ∷ xs) [] p q e = absurd e
pairs_same P Q R same (x ∷ xs) (y ∷ ys) p q e =
    let head = same x y p.0 q.0 e.0 in
    let rest = pairs_same P Q R same xs ys p.1 q.1 e.1 in
    λ i. head i ∷ rest i

pub pairs_mapped : {A B : Type 0} (R : A → A → Type 0) (f : A → B) → ((x y : A) → R x y → f x ≡ f y) → (xs ys : List A) → EachPair R xs ys → map f xs ≡ map f ys
pairs_mapped R f same [] [] e = refl
pairs_mapped R f same [] (y ∷ ys) e = absurd e
pairs_mapped R f same (x ∷ xs) [] e = absurd e
pairs_mapped R f same (x ∷ xs) (y ∷ ys) e =
    let head = same x y e.0 in
    let rest = pairs_mapped R f same xs ys e.1 in
    λ i. head i ∷ rest i

pub mapped_are_lines : {A : Type 0} (f : A → List ℕ) (P : A → Type 0) → ((x : A) → P x → Lacks 10 (f x)) → (xs : List A) → AllByRecursion P xs → AreLines (map f xs)
mapped_are_lines f P lacks [] all = tt
mapped_are_lines f P lacks (x ∷ xs) all = (lacks x all.0, mapped_are_lines f P lacks xs all.1)

pub numbered_are_lines : {A : Type 0} (f : ℕ → A → List ℕ) (P : A → Type 0) → ((n : ℕ) (x : A) → n < 2 ^ 64 → P x → Lacks 10 (f n x)) → (n : ℕ) (xs : List A) → n + length xs < 2 ^ 64 → AllByRecursion P xs → AreLines (numbered_lines f n xs)
numbered_are_lines f P lacks n [] few all = tt
numbered_are_lines f P lacks n (x ∷ xs) few all = (lacks n x (omega (arith, few)) all.0, numbered_are_lines f P lacks (n + 1) xs (omega (arith, few)) all.1)

pub all_both : {A : Type 0} (P Q : A → Type 0) (xs : List A) → AllByRecursion P xs → AllByRecursion Q xs → AllByRecursion (λ x. P x × Q x) xs
all_both P Q [] p q = tt
all_both P Q (x ∷ xs) p q = ((p.0, q.0), all_both P Q xs p.1 q.1)

-- ---- sections

-- how a line begins, as a number
abbrev pub beginning : List ℕ → ℕ
beginning line = slice_index line 0 * 65536 + slice_index line 1 * 256 + slice_index line 2

abbrev pub AllBegin : ℕ → List (List ℕ) → Type 0
AllBegin n lines = AllByRecursion (λ (line : List ℕ). beginning line ≡ n) lines

-- the first line begins in another way
abbrev pub BeginsOther : ℕ → List (List ℕ) → Type 0
BeginsOther n [] = Unit {0}
BeginsOther n (line ∷ lines) = beginning line ≢ n

pub cut_section : (n : ℕ) (xs ys us vs : List (List ℕ)) → AllBegin n xs → AllBegin n ys → BeginsOther n us → BeginsOther n vs → xs ++ us ≡ ys ++ vs → (xs ≡ ys) × (us ≡ vs)
cut_section n [] [] us vs p q h k e = (refl, e)
cut_section n [] (y ∷ ys) us vs p q h k e = absurd (let other : BeginsOther n (y ∷ (ys ++ vs)) = subst (BeginsOther n) e h in other q.0)
cut_section n (x ∷ xs) [] us vs p q h k e = absurd (let other : BeginsOther n (x ∷ (xs ++ us)) = subst (BeginsOther n) (sym e) k in other p.0)
cut_section n (x ∷ xs) (y ∷ ys) us vs p q h k e =
    let parts = heads x y (xs ++ us) (ys ++ vs) e in
    let rest = cut_section n xs ys us vs p.1 q.1 h k parts.1 in
    ((λ i. parts.0 i ∷ rest.0 i), rest.1)

pub skip_section : (n m : ℕ) (xs us : List (List ℕ)) → m ≢ n → AllBegin m xs → BeginsOther n us → BeginsOther n (xs ++ us)
skip_section n m [] us ne p h = h
skip_section n m (x ∷ xs) us ne p h = λ same. ne (sym p.0 ∙ same)

pub mapped_begin : {A : Type 0} (f : A → List ℕ) (n : ℕ) → ((x : A) → beginning (f x) ≡ n) → (xs : List A) → AllBegin n (map f xs)
mapped_begin f n is [] = tt
mapped_begin f n is (x ∷ xs) = (is x, mapped_begin f n is xs)

pub numbered_begin : {A : Type 0} (f : ℕ → A → List ℕ) (n : ℕ) → ((k : ℕ) (x : A) → beginning (f k x) ≡ n) → (k : ℕ) (xs : List A) → AllBegin n (numbered_lines f k xs)
numbered_begin f n is k [] = tt
numbered_begin f n is k (x ∷ xs) = (is k x, numbered_begin f n is (k + 1) xs)
