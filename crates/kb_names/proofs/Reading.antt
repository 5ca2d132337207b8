-- Laws of readers that go on from byte to byte.
use Rattle.std.proofs.Common.{◌≡◌, ℕ, suc, ◌<◌, Option, Some, None, List, [], ◌∷◌, ◌++◌, length, take, drop, get_or, ◌⊎◌, inl, inr, refl, sym, ◌∙◌, ap, arith, append_assoc, append-nil, subst}
use Rattle.std.specs.Option.{option_and_then}
use Rattle.std.proofs.Math.Seq.{take-suc}
use Rattle.std.proofs.lemmas.List.{take-append-drop, take_all}
use Rattle.kb_names.specs.Reading.{IsFirstBad, reached, StopsAt, value_of_text, EndsEarly}
use Rattle.kb_names.proofs.Choices.{passed}

some_step : {S : Type 0} (o : Option S) → option_and_then (λ (t : S). Some t) o ≡ o
some_step None = refl
some_step (Some t) = refl

module _ {S : Type 0} (step : S → ℕ → Option S) where
  -- what is reached after two texts, one behind the other
  pub reached-++ : (s : S) (xs ys : List ℕ) → reached step s (xs ++ ys) ≡ option_and_then (λ (t : S). reached step t ys) (reached step s xs)
  reached-++ s [] ys = refl
  reached-++ s (x ∷ xs) ys = go (λ n. reached-++ n xs ys) (step s x)
    where
      go : ((n : S) → reached step n (xs ++ ys) ≡ option_and_then (λ (t : S). reached step t ys) (reached step n xs))
          → (o : Option S) → option_and_then (λ (n : S). reached step n (xs ++ ys)) o ≡ option_and_then (λ (t : S). reached step t ys) (option_and_then (λ (n : S). reached step n xs) o)
      go again None = refl
      go again (Some n) = again n

  -- what is reached after a byte and a text
  pub reached-cons : (s t : S) (x : ℕ) (xs : List ℕ) → step s x ≡ Some t → reached step s (x ∷ xs) ≡ reached step t xs
  reached-cons s t x xs e = ap (option_and_then (λ (n : S). reached step n xs)) e

  -- the same where the first is known
  pub reached-then : (s t : S) (xs ys : List ℕ) → reached step s xs ≡ Some t → reached step s (xs ++ ys) ≡ reached step t ys
  reached-then s t xs ys here = reached-++ s xs ys ∙ ap (option_and_then (λ (u : S). reached step u ys)) here

  -- and after one byte more
  pub reached-suc : (s t : S) (text : List ℕ) (at : ℕ) → at < length text → reached step s (take at text) ≡ Some t
      → reached step s (take (suc at) text) ≡ step t (get_or text at 0)
  reached-suc s t text at lt here =
      ap (reached step s) (take-suc text at 0 lt) ∙ reached-then s t (take at text) _ here ∙ some_step (step t (get_or text at 0))

-- a reader of the texts that spell the values of one kind: what its stages have read, which stages come, and
-- what has been read at the end
pub record IsReader {S V : Type 0} (step : S → ℕ → Option S) (start : S) (read : S → Option V) (Spells : V → List ℕ → Type 0) (so_far : S → List ℕ) (Good : S → Type 0) : Type 0 where
  pub nothing : so_far start ≡ []
  pub good : Good start
  pub follows : (s t : S) (byte : ℕ) → Good s → step s byte ≡ Some t → Good t × (so_far t ≡ so_far s ++ byte ∷ [])
  pub live : (s : S) → Good s → (more : List ℕ) × (t : S) × (v : V) × (reached step s more ≡ Some t) × (read t ≡ Some v)
  pub found : (s : S) (v : V) → Good s → read s ≡ Some v → Spells v (so_far s)
  pub only : (v : V) (text : List ℕ) → Spells v text → (t : S) × (reached step start text ≡ Some t) × (read t ≡ Some v)

module _ {S V : Type 0} (step : S → ℕ → Option S) (start : S) (read : S → Option V) (Spells : V → List ℕ → Type 0) (so_far : S → List ℕ) (Good : S → Type 0)
    (r : IsReader step start read Spells so_far Good) where
  reads_on : (s t : S) (text : List ℕ) → Good s → reached step s text ≡ Some t → Good t × (so_far t ≡ so_far s ++ text)
  reads_on s t [] good here =
      let same : s ≡ t = cc in
      (subst Good same good, sym (ap so_far same) ∙ sym (append-nil (so_far s)))
  reads_on s t (x ∷ xs) good here = go (λ n. reads_on n t xs) (step s x) refl here
    where
      go : ((n : S) → Good n → reached step n xs ≡ Some t → Good t × (so_far t ≡ so_far n ++ xs))
          → (o : Option S) → step s x ≡ o → option_and_then (λ (n : S). reached step n xs) o ≡ Some t → Good t × (so_far t ≡ so_far s ++ x ∷ xs)
      go again None e h = cc
      go again (Some n) e h =
          let one = r.follows s n x good e in
          let rest = again n one.0 h in
          (rest.0, rest.1 ∙ ap (λ (ys : List ℕ). ys ++ xs) one.1 ∙ append_assoc (so_far s) (x ∷ []) xs)

  -- what is reached has been read
  pub reads : (t : S) (text : List ℕ) → reached step start text ≡ Some t → Good t × (so_far t ≡ text)
  reads t text here =
      let on = reads_on start t text r.good here in
      (on.0, on.1 ∙ ap (λ (ys : List ℕ). ys ++ text) r.nothing)

  -- a value that is read at the end is spelled
  pub reads_value : (t : S) (v : V) (text : List ℕ) → reached step start text ≡ Some t → read t ≡ Some v → Spells v text
  reads_value t v text here last =
      let on = reads t text here in
      subst (Spells v) on.1 (r.found t v on.0 last)

  -- and no other is
  pub reads_only : (t : S) (v w : V) (text : List ℕ) → reached step start text ≡ Some t → read t ≡ Some v → Spells w text → v ≡ w
  reads_only t v w text here last spells =
      let again = r.only w text spells in
      let same : t ≡ again.0 = cc in
      cc

  goes_on : (t : S) (text : List ℕ) → reached step start text ≡ Some t → (more : List ℕ) × ((v : V) × Spells v (text ++ more))
  goes_on t text here =
      let on = r.live t (reads t text here).0 in
      (on.0, (on.2, reads_value on.1 on.2 (text ++ on.0) (reached-then step start t text on.0 here ∙ on.3) on.4))

  none_read : (text : List ℕ) → reached step start text ≡ None → ((v : V) × Spells v text) → ⊥
  none_read text none (v, spells) = let again = r.only v text spells in cc

  -- a byte with no place is the first offset at which no text goes on
  pub stops_bad : (text : List ℕ) (at : ℕ) → StopsAt step start text at → IsFirstBad (λ (bytes : List ℕ). (v : V) × Spells v bytes) text at
  stops_bad text at h = record {
    within = omega (arith, h.inside);
    goes_on = goes_on h.stage (take at text) h.before;
    no_further = λ _ tail. none_read (take (suc at) text ++ tail) (no_place tail);
    no_text = none_read text (ap (reached step start) (sym (take-append-drop (suc at) text)) ∙ no_place (drop (suc at) text));
  }
    where
      no_place : (tail : List ℕ) → reached step start (take (suc at) text ++ tail) ≡ None
      no_place tail =
          reached-++ step start (take (suc at) text) tail
          ∙ ap (option_and_then (λ (u : S). reached step u tail)) (reached-suc step start h.stage text at h.inside h.before ∙ h.none)

  -- and so is the end, where nothing has been read
  pub ends_bad : (text : List ℕ) (t : S) → reached step start text ≡ Some t → read t ≡ None → IsFirstBad (λ (bytes : List ℕ). (v : V) × Spells v bytes) text (length text)
  ends_bad text t here unfinished =
      let all : take (length text) text ≡ text = take_all (length text) text (omega arith) in
      record {
        within = omega arith;
        goes_on = goes_on t (take (length text) text) (ap (reached step start) all ∙ here);
        no_further = λ lt. absurd (omega (arith, lt));
        no_text = λ (v, spells). let again = r.only v text spells in let same : t ≡ again.0 = cc in cc;
      }

  -- what a text is read as is spelled by it
  pub text_value : (v : V) (text : List ℕ) → value_of_text step read start text ≡ Some v → Spells v text
  text_value v text e =
      let h = passed read (reached step start text) v e in
      reads_value h.0 v text h.1 h.2

  -- and nothing else is
  pub text_only : (v w : V) (text : List ℕ) → value_of_text step read start text ≡ Some v → Spells w text → v ≡ w
  text_only v w text e spells =
      let h = passed read (reached step start text) v e in
      reads_only h.0 v w text h.1 h.2 spells

  -- a text that is not read is bad from that offset on
  pub text_bad : (text : List ℕ) (at : ℕ) → (StopsAt step start text at ⊎ EndsEarly step read start text at) → IsFirstBad (λ (bytes : List ℕ). (v : V) × Spells v bytes) text at
  text_bad text at (inl stops) = stops_bad text at stops
  text_bad text at (inr ends) =
      subst (IsFirstBad (λ (bytes : List ℕ). (v : V) × Spells v bytes) text) (sym ends.end) (ends_bad text ends.stage ends.all ends.none)
