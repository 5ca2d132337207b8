-- Tables over the constant pool, text after text.
use Rattle.std.proofs.Common.{◌≡◌, ◌≢◌, ℕ, zero, suc, ◌<◌, ◌⊎◌, inl, inr, Bool, true, false, eqb, List, [], ◌∷◌, ◌++◌, length, replicate, Option, Some, None, IsSome, slice_get, slice_set, option_and_then, refl, sym, ap, subst, ◌∙◌, arith}
use Rattle.std.proofs.lemmas.Bool.{eqb-true, eq-eqb}
use Rattle.kb_classfile.specs.declared.file.PoolEntry.{PoolEntry}
use Rattle.kb_classfile.specs.Pool.{text_of, utf8_in}
use Rattle.kb_class.specs.Naming.{Has}
use Rattle.kb_class.specs.Loading.{HasText}
use Rattle.kb_class.specs.Loaded.{told_at}
use Rattle.kb_class.specs.Tables.{IsTable, Puts}
use Rattle.kb_class.proofs.Lists.{has_first, has_none, has_left, has_right, has_either, has_cases, set_here, set_other, set_size, get_inside, get_of_same}

-- ---- texts

some_entry : (entry : Option PoolEntry) (text : List ℕ) → option_and_then text_of entry ≡ Some text → (found : PoolEntry) × (entry ≡ Some found)
some_entry None text e = absurd cc
some_entry (Some found) text e = (found, refl)

-- a number that has a text is one of the pool
pub text_inside : (pool : List PoolEntry) (number : ℕ) (text : List ℕ) → utf8_in pool number ≡ Some text → number < length pool
text_inside pool number text at =
    let found = some_entry (slice_get pool number) text at in
    get_inside pool number found.0 found.1

-- ---- what a table tells

module _ {A : Type 0} where
  flat_told : (o : Option (Option A)) (x : A) → option_and_then (λ told. told) o ≡ Some x → o ≡ Some (Some x)
  flat_told None x e = absurd cc
  flat_told (Some told) x e = ap (λ (t : Option A). Some t) e

  pub told_stands : (table : List (Option A)) (number : ℕ) (x : A) → told_at table number ≡ Some x → slice_get table number ≡ Some (Some x)
  told_stands table number x e = flat_told (slice_get table number) x e

  pub stands_told : (table : List (Option A)) (number : ℕ) (x : A) → slice_get table number ≡ Some (Some x) → told_at table number ≡ Some x
  stands_told table number x e = ap (λ (o : Option (Option A)). option_and_then (λ told. told) o) e

  some_told : (o : Option A) → IsSome o → (x : A) × (o ≡ Some x)
  some_told None is = absurd cc
  some_told (Some x) is = (x, refl)

  put_here : (table : List (Option A)) (number : ℕ) (x : A) → number < length table → told_at (slice_set table number (Some x)) number ≡ Some x
  put_here table number x inside = stands_told (slice_set table number (Some x)) number x (set_here table number (Some x) inside)

  put_other : (table : List (Option A)) (number other : ℕ) (x : A) → number ≢ other → told_at (slice_set table number (Some x)) other ≡ told_at table other
  put_other table number other x apart = ap (λ (o : Option (Option A)). option_and_then (λ told. told) o) (set_other table number other (Some x) apart)

  none_told : (size number : ℕ) (x : A) → told_at (replicate size None) number ≡ Some x → ⊥
  none_told size number x e =
      let same : None ≡ Some x = get_of_same size number None (Some x) (told_stands (replicate size None) number x e) in
      absurd cc

-- ---- tables

module _ {A : Type 0} (Spells : A → List ℕ → Type 0) (pool : List PoolEntry) where
  -- a table of nothing
  pub no_texts : (table : List (Option A)) → table ≡ replicate (length pool) None → IsTable Spells pool [] table
  no_texts table is = record {
    size = ap length is ∙ replicated (length pool);
    right = λ number value told. absurd (none_told (length pool) number value (subst (λ (t : List (Option A)). told_at t number ≡ Some value) is told));
    whole = λ number has. absurd (has_none number has);
  } where
    replicated : (n : ℕ) → length (replicate n (let none : Option A = None in none)) ≡ n
    replicated zero = refl
    replicated (suc n) = ap suc (replicated n)

  last : (numbers : List ℕ) (number other : ℕ) → Has (numbers ++ number ∷ []) other → Has numbers other ⊎ (number ≡ other)
  last numbers number other has =
      elim (has_either numbers (number ∷ []) other has) [
        | inl h ↦ inl h
        | inr h ↦ elim (has_cases number other [] h) [ inl same ↦ inr same | inr none ↦ absurd (has_none other none) ]
      ]

  -- one text more, told already
  pub told_before : (numbers : List ℕ) (number : ℕ) (table : List (Option A)) → IsTable Spells pool numbers table → IsSome (told_at table number)
      → IsTable Spells pool (numbers ++ number ∷ []) table
  told_before numbers number table is there = record {
    size = is.size;
    right = λ other value told. (let old = is.right other value told in (has_left numbers (number ∷ []) other old.0, old.1));
    whole = λ other has. elim (last numbers number other has) [
      | inl h ↦ is.whole other h
      | inr same ↦ subst (λ (n : ℕ). (value : A) × (told_at table n ≡ Some value)) same (some_told (told_at table number) there)
    ];
  }

  -- one text more, put into the table
  pub told_now : (numbers : List ℕ) (number : ℕ) (value : A) (table : List (Option A)) → IsTable Spells pool numbers table → HasText pool number (Spells value)
      → IsTable Spells pool (numbers ++ number ∷ []) (slice_set table number (Some value))
  told_now numbers number value table is text = record {
    size = set_size table number (Some value) ∙ is.size;
    right = right;
    whole = whole;
  } where
    inside : number < length table
    inside = (let within = text_inside pool number text.0 text.1 in let size = is.size in omega (arith, within, size))

    now : List (Option A)
    now = slice_set table number (Some value)

    right : (other : ℕ) (x : A) → told_at now other ≡ Some x → Has (numbers ++ number ∷ []) other × HasText pool other (Spells x)
    right other x told = go (eqb number other) refl where
      go : (b : Bool) → eqb number other ≡ b → Has (numbers ++ number ∷ []) other × HasText pool other (Spells x)
      go true e =
          let same : number ≡ other = eqb-true number other e in
          let here : told_at now number ≡ Some x = subst (λ (n : ℕ). told_at now n ≡ Some x) (sym same) told in
          let all : Some value ≡ Some x = sym (put_here table number value inside) ∙ here in
          let one : value ≡ x = cc in
          subst (λ (n : ℕ). Has (numbers ++ number ∷ []) n × HasText pool n (Spells x)) same
          (has_right numbers (number ∷ []) number (has_first number []), subst (λ (v : A). HasText pool number (Spells v)) one text)
      go false e =
          let apart : number ≢ other = (λ same. let yes : eqb number other ≡ true = eq-eqb number other same in absurd cc) in
          let old = is.right other x (sym (put_other table number other value apart) ∙ told) in
          (has_left numbers (number ∷ []) other old.0, old.1)

    whole : (other : ℕ) → Has (numbers ++ number ∷ []) other → (x : A) × (told_at now other ≡ Some x)
    whole other has = go (eqb number other) refl where
      go : (b : Bool) → eqb number other ≡ b → (x : A) × (told_at now other ≡ Some x)
      go true e = (value, subst (λ (n : ℕ). told_at now n ≡ Some value) (eqb-true number other e) (put_here table number value inside))
      go false e =
          let apart : number ≢ other = (λ same. let yes : eqb number other ≡ true = eq-eqb number other same in absurd cc) in
          elim (last numbers number other has) [
            | inl h ↦ (let old = is.whole other h in (old.0, put_other table number other value apart ∙ old.1))
            | inr same ↦ absurd (apart same)
          ]

  pub one_more : (numbers : List ℕ) (number : ℕ) (before after : List (Option A)) → IsTable Spells pool numbers before → Puts Spells pool number before after
      → IsTable Spells pool (numbers ++ number ∷ []) after
  one_more numbers number before after is (inl told) = subst (IsTable Spells pool (numbers ++ number ∷ [])) (sym told.1) (told_before numbers number before is told.0)
  one_more numbers number before after is (inr put) =
      subst (IsTable Spells pool (numbers ++ number ∷ [])) (sym put.2) (told_now numbers number put.0 before is put.1)
