-- Undoing: what a set adds to a trail, what a mark leads to, and which value of a place comes back.
use Rattle.std.proofs.Common.{◌≡◌, ℕ, zero, suc, ◌<◌, ◌≤◌, Bool, true, false, List, [], ◌∷◌, ◌++◌, length, take, drop, slice_get, slice_index_or, slice_set, Some, refl, sym, ap, subst, ◌∙◌, ◌==◌, if◌then◌else◌, true≢false, arith, length-set, length-take, length-drop, take-append-drop}
use Rattle.std.proofs.lemmas.Bool.Decides.{Decides-eqb}
use Rattle.std.proofs.lemmas.List.{set-set, set-get_or, drop-append-le, get_or-take}
use Rattle.std.proofs.lemmas.List.Elements.{All-push}
use Rattle.kb_trail.specs.Trail.{Reaches, put_back, undone, value_before, with_entry}

module _ {T : Type 0} where
  -- ---- entries put back

  pub put_back-append : (first others : List (ℕ × T)) (cells : List T) → put_back (first ++ others) cells ≡ put_back first (put_back others cells)
  put_back-append [] others cells = refl
  put_back-append (e ∷ first) others cells = ap (λ cs. slice_set cs e.0 e.1) (put_back-append first others cells)

  pub length-put_back : (entries : List (ℕ × T)) (cells : List T) → length (put_back entries cells) ≡ length cells
  length-put_back [] cells = refl
  length-put_back (e ∷ entries) cells = length-set (put_back entries cells) e.0 e.1 ∙ length-put_back entries cells

  -- ---- marks

  -- nothing stands above the last mark
  pub undone-here : (trail : List (ℕ × T)) (cells : List T) (mark : ℕ) → length trail ≤ mark → undone trail cells mark ≡ cells
  undone-here trail cells mark h = ap (λ es. put_back es cells) (nothing (drop mark trail) (omega (arith, h, length-drop mark trail)))
    where
      nothing : (es : List (ℕ × T)) → length es ≡ 0 → es ≡ []
      nothing [] e = refl
      nothing (x ∷ es) e = absurd (omega (arith, e))

  -- the last entry is put back first
  pub undone-last : (trail : List (ℕ × T)) (entry : ℕ × T) (cells : List T) (mark : ℕ) → mark ≤ length trail
      → undone (trail ++ entry ∷ []) cells mark ≡ undone trail (slice_set cells entry.0 entry.1) mark
  undone-last trail entry cells mark h =
      ap (λ es. put_back es cells) (drop-append-le mark trail (entry ∷ []) h)
      ∙ put_back-append (drop mark trail) (entry ∷ []) cells

  -- a set leaves each mark where it led
  pub undone-set : (trail : List (ℕ × T)) (cells : List T) (place : ℕ) (value other : T) (mark : ℕ) → mark ≤ length trail
      → undone (with_entry trail cells place other) (slice_set cells place value) mark ≡ undone trail cells mark
  undone-set trail cells place value other mark h =
      undone-last trail (place, slice_index_or cells place other) (slice_set cells place value) mark h
      ∙ ap (λ cs. undone trail cs mark) (set-set cells place value (slice_index_or cells place other) ∙ set-get_or cells place other)

  -- and so does undoing to a mark above it
  pub undone-undone : (trail : List (ℕ × T)) (cells : List T) (mark earlier : ℕ) → earlier ≤ mark → mark ≤ length trail
      → undone (take mark trail) (undone trail cells mark) earlier ≡ undone trail cells earlier
  undone-undone trail cells mark earlier below inside =
      sym (put_back-append (drop earlier (take mark trail)) (drop mark trail) cells)
      ∙ ap (λ es. put_back es cells)
      (sym (drop-append-le earlier (take mark trail) (drop mark trail) (omega (arith, below, inside, length-take mark trail)))
      ∙ ap (drop earlier) (take-append-drop mark trail))

  pub length-undone : (trail : List (ℕ × T)) (cells : List T) (mark : ℕ) → length (undone trail cells mark) ≡ length cells
  length-undone trail cells mark = length-put_back (drop mark trail) cells

  -- ---- the places of a trail

  pub reaches-same : (cells new : List T) (trail : List (ℕ × T)) → length new ≡ length cells → Reaches cells trail → Reaches new trail
  reaches-same cells new trail same h = λ k d inside. omega (arith, h k d inside, same)

  pub reaches-take : (cells : List T) (trail : List (ℕ × T)) (mark : ℕ) → Reaches cells trail → Reaches cells (take mark trail)
  reaches-take cells trail mark h = λ k d inside.
      let below : k < mark = omega (arith, inside, length-take mark trail) in
      let there : k < length trail = omega (arith, inside, length-take mark trail) in
      subst (λ (e : ℕ × T). e.0 < length cells) (sym (get_or-take mark trail k d below)) (h k d there)

  pub reaches-entry : (trail : List (ℕ × T)) (cells : List T) (place : ℕ) (value other : T) → place < length cells → Reaches cells trail
      → Reaches (slice_set cells place value) (with_entry trail cells place other)
  reaches-entry trail cells place value other inside h =
      reaches-same cells (slice_set cells place value) (with_entry trail cells place other) (length-set cells place value)
      (All-push (λ (e : ℕ × T). e.0 < length cells) trail (place, slice_index_or cells place other) h inside)

  -- ---- the value that comes back

  get-set_same : (xs : List T) (i : ℕ) (x : T) → i < length xs → slice_get (slice_set xs i x) i ≡ Some x
  get-set_same [] i x h = absurd (omega arith)
  get-set_same (y ∷ xs) zero x h = refl
  get-set_same (y ∷ xs) (suc i) x h = get-set_same xs i x (omega arith)

  get-set_other : (xs : List T) (i j : ℕ) (x : T) → (i ≡ j → ⊥) → slice_get (slice_set xs i x) j ≡ slice_get xs j
  get-set_other [] i j x h = refl
  get-set_other (y ∷ xs) zero zero x h = absurd (h refl)
  get-set_other (y ∷ xs) zero (suc j) x h = refl
  get-set_other (y ∷ xs) (suc i) zero x h = refl
  get-set_other (y ∷ xs) (suc i) (suc j) x h = get-set_other xs i j x (λ e. h (ap suc e))

  -- the first entry of a place decides
  pub first_decides : (entries : List (ℕ × T)) (cells : List T) (place : ℕ) → place < length cells → slice_get (put_back entries cells) place ≡ value_before entries cells place
  first_decides [] cells place inside = refl
  first_decides (e ∷ entries) cells place inside = go (e.0 == place) refl (first_decides entries cells place inside)
    where
      go : (b : Bool) → (e.0 == place) ≡ b → slice_get (put_back entries cells) place ≡ value_before entries cells place
          → slice_get (slice_set (put_back entries cells) e.0 e.1) place ≡ (if b then Some e.1 else value_before entries cells place)
      go true same rest =
          let at : e.0 ≡ place = (Decides-eqb e.0 place).0 same in
          ap (λ i. slice_get (slice_set (put_back entries cells) i e.1) place) at
          ∙ get-set_same (put_back entries cells) place e.1 (omega (arith, inside, length-put_back entries cells))
      go false other rest =
          get-set_other (put_back entries cells) e.0 place e.1 (λ at. true≢false (sym ((Decides-eqb e.0 place).1 at) ∙ other)) ∙ rest
